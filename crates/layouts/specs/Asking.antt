-- What the calls that are lent a table answer, with any layout of it: the definitions of crates writer, plan_writer, certificate, lookup, position,
-- index and defaults, with the rows fetched by the layout. Assumes nothing.
use Rattle.std.specs.Prelude.{Bool, cond, ◌&&◌, List, [], ℕ, ◌*◌, length, leb, ltb, Err}
use Rattle.draft.specs.declared.Row.{Row}
use Rattle.draft.specs.declared.Refusal.TheVariants.{TooLong, NotWritable, NoLimit}
use Rattle.draft.specs.Limits.{allowed}
use Rattle.draft.specs.Bytes.{bytes}
use Rattle.draft.specs.Strings.{texts_of}
use Rattle.draft.specs.Table.{room_of, from}
use Rattle.draft.specs.Writable.{call_or_response, wholly}
use Rattle.draft.specs.Written.{written}
use Rattle.write_answer.specs.Answers as writer
use Rattle.std.specs.Prelude.{Err}
use Rattle.plan_writer.specs.declared.PlanRefusal.TheVariants as p
use Rattle.plan_writer.specs.Answers as plan_writer
use Rattle.certificate.specs.Certificate.{certified_texts}
use Rattle.member.specs.declared.Member.{Member}
use Rattle.lookup_answer.specs.Answers as L
use Rattle.lookup_answer.specs.declared.Value.TheVariants as l
use Rattle.lookup_answer.specs.declared.Refusal.TheVariants as why
use Rattle.lookup_answer.specs.Answers.{look, answer_at}
use Rattle.placing.specs.declared.Placed.{Placed}
use Rattle.placing.specs.Placing.{settled}
use Rattle.seeking.specs.Seeking.{begun, searched}
use Rattle.index.specs.Filling.{refusal_in, order_in}
use Rattle.index_search.specs.Through.{relation_to, is_member}
use Rattle.choice.specs.Choosing.{Choice}
use Rattle.choice.specs.declared.Refusal.TheVariants as unfit
use Rattle.defaults.specs.Defaults.{Source, unless, structs_then}
use Rattle.layouts.specs.Layouts.{Layout, row_by}

module _ (at : Layout) where
  -- the rows of a table by their numbers
  abbrev pub row_of : List ℕ → ℕ → Row
  row_of T = row_by at (room_of 4096 (length T)) T

  -- the stated rows
  unfoldable pub rows_by : List ℕ → ℕ → List Row
  rows_by T rows = from (row_of T) 0 rows

  -- writable to a limit of nesting
  unfoldable pub writable_by : ℕ → List ℕ → ℕ → List ℕ → Bool
  writable_by limit T rows s =
      leb (length s) 65536
      && (leb 1 rows
      && (leb rows 4096
      && (leb (rows * 4) (length T)
      && wholly rows (call_or_response (row_of T) rows s limit 0))))

  -- writing: the answer, and the output
  unfoldable pub write_by : ℕ → List ℕ → ℕ → List ℕ → ℕ → writer.Answer
  write_by limit T rows s room =
      writer.given (allowed limit) NoLimit
      (writer.given (leb (length s) 65536) TooLong
      (writer.given (writable_by limit T rows s) NotWritable
      (writer.answer_to (written s (rows_by T rows)) room)))

  unfoldable pub written_by : ℕ → List ℕ → ℕ → List ℕ → ℕ → List ℕ
  written_by limit T rows s room = writer.output_of (write_by limit T rows s room) (written s (rows_by T rows)) room

  -- writing with a plan; and whether prices prove one shortest
  unfoldable pub plan_by : ℕ → List ℕ → ℕ → List ℕ → List ℕ → ℕ → plan_writer.Answer
  plan_by limit T rows s plan room =
      plan_writer.given (allowed limit) (Err (p.Refused NoLimit))
      (plan_writer.given (leb (length s) 65536) (Err (p.Refused TooLong))
      (plan_writer.given (writable_by limit T rows s) (Err (p.Refused NotWritable))
      (plan_writer.answer_by s (rows_by T rows) plan room)))

  unfoldable pub planned_by : ℕ → List ℕ → ℕ → List ℕ → List ℕ → ℕ → List ℕ
  planned_by limit T rows s plan room = plan_writer.output_of (plan_by limit T rows s plan room) (plan_writer.chosen s (rows_by T rows) plan) room

  unfoldable pub certified_by : List ℕ → ℕ → List ℕ → List ℕ → List ℕ → Bool
  certified_by T rows s plan prices = writable_by 32 T rows s && certified_texts plan prices (texts_of s (rows_by T rows))

  -- looking up, and a position
  unfoldable pub lookup_by : List ℕ → ℕ → List ℕ → ℕ → List ℕ → L.Answer
  lookup_by T rows s r key = cond (writable_by 32 T rows s) (look (row_of T) rows s r key) (Err why.NotWritable)

  unfoldable pub position_by : List ℕ → ℕ → List ℕ → ℕ → Placed
  position_by T rows s r = settled (lookup_by T rows s r (bytes "x")) (lookup_by T rows s r (bytes "y")) (lookup_by T rows s r (bytes "turn"))

  -- filling an index: the number, and the key rows in order; and looking a key up through entries
  unfoldable pub refusal_by : List ℕ → ℕ → List ℕ → ℕ → ℕ → ℕ
  refusal_by T rows s r n = cond (writable_by 32 T rows s) (refusal_in (room_of 4096 (length T)) (row_of T) rows s r n) 11

  unfoldable pub order_by : List ℕ → ℕ → List ℕ → ℕ → ℕ → List ℕ
  order_by T rows s r n = cond (writable_by 32 T rows s) (order_in (room_of 4096 (length T)) (row_of T) rows s r n) []

  unfoldable pub found_row_by : Bool → List ℕ → ℕ → List ℕ → ℕ → List Member → List ℕ → ℕ
  found_row_by wanted T rows s r es key =
      (searched (relation_to (room_of 4096 (length T)) (row_of T) s key) (is_member (row_of T) rows r) es (length es) (begun wanted (length es))).value

  unfoldable pub row_answer_by : List ℕ → ℕ → List ℕ → ℕ → L.Answer
  row_answer_by T rows s v = cond (ltb 0 v && ltb v rows) (answer_at (row_of T) s v) (Err why.NoMember)

  unfoldable pub through_by : List ℕ → ℕ → List ℕ → ℕ → List Member → List ℕ → L.Answer
  through_by T rows s r es key =
      cond (writable_by 32 T rows s) (row_answer_by T rows s (found_row_by (writable_by 32 T rows s) T rows s r es key)) (Err why.NotWritable)

  -- a text, the card's or behind it the defaults'
  unfoldable pub chosen_by : Source → Source → List ℕ → Choice
  chosen_by card defaults key =
      unless (writable_by 32 card.table card.rows card.text) unfit.NotWritable
      (unless (writable_by 32 defaults.table defaults.rows defaults.text) unfit.NotWritable
      (structs_then (row_of card.table) card.rows card.text card.row (row_of defaults.table) defaults.rows defaults.text defaults.row key))
