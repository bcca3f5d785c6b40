-- Two tables with the same rows, each by its own layout: every call that is lent one answers as it does for the other. Assumes nothing.
use mathlib.Core.Path.{◌≡◌, refl, ap, ◌∙◌}
use mathlib.Core.Bool.{Bool, true, false, cond, ◌&&◌}
use mathlib.Core.List.{List, []}
use Prim.Native.Nat.{ℕ, ◌*◌, ◌≤◌, ◌<◌}
use native.Mathlib.Omega.{arith}
use lib.Dec.{leb, ltb}
use lib.ListN.{length}
use borrow.Author.Tests.{leb-true, ltb-true}
use Rattle.std.specs.Prelude.{Err}
use Rattle.text.proofs.Comparing.{both}
use Rattle.draft.specs.declared.Refusal.TheVariants.{TooLong, NotWritable, NoLimit}
use Rattle.draft.specs.Limits.{allowed}
use Rattle.draft.specs.Bytes.{Below, bytes}
use Rattle.draft.specs.Strings.{texts_of}
use Rattle.draft.specs.Table.{room_of}
use Rattle.draft.specs.Writable.{call_or_response, wholly}
use Rattle.draft.specs.Written.{written}
use Rattle.written.proofs.Limiting.{below_at}
use Rattle.write_answer.specs.Answers as writer
use Rattle.std.specs.Prelude.{Err}
use Rattle.plan_writer.specs.declared.PlanRefusal.TheVariants as p
use Rattle.plan_writer.specs.Answers as plan_writer
use Rattle.certificate.specs.Certificate.{certified_texts}
use Rattle.member.specs.declared.Member.{Member}
use Rattle.lookup_answer.specs.declared.Value.TheVariants as l
use Rattle.lookup_answer.specs.declared.Refusal.TheVariants as why
use Rattle.lookup_answer.specs.Answers.{look, answer_at}
use Rattle.std.proofs.Common.{Ordering}
use Rattle.seeking.specs.Seeking.{begun, searched}
use Rattle.index.specs.Filling.{refusal_in, order_in}
use Rattle.index_search.specs.Through.{relation_to, is_member}
use Rattle.choice.specs.declared.Refusal.TheVariants as unfit
use Rattle.choice.specs.Choosing.{Choice, preferred}
use Rattle.member.specs.Members.{is_struct}
use Rattle.defaults.specs.Defaults.{Source, held_in, unless, structs_then}
use Rattle.layouts.specs.Layouts.{Layout, row_by, SameRows}
use Rattle.layouts.specs.Asking.{row_of, rows_by, writable_by, write_by, written_by, plan_by, planned_by, certified_by, lookup_by, position_by, refusal_by, order_by, found_row_by, row_answer_by, through_by, chosen_by}
use Rattle.layouts.proofs.Agreeing.{Alike, alike_below, from_same, struct_same, look_same, held_same, answer_same, relation_same, member_same, refusal_same, order_same, walk_same}

-- a row's numbers are words of 32 bits
bounded : (at : Layout) (U : List ℕ) → Below 4294967296 U → (r : ℕ) → ((row_of at U r).a < 4294967296) × ((row_of at U r).b < 4294967296)
unfolding row_by
bounded at U b r = (below_at _ (omega arith) b, below_at _ (omega arith) b)

-- the stated rows of a table that is judged writable are in it
stated : (rows words : ℕ) → rows ≤ 4096 → rows * 4 ≤ words → rows ≤ room_of 4096 words
stated rows words h k = omega arith

-- tables with the same rows, a stated number of them, and the text bytes
module _
    {at at' : Layout} {T T' : List ℕ} (tie : SameRows at at' T T') (w : Below 4294967296 T) (w' : Below 4294967296 T') (rows : ℕ) (s : List ℕ) (o : Below 256 s)
  where
    abbrev c : ℕ
    c = room_of 4096 (length T)

    alike : Alike (row_of at T) (row_of at' T') c
    alike = tie.each

    pub writable_same : (limit : ℕ) → writable_by at limit T rows s ≡ writable_by at' limit T' rows s
    unfolding writable_by
    writable_same limit =
        ap (λ (x : Bool). leb (length s) 65536 && (leb 1 rows && x))
        (go (leb rows 4096) refl (leb (rows * 4) (length T)) refl
        ∙ ap (λ (n : ℕ). leb rows 4096 && (leb (rows * 4) n && wholly rows (call_or_response (row_of at' T') rows s limit 0))) tie.long)
      where
        go :
            (x : Bool) → leb rows 4096 ≡ x → (y : Bool) → leb (rows * 4) (length T) ≡ y
            → (x && (y && wholly rows (call_or_response (row_of at T) rows s limit 0))) ≡ (x && (y && wholly rows (call_or_response (row_of at' T') rows s limit 0)))
        go true e true h =
            walk_same (row_of at T) (row_of at' T') rows s limit o (bounded at T w) (bounded at' T' w')
            (alike_below rows alike (stated rows (length T) (leb-true rows 4096 e) (leb-true (rows * 4) (length T) h)))
        go true e false h = refl
        go false e y h = refl

    fits : (limit : ℕ) → writable_by at limit T rows s ≡ true → rows ≤ c
    unfolding writable_by
    fits limit e =
        let a = both (leb (length s) 65536) _ e in
        let b = both (leb 1 rows) _ a.1 in
        let d = both (leb rows 4096) _ b.1 in
        let f = both (leb (rows * 4) (length T)) _ d.1 in
        stated rows (length T) (leb-true rows 4096 d.0) (leb-true (rows * 4) (length T) f.0)

    below : (limit : ℕ) → writable_by at limit T rows s ≡ true → Alike (row_of at T) (row_of at' T') rows
    below limit e = alike_below rows alike (fits limit e)

    rows_same : (limit : ℕ) → writable_by at limit T rows s ≡ true → rows_by at T rows ≡ rows_by at' T' rows
    unfolding rows_by
    rows_same limit e = from_same (row_of at T) (row_of at' T') 0 rows (λ i l. below limit e i (omega arith))

    pub write_same : (limit room : ℕ) → write_by at limit T rows s room ≡ write_by at' limit T' rows s room
    unfolding write_by
    write_same limit room = rw (← writable_same limit) (go (writable_by at limit T rows s) refl)
      where
        go :
            (b : Bool) → writable_by at limit T rows s ≡ b
            → writer.given (allowed limit) NoLimit (writer.given (leb (length s) 65536) TooLong (writer.given b NotWritable (writer.answer_to (written s (rows_by at T rows)) room)))
            ≡ writer.given (allowed limit) NoLimit (writer.given (leb (length s) 65536) TooLong (writer.given b NotWritable (writer.answer_to (written s (rows_by at' T' rows)) room)))
        go true e = rw (rows_same limit e)
        go false e = refl

    pub written_same : (limit room : ℕ) → written_by at limit T rows s room ≡ written_by at' limit T' rows s room
    unfolding written_by write_by
    written_same limit room = rw (← writable_same limit) (go (allowed limit) (leb (length s) 65536) (writable_by at limit T rows s) refl)
      where
        go :
            (a x b : Bool) → writable_by at limit T rows s ≡ b
            → writer.output_of (writer.given a NoLimit (writer.given x TooLong (writer.given b NotWritable (writer.answer_to (written s (rows_by at T rows)) room)))) (written s (rows_by at T rows)) room
            ≡ writer.output_of (writer.given a NoLimit (writer.given x TooLong (writer.given b NotWritable (writer.answer_to (written s (rows_by at' T' rows)) room)))) (written s (rows_by at' T' rows)) room
        go a x true e = rw (rows_same limit e)
        go true true false e = refl
        go true false false e = refl
        go false x false e = refl

    pub plan_same : (limit : ℕ) (plan : List ℕ) (room : ℕ) → plan_by at limit T rows s plan room ≡ plan_by at' limit T' rows s plan room
    unfolding plan_by
    plan_same limit plan room = rw (← writable_same limit) (go (writable_by at limit T rows s) refl)
      where
        go :
            (b : Bool) → writable_by at limit T rows s ≡ b
            → plan_writer.given (allowed limit) (Err (p.Refused NoLimit)) (plan_writer.given (leb (length s) 65536) (Err (p.Refused TooLong)) (plan_writer.given b (Err (p.Refused NotWritable)) (plan_writer.answer_by s (rows_by at T rows) plan room)))
            ≡ plan_writer.given (allowed limit) (Err (p.Refused NoLimit)) (plan_writer.given (leb (length s) 65536) (Err (p.Refused TooLong)) (plan_writer.given b (Err (p.Refused NotWritable)) (plan_writer.answer_by s (rows_by at' T' rows) plan room)))
        go true e = rw (rows_same limit e)
        go false e = refl

    pub planned_same : (limit : ℕ) (plan : List ℕ) (room : ℕ) → planned_by at limit T rows s plan room ≡ planned_by at' limit T' rows s plan room
    unfolding planned_by plan_by
    planned_same limit plan room = rw (← writable_same limit) (go (allowed limit) (leb (length s) 65536) (writable_by at limit T rows s) refl)
      where
        go :
            (a x b : Bool) → writable_by at limit T rows s ≡ b
            → plan_writer.output_of (plan_writer.given a (Err (p.Refused NoLimit)) (plan_writer.given x (Err (p.Refused TooLong)) (plan_writer.given b (Err (p.Refused NotWritable)) (plan_writer.answer_by s (rows_by at T rows) plan room)))) (plan_writer.chosen s (rows_by at T rows) plan) room
            ≡ plan_writer.output_of (plan_writer.given a (Err (p.Refused NoLimit)) (plan_writer.given x (Err (p.Refused TooLong)) (plan_writer.given b (Err (p.Refused NotWritable)) (plan_writer.answer_by s (rows_by at' T' rows) plan room)))) (plan_writer.chosen s (rows_by at' T' rows) plan) room
        go a x true e = rw (rows_same limit e)
        go true true false e = refl
        go true false false e = refl
        go false x false e = refl

    pub certified_same : (plan prices : List ℕ) → certified_by at T rows s plan prices ≡ certified_by at' T' rows s plan prices
    unfolding certified_by
    certified_same plan prices = rw (← writable_same 32) (go (writable_by at 32 T rows s) refl)
      where
        go :
            (b : Bool) → writable_by at 32 T rows s ≡ b
            → (b && certified_texts plan prices (texts_of s (rows_by at T rows))) ≡ (b && certified_texts plan prices (texts_of s (rows_by at' T' rows)))
        go true e = rw (rows_same 32 e)
        go false e = refl

    pub lookup_same : (r : ℕ) (key : List ℕ) → lookup_by at T rows s r key ≡ lookup_by at' T' rows s r key
    unfolding lookup_by
    lookup_same r key = rw (← writable_same 32) (go (writable_by at 32 T rows s) refl)
      where
        go :
            (b : Bool) → writable_by at 32 T rows s ≡ b
            → cond b (look (row_of at T) rows s r key) (Err why.NotWritable) ≡ cond b (look (row_of at' T') rows s r key) (Err why.NotWritable)
        go true e = look_same (row_of at T) (row_of at' T') rows (below 32 e) s key r
        go false e = refl

    pub position_same : (r : ℕ) → position_by at T rows s r ≡ position_by at' T' rows s r
    unfolding position_by
    position_same r = rw (lookup_same r (bytes "x"), lookup_same r (bytes "y"), lookup_same r (bytes "turn"))

    pub fill_same : (r n : ℕ) → refusal_by at T rows s r n ≡ refusal_by at' T' rows s r n
    unfolding refusal_by
    fill_same r n =
        rw (← writable_same 32)
        (go (writable_by at 32 T rows s) refl ∙ ap (λ (k : ℕ). cond (writable_by at 32 T rows s) (refusal_in (room_of 4096 k) (row_of at' T') rows s r n) 11) tie.long)
      where
        go : (b : Bool) → writable_by at 32 T rows s ≡ b → cond b (refusal_in c (row_of at T) rows s r n) 11 ≡ cond b (refusal_in c (row_of at' T') rows s r n) 11
        go true e = refusal_same (row_of at T) (row_of at' T') c alike rows (fits 32 e) s r n
        go false e = refl

    pub order_same_by : (r n : ℕ) → order_by at T rows s r n ≡ order_by at' T' rows s r n
    unfolding order_by
    order_same_by r n =
        rw (← writable_same 32)
        (go (writable_by at 32 T rows s) refl ∙ ap (λ (k : ℕ). cond (writable_by at 32 T rows s) (order_in (room_of 4096 k) (row_of at' T') rows s r n) []) tie.long)
      where
        go : (b : Bool) → writable_by at 32 T rows s ≡ b → cond b (order_in c (row_of at T) rows s r n) [] ≡ cond b (order_in c (row_of at' T') rows s r n) []
        go true e = order_same (row_of at T) (row_of at' T') c alike rows (fits 32 e) s r n
        go false e = refl

    found_same : (wanted : Bool) (r : ℕ) (es : List Member) (key : List ℕ) → rows ≤ c → found_row_by at wanted T rows s r es key ≡ found_row_by at' wanted T' rows s r es key
    unfolding found_row_by
    found_same wanted r es key h =
        ap (λ (x : Member → Ordering). (searched x (is_member (row_of at T) rows r) es (length es) (begun wanted (length es))).value)
        (relation_same (row_of at T) (row_of at' T') c alike s key ∙ ap (λ (k : ℕ). relation_to (room_of 4096 k) (row_of at' T') s key) tie.long)
        ∙ ap (λ (x : Member → Bool). (searched (relation_to (room_of 4096 (length T')) (row_of at' T') s key) x es (length es) (begun wanted (length es))).value)
        (member_same (row_of at T) (row_of at' T') c alike rows h r)

    row_same : (v : ℕ) → rows ≤ c → row_answer_by at T rows s v ≡ row_answer_by at' T' rows s v
    unfolding row_answer_by
    row_same v h = go (ltb 0 v) (ltb v rows) refl
      where
        go :
            (a b : Bool) → ltb v rows ≡ b
            → cond (a && b) (answer_at (row_of at T) s v) (Err why.NoMember) ≡ cond (a && b) (answer_at (row_of at' T') s v) (Err why.NoMember)
        go true true e = answer_same (row_of at T) (row_of at' T') rows (alike_below rows alike h) s v (ltb-true v rows e)
        go true false e = refl
        go false b e = refl

    pub through_same : (r : ℕ) (es : List Member) (key : List ℕ) → through_by at T rows s r es key ≡ through_by at' T' rows s r es key
    unfolding through_by
    through_same r es key = rw (← writable_same 32) (go (writable_by at 32 T rows s) refl)
      where
        go :
            (b : Bool) → writable_by at 32 T rows s ≡ b
            → cond b (row_answer_by at T rows s (found_row_by at b T rows s r es key)) (Err why.NotWritable)
            ≡ cond b (row_answer_by at' T' rows s (found_row_by at' b T' rows s r es key)) (Err why.NotWritable)
        go true e = rw (found_same true r es key (fits 32 e)) (row_same (found_row_by at' true T' rows s r es key) (fits 32 e))
        go false e = refl

    -- of a Struct's row, as one who asks for a text sees it
    pub struct_same_by : writable_by at 32 T rows s ≡ true → (r : ℕ) → is_struct (row_of at T) rows r ≡ is_struct (row_of at' T') rows r
    struct_same_by e r = struct_same (row_of at T) (row_of at' T') rows (below 32 e) r

    pub held_same_by : writable_by at 32 T rows s ≡ true → (r : ℕ) (key : List ℕ) → held_in (row_of at T) rows s r key ≡ held_in (row_of at' T') rows s r key
    held_same_by e r key = held_same (row_of at T) (row_of at' T') rows (below 32 e) s key r

-- two sources that differ in the table alone
abbrev pub with_table : Source → List ℕ → Source
with_table c T = record { table = T; rows = c.rows; text = c.text; row = c.row }

-- a card and defaults, and the same with tables by another layout
module _
    {at at' : Layout} (card defaults : Source) {T U : List ℕ} (tie : SameRows at at' card.table T) (tie' : SameRows at at' defaults.table U)
    (w : Below 4294967296 card.table) (x : Below 4294967296 T) (w' : Below 4294967296 defaults.table) (x' : Below 4294967296 U)
    (o : Below 256 card.text) (o' : Below 256 defaults.text)
  where
    own : writable_by at 32 card.table card.rows card.text ≡ writable_by at' 32 T card.rows card.text
    own = writable_same tie w x card.rows card.text o 32

    theirs : writable_by at 32 defaults.table defaults.rows defaults.text ≡ writable_by at' 32 U defaults.rows defaults.text
    theirs = writable_same tie' w' x' defaults.rows defaults.text o' 32

    -- what is chosen once both are writable
    abbrev by : Layout → List ℕ → List ℕ → List ℕ → Choice
    by lay A B key =
        unless (is_struct (row_of lay A) card.rows card.row) unfit.NoMember
        (unless (is_struct (row_of lay B) defaults.rows defaults.row) unfit.NoMember
        (preferred (held_in (row_of lay A) card.rows card.text card.row key) (held_in (row_of lay B) defaults.rows defaults.text defaults.row key)))

    pub chosen_same : (key : List ℕ) → chosen_by at card defaults key ≡ chosen_by at' (with_table card T) (with_table defaults U) key
    unfolding chosen_by structs_then
    chosen_same key =
        rw (← own, ← theirs) (go (writable_by at 32 card.table card.rows card.text) refl (writable_by at 32 defaults.table defaults.rows defaults.text) refl)
      where
        go :
            (a : Bool) → writable_by at 32 card.table card.rows card.text ≡ a
            → (b : Bool) → writable_by at 32 defaults.table defaults.rows defaults.text ≡ b
            → unless a unfit.NotWritable (unless b unfit.NotWritable (by at card.table defaults.table key)) ≡ unless a unfit.NotWritable (unless b unfit.NotWritable (by at' T U key))
        go true e true f =
            rw (
              struct_same_by tie w x card.rows card.text o e card.row,
              struct_same_by tie' w' x' defaults.rows defaults.text o' f defaults.row,
              held_same_by tie w x card.rows card.text o e card.row key,
              held_same_by tie' w' x' defaults.rows defaults.text o' f defaults.row key,
            )
        go true e false f = refl
        go false e b f = refl
