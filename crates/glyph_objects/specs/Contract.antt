-- What the functions that read objects ask and do, as against the definition of reading. Assumes nothing.
use Rattle.std.specs.Prelude.{◌≡◌, Bool, true, false, List, ℕ, ◌+◌, ◌*◌, ◌≤◌, ◌<◌, length, get_or}
use Rattle.draft.specs.Rows.{row}
use Rattle.draft.specs.Table.{set_row}
use Rattle.item.specs.declared.Reached.{Reached}
use Rattle.item.specs.Contract.{read_to}
use Rattle.keys.specs.Notes.{named, keys_of}
use Rattle.glyph.specs.declared.Edition.{Edition}
use Rattle.glyph.specs.declared.Want.{Want}
use Rattle.glyph.specs.declared.Many.{Many}
use Rattle.glyph.specs.declared.Three.{Three}
use Rattle.glyph.specs.declared.Refusal.TheVariants.{Ended, UnexpectedByte}
use Rattle.glyph.specs.Numbers.{past}
use Rattle.glyph.specs.Read.{Reader, object, entry, many, three}
use Rattle.glyph_item.specs.Contract.{Step, Did, refused_at}
use Rattle.glyph_keys.specs.Contract.{After, Joined, Done}

-- the definitions, under names that no parameter has
abbrev pub many_of : List ℕ → Many → (Want → Reader) → Reader
many_of = many

abbrev pub three_of : List ℕ → Three → (Want → Reader) → Reader
three_of = three

-- a letter stands there, and a row is left for its object
pub record Begun (s : List ℕ) (at r room : ℕ) : Type 0 where
  pub there : at < length s
  pub left : r < room

-- what a call did that was to read an object past the blanks behind what was read
pub record Nexted (s : List ℕ) (room : ℕ) (e : Edition) (deep : ℕ) (want : Want) (before : Reached) (T T' N N' : List ℕ) (step : Step) : Type 0 where
  pub done : Done (object s room e deep want (past s before.at) before.row) s room (before.at + 1) before.row T T' N N' step

-- what a call did that was to read one thing of a container, behind the owner's keys noted
pub record EntryDone (keyed : Bool) (s : List ℕ) (room : ℕ) (e : Edition) (deep owner at r : ℕ) (T T' N N' : List ℕ) (step : Step) : Type 0 where
  pub did : Did (entry s keyed (object s room e deep) (keys_of (named s room T) N owner r) at r) (length s) room (at + 1) r T T' step
  pub joined : keyed ≡ true → Joined (named s room T) (named s room T') N N' owner r step
  pub after : keyed ≡ false → After (named s room T) (named s room T') N N' r step

-- what ending an object with three children asks, and what it does
pub record Closable (s : List ℕ) (before : Reached) (r room : ℕ) (T : List ℕ) : Type 0 where
  pub within : before.at ≤ length s
  pub fits : before.row ≤ room
  pub left : r < room
  pub rows : room ≤ 4096
  pub table : room * 4 ≤ length T
  pub message : length s ≤ 65536

-- the bytes end; another byte stands there; or the `;`, and the row is stored
pub data Closed (s : List ℕ) (before : Reached) (kind r room : ℕ) (T T' : List ℕ) : Step → Type 0 where
  short : {step : Step} → length s ≤ past s before.at → step ≡ refused_at Ended (past s before.at) → Closed s before kind r room T T' step
  wrong : {step : Step} → past s before.at < length s → (get_or s (past s before.at) 0 ≡ 59 → ⊥) → step ≡ refused_at UnexpectedByte (past s before.at) → Closed s before kind r room T T' step
  right : {step : Step} → past s before.at < length s → get_or s (past s before.at) 0 ≡ 59 → step ≡ read_to (past s before.at + 1) before.row → T' ≡ set_row room T r (row kind 0 3 before.row) → Closed s before kind r room T T' step
