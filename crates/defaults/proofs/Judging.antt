-- What answers the returns of the functions that look a text up in two tables. Assumes nothing.
use mathlib.Core.Path.{◌≡◌, ◌∙◌}
use mathlib.Core.Bool.{Bool, true, false}
use mathlib.Core.List.{List}
use Prim.Native.Nat.{ℕ}
use lib.ListN.{length}
use borrow.Author.Tests.{ne_eqb}
use Rattle.std.specs.Prelude.{Option, Some, None, Err}
use Rattle.draft.specs.declared.Row.{Row}
use Rattle.draft.specs.Table.{room_of, row_at}
use Rattle.draft.specs.Writable.{writable}
use Rattle.member.specs.declared.Member.{Member}
use Rattle.member.specs.Members.{is_struct, members, find}
use Rattle.choice.specs.declared.Held.{Held}
use Rattle.choice.specs.declared.Held.TheVariants.{Absent, NoText, Text}
use Rattle.choice.specs.declared.Refusal.TheVariants.{NotWritable, NoMember}
use Rattle.choice.specs.Choosing.{Choice, preferred, Handed}
use Rattle.defaults.specs.Defaults.{source, numbered_text, held_in, structs_then, chosen}

-- ---- one table

module _ (row : ℕ → Row) where
  module _ (r : ℕ) {x : Row} (e : x ≡ row r) where
    pub is_text_lem : x.kind ≡ 11 → Text x.a x.b ≡ numbered_text row r
    unfolding numbered_text
    is_text_lem h = rw (← e, h)

    pub is_no_text : (x.kind ≡ 11 → ⊥) → NoText ≡ numbered_text row r
    unfolding numbered_text
    is_no_text h = rw (← e, ne_eqb x.kind 11 h)

  module _ (rows : ℕ) (s : List ℕ) (r : ℕ) (key : List ℕ) {f : Option Member} (e : f ≡ find row s key (members row rows r)) where
    pub held_found : {m : Member} {h : Held} → f ≡ Some m → h ≡ numbered_text row m.value → h ≡ held_in row rows s r key
    unfolding held_in
    held_found g h = rw (← e, g, h)

    pub held_absent : f ≡ None → Absent ≡ held_in row rows s r key
    unfolding held_in
    held_absent g = rw (← e, g)

pub ruleset holding = (is_text_lem, is_no_text, held_found, held_absent)

-- ---- two tables: their Structs, then their members

module _ (row : ℕ → Row) (rows : ℕ) (s : List ℕ) (r : ℕ) (row' : ℕ → Row) (rows' : ℕ) (s' : List ℕ) (r' : ℕ) (key : List ℕ) {b : Bool} (e : b ≡ is_struct row rows r) where
  pub card_no_struct : b ≡ false → Err NoMember ≡ structs_then row rows s r row' rows' s' r' key
  unfolding structs_then
  card_no_struct f = rw (← e, f)

  module _ (f : b ≡ true) {b' : Bool} (e' : b' ≡ is_struct row' rows' r') where
    pub defaults_no_struct : b' ≡ false → Err NoMember ≡ structs_then row rows s r row' rows' s' r' key
    unfolding structs_then
    defaults_no_struct g = rw (← e, f, ← e', g)

    pub both_structs :
        {own other : Held} {c : Choice} → b' ≡ true → own ≡ held_in row rows s r key → other ≡ held_in row' rows' s' r' key → c ≡ preferred own other
        → c ≡ structs_then row rows s r row' rows' s' r' key
    unfolding structs_then
    both_structs g h i j = j ∙ rw (← e, f, ← e', g, h, i)

pub ruleset entering = (card_no_struct, defaults_no_struct, both_structs)

-- ---- two tables judged

module _ (T : List ℕ) (rows : ℕ) (s : List ℕ) (r : ℕ) (T' : List ℕ) (rows' : ℕ) (s' : List ℕ) (r' : ℕ) (key : List ℕ) {b : Bool} (e : b ≡ writable T rows s) where
  pub card_unwritable : b ≡ false → Err NotWritable ≡ chosen (source T rows s r) (source T' rows' s' r') key
  unfolding chosen
  card_unwritable f = rw (← e, f)

  module _ (f : b ≡ true) {b' : Bool} (e' : b' ≡ writable T' rows' s') where
    pub defaults_unwritable : b' ≡ false → Err NotWritable ≡ chosen (source T rows s r) (source T' rows' s' r') key
    unfolding chosen
    defaults_unwritable g = rw (← e, f, ← e', g)

    pub both_writable :
        {room room' : ℕ} {c : Choice} → b' ≡ true → room ≡ room_of 4096 (length T) → room' ≡ room_of 4096 (length T')
        → c ≡ structs_then (row_at room T) rows s r (row_at room' T') rows' s' r' key → c ≡ chosen (source T rows s r) (source T' rows' s' r') key
    unfolding chosen
    both_writable g h i j = j ∙ rw (← e, f, ← e', g, h, i)

pub ruleset judging = (card_unwritable, defaults_unwritable, both_writable)

-- ---- handed out

pub handed : (card defaults : _) {c x : Choice} {part : _} {number from : ℕ} → c ≡ x → Handed card defaults c part number from → Handed card defaults x part number from
handed card defaults e h = rw e at h
