-- Document 02's lookups and positions: what `lookup::lookup` and `position::position_of` promise (`Answers.lookup`, `Placing.position`) is what the
-- message says. What a message says to one who looks a member up is crate meant's Meant; the long argument is there too. Assumes nothing.
use mathlib.Core.Path.{◌≡◌, sym, ◌∙◌}
use mathlib.Core.Bool.{true, false}
use mathlib.Core.Logic.{◌↔◌}
use mathlib.Core.List.{List, [], ◌∷◌, ◌++◌}
use Prim.Native.Nat.{ℕ, ◌+◌, ◌^◌, ◌≤◌, ◌<◌}
use Prim.Native.Char.{code}
use lib.ListN.{length}
use lib.Dec.{leb}
use lib.IntN.{pos}
use lib.Ieee.{Float, binary64, of_int, div}
use lib.Ieee.Exact.{HasValue}
use borrow.Author.Tests.{le-leb, lt-leb, leb-true}
use Rattle.std.specs.Prelude.{Ok, Err}
use Rattle.text.specs.Texts.{same}
use Rattle.text.proofs.Comparing.{both}
use Rattle.lexical.specs.Grammar.{Digits, Sign}
use Rattle.std.proofs.Common.{Ok}
use Rattle.decimal.specs.Digits.{digits_of, significant, whole, places}
use Rattle.decimal.specs.Decimal.{power, quotient, signed, held, decimal_of, nearest_to}
use Rattle.decimal.proofs.Powers as powers
use Rattle.decimal.proofs.Nearest as nearest
use Rattle.draft.specs.declared.Row.{Row as TableRow}
use Rattle.draft.specs.Bytes.{bytes}
use Rattle.draft.specs.Codebook.{Book}
use Rattle.draft.specs.Table.{room_of, row_at}
use Rattle.draft.specs.Read.{got}
use Rattle.draft.specs.Grammar.{Cell, Begins}
use Rattle.draft.specs.Writable.{writable_within, writable}
use Rattle.draft.specs.Written.{rows_of}
use Rattle.draft.proofs.Limiting.{limit_most}
use Rattle.read_answer.specs.Answers.{reading, table_of}
use Rattle.read_answer.proofs.Limited.{reading_got, got_within}
use Rattle.exact.proofs.Realising.{counts}
use Rattle.written.specs.Derivable.{DerivesRows}
use Rattle.written.proofs.Concluding.{rows_length}
use Rattle.member.specs.declared.Member.{Member}
use Rattle.member.specs.Members.{members, keys_of}
use Rattle.lookup_answer.specs.declared.Refusal as Why
use Rattle.lookup_answer.specs.declared.Refusal.TheVariants.{NotWritable, TooManyDigits}
use Rattle.lookup_answer.specs.declared.Value.TheVariants.{Decimal}
use Rattle.lookup_answer.specs.Answers.{lookup, decimal_answer}
use Rattle.lookup_answer.specs.Reports.{plus_zero}
use Rattle.placing.specs.Placing.{at, accepted_at, refused_with, position}
use Rattle.placing.proofs.Together.{accepted_of, accepted_by, zeros_of, unwritable_of}
use Rattle.meant.specs.Parts.{values, Parts}
use Rattle.meant.proofs.Parting.{double_parts}
use Rattle.meant.specs.Meant.{members_of, Said, StructAt, Answered}
use Rattle.meant.proofs.Saying.{standing, struct_said, answered}
use Rattle.meant.proofs.Only.{members_distinct}
use Rattle.demands_reading.proofs.Reading.{sound, one_meaning}
use Rattle.demands_reading.specs.Members.{Distinct}
use Rattle.demands_writing.proofs.Writing.{Words, Octets, form_derived, judged, read_rows, read_writable}

-- UNWRITABLE first: an unwritable table is refused with 11, and one whose text bytes are too many is unwritable.
pub unwritable_first : (T : List ℕ) (rows : ℕ) (s : List ℕ) (r : ℕ) (key : List ℕ) → writable T rows s ≡ false → lookup T rows s r key ≡ Err NotWritable
unfolding lookup
unwritable_first T rows s r key e = rw e

pub long_text_unwritable : (T : List ℕ) (rows : ℕ) (s : List ℕ) → 65536 < length s → writable T rows s ≡ false
unfolding writable writable_within
long_text_unwritable T rows s h = rw (lt-leb (length s) 65536 h)

-- WHAT A TABLE SAYS. In a writable table, a key looked up at any row is answered by what the draft derives with the table's meaning: if that row is
-- a Struct's, by the one of its members with that key, and by 18 if there is none; if it is not, by 18.
module _ (T : List ℕ) (rows : ℕ) (s : List ℕ) (e : writable T rows s ≡ true) {deep : ℕ} {xs : List ℕ} (g : DerivesRows deep xs s (rows_of 4096 T rows)) where
  pub table_says : (r : ℕ) (key : List ℕ) → Answered s g.cells r key (lookup T rows s r key)
  unfolding lookup rows_of
  table_says r key =
      rw e
      (answered (row_at (room_of 4096 (length T)) T) s (standing (row_at (room_of 4096 (length T)) T) s rows g.meaning) rows
      (sym (counts g.meaning) ∙ rows_length 4096 T rows) key g.derived r)

  -- by whichever derivation of the Struct
  pub struct_says : {r : ℕ} (st : StructAt g.cells r) (key : List ℕ) → Said s key (r + 1) (members_of st.pairs) (lookup T rows s r key)
  unfolding lookup rows_of
  struct_says st key =
      rw e
      (struct_said (row_at (room_of 4096 (length T)) T) s (standing (row_at (room_of 4096 (length T)) T) s rows g.meaning) rows
      (sym (counts g.meaning) ∙ rows_length 4096 T rows) key st)

-- WHAT A MESSAGE SAYS. Of a message that was read, a key looked up in the table that reading left is answered by what the draft derives: by the
-- meaning of the member with that key.
module _ (limit : ℕ) (s : List ℕ) (words : ℕ) {rows : List TableRow} {used : ℕ} {book : Book} (e : reading limit s words ≡ got rows used book) (o : Octets s) where
  -- the table after reading
  abbrev its_table : List ℕ
  its_table = table_of words (got rows used book)

  pub message_says :
      {to nesting : ℕ} {cells : List Cell} → Begins s to nesting cells → (r : ℕ) (key : List ℕ) → Answered s cells r key (lookup its_table (length rows) s r key)
  message_says b r key =
      let d = sound 65536 s (room_of 4096 words) limit (got_within limit s words e) in
      let i : d.cells ≡ _ = (one_meaning d.begins b).1 in
      let g : DerivesRows limit _ s (rows_of 4096 its_table (length rows)) = record { cells = d.cells; meaning = rw (read_rows limit s words e) d.meaning; derived = d.begins.derived } in
      let h : writable its_table (length rows) s ≡ true =
      judged its_table (length rows) s ∙ read_writable limit s words e o 32 (limit_most limit (reading_got limit s words e)) in
      rw i at (table_says its_table (length rows) s h g r key)

-- DISTINCT. In a writable table no two members of a Struct have the same key.
module _ (T : List ℕ) (rows : ℕ) (s : List ℕ) (e : writable T rows s ≡ true) (w : Words T) where
  -- the members of the Struct of a row, in its table
  abbrev its_members : ℕ → List Member
  its_members r = members (row_at (room_of 4096 (length T)) T) rows r

  pub distinct_members : (r : ℕ) → Distinct (keys_of (row_at (room_of 4096 (length T)) T) s (its_members r))
  unfolding rows_of
  distinct_members r =
      let g = form_derived 32 T rows s (sym (judged T rows s) ∙ e) w in
      members_distinct (row_at (room_of 4096 (length T)) T) s (standing (row_at (room_of 4096 (length T)) T) s rows g.meaning) rows
      (sym (counts g.meaning) ∙ rows_length 4096 T rows) g.derived r

-- DECIMALS. Each power of the table is that power of ten exactly; and a text within the limits has the f64 nearest to its number, of two the even one.
pub powers_exact : (k : ℕ) → k ≤ 22 → HasValue (power k) false (10 ^ k) 1
powers_exact k h = powers.power_exact k h

pub decimals_nearest : (t : List ℕ) → held t ≡ true → decimal_of t ≡ Ok (nearest_to t)
decimals_nearest t e = nearest.nearest t e

-- Of a Double, as the grammar derives it, the digits that count are those before and after the point, its places those after it, and its sign is minus
-- if it has a `-`.
pub decimal_parts :
    {sign whole fraction t : List ℕ} → Sign sign → Digits whole → Digits fraction → t ≡ sign ++ (whole ++ (code "." ∷ fraction))
    → Parts sign whole fraction t
decimal_parts s w f e = double_parts s w f e

module _ {sign before fraction t : List ℕ} (p : Parts sign before fraction t) where
  -- it is held exactly if it has at most 15 digits after leading zeros are dropped and at most 22 after the point;
  pub held_exactly : (held t ≡ true) ↔ ((length (significant (values (before ++ fraction))) ≤ 15) × (length fraction ≤ 22))
  unfolding held
  held_exactly = (
    λ e.
        let h = both (leb (length (significant (digits_of t))) 15) (leb (places t) 22) e in
        (rw p.digits at (leb-true (length (significant (digits_of t))) 15 h.0), rw p.after at (leb-true (places t) 22 h.1)),
    λ (h, i). rw (p.digits, p.after, le-leb _ _ h, le-leb _ _ i),
  )

  -- and its value is the digits as a whole number divided once by the power of ten, then negated if the sign is minus.
  pub held_value :
      held t ≡ true
      → decimal_of t
      ≡ Ok (signed (same sign (code "-" ∷ [])) (div binary64 (of_int binary64 (pos (whole 0 (significant (values (before ++ fraction)))))) (power (length fraction))))
  unfolding decimal_of quotient
  held_value e = rw (e, p.digits, p.after, p.minus)

-- A POSITION is what three lookups give. It is accepted with three values exactly if x, y and turn each answer with that decimal.
pub position_accepted :
    (T : List ℕ) (rows : ℕ) (s : List ℕ) (r : ℕ) (x y turn : Float)
    → (position T rows s r ≡ accepted_at (at x y turn))
    ↔ ((lookup T rows s r (bytes "x") ≡ Ok (Decimal x)) × (lookup T rows s r (bytes "y") ≡ Ok (Decimal y)) × (lookup T rows s r (bytes "turn") ≡ Ok (Decimal turn)))
unfolding position
position_accepted T rows s r x y turn =
    (accepted_by (lookup T rows s r (bytes "x")) (lookup T rows s r (bytes "y")) (lookup T rows s r (bytes "turn")), λ (h, i, j). rw (h, i, j) (accepted_of x y turn))

-- REFUSED. A refused position is three plus zeros; with 11 if the table is unwritable.
module _ (T : List ℕ) (rows : ℕ) (s : List ℕ) (r : ℕ) where
  pub position_zeros : {why : Why.Refusal} → (position T rows s r).outcome ≡ Err why → (position T rows s r).position ≡ at plus_zero plus_zero plus_zero
  unfolding position
  position_zeros e = zeros_of (lookup T rows s r (bytes "x")) (lookup T rows s r (bytes "y")) (lookup T rows s r (bytes "turn")) e

  pub position_unwritable : writable T rows s ≡ false → position T rows s r ≡ refused_with NotWritable
  unfolding position
  position_unwritable e = rw (unwritable_first T rows s r (bytes "x") e) (unwritable_of (lookup T rows s r (bytes "y")) (lookup T rows s r (bytes "turn")))

-- A Double of too many digits answers 19.
pub long_nineteen : (t : List ℕ) → held t ≡ false → decimal_answer (decimal_of t) ≡ Err TooManyDigits
unfolding decimal_of
long_nineteen t e = rw e
