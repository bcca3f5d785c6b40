-- What answers each return and turn of listing rows and answers. Assumes nothing.
use mathlib.Core.Path.{◌≡◌, sym, ap, ◌∙◌}
use mathlib.Core.List.{List, ◌++◌}
use Prim.Native.Nat.{ℕ, suc, ◌+◌, ◌-◌, ◌≤◌, ◌<◌, min}
use native.Mathlib.Nat.{sub-zero}
use native.Mathlib.Omega.{arith}
use native.Mathlib.Numerals.{add-one}
use lib.ListN.{length}
use Rattle.draft.specs.declared.Row.{Row}
use Rattle.draft.specs.declared.Refusal.{Refusal}
use Rattle.draft.specs.Refusals.{number_of}
use Rattle.draft.specs.Table.{room_of, row_at}
use Rattle.read_answer.specs.declared.Answer.{Answer}
use Rattle.read_answer.specs.declared.Answer.TheVariants.{Accepted, Refused}
use Rattle.read_answer.specs.Answers.{reading, Answers}
use Rattle.spelling.specs.Line.{line, put, Puts}
use Rattle.spelling.proofs.Putting.{put_append, puts_both}
use Rattle.lines.specs.Lines.{refusal_line, accepted_line, row_line}
use Rattle.listings.specs.Listing.{row_lines, table_lines, listing, Lists}

-- r of n rows are put
pub record Listing (c : ℕ) (T : List ℕ) (n : ℕ) (o : List ℕ) (from r : ℕ) (bytes : List ℕ) (at : ℕ) : Type 0 where
  pub left : put (line o from) (row_lines c T 0 n) ≡ put (line bytes at) (row_lines c T r (n - r))
  pub within : r ≤ n

pub rows_first : (c : ℕ) (T : List ℕ) (n : ℕ) (o : List ℕ) (from : ℕ) → Listing c T n o from 0 o from
rows_first c T n o from = record { left = rw (sub-zero n); within = omega arith }

next_row : (c : ℕ) (T : List ℕ) (r n : ℕ) → r < n → row_lines c T r (n - r) ≡ row_line r (row_at c T r) ++ row_lines c T (r + 1) (n - (r + 1))
unfolding row_lines
next_row c T r n h =
    let e : n - r ≡ suc (n - (r + 1)) = omega arith in
    ap (row_lines c T r) e ∙ rw add-one

module _ {c n : ℕ} {T o bytes : List ℕ} {from r at : ℕ} (p : Listing c T n o from r bytes at) where
  pub rows_again : {x : Row} {bytes' : List ℕ} {m : ℕ} → r < n → x ≡ row_at c T r → Puts (row_line r x) bytes at bytes' m → Listing c T n o from (r + 1) bytes' m
  rows_again {bytes' = bytes'} {m = m} h e q =
      let k : Puts (row_line r (row_at c T r)) bytes at bytes' m = rw e at q in
      record {
        left = p.left ∙ rw (next_row c T r n h, put_append (line bytes at) (row_line r (row_at c T r)), ← k.is);
        within = omega arith;
      }

  pub rows_done : n ≤ r → Puts (row_lines c T 0 n) o from bytes at
  unfolding row_lines put
  rows_done h =
      let e : n - r ≡ 0 = omega arith in
      record { is = sym (p.left ∙ rw e) }

pub row_in : (room last n : ℕ) {r : ℕ} → last ≡ min n room → r < last → r < room
row_in room last n e h = omega arith

pub table_done : (T : List ℕ) (n : ℕ) {room last : ℕ} {o o' : List ℕ} {from at : ℕ} → room ≡ room_of 4096 (length T) → last ≡ min n room → Puts (row_lines room T 0 last) o from o' at → Puts (table_lines T n) o from o' at
table_done T n e f p = rw (f, e) at p

-- by the answer
module _ {a : Answer} {o o' : List ℕ} {from at : ℕ} where
  pub lists_acceptance : {n m : ℕ} (T : List ℕ) → a ≡ Accepted n m → Puts (accepted_line n m ++ table_lines T n) o from o' at → Puts (listing a T) o from o' at
  lists_acceptance T e p = rw e p

  pub lists_refusal : {r : Refusal} {k p : ℕ} (T : List ℕ) → a ≡ Refused r p → k ≡ number_of r → Puts (refusal_line k p) o from o' at → Puts (listing a T) o from o' at
  lists_refusal T e f q = rw e (rw f at q)

pub lists_message : (message : List ℕ) (words : ℕ) {T line line' : List ℕ} {a : Answer} {n : ℕ} → Answers (reading 32 message words) words T a → Puts (listing a T) line 0 line' n → Lists message words T line line' n
lists_message message words {T} {a = a} d p = record { table = d.leaves; lists = rw d.says at p }

pub ruleset listed = (rows_first, rows_done, row_in, table_done, puts_both, lists_acceptance, lists_refusal, lists_message)
