-- How much room the lines take: a line that has it holds them whole, and what is behind them stays. Assumes nothing.
use mathlib.Core.Path.{◌≡◌, refl, ap, ◌∙◌}
use mathlib.Core.Bool.{Bool, true, false, cond}
use mathlib.Core.List.{List, [], ◌∷◌, ◌++◌, append_assoc}
use Prim.Native.Nat.{ℕ, zero, suc, ◌+◌, ◌*◌, ◌/◌, ◌%◌, ◌≤◌, ◌<◌, min}
use native.Mathlib.Nat.{add-zero}
use native.Mathlib.Omega.{arith}
use borrow.Author.Tests.{lt-ltb}
use lib.Dec.{ltb}
use lib.ListN.{length, drop, length-append}
use lib.Seq.{set_at}
use Rattle.draft.specs.declared.Row.{Row}
use Rattle.draft.specs.Refusals.{number_of}
use Rattle.draft.specs.Table.{row_at, room_of}
use Rattle.read_answer.specs.declared.Answer.{Answer}
use Rattle.read_answer.specs.declared.Answer.TheVariants.{Accepted, Refused}
use Rattle.spelling.specs.Line.{Line, line, put, put_byte, Puts, digits, decimal, pair, pairs}
use Rattle.lines.specs.Lines.{newline, space, refused, at, rows, used, body, card, bytes, cards, refusal_line, accepted_line, card_accepted_line, row_line, card_answer, card_line, count_line}
use Rattle.listings.specs.Listing.{row_lines, table_lines, listing}

module _ (a o : List ℕ) (b c : ℕ) where
  byte_long : length a < length (a ++ (c ∷ o))
  byte_long = rw length-append (omega arith)

  byte_in : put_byte (line (a ++ (c ∷ o)) (length a)) b ≡ line ((a ++ (b ∷ [])) ++ o) (length (a ++ (b ∷ [])))
  byte_in = rw (lt-ltb (length a) (length (a ++ (c ∷ o))) byte_long, set_at a c o b (length a) refl, append_assoc, length-append a (b ∷ []))

put_behind : (a s o : List ℕ) → length s ≤ length o → put (line (a ++ o) (length a)) s ≡ line (a ++ (s ++ drop (length s) o)) (length a + length s)
unfolding put
put_behind a [] o h = rw add-zero
put_behind a (b ∷ s) [] h = absurd (omega arith)
put_behind a (b ∷ s) (c ∷ o) h =
    let e : length (a ++ (b ∷ [])) + length s ≡ length a + suc (length s) = rw length-append (omega arith) in
    ap (λ (l : Line). put l s) (byte_in a o b c) ∙ put_behind (a ++ (b ∷ [])) s o (omega arith) ∙ rw (e, append_assoc)

-- a line that has room for s behind a holds both, and its bytes behind them stay
pub record Holds (a s o o' : List ℕ) (n : ℕ) : Type 0 where
  pub is : o' ≡ a ++ (s ++ drop (length s) o)
  pub long : n ≡ length a + length s

pub holds : (a : List ℕ) {s o o' : List ℕ} {n : ℕ} → length s ≤ length o → Puts s (a ++ o) (length a) o' n → Holds a s o o' n
holds a {s} {o} {o'} {n} h p =
    let e : line o' n ≡ line (a ++ (s ++ drop (length s) o)) (length a + length s) = p.is ∙ put_behind a s o h in
    record { is = ap (λ (l : Line). l.bytes) e; long = ap (λ (l : Line). l.at) e }

-- a number has 20 digits at most
one_of : (b : Bool) (x y : List ℕ) {m : ℕ} → length x ≤ m → length y ≤ m → length (cond b x y) ≤ m
one_of true x y h k = h
one_of false x y h k = k

digits_long : (k n : ℕ) → length (digits k n) ≤ k
unfolding digits
digits_long zero n = omega arith
digits_long (suc k) n =
    one_of (ltb n 10) ((48 + n) ∷ []) (digits k (n / 10) ++ ((48 + n % 10) ∷ [])) (omega arith) (rw length-append (omega (arith, digits_long k (n / 10))))

pair_long : (w : List ℕ) (n : ℕ) → length (pair w n) ≤ length w + 20
pair_long w n = rw length-append (omega (arith, digits_long 20 n))

pairs_long : (v : List ℕ) (x : ℕ) (w : List ℕ) (y : ℕ) → length (pairs v x w y) ≤ length v + length w + 40
pairs_long v x w y = rw length-append (omega (arith, pair_long v x, pair_long w y))

both_long : (s t : List ℕ) {m n k : ℕ} → length s ≤ m → length t ≤ n → m + n ≤ k → length (s ++ t) ≤ k
both_long s t h k l = rw length-append (omega arith)

ended_long : (s : List ℕ) {m k : ℕ} → length s ≤ m → m + 1 ≤ k → length (s ++ newline) ≤ k
ended_long s h l = rw length-append (omega arith)

-- 160 bytes are enough for each of these
pub refusal_long : (number place : ℕ) → length (refusal_line number place) ≤ 160
refusal_long number place = ended_long (pairs refused number at place) (pairs_long refused number at place) (omega arith)

pub count_long : (n : ℕ) → length (count_line n) ≤ 160
count_long n = ended_long (pair cards n) (pair_long cards n) (omega arith)

answer_long : (a : Answer) → length (card_answer a) ≤ 53
answer_long (Accepted n m) = omega (arith, pairs_long (32 ∷ rows) n used m)
answer_long (Refused refusal place) = omega (arith, pairs_long (32 ∷ refused) (number_of refusal) at place)

pub card_long : (number start size : ℕ) (a : Answer) → length (card_line number start size a) ≤ 160
card_long number start size a =
    let e : length (card_answer a ++ newline) ≤ 54 = ended_long (card_answer a) (answer_long a) (omega arith) in
    let f : length (pairs at start bytes size ++ (card_answer a ++ newline)) ≤ 105 = both_long (pairs at start bytes size) (card_answer a ++ newline) (pairs_long at start bytes size) e (omega arith) in
    both_long (pair card number) (pairs at start bytes size ++ (card_answer a ++ newline)) (pair_long card number) f (omega arith)

-- and 430,158 for a listing of 4,096 rows, also of a card
row_long : (r : ℕ) (x : Row) → length (row_line r x) ≤ 105
row_long r x =
    let e : length (pairs space x.b space x.end ++ newline) ≤ 43 = ended_long (pairs space x.b space x.end) (pairs_long space x.b space x.end) (omega arith) in
    let f : length (pairs space x.kind space x.a ++ (pairs space x.b space x.end ++ newline)) ≤ 85 = both_long (pairs space x.kind space x.a) (pairs space x.b space x.end ++ newline) (pairs_long space x.kind space x.a) e (omega arith) in
    both_long (decimal r) (pairs space x.kind space x.a ++ (pairs space x.b space x.end ++ newline)) (digits_long 20 r) f (omega arith)

rows_long : (c : ℕ) (T : List ℕ) (r n : ℕ) → length (row_lines c T r n) ≤ n * 105
unfolding row_lines
rows_long c T r zero = omega arith
rows_long c T r (suc n) = both_long (row_line r (row_at c T r)) (row_lines c T (suc r) n) (row_long r (row_at c T r)) (rows_long c T (suc r) n) (omega arith)

table_long : (T : List ℕ) (n : ℕ) → length (table_lines T n) ≤ 430080
table_long T n = omega (arith, rows_long (room_of 4096 (length T)) T 0 (min n (room_of 4096 (length T))))

pub card_rows_long : (T : List ℕ) (n m b : ℕ) → length (card_accepted_line n m b ++ table_lines T n) ≤ 430158
card_rows_long T n m b =
    let e : length (pair body b ++ newline) ≤ 27 = ended_long (pair body b) (pair_long body b) (omega arith) in
    let f : length (card_accepted_line n m b) ≤ 78 = both_long (pairs rows n used m) (pair body b ++ newline) (pairs_long rows n used m) e (omega arith) in
    both_long (card_accepted_line n m b) (table_lines T n) f (table_long T n) (omega arith)

pub listing_long : (a : Answer) (T : List ℕ) → length (listing a T) ≤ 430158
listing_long (Accepted n m) T =
    let e : length (accepted_line n m) ≤ 52 = ended_long (pairs rows n used m) (pairs_long rows n used m) (omega arith) in
    both_long (accepted_line n m) (table_lines T n) e (table_long T n) (omega arith)
listing_long (Refused refusal place) T = omega (arith, refusal_long (number_of refusal) place)
