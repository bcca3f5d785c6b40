-- Reading glyph messages accepts exactly what documents 003 and 000 derive within the limits, and the rows say what was derived. Said once, over the
-- edition. The grammar is crate glyph's Grammar, the meaning of rows crate draft's Meaning; the long arguments are in crate glyph_exact. Assumes
-- nothing.
use mathlib.Core.Path.{◌≡◌, refl, sym, ap, ◌∙◌}
use mathlib.Core.Bool.{Bool, true, false}
use mathlib.Core.Logic.{◌≢◌}
use mathlib.Core.List.{List}
use Prim.Native.Nat.{ℕ, ◌≤◌, ◌<◌}
use native.Mathlib.Omega.{arith}
use lib.Dec.{leb}
use lib.ListN.{length}
use borrow.Author.Tests.{le-leb, leb-true, leb-false}
use Rattle.draft.specs.declared.Row.{Row}
use Rattle.draft.specs.Grammar.{Cell}
use Rattle.draft.specs.Meaning.{Realises}
use Rattle.glyph.specs.declared.Refusal.{Refusal}
use Rattle.glyph.specs.declared.Refusal.TheVariants.{Ended, UnexpectedByte, BadText, TooDeep, NoRow, TooLong, RepeatedKey, BadLimit, OutOfRange}
use Rattle.glyph.specs.declared.Edition.{Edition}
use Rattle.glyph.specs.Refusals.{number_of}
use Rattle.glyph.specs.Read.{Reading, got, refused, root, message}
use Rattle.glyph.specs.Tree.{Tree, cells}
use Rattle.glyph.specs.Grammar.{Root}
use Rattle.glyph_exact.proofs.Growing.{Grows, stays, deep, full, root_grows}
use Rattle.glyph_exact.proofs.Fitting.{root_fits}
use Rattle.glyph_exact.proofs.Refusing.{because}
use Rattle.glyph_exact.proofs.Unfolding.{one_tree}
use Rattle.glyph_exact.proofs.Deriving.{root_sound}
use Rattle.glyph_exact.proofs.Concluding.{root_reads, refused_true, one_root}
use Rattle.glyph_demands.specs.Answered.{Allowed, Derived, Underived, RefusedFor, ended, unexpected_byte, bad_text, repeated_key, out_of_range, too_deep, no_row, too_long, no_limit}

pub message_is : (e : Edition) {limit : ℕ} {s : List ℕ} (room : ℕ) → Allowed limit s → message e limit s room ≡ root s room e limit
unfolding message
message_is e room a = simp (le-leb _ _ a.least, le-leb _ _ a.most, le-leb _ _ a.bytes)

-- what a message that is no refusal of the tests before the root is
data Opened (e : Edition) (limit : ℕ) (s : List ℕ) (room : ℕ) (o : Reading) : Type 0 where
  low : (1 ≤ limit → limit ≤ 32 → ⊥) → o ≡ refused BadLimit 0 → Opened e limit s room o
  long : 1 ≤ limit → 65536 < length s → o ≡ refused TooLong 0 → Opened e limit s room o
  on : Allowed limit s → o ≡ root s room e limit → Opened e limit s room o

opens : (e : Edition) (limit : ℕ) (s : List ℕ) (room : ℕ) → Opened e limit s room (message e limit s room)
unfolding message
opens e limit s room = go (leb 1 limit) refl (leb limit 32) refl (leb (length s) 65536) refl
  where
    go : (a : Bool) → leb 1 limit ≡ a → (b : Bool) → leb limit 32 ≡ b → (c : Bool) → leb (length s) 65536 ≡ c → Opened e limit s room (message e limit s room)
    go false i b j c k = low (λ x y. omega (arith, leb-false 1 limit i)) (rw i)
    go true i false j c k = low (λ x y. omega (arith, leb-false limit 32 j)) (rw (i, j))
    go true i true j false k = long (leb-true 1 limit i) (leb-false (length s) 65536 k) (rw (i, j, k))
    go true i true j true k = on (record { least = leb-true 1 limit i; most = leb-true limit 32 j; bytes = leb-true (length s) 65536 k }) (rw (i, j, k))

no_got : {A : Type 0} {m : Refusal} {q : ℕ} {rows : List Row} {to : ℕ} → refused m q ≡ got rows to → A
no_got e = let z : ◌≡◌ {A = ℕ} 0 1 = cc in absurd (omega arith)

-- SOUND. If reading accepts with rows and bytes used, the edition's grammar derives the whole message as blanks, an object up to the bytes used, and
-- blanks, with the meaning that the rows and the message have, within the limits.
pub sound : (e : Edition) (limit : ℕ) (s : List ℕ) (room : ℕ) {rows : List Row} {used : ℕ} → message e limit s room ≡ got rows used → Derived e limit s room rows used
sound e limit s room {rows} {used} i = go (opens e limit s room)
  where
    go : Opened e limit s room (message e limit s room) → Derived e limit s room rows used
    go (low h j) = no_got (sym j ∙ i)
    go (long l h j) = no_got (sym j ∙ i)
    go (on a j) = let g = root_sound e limit s room (sym j ∙ i) in record { tree = g.tree; root = g.root; meaning = g.realises; fits = root_fits room s e limit (sym j ∙ i); allowed = a }

-- an answer accepts s, with that many bytes used and rows of this meaning
pub record Accepts (answer : Reading) (s : List ℕ) (used : ℕ) (cs : List Cell) : Type 0 where
  pub rows : List Row
  pub is : answer ≡ got rows used
  pub meaning : Realises s 0 rows cs

-- COMPLETE. If the edition's grammar derives the message within the limits, reading accepts it with that meaning and that number of bytes used.
pub complete : {e : Edition} {limit : ℕ} {s : List ℕ} {used : ℕ} {t : Tree} (room : ℕ) → Root e limit s used t → Allowed limit s → length (cells t) ≤ room → Accepts (message e limit s room) s used (cells t)
complete {e} room g a h = let r = root_reads g room h in record { rows = r.rows; is = message_is e room a ∙ r.is; meaning = r.realises }

-- ONE MEANING. Two derivations of one message use as many bytes and mean the same, whatever nesting they are bounded by.
pub one_meaning :
    {e : Edition} {d d' : ℕ} {s : List ℕ} {used used' : ℕ} {t t' : Tree} → Root e d s used t → Root e d' s used' t' → (used ≡ used') × (t ≡ t')
one_meaning g h = let r = one_root g h in (r.0, one_tree g.object h.object r.1)

less : (a b : ℕ) → (b ≤ a → ⊥) → a < b
less a b h = go (leb b a) refl
  where
    go : (x : Bool) → leb b a ≡ x → a < b
    go true i = absurd (h (leb-true b a i))
    go false i = leb-false b a i

-- REFUSALS SPEAK THE TRUTH. 1, 3, 5, 20 and 25 mean that the edition does not derive the message at all, and say what stands at their place;
-- 8 means that what is derived nests deeper than the limit, 9 that it has more rows than there is room for, 10 that there are too many bytes, and 23 that
-- the limit is not 1 to 32.
pub refusals_true :
    (e : Edition) (limit : ℕ) (s : List ℕ) (room : ℕ) {m : Refusal} {place : ℕ} → message e limit s room ≡ refused m place → RefusedFor e limit s room (number_of m) place
refusals_true e limit s room {m} {place} i = go (opens e limit s room)
  where
    -- no root is refused with a number other than 8 and 9
    none : (m : Refusal) → root s room e limit ≡ refused m place → (number_of m ≡ 8 → ⊥) → (number_of m ≡ 9 → ⊥) → Underived e s
    none m j n k used nesting t g = refused_true g room limit j (λ h x. n (ap number_of x)) (λ h x. k (ap number_of x))

    by : (m : Refusal) → root s room e limit ≡ refused m place → RefusedFor e limit s room (number_of m) place
    by Ended j = ended (none Ended j (λ k. omega arith) (λ k. omega arith)) (because s room e limit j)
    by UnexpectedByte j = unexpected_byte (none UnexpectedByte j (λ k. omega arith) (λ k. omega arith)) (because s room e limit j)
    by BadText j = bad_text (none BadText j (λ k. omega arith) (λ k. omega arith)) (because s room e limit j)
    by TooDeep j = too_deep (λ used nesting t g. less limit nesting (λ h. refused_true g room limit j (λ d x. omega arith) (λ r x. omega (arith, ap number_of x))))
    by NoRow j = no_row (λ used nesting t g. less room (length (cells t)) (λ h. refused_true g room limit j (λ d x. omega (arith, ap number_of x)) (λ r x. omega arith)))
    by TooLong j = absurd (because s room e limit j)
    by RepeatedKey j = repeated_key (none RepeatedKey j (λ k. omega arith) (λ k. omega arith)) (because s room e limit j)
    by BadLimit j = absurd (because s room e limit j)
    by OutOfRange j = out_of_range (none OutOfRange j (λ k. omega arith) (λ k. omega arith)) (because s room e limit j)

    go : Opened e limit s room (message e limit s room) → RefusedFor e limit s room (number_of m) place
    go (low h j) = let q : refused m place ≡ refused BadLimit 0 = sym i ∙ j in let k : m ≡ BadLimit = cc in let p : place ≡ 0 = cc in rw (k, p) (no_limit h)
    go (long l h j) = let q : refused m place ≡ refused TooLong 0 = sym i ∙ j in let k : m ≡ TooLong = cc in let p : place ≡ 0 = cc in rw (k, p) (too_long h)
    go (on a j) = by m (sym j ∙ i)

-- GROWTH of the limits (02, E11). With no less room and a limit no lower, up to 32, an answer other than 8, 9 and 23 stays, with its place, rows and
-- bytes used.
pub growth_of_limits :
    (e : Edition) (s : List ℕ) {room room' limit limit' : ℕ} → room ≤ room' → limit ≤ limit' → limit' ≤ 32 → ((at : ℕ) → message e limit s room ≢ refused TooDeep at)
    → ((at : ℕ) → message e limit s room ≢ refused NoRow at) → ((at : ℕ) → message e limit s room ≢ refused BadLimit at) → message e limit' s room' ≡ message e limit s room
growth_of_limits e s {room} {room'} {limit} {limit'} h k m f g b = go (opens e limit s room) (opens e limit' s room')
  where
    same : {D R : Type 0} {o o' : Reading} → Grows D R o o' → ((at : ℕ) → o ≢ refused TooDeep at) → ((at : ℕ) → o ≢ refused NoRow at) → o' ≡ o
    same stays f g = refl
    same (deep {p} x) f g = absurd (f p refl)
    same (full {p} x) f g = absurd (g p refl)

    go : Opened e limit s room (message e limit s room) → Opened e limit' s room' (message e limit' s room') → message e limit' s room' ≡ message e limit s room
    go (low x i) y = absurd (b 0 i)
    go (long l x i) (long l' y j) = j ∙ sym i
    go (long l x i) (low y j) = absurd (y (omega arith) m)
    go (long l x i) (on y j) = absurd (omega (arith, y.bytes))
    go (on x i) (low y j) = absurd (y (omega (arith, x.least)) m)
    go (on x i) (long l y j) = absurd (omega (arith, x.bytes))
    go (on x i) (on y j) = j ∙ same (root_grows s h e limit limit' k) (λ at q. f at (i ∙ q)) (λ at q. g at (i ∙ q)) ∙ sym i
