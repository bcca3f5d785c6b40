-- A text is ASCII exactly if each of its bytes is below 128. Assumes nothing.
use Rattle.std.proofs.Common.{◌≡◌, ℕ, ◌<◌, Bool, true, false, List, [], ◌∷◌, length, ltb, IsTrue, ◌↔◌, EachIndex, slice_index, refl, sym, zero, suc, arith}
use borrow.Author.Tests.{lt-ltb, ltb-true}
use Rattle.text.specs.Texts.{ascii}
use Rattle.text.proofs.Comparing.{both}

each_ascii : (s : List ℕ) → EachIndex s (λ k. slice_index s k < 128) → ascii s ≡ true
unfolding ascii
each_ascii [] h = refl
each_ascii (b ∷ s) h = rw (lt-ltb b 128 (h 0 (omega arith))) (each_ascii s (λ k l. h (suc k) (omega arith)))

ascii_each : (s : List ℕ) → ascii s ≡ true → EachIndex s (λ k. slice_index s k < 128)
unfolding ascii
ascii_each [] e k l = absurd (omega arith)
ascii_each (b ∷ s) e zero l = ltb-true b 128 (both (ltb b 128) (ascii s) e).0
ascii_each (b ∷ s) e (suc k) l = ascii_each s (both (ltb b 128) (ascii s) e).1 k (omega arith)

pub by_each : (s : List ℕ) (r : Bool) → (IsTrue r ↔ EachIndex s (λ k. slice_index s k < 128)) → r ≡ ascii s
by_each s true h = sym (each_ascii s (h.0 refl))
by_each s false h = go (ascii s) refl
  where
    go : (t : Bool) → ascii s ≡ t → false ≡ t
    go true e = h.1 (ascii_each s e)
    go false e = refl
