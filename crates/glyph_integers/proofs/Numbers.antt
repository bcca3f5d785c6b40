-- Digits that were counted, and the byte behind them: what an integer and the length of a text share. Assumes nothing.
use mathlib.Core.Path.{◌≡◌, ◌∙◌}
use mathlib.Core.Bool.{◌&&◌, cond}
use mathlib.Core.List.{List}
use Prim.Native.Nat.{ℕ, ◌+◌, ◌-◌, ◌≤◌, ◌<◌}
use native.Mathlib.Omega.{arith}
use lib.Dec.{eqb, ltb}
use lib.ListN.{length, get_or, drop}
use borrow.Author.Tests.{eq-eqb, ne_eqb, lt-ltb, le-ltb}
use Rattle.glyph.specs.declared.Refusal.TheVariants.{Ended, UnexpectedByte}
use Rattle.glyph.specs.Numbers.{digits}
use Rattle.glyph.specs.Read.{Reading, refused, numbered}
use Rattle.glyph_bytes.specs.Places.{Counted}
use Rattle.glyph_item.specs.Contract.{Step, refused_at, Did}
use Rattle.glyph_item.proofs.Readings.{done, did_no}

module _ (s : List ℕ) (b at : ℕ) (o : Reading) {from end v : ℕ} (c : Counted s from end v) where
  at_end : numbered s b at from (digits (drop from s)) o ≡ cond (ltb end (length s)) (cond (ltb 0 (end - from) && eqb (get_or s end 0) b) o (refused UnexpectedByte at)) (refused Ended at)
  at_end = let e : digits (drop from s) ≡ end - from = omega (arith, c.ends) in let k : from + (end - from) ≡ end = omega (arith, c.ahead) in rw (e, k)

module _ (s : List ℕ) (b at : ℕ) (o : Reading) {from end v : ℕ} {room r : ℕ} {T T' : List ℕ} {step : Step} (c : Counted s from end v) where
  pub numbered_cut : length s ≤ end → step ≡ refused_at Ended at → Did (numbered s b at from (digits (drop from s)) o) (length s) room (at + 1) r T T' step
  numbered_cut h e = did_no Ended e (at_end s b at o c ∙ simp (le-ltb _ _ h))

  pub numbered_none : end < length s → end ≤ from → step ≡ refused_at UnexpectedByte at → Did (numbered s b at from (digits (drop from s)) o) (length s) room (at + 1) r T T' step
  numbered_none h k e = let z : end - from ≤ 0 = omega arith in did_no UnexpectedByte e (at_end s b at o c ∙ simp (lt-ltb _ _ h, le-ltb _ _ z))

  pub numbered_wrong : end < length s → from < end → (get_or s end 0 ≡ b → ⊥) → step ≡ refused_at UnexpectedByte at → Did (numbered s b at from (digits (drop from s)) o) (length s) room (at + 1) r T T' step
  numbered_wrong h k n e = let z : 0 < end - from = omega arith in did_no UnexpectedByte e (at_end s b at o c ∙ simp (lt-ltb _ _ h, lt-ltb _ _ z, ne_eqb _ _ n))

  pub numbered_on : end < length s → from < end → get_or s end 0 ≡ b → Did o (length s) room (at + 1) r T T' step → Did (numbered s b at from (digits (drop from s)) o) (length s) room (at + 1) r T T' step
  numbered_on h k n d = let z : 0 < end - from = omega arith in done (at_end s b at o c ∙ simp (lt-ltb _ _ h, lt-ltb _ _ z, eq-eqb _ _ n)) d
