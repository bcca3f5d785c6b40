-- Going from card to card: each ends further on, and in the file. Assumes nothing.
use mathlib.Core.Path.{◌≡◌, sym, ◌∙◌}
use mathlib.Core.List.{List}
use Prim.Native.Nat.{ℕ, ◌+◌, ◌-◌, ◌≤◌, ◌<◌}
use native.Mathlib.Omega.{arith}
use lib.ListN.{length, drop, length-drop}
use mir.Syntax.{w64}
use mir.Val.{Fits}
use Rattle.records.specs.Job.{find, Found, body_at}
use Rattle.records.proofs.Standing.{Lies, lies_from}

module _ (s : List ℕ) (n from start size : ℕ) {f : Found} (h : from ≤ length s) (e : f ≡ find n n from 0 (drop from s)) (i : f ≡ body_at start size) where
  lie : Lies from start size (drop from s)
  lie = lies_from n n from (drop from s) (sym e ∙ i)

  pub card_in : start + size ≤ length s
  card_in = omega (arith, lie.within, length-drop from s)

  card_further : from < start + size
  card_further = omega (arith, lie.after)

  pub card_fits : length s < 18446744073709551616 → Fits w64 (start + size)
  card_fits l = omega (arith, card_in)

  pub number_below : n ≤ from → n + 1 ≤ start + size
  number_below k = omega (arith, card_further)

  pub card_less : length s - (start + size) < length s - from
  card_less = omega (arith, card_in, card_further)

pub ruleset passing = (card_in, card_fits, number_below, card_less)
