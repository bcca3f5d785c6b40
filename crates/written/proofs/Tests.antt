-- What an accepted walk over rows says of the tests on its way. Assumes nothing.
use mathlib.Core.Path.{◌≡◌, refl, sym, ap, ◌∙◌}
use mathlib.Core.Bool.{Bool, true, false}
use mathlib.Core.List.{List}
use Prim.Native.Nat.{ℕ, ◌+◌, ◌≤◌}
use native.Mathlib.Omega.{arith}
use lib.Dec.{eqb, leb, ltb}
use lib.ListN.{length}
use borrow.Author.Tests.{eqb-true, leb-true}
use Rattle.std.proofs.Common.{Option, Some, None}
use Rattle.text.proofs.Comparing.{clash}
use Rattle.draft.specs.declared.Row.{Row}
use Rattle.draft.specs.Verdict.{Verdict}
use Rattle.std.specs.Prelude.{Ok, Err}
use Rattle.draft.specs.declared.Content.{Content}
use Rattle.draft.specs.Bytes.{part}
use Rattle.draft.specs.Content.{content_rule, all_there, verdict}
use Rattle.draft.specs.Read.{text_of}
use Rattle.draft.specs.Grammar.{Keeps}
use Rattle.draft.specs.Writable.{fit, ruled, then, Walk, closed, leaf, over, holding, sized, content_item, only, wholly}

there_by : (b : Bool) (v : Verdict) → all_there b v ≡ Ok tt → (b ≡ true) × (v ≡ Ok tt)
there_by true v e = (refl, e)
there_by false v e = let z : ◌≡◌ {A = ℕ} 0 1 = cc in absurd (omega arith)

module _ {to : ℕ} where
  pub unfit_until : {A : Type 0} → None ≡ Some to → A
  unfit_until e = let z : ◌≡◌ {A = ℕ} 0 1 = cc in absurd (omega arith)

  pub fit_by : (b : Bool) (o : Option ℕ) → fit b o ≡ Some to → (b ≡ true) × (o ≡ Some to)
  fit_by true o e = (refl, e)
  fit_by false o e = unfit_until e

  pub ruled_by : (v : Verdict) (o : Option ℕ) → ruled v o ≡ Some to → (v ≡ Ok tt) × (o ≡ Some to)
  ruled_by (Ok tt) o e = (refl, e)
  ruled_by (Err m) o e = unfit_until e

  pub closed_by : (x : Row) (o : Option ℕ) → closed x o ≡ Some to → (x.end ≡ to) × (o ≡ Some to)
  closed_by x None e = unfit_until e
  closed_by x (Some r) e =
      let f = fit_by (eqb x.end r) (Some r) e in
      let i : r ≡ to = cc f.1 in
      (eqb-true x.end r f.0 ∙ i, f.1)

  pub leaf_by_lem : (x : Row) (r : ℕ) → leaf x r ≡ Some to → (x.end ≡ r + 1) × (r + 1 ≡ to)
  leaf_by_lem x r e =
      let f = closed_by x (Some (r + 1)) e in
      let i : r + 1 ≡ to = cc f.1 in
      (f.0 ∙ sym i, i)

  -- content lies inside the text bytes and keeps its rule
  pub content_by :
      (s : List ℕ) (c : Content) (x : Row) (r : ℕ) → content_item s c x r ≡ Some to
      → (sized c x.b ≡ true) × (x.a + x.b ≤ length s) × Keeps c (text_of s x) × (leaf x r ≡ Some to)
  unfolding content_item verdict
  content_by s c x r e =
      let f = fit_by (sized c x.b) _ e in
      let g = ruled_by (verdict c s x.a x.b) _ f.1 in
      let h = there_by (leb (x.a + x.b) (length s)) (content_rule c (part s x.a x.b)) g.0 in
      (f.0, leb-true _ _ h.0, h.1, g.1)

  pub over_by : (x : Row) (o : Option ℕ) → over x o ≡ Some to → (x.a ≡ 0) × (x.end ≡ to) × (o ≡ Some to)
  over_by x o e =
      let f = fit_by (eqb x.a 0) (closed x o) e in
      let g = closed_by x o f.1 in
      (eqb-true x.a 0 f.0, g.0, g.1)

  pub holding_by : (b : ℕ) (x : Row) (o : Option ℕ) → holding b x o ≡ Some to → (x.b ≡ b) × (over x o ≡ Some to)
  holding_by b x o e = let f = fit_by (eqb x.b b) (over x o) e in (eqb-true x.b b f.0, f.1)

-- the rows by their numbers, how many there are, and the text bytes
module _ (row : ℕ → Row) (rows : ℕ) (s : List ℕ) where
  pub only_by : (k : ℕ) (f : Row → Walk) {r to : ℕ} → only row rows s k f r ≡ Some to → ((row r).kind ≡ k) × (f (row r) r ≡ Some to)
  unfolding only
  only_by k f {r} e =
      let h = fit_by (ltb r rows) _ e in
      let i = fit_by (eqb (row r).kind k) _ h.1 in
      (eqb-true _ _ i.0, i.1)

pub record Then (o : Option ℕ) (more : ℕ → Option ℕ) (to : ℕ) : Type 0 where
  pub middle : ℕ
  pub is : o ≡ Some middle
  pub next : more middle ≡ Some to

pub then_by : (o : Option ℕ) (more : ℕ → Option ℕ) {to : ℕ} → then o more ≡ Some to → Then o more to
then_by None more e = unfit_until e
then_by (Some r) more e = record { middle = r; is = refl; next = e }

pub until_same : {r to : ℕ} → Some r ≡ Some to → r ≡ to
until_same e = cc

pub wholly_by : (rows : ℕ) (o : Option ℕ) → wholly rows o ≡ true → o ≡ Some rows
wholly_by rows (Some r) e = ap Some (eqb-true r rows e)
wholly_by rows None e = clash e refl

-- tests that imply one another
pub agreeing : (b c : Bool) → (b ≡ true → c ≡ true) → (c ≡ true → b ≡ true) → b ≡ c
agreeing true c f g = sym (f refl)
agreeing false true f g = g refl
agreeing false false f g = refl
