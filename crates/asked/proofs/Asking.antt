-- What answers each return of the functions that say what of content has to be looked at, and what their answers say of it. Assumes nothing.
use mathlib.Core.Path.{◌≡◌, refl, ◌∙◌}
use mathlib.Core.Bool.{Bool, true, false, ◌&&◌}
use Prim.Native.Nat.{ℕ, ◌≤◌, ◌<◌}
use lib.Dec.{ltb, leb}
use borrow.Author.Tests.{lt-ltb, le-ltb, le-leb, lt-leb, ltb-true, leb-true}
use Rattle.draft.specs.declared.Content.{Content as ContentOf}
use Rattle.draft.specs.declared.Content.TheVariants.{Double, DateTime, Binary, Text}
use Rattle.text.proofs.Comparing.{both, clash}
use Rattle.draft.specs.Writable.{sized}
use Rattle.asked.specs.Contents.{is_text, is_binary, checked_before}

-- a Binary, which has no rule
pub is_binary_lem : (c : ContentOf) → is_binary c ≡ true → c ≡ Binary
is_binary_lem Double e = clash e refl
is_binary_lem DateTime e = clash e refl
is_binary_lem Binary e = refl
is_binary_lem Text e = clash e refl

-- such content is a String's, long, and stands before row `good`
pub record Before (c : ContentOf) (n r good : ℕ) : Type 0 where
  pub text : c ≡ Text
  pub long : 512 ≤ n
  pub row : r < good

is_text_lem : (c : ContentOf) → is_text c ≡ true → c ≡ Text
is_text_lem Double e = clash e refl
is_text_lem DateTime e = clash e refl
is_text_lem Binary e = clash e refl
is_text_lem Text e = refl

pub before : {c : ContentOf} {n r good : ℕ} → checked_before c n r good ≡ true → Before c n r good
unfolding checked_before
before {c} {n} {r} {good} e =
    let p = both (ltb r good) (leb 512 n && is_text c) e in
    let q = both (leb 512 n) (is_text c) p.1 in
    record { text = is_text_lem c q.1; long = leb-true 512 n q.0; row = ltb-true r good p.0 }
