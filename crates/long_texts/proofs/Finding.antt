-- What answers the returns and turns of the functions that check long Strings. Assumes nothing.
use mathlib.Core.Path.{◌≡◌, refl, sym, ap, ◌∙◌}
use mathlib.Core.Bool.{Bool, true, false}
use mathlib.Core.List.{List}
use Prim.Native.Nat.{ℕ, ◌+◌, ◌-◌, ◌≤◌, ◌<◌}
use native.Mathlib.Omega.{arith}
use lib.ListN.{length}
use lib.Dec.{eqb}
use borrow.Author.Tests.{le-leb, lt-leb, eqb-true, eqb-false}
use Rattle.text.specs.Utf8.{well_formed}
use Rattle.text.proofs.Comparing.{clash}
use Rattle.draft.specs.declared.Refusal.{Refusal}
use Rattle.draft.specs.declared.Refusal.TheVariants.{Ended, BadText}
use Rattle.draft.specs.Verdict.{Verdict}
use Rattle.std.specs.Prelude.{Ok, Err}
use Rattle.draft.specs.declared.Content.TheVariants.{Text}
use Rattle.draft.specs.declared.Row.{Row}
use Rattle.draft.specs.Bytes.{part}
use Rattle.draft.specs.Content.{content_rule, fine_if, verdict}
use Rattle.passages.specs.Notes.{passage, True, Notes, Judged}
use Rattle.extents.specs.Asked.{Checked}
use Rattle.long_texts.specs.Fine.{Found, Counted}

-- a row that is looked at no further
module _ {s N : List ℕ} (x : Row) (n : Notes s N) where
  pub found_other : (x.kind ≡ 11 → ⊥) → Found s N x true
  found_other h = record { fine = λ t k l. absurd (h k); unfit = λ f. clash refl f; true_all = n.true_all }

  pub found_short : x.b < 512 → Found s N x true
  found_short h = record { fine = λ t k l. absurd (omega arith); unfit = λ f. clash refl f; true_all = n.true_all }

abbrev is_fine : Verdict → Bool
is_fine (Ok tt) = true
is_fine (Err m) = false

bad_not : {v : Verdict} {m : Refusal} → v ≡ Err m → v ≡ Ok tt → ⊥
bad_not p q = clash (ap is_fine (sym p ∙ q)) refl

-- the text of a row inside the text bytes, or not
module _ (s : List ℕ) (o n : ℕ) where
  text_outside : length s < o + n → verdict Text s o n ≡ Err Ended
  unfolding verdict
  text_outside h = rw (lt-leb (o + n) (length s) h)

  module _ (h : o ≤ length s) (l : n ≤ length s - o) where
    text_inside : {b : Bool} → well_formed (passage s o (o + n)) ≡ b → verdict Text s o n ≡ fine_if b BadText
    unfolding verdict content_rule
    text_inside t =
        let e : o + n - o ≡ n = omega arith in
        let f : well_formed (part s o n) ≡ _ = rw e at t in
        rw (le-leb (o + n) (length s) (omega arith), f)

-- of a String that is long
module _ {s N : List ℕ} (x : Row) (is : x.kind ≡ 11) (long : 512 ≤ x.b) where
  outside : Notes s N → length s < x.a + x.b → Found s N x false
  outside n h =
      record {
        fine = λ t. clash t refl;
        unfit = λ _. record { string = is; long = long; not_fine = bad_not (text_outside s x.a x.b h) };
        true_all = n.true_all;
      }

  pub found_behind : Notes s N → length s < x.a → Found s N x false
  found_behind n h = outside n (omega arith)

  pub found_longer : Notes s N → x.a ≤ length s → length s - x.a < x.b → Found s N x false
  found_longer n h l = outside n (omega arith)

  pub found_judged : {b : Bool} → x.a ≤ length s → x.b ≤ length s - x.a → Judged s N x.a (x.a + x.b) b → Found s N x b
  found_judged h l j =
      record {
        fine = λ t k m. text_inside s x.a x.b h l (sym j.says ∙ t);
        unfit = λ f. record { string = is; long = long; not_fine = bad_not (text_inside s x.a x.b h l (sym j.says ∙ f)) };
        true_all = j.true_all;
      }

-- where the loop over the rows stands
pub record Going (row : ℕ → Row) (s N : List ℕ) (r : ℕ) : Type 0 where
  pub checked : Checked row s r
  pub true_all : True s N

pub going_first : {row : ℕ → Row} {s N : List ℕ} → Notes s N → Going row s N 0
going_first n = record { checked = record { fine = λ r h. absurd (omega arith) }; true_all = n.true_all }

module _ {row : ℕ → Row} {s N : List ℕ} {r : ℕ} (g : Going row s N r) where
  pub going_notes : {N₀ : List ℕ} → Notes s N₀ → length N ≡ length N₀ → Notes s N
  going_notes n e = record { enough = rw e n.enough; true_all = g.true_all }

  pub going_again : {N' : List ℕ} {x : Row} {b : Bool} → x ≡ row r → Found s N' x b → b ≡ true → Going row s N' (r + 1)
  going_again {x = x} e f t = record { checked = record { fine = λ k h. go k h (eqb k r) refl }; true_all = f.true_all }
    where
      go : (k : ℕ) → k < r + 1 → (b : Bool) → eqb k r ≡ b → (row k).kind ≡ 11 → 512 ≤ (row k).b → verdict Text s (row k).a (row k).b ≡ Ok tt
      go k h true q = rw (eqb-true k r q, ← e) (f.fine t)
      go k h false q = g.checked.fine k (omega (arith, eqb-false k r q))

  module _ {rows : ℕ} (w : r ≤ rows) where
    pub going_done : rows ≤ r → Counted row rows s r
    going_done h = record { checked = g.checked; within = w; stops = λ l. absurd (omega arith) }

    pub going_stopped : {N' : List ℕ} {x : Row} {b : Bool} → x ≡ row r → Found s N' x b → b ≡ false → Counted row rows s r
    going_stopped e f t = record { checked = g.checked; within = w; stops = λ l. rw (← e) (f.unfit t) }

pub ruleset finding =
    (found_other, found_short, found_behind, found_longer, found_judged, going_first, going_notes, going_again, going_done, going_stopped)
