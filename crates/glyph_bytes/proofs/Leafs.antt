-- Which bytes begin an object without children. Assumes nothing.
use Rattle.std.proofs.Common.{◌≡◌, ◌≢◌, refl, sym, Bool, true, false, cond, List, ℕ, ◌≤◌, ◌<◌, eqb, length, get_or, ne_eqb}
use Rattle.glyph.specs.declared.Edition.{Edition}
use Rattle.glyph.specs.declared.Edition.TheVariants.{New, Old}
use Rattle.glyph.specs.declared.Many.TheVariants as many
use Rattle.glyph.specs.declared.Letter.{Letter}
use Rattle.glyph.specs.declared.Letter.TheVariants.{Many, Unknown}
use Rattle.glyph.specs.Letters.{letter_x, letter_h, letter_of}
use Rattle.glyph_bytes.specs.Leafs.{leaf_by, is_leaf, LeafAt}
use Rattle.glyph_bytes.proofs.Bytes.{get_d_past}

pub leaf_past : {s : List ℕ} {at : ℕ} → length s ≤ at → LeafAt s at false
unfolding letter_of
leaf_past {s} {at} h = record { is = λ e. rw (get_d_past s at h); there = λ i. cc; letter = λ i. cc }

module _ {s : List ℕ} {at : ℕ} (h : at < length s) where
  pub leaf_integer : get_or s at 0 ≡ 105 → LeafAt s at true
  unfolding letter_of leaf_by
  leaf_integer i = record { is = λ e. rw i; there = λ _. h; letter = λ _ e. rw i }

  pub leaf_unicode : get_or s at 0 ≡ 117 → LeafAt s at true
  unfolding letter_of leaf_by
  leaf_unicode i = record { is = λ e. rw i; there = λ _. h; letter = λ _ e. rw i }

  pub leaf_bytes : get_or s at 0 ≡ 98 → LeafAt s at true
  unfolding letter_of leaf_by
  leaf_bytes i = record { is = λ e. rw i; there = λ _. h; letter = λ _ e. rw i }

  pub leaf_true : get_or s at 0 ≡ 84 → LeafAt s at true
  unfolding letter_of leaf_by
  leaf_true i = record { is = λ e. rw i; there = λ _. h; letter = λ _ e. rw i }

  pub leaf_false : get_or s at 0 ≡ 70 → LeafAt s at true
  unfolding letter_of leaf_by
  leaf_false i = record { is = λ e. rw i; there = λ _. h; letter = λ _ e. rw i }

  pub leaf_nil : get_or s at 0 ≡ 78 → LeafAt s at true
  unfolding letter_of leaf_by
  leaf_nil i = record { is = λ e. rw i; there = λ _. h; letter = λ _ e. rw i }

  pub leaf_none :
      get_or s at 0 ≢ 105 → get_or s at 0 ≢ 117 → get_or s at 0 ≢ 98 → get_or s at 0 ≢ 84 → get_or s at 0 ≢ 70 → get_or s at 0 ≢ 78 → LeafAt s at false
  unfolding letter_of
  leaf_none a b c d f g =
      record {
        is = λ e. rw (ne_eqb _ _ a, ne_eqb _ _ b, ne_eqb _ _ c, ne_eqb _ _ d, ne_eqb _ _ f, ne_eqb _ _ g) (sym (others e));
        there = λ n. cc;
        letter = λ n. cc;
      }
    where
      either : (x : Bool) (p q : Letter) → is_leaf p ≡ false → is_leaf q ≡ false → is_leaf (cond x p q) ≡ false
      either true p q f g = f
      either false p q f g = g

      x_none : (e : Edition) → is_leaf (letter_x e) ≡ false
      x_none New = refl
      x_none Old = refl

      h_none : (e : Edition) → is_leaf (letter_h e) ≡ false
      h_none New = refl
      h_none Old = refl

      others :
          (e : Edition)
          → is_leaf (cond (eqb (get_or s at 0) 76) (Many many.List) (cond (eqb (get_or s at 0) 68) (Many many.Dict) (cond (eqb (get_or s at 0) 79) (Many many.Ordered)
          (cond (eqb (get_or s at 0) 88) (letter_x e) (cond (eqb (get_or s at 0) 72) (letter_h e) Unknown)))))
          ≡ false
      others e = either (eqb (get_or s at 0) 76) _ _ refl (either (eqb (get_or s at 0) 68) _ _ refl (either (eqb (get_or s at 0) 79) _ _ refl (either (eqb (get_or s at 0) 88) _ _ (x_none e) (either (eqb (get_or s at 0) 72) _ _ (h_none e) refl))))

pub ruleset leafs = (leaf_past, leaf_integer, leaf_unicode, leaf_bytes, leaf_true, leaf_false, leaf_nil, leaf_none)
