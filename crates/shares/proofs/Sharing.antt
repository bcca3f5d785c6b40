-- What request E10 says of two stations, of any call that keeps the length of what it is lent: the share's words, all others, and the order of
-- two calls. Assumes nothing.
use mathlib.Core.Path.{◌≡◌, refl, sym, ◌∙◌, ap}
use mathlib.Core.Bool.{true, false}
use mathlib.Core.Logic.{◌↔◌}
use mathlib.Core.List.{List}
use Prim.Native.Nat.{ℕ, ◌+◌, ◌*◌, ◌/◌, ◌≤◌, ◌<◌}
use native.Mathlib.Omega.{arith}
use lib.ListN.{length, take, drop, length-drop}
use lib.Seq.{length-take-le}
use borrow.Author.Tests.{lt-ltb}
use Rattle.shares.specs.declared.Station.{Station}
use Rattle.shares.specs.declared.Station.TheVariants.{Four, Five}
use Rattle.shares.specs.Share.{splits, first_word, other, size_of, share_of, lying, on_share, table_on}
use Rattle.shares.proofs.Lent.{above, below}
use Rattle.shares.proofs.Lying.{length_lying, take_lying, drop_lying, part_lying, exchanged}

-- a row number splits a table exactly if it is neither 0 nor as large as the number of whole rows
pub splits_exactly : (split words : ℕ) → (splits split words ≡ true) ↔ ((0 < split) × (split < words / 4))
unfolding splits
splits_exactly split words = (λ h. (above split words h, below split words h), λ h. simp (lt-ltb _ _ h.0, lt-ltb _ _ h.1))

pub size_fits : (s : Station) (split words : ℕ) → split < words / 4 → first_word s split + size_of s split words ≤ words
unfolding size_of
size_fits Four split words h = omega arith
size_fits Five split words h = omega arith

pub in_rows : (s : Station) (split words : ℕ) → split < words / 4 → first_word s split + size_of s split words ≤ words / 4 * 4
unfolding size_of
in_rows Four split words h = omega arith
in_rows Five split words h = omega arith

pub four_size : (split words : ℕ) → size_of Four split words ≡ split * 4
unfolding size_of
four_size split words = omega arith

-- a call on a table of which a row number splits off shares, that leaves xs in its share, as many words as were there
module _ (s : Station) (split : ℕ) (T : List ℕ) (ok : splits split (length T) ≡ true) where
  fits : first_word s split + size_of s split (length T) ≤ length T
  fits = size_fits s split (length T) (below split (length T) ok)

  pub share_size : length (share_of s split T) ≡ size_of s split (length T)
  unfolding share_of
  share_size =
      length-take-le (size_of s split (length T)) (drop (first_word s split) T) (omega (arith, fits, length-drop (first_word s split) T))

  share_part : (U : List ℕ) → length U ≡ length T → share_of s split U ≡ take (size_of s split (length T)) (drop (first_word s split) U)
  unfolding share_of
  share_part U l = rw l

  pub given_there : {A : Type 0} (given : List ℕ → A) (otherwise : A) → on_share s split T given otherwise ≡ given (share_of s split T)
  unfolding on_share
  given_there given otherwise = rw ok

  module _ (after : List ℕ → List ℕ) (keeps : length (after (share_of s split T)) ≡ length (share_of s split T)) where
    same_size : length (after (share_of s split T)) ≡ size_of s split (length T)
    same_size = keeps ∙ share_size

    lies : table_on s split T after ≡ lying (first_word s split) (size_of s split (length T)) (after (share_of s split T)) T
    unfolding table_on
    lies = given_there (λ (W : List ℕ). lying (first_word s split) (size_of s split (length T)) (after W) T) T

    -- the table keeps its length, and so every share its place
    pub same_length : length (table_on s split T after) ≡ length T
    same_length = ap length lies ∙ length_lying _ _ _ T fits same_size

    pub own_words : share_of s split (table_on s split T after) ≡ after (share_of s split T)
    own_words =
        share_part (table_on s split T after) same_length
        ∙ ap (λ (U : List ℕ). take (size_of s split (length T)) (drop (first_word s split) U)) lies
        ∙ part_lying (first_word s split) (size_of s split (length T)) (after (share_of s split T)) T fits same_size

    pub words_before : (k : ℕ) → k ≤ first_word s split → take k (table_on s split T after) ≡ take k T
    words_before k h =
        ap (take k) lies ∙ take_lying (first_word s split) (size_of s split (length T)) (after (share_of s split T)) T fits same_size k h

    pub words_behind :
        (k : ℕ) → first_word s split + size_of s split (length T) ≤ k → drop k (table_on s split T after) ≡ drop k T
    words_behind k h =
        ap (drop k) lies ∙ drop_lying (first_word s split) (size_of s split (length T)) (after (share_of s split T)) T fits same_size k h

four_stays : (split : ℕ) (T U : List ℕ) → take (split * 4) U ≡ take (split * 4) T → share_of Four split U ≡ share_of Four split T
unfolding share_of
four_stays split T U e = rw (four_size split (length U), four_size split (length T)) e

five_stays :
    (split : ℕ) (T U : List ℕ) → length U ≡ length T → drop (split * 4) U ≡ drop (split * 4) T → share_of Five split U ≡ share_of Five split T
unfolding share_of
five_stays split T U l e = rw (l, e)

-- a station changes no word of the other's share
pub other_words :
    (s : Station) (split : ℕ) (T : List ℕ) → splits split (length T) ≡ true → (after : List ℕ → List ℕ)
    → length (after (share_of s split T)) ≡ length (share_of s split T)
    → share_of (other s) split (table_on s split T after) ≡ share_of (other s) split T
other_words Four split T ok after keeps =
    five_stays split T (table_on Four split T after) (same_length Four split T ok after keeps)
    (words_behind Four split T ok after keeps (split * 4) (omega (arith, four_size split (length T))))
other_words Five split T ok after keeps =
    four_stays split T (table_on Five split T after) (words_before Five split T ok after keeps (split * 4) (omega arith))

-- 22 leaves every word, and nothing but what was to be told then
pub unsplit_words : (s : Station) (split : ℕ) (T : List ℕ) (after : List ℕ → List ℕ) → splits split (length T) ≡ false → table_on s split T after ≡ T
unfolding table_on on_share
unsplit_words s split T after h = rw h

pub unsplit_told :
    {A : Type 0} (s : Station) (split : ℕ) (T : List ℕ) (given : List ℕ → A) (otherwise : A) → splits split (length T) ≡ false
    → on_share s split T given otherwise ≡ otherwise
unfolding on_share
unsplit_told s split T given otherwise h = rw h

-- calls of the two stations, in either order
module _
    (split : ℕ) (T : List ℕ) (ok : splits split (length T) ≡ true) (four five : List ℕ → List ℕ)
    (keeps-four : length (four (share_of Four split T)) ≡ length (share_of Four split T))
    (keeps-five : length (five (share_of Five split T)) ≡ length (share_of Five split T)) where
  after_four : List ℕ
  after_four = table_on Four split T four

  after_five : List ℕ
  after_five = table_on Five split T five

  five_then :
      (U : List ℕ) → length U ≡ length T → share_of Five split U ≡ share_of Five split T
      → table_on Five split U five ≡ lying (split * 4) (size_of Five split (length T)) (five (share_of Five split T)) U
  unfolding table_on on_share
  five_then U l e = rw (l, ok, e)

  four_then :
      (U : List ℕ) → length U ≡ length T → share_of Four split U ≡ share_of Four split T
      → table_on Four split U four ≡ lying 0 (split * 4) (four (share_of Four split T)) U
  unfolding table_on on_share
  four_then U l e = rw (l, ok, e, four_size split (length T))

  pub tables_commute : table_on Five split (table_on Four split T four) five ≡ table_on Four split (table_on Five split T five) four
  tables_commute =
      let n : length (four (share_of Four split T)) ≡ split * 4 = keeps-four ∙ share_size Four split T ok ∙ four_size split (length T) in
      five_then (table_on Four split T four) (same_length Four split T ok four keeps-four) (other_words Four split T ok four keeps-four)
      ∙ ap (lying (split * 4) (size_of Five split (length T)) (five (share_of Five split T))) (four_then T refl refl)
      ∙ exchanged (split * 4) (size_of Five split (length T)) (four (share_of Four split T)) (five (share_of Five split T)) T n (omega (arith, below split (length T) ok))
      ∙ ap (lying 0 (split * 4) (four (share_of Four split T))) (sym (five_then T refl refl))
      ∙ sym (four_then (table_on Five split T five) (same_length Five split T ok five keeps-five) (other_words Five split T ok five keeps-five))

same_told :
    {A : Type 0} (s : Station) (split : ℕ) (T U : List ℕ) (given : List ℕ → A) (otherwise : A) → length U ≡ length T
    → share_of s split U ≡ share_of s split T → on_share s split U given otherwise ≡ on_share s split T given otherwise
unfolding on_share
same_told s split T U given otherwise l e = rw (l, e)

-- what the other station did changes nothing of what a call for this one gives
pub told_stays :
    {A : Type 0} (s : Station) (split : ℕ) (T : List ℕ) → splits split (length T) ≡ true → (after : List ℕ → List ℕ)
    → length (after (share_of (other s) split T)) ≡ length (share_of (other s) split T) → (given : List ℕ → A) (otherwise : A)
    → on_share s split (table_on (other s) split T after) given otherwise ≡ on_share s split T given otherwise
told_stays Four split T ok after keeps given otherwise =
    same_told Four split T (table_on Five split T after) given otherwise (same_length Five split T ok after keeps)
    (other_words Five split T ok after keeps)
told_stays Five split T ok after keeps given otherwise =
    same_told Five split T (table_on Four split T after) given otherwise (same_length Four split T ok after keeps)
    (other_words Four split T ok after keeps)
