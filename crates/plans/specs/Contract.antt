-- What the functions that judge a plan ask and what they do. Strings are numbered; t gives the text of each. Assumes nothing.
use Rattle.std.specs.Prelude.{ℕ, suc, ◌≤◌, ◌≡◌, Bool, true, ◌&&◌, List, [], ◌∷◌, length, get_or}
use Rattle.std.proofs.Math.Option.{Option, some, none}
use Rattle.draft.specs.Grammar.{Recording, look, after}
use Rattle.draft.specs.Strings.{Text, cost}
use Rattle.plans.specs.Plans.{sent_by, sent_at, valued, may_send}

-- what a book's word says of a position: 0 that it is not set, k + 1 that it holds the text of string k
pub data Spot (t : ℕ → Text) : ℕ → Option Text → Type 0 where
  unset : Spot t 0 none
  holds : {k : ℕ} → Spot t (suc k) (some (t k))

-- the book's words say what the recordings have
pub record Spots (t : ℕ → Text) (book : List ℕ) (R : List Recording) : Type 0 where
  pub at : (q : ℕ) → Spot t (get_or book q 0) (look q R)

-- a book of 256 words names strings before string j alone
pub record Named (j : ℕ) (book : List ℕ) : Type 0 where
  pub room : length book ≡ 256
  pub at : (q : ℕ) → get_or book q 0 ≤ j

-- whether string j may be sent in this form at position p, and if so, the book after it
pub record Sends (t : ℕ → Text) (j form p : ℕ) (book book' : List ℕ) (b : Bool) : Type 0 where
  pub says : (R : List Recording) → Spots t book R → b ≡ (valued form p && may_send R (sent_by form p (t j)))
  pub keeps : (R : List Recording) → Spots t book R → b ≡ true → Spots t book' (after R (sent_by form p (t j) ∷ []))
  pub named : Named (suc j) book'

-- string j takes n bytes
pub record Takes (plan : List ℕ) (j : ℕ) (t : Text) (n : ℕ) : Type 0 where
  pub is : n ≡ cost (sent_at plan j t)
  pub most : n ≤ 65542
