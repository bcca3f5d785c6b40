-- What documents 02's E1 and E7 ask of a Struct's members, said without the keys seen so far: two members of a fault, and keys that are distinct.
-- Assumes nothing.
use Rattle.std.specs.Prelude.{◌≡◌, ◌≢◌, List, [], ◌∷◌, ◌++◌, ℕ, ◌<◌, length, get_or}
use Rattle.draft.specs.Bytes.{bytes}
use Rattle.draft.specs.Content.{Held, string, integer}
use Rattle.draft.specs.Grammar.{Cell, Sent, Pair}

-- 'faultCode, an Integer, and faultString, a String, in either order': the items below a fault's Struct, and no more
pub data TwoMembers : List Held → Type 0 where
  code_first : (t : List ℕ) → TwoMembers (string (bytes "faultCode") ∷ integer ∷ string (bytes "faultString") ∷ string t ∷ [])
  message_first : (t : List ℕ) → TwoMembers (string (bytes "faultString") ∷ string t ∷ string (bytes "faultCode") ∷ integer ∷ [])

-- pairs of String and Value with these keys, in order, whichever way each key is sent; nothing is asked of the keys
pub data PairsWith (d : ℕ) : List (List ℕ) → List ℕ → List Cell → List Sent → Type 0 where
  no_pair : PairsWith d [] [] [] []
  and_pair :
      {keys : List (List ℕ)} {t xs ys zs : List ℕ} {us vs ws : List Cell} {fs gs hs : List Sent}
      → Pair d t xs us fs
      → PairsWith d keys ys vs gs
      → zs ≡ xs ++ ys
      → ws ≡ us ++ vs
      → hs ≡ fs ++ gs
      → PairsWith d (t ∷ keys) zs ws hs

-- any two keys, at different places in the order of the pairs, differ as bytes
abbrev pub Distinct : List (List ℕ) → Type 0
Distinct keys = (i j : ℕ) → i < j → j < length keys → get_or keys i [] ≢ get_or keys j []
