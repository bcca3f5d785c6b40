-- Of each bucket of texts the chain of the strings that are the first of their text. Assumes nothing.
use Rattle.std.specs.Prelude.{ℕ, suc, ◌+◌, ◌≤◌, ◌<◌, ◌≡◌, List, length, get_or}
use Rattle.draft.specs.Strings.{Text}
use Rattle.spread.specs.Buckets.{bucket_of}
use Rattle.buckets.specs.Numbered.{First}

-- string k is on the chain from c on: k + 1 stands for string k, behind which comes its link; 0 is the end
pub data On (ns : List ℕ) : ℕ → ℕ → Type 0 where
  here : {k : ℕ} → On ns (suc k) k
  next : (c k : ℕ) → On ns (get_or ns c 0) k → On ns (suc c) k

-- c is 0, or stands for a string below n that is the first of its text
pub record Link (t : ℕ → Text) (n c : ℕ) : Type 0 where
  pub within : c ≤ n
  pub first : (k : ℕ) → c ≡ suc k → First t k k

-- each first string below n links to an older one
pub record Linked (t : ℕ → Text) (n : ℕ) (ns : List ℕ) : Type 0 where
  pub at : (k : ℕ) → k < n → First t k k → Link t k (get_or ns k 0)

-- the chains, by their heads and links: each first string below n is on the chain of its text's bucket
pub record Chains (t : ℕ → Text) (n : ℕ) (hs ns : List ℕ) : Type 0 where
  pub some : 0 < length hs
  pub most : length hs ≤ 4096
  pub heads : (b : ℕ) → Link t n (get_or hs b 0)
  pub links : Linked t n ns
  pub on : (k : ℕ) → k < n → First t k k → On ns (get_or hs (bucket_of (length hs) 0 (t k)) 0) k

-- the chain from c on has the first string of string j's text, if an earlier string has that text
pub record Ahead (t : ℕ → Text) (j : ℕ) (ns : List ℕ) (c : ℕ) : Type 0 where
  pub link : Link t j c
  pub links : Linked t j ns
  pub on : (k : ℕ) → k < j → First t k k → t k ≡ t j → On ns c k

-- string f is the first of string j's text, and the chains have string j too
pub record Found (t : ℕ → Text) (j : ℕ) (hs ns : List ℕ) (f : ℕ) : Type 0 where
  pub first : First t j f
  pub chains : Chains t (j + 1) hs ns
