-- What the functions say of strings, and of the strings of rows. Assumes nothing.
use Rattle.std.specs.Prelude.{ℕ, ◌+◌, ◌*◌, ◌≤◌, ◌<◌, ◌≡◌, Bool, List, [], length, replicate, leb}
use Rattle.draft.specs.Table.{from}
use Rattle.texts.specs.Contract.{news}
use Rattle.prices.specs.Prices.{total, bound}
use Rattle.draft.specs.declared.Row.{Row}
use Rattle.draft.specs.Strings.{Text, texts_of}
use Rattle.certificate.specs.Certificate.{certified_texts}

-- the heads of chains that have no text yet
pub record Heads (hs : List ℕ) : Type 0 where
  pub clear : hs ≡ replicate (length hs) 0
  pub some : 0 < length hs
  pub most : length hs ≤ 4096

-- whether the bound of the prices reaches a cost, of the first n strings, if their different texts take at most 65,536 bytes
pub record Reaches (t : ℕ → Text) (n : ℕ) (prices : List ℕ) (paid : ℕ) (b : Bool) : Type 0 where
  pub says : news [] (from t 0 n) ≤ 65536 → b ≡ leb (paid + 256 * total prices) (bound prices (from t 0 n))

pub record Judged (s : List ℕ) (rows : List Row) (plan prices : List ℕ) (b : Bool) : Type 0 where
  pub is : b ≡ certified_texts plan prices (texts_of s rows)
