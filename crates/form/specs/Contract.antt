-- What is found before a form is put. Assumes nothing.
use Rattle.std.specs.Prelude.{ℕ, ◌≤◌, ◌<◌, ◌≡◌, Bool, true, false, List, [], length, leb}
use Rattle.draft.specs.declared.Row.{Row}
use Rattle.draft.specs.Table.{from}
use Rattle.draft.specs.Strings.{Text, kept}
use Rattle.draft.specs.Written.{written}
use Rattle.buckets.specs.Numbered.{Firsts}
use Rattle.texts.specs.Contract.{news}
use Rattle.positions.specs.Contract.{Slots}
use Rattle.message.specs.Contract.{Known}

-- of n strings the first of each text and the positions are known, or their texts alone cost over 65,536
pub record Settled (t : ℕ → Text) (n : ℕ) (fs sp : List ℕ) (b : Bool) : Type 0 where
  pub says : b ≡ leb (news [] (from t 0 n)) 65536
  pub firsts : b ≡ true → Firsts t n fs
  pub slots : b ≡ true → Slots (kept (from t 0 n)) t n sp
  pub room : b ≡ true → n ≤ length fs
  pub room_spots : b ≡ true → n ≤ length sp

-- it is known how each string of the rows is sent, or their texts alone make the form too long
pub record Prepared (row : ℕ → Row) (rows : ℕ) (s W fs sp : List ℕ) (b : Bool) : Type 0 where
  pub known : b ≡ true → Known row rows s W fs sp
  pub dear : b ≡ false → 65536 < length (written s (from row 0 rows))
