-- What E9's answers and refusals speak of, for two sources: a card and the job's defaults. Assumes nothing.
use Rattle.std.specs.Prelude.{◌≡◌, true, List, ℕ, ◌+◌, ◌≤◌, length}
use Rattle.std.specs.Borrow.{Bor}
use Rattle.draft.specs.Bytes.{part}
use Rattle.member.specs.declared.Member.{Member}
use Rattle.member.specs.Members.{is_struct}
use Rattle.choice.specs.Choosing.{byte_of}
use Rattle.defaults.specs.Defaults.{Source, row_in, is_writable}
use Rattle.demands_lookups.specs.Asked.{NoStruct, Has, Without, kind_in}

-- a writable table, and a Struct's row
pub record Fit (c : Source) : Type 0 where
  pub writes : is_writable c ≡ true
  pub structs : is_struct (row_in c) c.rows c.row ≡ true

-- 'either row is no Struct', 'neither has the key', or 'the one found is no String'
pub data NoText (card defaults : Source) (key : List ℕ) : Type 0 where
  card_no_struct : NoStruct card → NoText card defaults key
  defaults_no_struct : NoStruct defaults → NoText card defaults key
  neither : Without card key → Without defaults key → NoText card defaults key
  card_no_string : (m : Member) → Has card key m → (kind_in card m ≡ 11 → ⊥) → NoText card defaults key
  defaults_no_string : Without card key → (m : Member) → Has defaults key m → (kind_in defaults m ≡ 11 → ⊥) → NoText card defaults key

-- r is the n bytes at o of the slice s, all of them there: that part of that slice, not only bytes like it
pub record Lies (s : Bor (List ℕ)) (o n : ℕ) (r : Bor (List ℕ)) : Type 0 where
  pub inside : o + n ≤ length s.now
  pub bytes : r.now ≡ part s.now o n
  pub first : r.ref_ptr ≡ byte_of s o
