-- Each row that a reading gives takes a byte at least, of a Value that is no Array and no Struct. Assumes nothing.
use mathlib.Core.Path.{◌≡◌}
use mathlib.Core.Bool.{Bool, true, false, cond}
use mathlib.Core.List.{List, ◌++◌}
use Prim.Native.Nat.{ℕ, ◌+◌, ◌≤◌}
use native.Mathlib.Omega.{arith}
use lib.ListN.{length, length-append, get_or}
use lib.Dec.{leb, ltb, eqb}
use Rattle.draft.specs.declared.Refusal.{Refusal}
use Rattle.draft.specs.declared.Refusal.TheVariants.{Ended, UnexpectedByte, NoRow}
use Rattle.draft.specs.Verdict.{Verdict}
use Rattle.std.specs.Prelude.{Ok, Err}
use Rattle.draft.specs.declared.Content.{Content}
use Rattle.draft.specs.declared.Content.TheVariants as content
use Rattle.std.specs.Prelude.{Some, None}
use Rattle.draft.specs.declared.Tag.{Tag}
use Rattle.draft.specs.declared.Tag.TheVariants.{Plain, String, Array, Struct, Unknown}
use Rattle.draft.specs.declared.Plain.{Plain as PlainItem}
use Rattle.draft.specs.declared.Plain.TheVariants.{Integer, True, False, Double, DateTime, Binary, Other}
use Rattle.draft.specs.declared.Form.{Form}
use Rattle.draft.specs.declared.Form.TheVariants.{Regular, Recorded, Recalled}
use Rattle.draft.specs.declared.Row.{Row}
use Rattle.draft.specs.Content.{verdict, name_rule}
use Rattle.draft.specs.Codebook.{Entry, Book}
use Rattle.draft.specs.Read.{Reading, got, refused, Reader, opened, pair, then, behind, over, judged, contents, long_item, recalled, string_item, if_string, string, only, first_text, string_by, name, plain_item, item, floor, tag_of}

abbrev Takes : ℕ → Reading → Type 0
Takes at (refused m q) = Unit {0}
Takes at (got rows to book) = at + length rows ≤ to

pick_takes : (at : ℕ) (b : Bool) (o : Reading) (m : Refusal) (q : ℕ) → Takes at o → Takes at (cond b o (refused m q))
pick_takes at true o m q i = i
pick_takes at false o m q i = tt

judged_takes : (at : ℕ) (v : Verdict) (q : ℕ) (o : Reading) → Takes at o → Takes at (judged v q o)
judged_takes at (Ok tt) q o i = i
judged_takes at (Err m) q o i = tt

over_takes : (k b r at : ℕ) (o : Reading) → Takes (at + 1) o → Takes at (over k b r o)
over_takes k b r at (refused m q) i = tt
over_takes k b r at (got rows to book) i = omega arith

behind_takes : (at to : ℕ) (rows : List Row) (o : Reading) → at + length rows ≤ to → Takes to o → Takes at (behind rows o)
behind_takes at to rows (refused m q) h i = tt
behind_takes at to rows (got others end book) h i = let n : length (rows ++ others) ≡ length rows + length others = length-append rows others in omega arith

pair_takes : (f g : Reader) (at r : ℕ) (book : Book) → Takes at (f at r book) → ((to r : ℕ) (book : Book) → Takes to (g to r book)) → Takes at (pair f g at r book)
unfolding pair
pair_takes f g at r book h k = go (f at r book) h
  where
    go : (o : Reading) → Takes at o → Takes at (then o (λ rows to book'. behind rows (g to (r + length rows) book')))
    go (refused m q) i = tt
    go (got rows to book') i = behind_takes at to rows (g to (r + length rows) book') i (k to (r + length rows) book')

module _ (s : List ℕ) (room : ℕ) where
  opened_takes : (size at r : ℕ) (o : Reading) → Takes at o → Takes at (opened s room size at r o)
  opened_takes size at r o i = pick_takes at (ltb r room) _ NoRow at (pick_takes at (leb (at + size) (length s)) o Ended at i)

  contents_takes : (c : Content) (o n at r : ℕ) (book : Book) → at + 1 ≤ o → Takes at (contents s room c o n at r book)
  unfolding contents
  contents_takes c o n at r book h = judged_takes at (verdict c s o n) at _ (omega arith)

  recalled_takes : (e : Entry) (at r : ℕ) (book : Book) → Takes at (recalled s room e at r book)
  recalled_takes None at r book = tt
  recalled_takes (Some x) at r book = omega arith

  string_item_takes : (f : Form) (at r : ℕ) (book : Book) → Takes at (string_item s room f at r book)
  string_item_takes Regular at r book = opened_takes 5 at r _ (contents_takes _ _ _ at r _ (omega arith))
  string_item_takes Recorded at r book = opened_takes 6 at r _ (contents_takes _ _ _ at r _ (omega arith))
  string_item_takes Recalled at r book = opened_takes 2 at r _ (recalled_takes (book (get_or s (at + 1) 0)) at r book)

  if_string_takes : (t : Tag) (at r : ℕ) (book : Book) → Takes at (if_string s room t at r book)
  if_string_takes (String f) at r book = string_item_takes f at r book
  if_string_takes (Plain x) at r book = tt
  if_string_takes Array at r book = tt
  if_string_takes Struct at r book = tt
  if_string_takes Unknown at r book = tt

  string_takes : (at r : ℕ) (book : Book) → Takes at (string s room at r book)
  unfolding string
  string_takes at r book = pick_takes at (ltb at (length s)) _ Ended at (if_string_takes (tag_of (get_or s at 0)) at r book)

  name_takes : (q at r : ℕ) (book : Book) → Takes at (name s room q at r book)
  unfolding string_by
  name_takes q at r book = go (string s room at r book) (string_takes at r book)
    where
      go : (o : Reading) → Takes at o → Takes at (then o (λ rows to book'. judged (name_rule (first_text s room rows)) q (got rows to book')))
      go (refused m p) i = tt
      go (got rows to book') i = judged_takes at (name_rule (first_text s room rows)) q (got rows to book') i

  binary_takes : (at r : ℕ) (book : Book) → Takes at (only s room 66 (long_item s room content.Binary) at r book)
  unfolding only
  binary_takes at r book = pick_takes at (ltb at (length s)) _ Ended at (pick_takes at (eqb (get_or s at 0) 66) _ UnexpectedByte at (opened_takes 5 at r _ (contents_takes _ _ _ at r _ (omega arith))))

  plain_takes : (x : PlainItem) (at r : ℕ) (book : Book) → Takes at (plain_item s room x at r book)
  plain_takes Integer at r book = opened_takes 5 at r _ (omega arith)
  plain_takes True at r book = opened_takes 1 at r _ (omega arith)
  plain_takes False at r book = opened_takes 1 at r _ (omega arith)
  plain_takes Double at r book = opened_takes 2 at r _ (contents_takes _ _ _ at r _ (omega arith))
  plain_takes DateTime at r book = opened_takes 2 at r _ (contents_takes _ _ _ at r _ (omega arith))
  plain_takes Binary at r book = opened_takes 5 at r _ (contents_takes _ _ _ at r _ (omega arith))
  plain_takes Other at r book =
      opened_takes 1 at r _
      (over_takes 12 2 r at (pair (name s room at) (only s room 66 (long_item s room content.Binary)) (at + 1) (r + 1) book) (pair_takes (name s room at) (only s room 66 (long_item s room content.Binary)) (at + 1) (r + 1) book (name_takes at (at + 1) (r + 1) book) binary_takes))

  pub scalar_takes : (t : Tag) (at r : ℕ) (book : Book) {rows : List Row} {to : ℕ} {book' : Book} → item s room t floor at r book ≡ got rows to book' → at + length rows ≤ to
  scalar_takes t at r book e = rw e at (go t)
    where
      go : (t : Tag) → Takes at (item s room t floor at r book)
      go (Plain x) = plain_takes x at r book
      go (String f) = string_item_takes f at r book
      go Array = tt
      go Struct = tt
      go Unknown = tt
