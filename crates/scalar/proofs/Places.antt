-- Where the reading of a Value that nests nothing ends, or is refused, is in the message. Assumes nothing.
use mathlib.Core.Path.{◌≡◌, refl}
use mathlib.Core.Bool.{Bool, true, false, cond}
use mathlib.Core.List.{List}
use Prim.Native.Nat.{ℕ, ◌+◌, ◌≤◌, ◌<◌}
use lib.Dec.{leb, ltb, eqb}
use lib.ListN.{length}
use borrow.Author.Tests.{leb-true, ltb-true}
use Rattle.draft.specs.declared.Refusal.TheVariants.{Ended, NoRow}
use Rattle.draft.specs.Verdict.{Verdict}
use Rattle.std.specs.Prelude.{Ok, Err}
use Rattle.draft.specs.declared.Content.{Content}
use Rattle.draft.specs.declared.Content.TheVariants as content
use Rattle.std.specs.Prelude.{Some, None}
use Rattle.draft.specs.declared.Tag.{Tag}
use Rattle.draft.specs.declared.Tag.TheVariants.{Plain, String, Array, Struct, Unknown}
use Rattle.draft.specs.declared.Plain.TheVariants.{Integer, True, False, Double, DateTime, Binary, Other}
use Rattle.draft.specs.declared.Form.TheVariants.{Regular, Recorded, Recalled}
use Rattle.draft.specs.declared.Row.{Row}
use Rattle.draft.specs.Bytes.{byte_at}
use Rattle.draft.specs.Codebook.{Entry, Book}
use Rattle.draft.specs.Content.{verdict, all_there, content_rule, name_rule}
use Rattle.draft.specs.Read.{Reading, got, refused, Reader, then, judged, behind, pair, over, opened, present, contents, long_item, recalled, if_string, string, first_text, string_by, name, only, floor, item, tag_of}

-- where a reading ends, or is refused
abbrev pub In : List ℕ → Reading → Type 0
In s (refused m p) = p ≤ length s
In s (got rows to book) = to ≤ length s

pick_in : (s : List ℕ) (b : Bool) (x y : Reading) → (b ≡ true → In s x) → In s y → In s (cond b x y)
pick_in s true x y f g = f refl
pick_in s false x y f g = g

over_in : (s : List ℕ) (k b r : ℕ) (o : Reading) → In s o → In s (over k b r o)
over_in s k b r (refused m p) i = i
over_in s k b r (got rows to book) i = i

behind_in : (s : List ℕ) (rows : List Row) (o : Reading) → In s o → In s (behind rows o)
behind_in s rows (refused m p) i = i
behind_in s rows (got others to book) i = i

judged_in : (s : List ℕ) (v : Verdict) (at : ℕ) (o : Reading) → at ≤ length s → In s o → In s (judged v at o)
judged_in s (Ok tt) at o h i = i
judged_in s (Err m) at o h i = h

then_in : (s : List ℕ) (o : Reading) (more : List Row → ℕ → Book → Reading) → In s o → ((rows : List Row) (to : ℕ) (book : Book) → to ≤ length s → In s (more rows to book)) → In s (then o more)
then_in s (refused m p) more i f = i
then_in s (got rows to book) more i f = f rows to book i

there_in : (s : List ℕ) (b : Bool) (v : Verdict) (at : ℕ) (o : Reading) → at ≤ length s → (b ≡ true → In s o) → In s (judged (all_there b v) at o)
there_in s true v at o h f = judged_in s v at o h (f refl)
there_in s false v at o h f = h

module _ (s : List ℕ) (room : ℕ) where
  present_in : (at : ℕ) (o : Reading) → at ≤ length s → (at < length s → In s o) → In s (present s room at o)
  present_in at o h f = pick_in s (ltb at (length s)) o _ (λ e. f (ltb-true at (length s) e)) h

  opened_in : (size at r : ℕ) (o : Reading) → at ≤ length s → (at + size ≤ length s → In s o) → In s (opened s room size at r o)
  opened_in size at r o h f =
      pick_in s (ltb r room) (cond (leb (at + size) (length s)) o (refused Ended at)) (refused NoRow at) (λ _. pick_in s (leb (at + size) (length s)) o (refused Ended at) (λ e. f (leb-true (at + size) (length s) e)) h) h

  contents_in : (c : Content) (o n at r : ℕ) (book : Book) → at ≤ length s → In s (contents s room c o n at r book)
  unfolding contents verdict
  contents_in c o n at r book h = there_in s (leb (o + n) (length s)) (content_rule c _) at _ h (λ e. leb-true (o + n) (length s) e)

  recalled_in : (e : Entry) (at r : ℕ) (book : Book) → at ≤ length s → at + 2 ≤ length s → In s (recalled s room e at r book)
  recalled_in None at r book h k = h
  recalled_in (Some x) at r book h k = k

  if_string_in : (t : Tag) (at r : ℕ) (book : Book) → at ≤ length s → In s (if_string s room t at r book)
  if_string_in (String Regular) at r book h = opened_in 5 at r _ h (λ _. contents_in content.Text _ _ at r book h)
  if_string_in (String Recorded) at r book h = opened_in 6 at r _ h (λ _. contents_in content.Text _ _ at r _ h)
  if_string_in (String Recalled) at r book h = opened_in 2 at r _ h (λ k. recalled_in (book (byte_at s (at + 1))) at r book h k)
  if_string_in (Plain x) at r book h = h
  if_string_in Array at r book h = h
  if_string_in Struct at r book h = h
  if_string_in Unknown at r book h = h

  string_in : (at r : ℕ) (book : Book) → at ≤ length s → In s (string s room at r book)
  unfolding string
  string_in at r book h = present_in at _ h (λ _. if_string_in (tag_of (byte_at s at)) at r book h)

  judged_string_in : (rule : List ℕ → Verdict) (o at r : ℕ) (book : Book) → o ≤ length s → at ≤ length s → In s (string_by s room rule o at r book)
  unfolding string_by
  judged_string_in rule o at r book k h = then_in s (string s room at r book) _ (string_in at r book h) (λ rows to book' l. judged_in s (rule (first_text s room rows)) o (got rows to book') k l)

  only_in : (b : ℕ) (f : Reader) (at r : ℕ) (book : Book) → at ≤ length s → In s (f at r book) → In s (only s room b f at r book)
  unfolding only
  only_in b f at r book h i = present_in at _ h (λ _. pick_in s (eqb (byte_at s at) b) (f at r book) _ (λ _. i) h)

  long_in : (c : Content) (at r : ℕ) (book : Book) → at ≤ length s → In s (long_item s room c at r book)
  long_in c at r book h = opened_in 5 at r _ h (λ _. contents_in c _ _ at r book h)

  pair_in : (f g : Reader) (at r : ℕ) (book : Book) → In s (f at r book) → ((to r' : ℕ) (book' : Book) → to ≤ length s → In s (g to r' book')) → In s (pair f g at r book)
  unfolding pair
  pair_in f g at r book i k = then_in s (f at r book) _ i (λ rows to book' l. behind_in s rows (g to (r + length rows) book') (k to (r + length rows) book' l))

  pub item_in : (t : Tag) (at r : ℕ) (book : Book) → at ≤ length s → In s (item s room t floor at r book)
  item_in (Plain Integer) at r book h = opened_in 5 at r _ h (λ k. k)
  item_in (Plain True) at r book h = opened_in 1 at r _ h (λ k. k)
  item_in (Plain False) at r book h = opened_in 1 at r _ h (λ k. k)
  item_in (Plain Double) at r book h = opened_in 2 at r _ h (λ _. contents_in content.Double _ _ at r book h)
  item_in (Plain DateTime) at r book h = opened_in 2 at r _ h (λ _. contents_in content.DateTime _ _ at r book h)
  item_in (Plain Binary) at r book h = long_in content.Binary at r book h
  item_in (Plain Other) at r book h =
      opened_in 1 at r _ h
      (λ k. over_in s 12 2 r (pair (name s room at) binary (at + 1) (r + 1) book)
      (pair_in (name s room at) binary (at + 1) (r + 1) book
      (judged_string_in name_rule at (at + 1) (r + 1) book h k)
      (λ to r' book' l. only_in 66 (long_item s room content.Binary) to r' book' l (long_in content.Binary to r' book' l))))
    where
      binary : Reader
      binary = only s room 66 (long_item s room content.Binary)
  item_in (String form) at r book h = if_string_in (String form) at r book h
  item_in Array at r book h = h
  item_in Struct at r book h = h
  item_in Unknown at r book h = h
