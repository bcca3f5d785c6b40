-- How many bytes a message wants, where no item begins, where one has its fields cut, and where its content is. Assumes nothing.
use mathlib.Core.Path.{◌≡◌, ◌∙◌}
use mathlib.Core.Bool.{cond}
use mathlib.Core.List.{List}
use Prim.Native.Nat.{ℕ, ◌+◌, ◌≤◌, ◌<◌}
use lib.ListN.{length}
use lib.Dec.{leb}
use borrow.Author.Tests.{le-leb, lt-leb}
use Rattle.draft.specs.declared.Tag.{Tag}
use Rattle.draft.specs.Bytes.{byte_at}
use Rattle.draft.specs.Read.{tag_of}
use Rattle.wanting.specs.Want.{fields_of, announced, want_of}

module _ (s : List ℕ) (at : ℕ) where
  pub want_none : length s ≤ at → want_of s at ≡ length s + 1
  unfolding want_of
  want_none h = rw (le-leb (length s) at h)

  module _ (t : Tag) (e : tag_of (byte_at s at) ≡ t) (h : at < length s) where
    pub want_there : want_of s at ≡ cond (leb (at + fields_of t) (length s)) (at + fields_of t + announced s at t) (at + fields_of t)
    unfolding want_of
    want_there = rw (e, lt-leb (length s) at h)

    pub want_fields : length s < at + fields_of t → want_of s at ≡ at + fields_of t
    want_fields k = want_there ∙ rw (lt-leb (at + fields_of t) (length s) k)

    pub want_content : at + fields_of t ≤ length s → want_of s at ≡ at + fields_of t + announced s at t
    want_content k = want_there ∙ rw (le-leb (at + fields_of t) (length s) k)
