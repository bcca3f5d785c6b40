-- The tests within an item come in their order: each item opens with its fixed fields, and its content is looked at behind them. Assumes nothing.
use mathlib.Core.Path.{◌≡◌, refl, sym, ap, ◌∙◌}
use mathlib.Core.List.{List}
use Prim.Native.Nat.{ℕ, zero, suc, ◌+◌, ◌≤◌, ◌<◌}
use native.Mathlib.Omega.{arith}
use lib.ListN.{length}
use borrow.Author.Tests.{lt-ltb, le-ltb, le-leb, lt-leb}
use Rattle.draft.specs.declared.Refusal.{Refusal}
use Rattle.draft.specs.declared.Refusal.TheVariants.{Ended, UnexpectedByte, UnsetPosition, TooDeep, NoRow}
use Rattle.draft.specs.declared.Content.{Content}
use Rattle.draft.specs.declared.Content.TheVariants as content
use Rattle.draft.specs.declared.Tag.{Tag}
use Rattle.draft.specs.declared.Tag.TheVariants as tag
use Rattle.draft.specs.declared.Plain.TheVariants as plain
use Rattle.draft.specs.declared.Form.TheVariants.{Regular, Recorded, Recalled}
use Rattle.std.specs.Prelude.{Some, None}
use Rattle.draft.specs.Bytes.{byte_at, unsigned_at, part}
use Rattle.draft.specs.Rows.{kind_of}
use Rattle.draft.specs.Content.{content_rule, verdict}
use Rattle.draft.specs.Codebook.{Entry, Book}
use Rattle.draft.specs.Read.{Reading, refused, judged, leaf, opened, contents as read-contents, recalled as recalledEntry, item, value, nested}
use Rattle.wanting.specs.Want.{fields_of, announced}
use Rattle.exact.proofs.Completing.{value_is}
use Rattle.exact.proofs.Deriving.{refused_got}
use Rattle.demands_reading.specs.Placed.{Begun, short_text}
use Rattle.demands_reading.specs.Ordered.{Nesting, Allowed, Ordered}

-- a message's bytes, and the rows that there is room for
module _ (s : List ℕ) (room : ℕ) where
  -- content that ends behind the bytes, and that is there
  contents_cut : (c : Content) (o n at r : ℕ) (book : Book) → length s < o + n → read-contents s room c o n at r book ≡ refused Ended at
  unfolding verdict read-contents
  contents_cut c o n at r book h = rw (lt-leb (o + n) (length s) h)

  contents_there :
      (c : Content) (o n at r : ℕ) (book : Book) → o + n ≤ length s
      → read-contents s room c o n at r book ≡ judged (content_rule c (part s o n)) at (leaf (kind_of c) o n r (o + n) book)
  unfolding verdict read-contents
  contents_there c o n at r book h = rw (le-leb (o + n) (length s) h)

  -- an item that opens with the fields of its tag, and then has the content that they announce
  record View (t : Tag) (at r : ℕ) (o : Reading) : Type 0 where
    rest : Reading
    is : o ≡ opened s room (fields_of t) at r rest
    cut : at + fields_of t ≤ length s → length s < at + fields_of t + announced s at t → rest ≡ refused Ended at

  item_view : (t : Tag) (deep at r : ℕ) (book : Book) → Allowed t deep → View t at r (item s room t (nested s room deep) at r book)
  unfolding nested
  item_view (tag.Plain plain.Integer) deep at r book a = record { rest = _; is = refl; cut = λ j k. absurd (omega (arith, j, k)) }
  item_view (tag.Plain plain.True) deep at r book a = record { rest = _; is = refl; cut = λ j k. absurd (omega (arith, j, k)) }
  item_view (tag.Plain plain.False) deep at r book a = record { rest = _; is = refl; cut = λ j k. absurd (omega (arith, j, k)) }
  item_view (tag.Plain plain.Double) deep at r book a =
      record { rest = _; is = refl; cut = λ j k. contents_cut content.Double (at + 2) (byte_at s (at + 1)) at r book k }
  item_view (tag.Plain plain.DateTime) deep at r book a =
      record { rest = _; is = refl; cut = λ j k. contents_cut content.DateTime (at + 2) (byte_at s (at + 1)) at r book k }
  item_view (tag.Plain plain.Binary) deep at r book a =
      record { rest = _; is = refl; cut = λ j k. contents_cut content.Binary (at + 5) (unsigned_at s (at + 1)) at r book k }
  item_view (tag.Plain plain.Other) deep at r book a = record { rest = _; is = refl; cut = λ j k. absurd (omega (arith, j, k)) }
  item_view (tag.String Regular) deep at r book a =
      record { rest = _; is = refl; cut = λ j k. contents_cut content.Text (at + 5) (unsigned_at s (at + 1)) at r book k }
  item_view (tag.String Recorded) deep at r book a =
      record { rest = _; is = refl; cut = λ j k. contents_cut content.Text (at + 6) (unsigned_at s (at + 2)) at r _ k }
  item_view (tag.String Recalled) deep at r book a = record { rest = _; is = refl; cut = λ j k. absurd (omega (arith, j, k)) }
  item_view tag.Array zero at r book a = absurd (omega (arith, a))
  item_view tag.Array (suc deep) at r book a = record { rest = _; is = refl; cut = λ j k. absurd (omega (arith, j, k)) }
  item_view tag.Struct zero at r book a = absurd (omega (arith, a))
  item_view tag.Struct (suc deep) at r book a = record { rest = _; is = refl; cut = λ j k. absurd (omega (arith, j, k)) }
  item_view tag.Unknown deep at r book a = absurd a

  module _ (deep at r : ℕ) (book : Book) where
    absent : length s ≤ at → value s room deep at r book ≡ refused Ended at
    absent h = value_is s room deep at r book ∙ rw (le-ltb at (length s) h)

    module _ (t : Tag) (b : Begun s at t) (h : at < length s) where
      by_item : value s room deep at r book ≡ item s room t (nested s room deep) at r book
      by_item = value_is s room deep at r book ∙ rw (lt-ltb at (length s) h, b)

      too_deep : Nesting t → deep ≡ 0 → item s room t (nested s room deep) at r book ≡ refused TooDeep at
      unfolding nested
      too_deep n e = rw e (go t n)
        where
          go : (t : Tag) → Nesting t → item s room t (nested s room 0) at r book ≡ refused TooDeep at
          go tag.Array n = refl
          go tag.Struct n = refl
          go (tag.Plain x) n = absurd n
          go (tag.String form) n = absurd n
          go tag.Unknown n = absurd n

      module _ (a : Allowed t deep) where
        view : View t at r (item s room t (nested s room deep) at r book)
        view = item_view t deep at r book a

        row_first : room ≤ r → value s room deep at r book ≡ refused NoRow at
        row_first k = by_item ∙ view.is ∙ rw (le-ltb r room k)

        module _ (k : r < room) where
          fields_cut : length s < at + fields_of t → value s room deep at r book ≡ refused Ended at
          fields_cut j = by_item ∙ view.is ∙ rw (lt-ltb r room k, lt-leb (at + fields_of t) (length s) j)

          fields_there : at + fields_of t ≤ length s → value s room deep at r book ≡ view.rest
          fields_there j = by_item ∙ view.is ∙ rw (lt-ltb r room k, le-leb (at + fields_of t) (length s) j)

    -- a recall that is there, by what its position holds
    recall_there :
        Begun s at (tag.String Recalled) → r < room → at + 2 ≤ length s
        → value s room deep at r book ≡ recalledEntry s room (book (byte_at s (at + 1))) at r book
    recall_there b k j = by_item (tag.String Recalled) b (omega (arith, j)) ∙ rw (lt-ltb r room k, le-leb (at + 2) (length s) j)

    unset_only : (x : Entry) {m : Refusal} → recalledEntry s room x at r book ≡ refused m at → x ≡ None
    unset_only None e = refl
    unset_only (Some y) e = refused_got (sym e)

    -- WITHIN AN ITEM, of whatever tag.
    pub ordered : (t : Tag) → Begun s at t → Ordered s room deep at r book t
    ordered t b = record {
      absent = λ h. record { why = Ended; is = absent h; numbered = refl };
      three = λ h e. record { why = UnexpectedByte; is = by_item t b h ∙ rw e; numbered = refl };
      eight = λ h n e. record { why = TooDeep; is = by_item t b h ∙ too_deep t b h n e; numbered = refl };
      nine = λ h a k. record { why = NoRow; is = row_first t b h a k; numbered = refl };
      fields = λ h a k j. record { why = Ended; is = fields_cut t b h a k j; numbered = refl };
      content = λ h a k j l. record { why = Ended; is = fields_there t b h a k j ∙ (view t b h a).cut j l; numbered = refl };
      six = λ e k j.
          let i = recall_there (b ∙ e) k j in (
            λ h. unset_only (book (byte_at s (at + 1))) (sym i ∙ h.is),
            λ u. record { why = UnsetPosition; is = i ∙ ap (λ (x : Entry). recalledEntry s room x at r book) u; numbered = refl },
          );
    }

    -- a Double or a DateTime that is there is judged by its content's rule
    pub double_there :
        Begun s at (tag.Plain plain.Double) → r < room → at + 2 + byte_at s (at + 1) ≤ length s
        → value s room deep at r book
        ≡ judged (content_rule content.Double (short_text s at)) at (leaf 6 (at + 2) (byte_at s (at + 1)) r (at + 2 + byte_at s (at + 1)) book)
    double_there b k j =
        by_item (tag.Plain plain.Double) b (omega (arith, j))
        ∙ rw (lt-ltb r room k, le-leb (at + 2) (length s) (omega (arith, j))) (contents_there content.Double (at + 2) (byte_at s (at + 1)) at r book j)

    pub datetime_there :
        Begun s at (tag.Plain plain.DateTime) → r < room → at + 2 + byte_at s (at + 1) ≤ length s
        → value s room deep at r book
        ≡ judged (content_rule content.DateTime (short_text s at)) at (leaf 7 (at + 2) (byte_at s (at + 1)) r (at + 2 + byte_at s (at + 1)) book)
    datetime_there b k j =
        by_item (tag.Plain plain.DateTime) b (omega (arith, j))
        ∙ rw (lt-ltb r room k, le-leb (at + 2) (length s) (omega (arith, j))) (contents_there content.DateTime (at + 2) (byte_at s (at + 1)) at r book j)
