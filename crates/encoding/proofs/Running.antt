-- What answers the returns and turns of the function that puts the items of a run of rows. Assumes nothing.
use Prim.Native.Nat.{ℕ, suc, ◌+◌, ◌-◌, ◌≤◌, ◌<◌}
use mathlib.Core.Path.{◌≡◌, refl, sym, ap, ◌∙◌}
use mathlib.Core.Bool.{Bool, true, false}
use mathlib.Core.List.{List, [], ◌++◌, append_assoc}
use native.Mathlib.Omega.{arith}
use native.Mathlib.Numerals.{add-one}
use mir.Syntax.{w64}
use mir.Val.{Fits}
use lib.ListN.{length, take, drop, length-append, length-take, length-drop}
use lib.Dec.{leb}
use borrow.Author.Tests.{ne_eqb, leb-true, leb-false}
use Rattle.draft.specs.declared.Item.{Item}
use Rattle.draft.specs.declared.Item.TheVariants as item
use Rattle.draft.specs.declared.Content.TheVariants as content
use Rattle.draft.specs.declared.Row.{Row}
use Rattle.draft.specs.Rows.{item_of}
use Rattle.draft.specs.Bytes.{part}
use Rattle.draft.specs.Read.{text_of}
use Rattle.draft.specs.Table.{from}
use Rattle.draft.specs.Grammar.{Sent}
use Rattle.draft.specs.Strings.{texts_of}
use Rattle.draft.specs.Written.{bytes_of, item_bytes, items_of}
use Rattle.buckets.proofs.Numbered.{from_step}
use Rattle.copying.specs.Contract.{Front}
use Rattle.output.specs.Contract.{Tried}
use Rattle.output.proofs.Putting.{front_on, front_long, lsb_four, counted_length}
use Rattle.encoding.specs.Contract.{Between, Ran}

-- the most that an item takes
part_most : (s : List ℕ) (o n : ℕ) → length (part s o n) ≤ length s
part_most s o n = simp (length-take, length-drop) (omega arith)

bytes_most : (s : List ℕ) (i : Item) (x : Row) → length (bytes_of s i x) ≤ 5 + length s
bytes_most s item.Call x = omega arith
bytes_most s item.Response x = omega arith
bytes_most s item.Fault x = omega arith
bytes_most s item.Integer x = omega (arith, lsb_four x.a)
bytes_most s item.Boolean x = omega arith
bytes_most s (item.Content content.Double) x = omega (arith, part_most s x.a x.b)
bytes_most s (item.Content content.DateTime) x = omega (arith, part_most s x.a x.b)
bytes_most s (item.Content content.Binary) x = omega (arith, part_most s x.a x.b, counted_length (text_of s x))
bytes_most s (item.Content content.Text) x = omega arith
bytes_most s item.Array x = omega (arith, lsb_four x.b)
bytes_most s item.Struct x = omega (arith, lsb_four x.b)
bytes_most s item.Other x = omega arith
bytes_most s item.Unknown x = omega arith

pub item_most : (s : List ℕ) (x : Row) → length (item_bytes s x) ≤ 5 + length s
unfolding item_bytes
item_most s x = bytes_most s (item_of x.kind) x

-- a row that is no string's, and the rows behind it
module _ (row : ℕ → Row) (rows : ℕ) {r : ℕ} (h : r < rows) {x : Row} (e : x ≡ row r) (s : List ℕ) (k : x.kind ≡ 11 → ⊥) where
  pub items_other : (fs : List Sent) → items_of s (from row r (rows - r)) fs ≡ item_bytes s x ++ items_of s (from row (suc r) (rows - suc r)) fs
  unfolding items_of
  items_other fs = rw (from_step row r rows h, ← e, ne_eqb _ _ k)

  texts_other : texts_of s (from row r (rows - r)) ≡ texts_of s (from row (suc r) (rows - suc r))
  unfolding texts_of
  texts_other = rw (from_step row r rows h, ← e, ne_eqb _ _ k)

  between_on : {first : ℕ} {xs : List ℕ} → Between row rows s first r xs → Between row rows s first (suc r) (xs ++ item_bytes s x)
  between_on {xs = xs} b =
      record {
        items = λ fs. b.items fs ∙ ap (λ (w : List ℕ). xs ++ w) (items_other fs) ∙ sym (append_assoc xs (item_bytes s x) _);
        texts = b.texts ∙ texts_other;
        within = h;
      }

-- where the run stands: `at` bytes of the output are put, `most` at the most; it was o
pub record Running (row : ℕ → Row) (rows : ℕ) (s : List ℕ) (first most : ℕ) (o : List ℕ) (r at : ℕ) (out : List ℕ) : Type 0 where
  pub done : List ℕ
  pub between : Between row rows s first r done
  pub behind : first ≤ r
  pub front : Front done o out
  pub place : at ≡ length done
  pub within : at ≤ most
  pub long : length out ≡ length o
  pub room : most ≤ length o

pub run_first : (row : ℕ → Row) {rows : ℕ} (s : List ℕ) {first most : ℕ} {o : List ℕ} → first < rows → most ≤ length o → Running row rows s first most o first 0 o
run_first row s h m =
    record {
      done = [];
      between = record { items = λ fs. refl; texts = refl; within = omega arith };
      behind = omega arith;
      front = record { is = refl };
      place = refl;
      within = omega arith;
      long = refl;
      room = m;
    }

module _ {row : ℕ → Row} {rows : ℕ} {s : List ℕ} {first most : ℕ} {o : List ℕ} {r at : ℕ} {out : List ℕ} (i : Running row rows s first most o r at out) where
  pub run_left : at ≤ most
  run_left = i.within

  pub run_part : at ≤ length out
  run_part = omega (arith, i.within, i.long, i.room)

  pub run_room : most - at ≤ length (take (length out - at) (drop at out))
  run_room = simp (length-take, length-drop) (omega (arith, i.long, i.room))

  ended : first < r → Ran row rows s first most o out (record { end = r; bytes = at })
  ended h =
      record {
        bytes = i.done;
        between = i.between;
        further = h;
        long = i.place;
        front = λ k. i.front;
        few = omega (arith, i.within);
      }

  pub run_done : first < rows → rows ≤ r → Ran row rows s first most o out (record { end = rows; bytes = at })
  run_done h l = let q : r ≡ rows = omega (arith, i.between.within) in rw q at (ended (omega arith))

  -- a string ends the run, which has a row
  pub run_string : {x : Row} → ((row first).kind ≡ 11 → ⊥) → x ≡ row r → x.kind ≡ 11 → Ran row rows s first most o out (record { end = r; bytes = at })
  run_string {x} n e k = ended (go (leb r first) refl)
    where
      go : (b : Bool) → leb r first ≡ b → first < r
      go false d = leb-false r first d
      go true d = let f : r ≡ first = omega (arith, leb-true r first d, i.behind) in absurd (n (rw (← f, ← e) k))

  module _ {x : Row} (e : x ≡ row r) (h : r < rows) (k : x.kind ≡ 11 → ⊥) {m : ℕ} {ys : List ℕ} (p : Tried (item_bytes s x) (most - at) (take (length out - at) (drop at out)) ys m) where
    place_here : at + m ≡ length (i.done ++ item_bytes s x)
    place_here = sym (length-append i.done (item_bytes s x) ∙ omega (arith, i.place, p.long))

    pub run_fits : most ≤ 65536 → length s ≤ 65536 → Fits w64 (at + m)
    run_fits g l = omega (arith, p.long, item_most s x, i.within)

    pub run_over : {o' : List ℕ} → length s ≤ 65536 → most - at < m → Ran row rows s first most o o' (record { end = r + 1; bytes = at + m })
    run_over {o'} g l =
        rw add-one
        (record {
          bytes = i.done ++ item_bytes s x;
          between = between_on row rows h e s k i.between;
          further = omega (arith, i.behind);
          long = place_here;
          front = λ q. absurd (omega (arith, i.within));
          few = omega (arith, p.long, item_most s x, i.within);
        })

    module _ (l : m ≤ most - at) where
      front_here : Front (i.done ++ item_bytes s x) o (take at out ++ (ys ++ drop (length out - at) (drop at out)))
      front_here = front_on i.front at (sym i.place) (omega (arith, i.within, i.room)) (p.front l)

      pub run_again : Running row rows s first most o (r + 1) (at + m) (take at out ++ (ys ++ drop (length out - at) (drop at out)))
      run_again =
          rw (add-one r)
          (record {
            done = i.done ++ item_bytes s x;
            between = between_on row rows h e s k i.between;
            behind = omega (arith, i.behind);
            front = front_here;
            place = place_here;
            within = omega (arith, i.within);
            long = front_long front_here (at + m) (sym place_here) (omega (arith, i.within, i.room));
            room = i.room;
          })

pub ruleset running = (run_first, run_left, run_part, run_room, run_done, run_string, run_fits, run_over, run_again)
