-- What answers the returns and turns of the functions that measure and put the message that a plan sends. Assumes nothing.
use Prim.Native.Nat.{ℕ, suc, ◌+◌, ◌-◌, ◌*◌, ◌≤◌, ◌<◌}
use mathlib.Core.Path.{◌≡◌, refl, sym, ap, ◌∙◌}
use mathlib.Core.List.{List, [], ◌++◌, append_assoc, append-nil}
use native.Mathlib.Omega.{arith}
use native.Mathlib.Nat.{sub-zero}
use native.Mathlib.Numerals.{add-one}
use mir.Syntax.{w64}
use mir.Val.{Fits}
use lib.ListN.{length, take, drop, length-append, length-take, length-drop}
use borrow.Author.Tests.{eq-eqb}
use Rattle.draft.specs.declared.Row.{Row}
use Rattle.draft.specs.Read.{prefix}
use Rattle.draft.specs.Table.{from}
use Rattle.draft.specs.Strings.{Text}
use Rattle.draft.specs.Written.{string_bytes, item_bytes, items_of, message_of}
use Rattle.extents.specs.Asked.{Ready}
use Rattle.buckets.specs.Numbered.{numbered_text, Through}
use Rattle.buckets.proofs.Numbered.{from_step, from_none}
use Rattle.buckets.proofs.Comparing.{through}
use Rattle.copying.specs.Contract.{Front}
use Rattle.output.specs.Contract.{Put}
use Rattle.output.proofs.Putting.{front_on, front_long}
use Rattle.sending.specs.Contract.{Collected}
use Rattle.sending.proofs.Collecting.{strings_there}
use Rattle.sending.proofs.Sending.{string_cost}
use Rattle.encoding.specs.declared.Run.{Run}
use Rattle.encoding.specs.Contract.{Ran}
use Rattle.encoding.proofs.Running.{item_most, items_other}
use Rattle.message.proofs.Writing.{Stands, stands_first, string_there, next_string_lem, next_other, next_run}
use Rattle.plans.specs.Plans.{sent_at, sents_from, planned}
use Rattle.plans.specs.Contract.{Takes}
use Rattle.plan_message.specs.Contract.{planned_items, Known}

-- the items from row r on, where the next string is string j of n
abbrev rest : (ℕ → Row) → ℕ → List ℕ → List ℕ → List ℕ → ℕ → ℕ → ℕ → List ℕ
rest row rows s W plan n r j = items_of s (from row r (rows - r)) (sents_from plan j (from (numbered_text row W s) j (n - j)))

-- string j, as it is sent
abbrev bytes_at : (ℕ → Row) → List ℕ → List ℕ → List ℕ → ℕ → List ℕ
bytes_at row s W plan j = string_bytes (sent_at plan j (numbered_text row W s j))

module _ {row : ℕ → Row} {rows : ℕ} {s W : List ℕ} (plan : List ℕ) {n r j : ℕ} (i : Stands row rows s W n r j) (h : r < rows) {x : Row} (e : x ≡ row r) where
  rest_string : x.kind ≡ 11 → rest row rows s W plan n r j ≡ bytes_at row s W plan j ++ rest row rows s W plan n (suc r) (suc j)
  unfolding items_of sents_from
  rest_string k = rw (from_step row r rows h, ← e, eq-eqb _ _ k, from_step (numbered_text row W s) j n (string_there i h e k))

  rest_other : (x.kind ≡ 11 → ⊥) → rest row rows s W plan n r j ≡ item_bytes s x ++ rest row rows s W plan n (suc r) j
  rest_other k = items_other row rows h e s k _

rest_first : {row : ℕ → Row} {rows : ℕ} (s plan : List ℕ) {W : List ℕ} {n : ℕ} → Collected row rows W n → planned_items s (from row 0 rows) plan ≡ rest row rows s W plan n 0 0
unfolding planned_items
rest_first {row} {rows} s plan c = rw (sub-zero, sub-zero) (ap (λ (ts : List Text). items_of s (from row 0 rows) (sents_from plan 0 ts)) (c.texts s))

rest_none : (row : ℕ → Row) (rows : ℕ) (s W plan : List ℕ) (n r j : ℕ) → rows ≤ r → rest row rows s W plan n r j ≡ []
unfolding items_of
rest_none row rows s W plan n r j h = rw (from_none row r rows h)

planned_is : (s : List ℕ) (xs : List Row) (plan : List ℕ) → planned s xs plan ≡ prefix ++ planned_items s xs plan
unfolding planned message_of planned_items
planned_is s xs plan = refl

planned_long : (s : List ℕ) (xs : List Row) (plan : List ℕ) → length (planned s xs plan) ≡ 12 + length (planned_items s xs plan)
planned_long s xs plan = ap length (planned_is s xs plan) ∙ length-append prefix (planned_items s xs plan)

-- a string that is next
module _ {row : ℕ → Row} {rows : ℕ} {s W plan : List ℕ} {r j : ℕ} {x : Row} (k : Known row rows s W plan) (i : Stands row rows s W k.count r j) (h : r < rows) (e : x ≡ row r) (f : x.kind ≡ 11) where
  through_there : {room words : ℕ} → Ready rows room words → Through room words j W
  through_there y = through (strings_there y k.strings) (string_there i h e f)

  plan_there : j * 2 + 1 < length plan
  plan_there = let l = string_there i h e f in omega (arith, k.room)

-- where the measuring stands
pub record Measuring (row : ℕ → Row) (rows : ℕ) (s W plan : List ℕ) (r j sum : ℕ) : Type 0 where
  pub known : Known row rows s W plan
  pub stands : Stands row rows s W known.count r j
  pub so_far_lem : sum + length (rest row rows s W plan known.count r j) ≡ length (planned s (from row 0 rows) plan)
  pub small : sum ≤ 12 + r * 65542

pub measure_first : {row : ℕ → Row} {rows : ℕ} {s W plan : List ℕ} → Known row rows s W plan → Measuring row rows s W plan 0 0 12
measure_first {row} {rows} {s} {W} {plan} k =
    record {
      known = k;
      stands = stands_first s k.strings;
      so_far_lem = omega (arith, planned_long s (from row 0 rows) plan, ap length (rest_first s plan k.strings));
      small = omega arith;
    }

module _ {row : ℕ → Row} {rows : ℕ} {s W plan : List ℕ} {r j sum : ℕ} (i : Measuring row rows s W plan r j sum) where
  pub measure_done : rows ≤ r → sum ≡ length (planned s (from row 0 rows) plan)
  measure_done h = omega (arith, i.so_far_lem, ap length (rest_none row rows s W plan i.known.count r j h))

  pub measure_short : length s ≤ 65536
  measure_short = i.known.short

  module _ {x : Row} (e : x ≡ row r) (h : r < rows) where
    module _ (k : x.kind ≡ 11) where
      pub measure_plan : j * 2 + 1 < length plan
      measure_plan = plan_there i.known i.stands h e k

      pub measure_through : {room words : ℕ} → Ready rows room words → Through room words j W
      measure_through y = through_there i.known i.stands h e k y

      pub measure_string : {m : ℕ} → Takes plan j (numbered_text row W s j) m → Measuring row rows s W plan (r + 1) (j + 1) (sum + m)
      measure_string {m} l =
          rw (add-one r, add-one j)
          (record {
            known = i.known;
            stands = next_string_lem i.stands h e k;
            so_far_lem =
                omega
                (arith, i.so_far_lem, l.is, string_cost (sent_at plan j (numbered_text row W s j)), ap length (rest_string plan i.stands h e k) ∙ length-append (bytes_at row s W plan j) (rest row rows s W plan i.known.count (suc r) (suc j)));
            small = omega (arith, i.small, l.most);
          })

    pub measure_other : {m : ℕ} → (x.kind ≡ 11 → ⊥) → m ≡ length (item_bytes s x) → Measuring row rows s W plan (r + 1) j (sum + m)
    measure_other {m} k l =
        rw add-one
        (record {
          known = i.known;
          stands = next_other i.stands h e k;
          so_far_lem = omega (arith, i.so_far_lem, ap length (rest_other plan i.stands h e k) ∙ length-append (item_bytes s x) (rest row rows s W plan i.known.count (suc r) j));
          small = omega (arith, i.small, item_most s x, i.known.short);
        })

  module _ {room words : ℕ} (y : Ready rows room words) (h : r < rows) where
    pub measure_fits : {m : ℕ} → Takes plan j (numbered_text row W s j) m → Fits w64 (sum + m)
    measure_fits l = omega (arith, l.most, i.small, y.stated, y.most)

    pub measure_item_fits : {m : ℕ} (x : Row) → m ≡ length (item_bytes s x) → Fits w64 (sum + m)
    measure_item_fits x l = omega (arith, item_most s x, i.known.short, i.small, y.stated, y.most)

-- where the writing stands; `most` bytes are room enough
pub record Writing (row : ℕ → Row) (rows : ℕ) (s W plan : List ℕ) (most : ℕ) (o : List ℕ) (r j at : ℕ) (out : List ℕ) : Type 0 where
  pub known : Known row rows s W plan
  pub stands : Stands row rows s W known.count r j
  pub done : List ℕ
  pub split : planned_items s (from row 0 rows) plan ≡ done ++ rest row rows s W plan known.count r j
  pub front : Front done o out
  pub place : at ≡ length done
  pub long : length out ≡ length o
  pub room : length (planned_items s (from row 0 rows) plan) ≤ most
  pub within : most ≤ length o
  pub few : most ≤ 65536

pub write_first : {row : ℕ → Row} {rows : ℕ} {s W plan : List ℕ} {most : ℕ} {o : List ℕ} → Known row rows s W plan → length (planned_items s (from row 0 rows) plan) ≤ most → most ≤ length o → most ≤ 65536 → Writing row rows s W plan most o 0 0 0 o
write_first {s = s} {plan = plan} k h l m =
    record {
      known = k;
      stands = stands_first s k.strings;
      done = [];
      split = rest_first s plan k.strings;
      front = record { is = refl };
      place = refl;
      long = refl;
      room = h;
      within = l;
      few = m;
    }

module _ {row : ℕ → Row} {rows : ℕ} {s W plan : List ℕ} {most : ℕ} {o : List ℕ} {r j at : ℕ} {out : List ℕ} (i : Writing row rows s W plan most o r j at out) where
  left_long : length (planned_items s (from row 0 rows) plan) ≡ at + length (rest row rows s W plan i.known.count r j)
  left_long = ap length i.split ∙ length-append i.done _ ∙ omega (arith, i.place)

  pub write_left : at ≤ most
  write_left = omega (arith, left_long, i.room)

  pub write_start : at ≤ length out
  write_start = omega (arith, write_left, i.long, i.within)

  pub write_short : length s ≤ 65536
  write_short = i.known.short

  pub write_done : rows ≤ r → Put (planned_items s (from row 0 rows) plan) o out at
  write_done h =
      let q : planned_items s (from row 0 rows) plan ≡ i.done = i.split ∙ rw (rest_none row rows s W plan i.known.count r j h) (append-nil i.done) in
      record { front = rw q i.front; long = i.place ∙ ap length (sym q) }

  -- an item xs put behind what is there
  module _ (xs more : List ℕ) (e : rest row rows s W plan i.known.count r j ≡ xs ++ more) where
    fits_here : at + length xs ≤ most
    fits_here = omega (arith, left_long, i.room, ap length e ∙ length-append xs more)

    room_here : length xs ≤ length (take (length out - at) (drop at out))
    room_here = simp (length-take, length-drop) (omega (arith, fits_here, i.long, i.within))

    module _ {ys : List ℕ} {m : ℕ} (p : Put xs (take (length out - at) (drop at out)) ys m) where
      front_here : Front (i.done ++ xs) o (take at out ++ (ys ++ drop (length out - at) (drop at out)))
      front_here = front_on i.front at (sym i.place) (omega (arith, fits_here, i.within)) p.front

      place_here : at + m ≡ length (i.done ++ xs)
      place_here = sym (length-append i.done xs ∙ omega (arith, i.place, p.long))

      count_here : Fits w64 (at + m)
      count_here = omega (arith, i.few, fits_here, p.long)

      put_here : {r' j' : ℕ} → Stands row rows s W i.known.count r' j' → more ≡ rest row rows s W plan i.known.count r' j' → Writing row rows s W plan most o r' j' (at + m) (take at out ++ (ys ++ drop (length out - at) (drop at out)))
      put_here g q =
          record {
            known = i.known;
            stands = g;
            done = i.done ++ xs;
            split = i.split ∙ ap (λ (w : List ℕ). i.done ++ w) (e ∙ ap (λ (w : List ℕ). xs ++ w) q) ∙ sym (append_assoc i.done xs _);
            front = front_here;
            place = place_here;
            long = front_long front_here (at + m) (sym place_here) (omega (arith, fits_here, p.long, i.within));
            room = i.room;
            within = i.within;
            few = i.few;
          }

  module _ {x : Row} (e : x ≡ row r) (h : r < rows) where
    module _ (k : x.kind ≡ 11) where
      pub write_plan : j * 2 + 1 < length plan
      write_plan = plan_there i.known i.stands h e k

      pub write_through : {room words : ℕ} → Ready rows room words → Through room words j W
      write_through y = through_there i.known i.stands h e k y

      pub write_room : length (string_bytes (sent_at plan j (numbered_text row W s j))) ≤ length (take (length out - at) (drop at out))
      write_room = room_here (bytes_at row s W plan j) _ (rest_string plan i.stands h e k)

      module _ {m : ℕ} {ys : List ℕ} (p : Put (string_bytes (sent_at plan j (numbered_text row W s j))) (take (length out - at) (drop at out)) ys m) where
        pub write_fits : Fits w64 (at + m)
        write_fits = count_here (bytes_at row s W plan j) _ (rest_string plan i.stands h e k) p

        pub write_string : Writing row rows s W plan most o (r + 1) (j + 1) (at + m) (take at out ++ (ys ++ drop (length out - at) (drop at out)))
        write_string = rw (add-one r, add-one j) (put_here (bytes_at row s W plan j) _ (rest_string plan i.stands h e k) p (next_string_lem i.stands h e k) refl)

    pub write_other : (x.kind ≡ 11 → ⊥) → (row r).kind ≡ 11 → ⊥
    write_other f k = f (rw e k)

  pub run_room : most - at ≤ length (take (length out - at) (drop at out))
  run_room = simp (length-take, length-drop) (omega (arith, i.long, i.within))

  pub run_few : most - at ≤ 65536
  run_few = omega (arith, i.few)

  module _ {ys : List ℕ} {run : Run} (p : Ran row rows s r (most - at) (take (length out - at) (drop at out)) ys run) where
    run_put : Put p.bytes (take (length out - at) (drop at out)) ys run.bytes
    run_put =
        record {
          front = p.front (omega (arith, fits_here p.bytes _ (p.between.items _), p.long));
          long = p.long;
        }

    pub run_fits : Fits w64 (at + run.bytes)
    run_fits = count_here p.bytes _ (p.between.items _) run_put

    pub run_less : r < rows → rows - run.end < rows - r
    run_less h = omega (arith, p.further)

    pub run_again : Writing row rows s W plan most o run.end j (at + run.bytes) (take at out ++ (ys ++ drop (length out - at) (drop at out)))
    run_again = put_here p.bytes _ (p.between.items _) run_put (next_run i.stands p.between) refl

-- the first bytes, and the items behind them
module _ (s : List ℕ) (xs : List Row) (plan : List ℕ) {n : ℕ} (z : n ≡ length (planned s xs plan)) where
  pub message_least : 12 ≤ n
  message_least = omega (arith, planned_long s xs plan)

  pub message_items : length (planned_items s xs plan) ≤ n - 12
  message_items = omega (arith, planned_long s xs plan)

  pub message_start : {l : ℕ} → n ≤ l → 12 ≤ l
  message_start h = omega (arith, message_least)

  module _ {o o₁ : List ℕ} (f : Front prefix o o₁) (h : n ≤ length o) where
    pub message_on : 12 ≤ length o₁
    message_on = omega (arith, front_long f 12 refl (message_start h), message_start h)

    pub message_room : n - 12 ≤ length (take (length o₁ - 12) (drop 12 o₁))
    message_room = simp (length-take, length-drop) (omega (arith, front_long f 12 refl (message_start h)))

    module _ {ys : List ℕ} {m : ℕ} (p : Put (planned_items s xs plan) (take (length o₁ - 12) (drop 12 o₁)) ys m) where
      pub message_fits : n ≤ 65536 → Fits w64 (12 + m)
      message_fits l = omega (arith, planned_long s xs plan, p.long)

      pub message_put : Put (planned s xs plan) o (take 12 o₁ ++ (ys ++ drop (length o₁ - 12) (drop 12 o₁))) (12 + m)
      message_put =
          record {
            front = rw (planned_is s xs plan) (front_on f 12 refl (message_start h) p.front);
            long = omega (arith, planned_long s xs plan, p.long);
          }
