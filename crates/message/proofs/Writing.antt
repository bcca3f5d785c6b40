-- What answers the returns and turns of the functions that measure and put a row's item, and all items. Assumes nothing.
use Prim.Native.Nat.{ℕ, suc, ◌+◌, ◌-◌, ◌*◌, ◌≤◌, ◌<◌}
use mathlib.Core.Path.{◌≡◌, refl, sym, ap, ◌∙◌}
use mathlib.Core.Bool.{Bool, true, false, cond}
use mathlib.Core.List.{List, [], ◌∷◌, ◌++◌, append_assoc, append-nil}
use native.Mathlib.Omega.{arith}
use native.Mathlib.Nat.{sub-zero}
use native.Mathlib.Numerals.{add-one}
use mir.Syntax.{w64}
use mir.Val.{Fits}
use lib.ListN.{length, get_or, take, drop, length-append, length-take, length-drop, take-append-drop}
use lib.Seq.{length-take-le, drop-drop}
use lib.Dec.{ltb, leb}
use borrow.Author.Tests.{eq-eqb, ne_eqb, eqb-true, eqb-false, leb-true, leb-false}
use Rattle.draft.specs.declared.Row.{Row}
use Rattle.draft.specs.Read.{prefix, text_of}
use Rattle.draft.specs.Table.{from}
use Rattle.draft.specs.Grammar.{Sent, regular, recorded, recalled}
use Rattle.draft.specs.Strings.{Text, is_string, texts_of, kept, sent_of, sents, cost}
use Rattle.draft.specs.Written.{string_bytes, item_bytes, items_of, message_of, written}
use Rattle.extents.specs.Asked.{Ready}
use Rattle.buckets.specs.Numbered.{numbered_text, Through, before}
use Rattle.positions.specs.Contract.{told, Ready as Told}
use Rattle.buckets.proofs.Numbered.{from_step, from_none}
use Rattle.buckets.proofs.Comparing.{text_short, through}
use Rattle.positions.proofs.Choosing.{told_is}
use Rattle.copying.specs.Contract.{Front}
use Rattle.output.specs.Contract.{Put, Tried}
use Rattle.output.proofs.Putting.{front_on, front_long, front_drop, front_take}
use Rattle.encoding.specs.declared.Run.{Run}
use Rattle.encoding.specs.Contract.{Between, Ran}
use Rattle.encoding.proofs.Running.{item_most, items_other}
use Rattle.sending.specs.Contract.{Collected, Takes}
use Rattle.message.specs.Contract.{planned, Known, row_bytes, next_string, Asked, Long, Fitted}
use Rattle.message.specs.Filled.{Most}
use Rattle.sending.proofs.Collecting.{texts_string, texts_other, strings_there}
use Rattle.sending.proofs.Sending.{string_cost}

-- the most that a string takes
cost_most : (x y : Bool) (p : ℕ) (t : Text) → cost (cond x (cond y (recalled p t) (recorded p t)) (regular t)) ≤ 6 + length t
unfolding cost
cost_most true true p t = omega arith
cost_most true false p t = omega arith
cost_most false y p t = omega arith

string_most : (row : ℕ → Row) (W s fs sp : List ℕ) (j : ℕ) → length (string_bytes (told fs sp j (numbered_text row W s j))) ≤ 6 + length s
unfolding told
string_most row W s fs sp j =
    omega (arith, string_cost (told fs sp j (numbered_text row W s j)), cost_most (ltb (get_or sp (get_or fs j 0) 0) 256) (ltb (get_or fs j 0) j) (get_or sp (get_or fs j 0) 0) (numbered_text row W s j), text_short row W s j)

-- the items from row r on, where the next string is string j of n
abbrev rest : (ℕ → Row) → ℕ → List ℕ → List ℕ → ℕ → ℕ → ℕ → List ℕ
rest row rows s W n r j =
    items_of s (from row r (rows - r)) (sents (kept (texts_of s (from row 0 rows))) (before (numbered_text row W s) j) (from (numbered_text row W s) j (n - j)))

-- the strings from row r on are those from string j on
pub record Stands (row : ℕ → Row) (rows : ℕ) (s W : List ℕ) (n r j : ℕ) : Type 0 where
  pub left : texts_of s (from row r (rows - r)) ≡ from (numbered_text row W s) j (n - j)
  pub within : r ≤ rows
  pub strings : j ≤ n

pub stands_first : {row : ℕ → Row} {rows : ℕ} (s : List ℕ) {W : List ℕ} {n : ℕ} → Collected row rows W n → Stands row rows s W n 0 0
stands_first s c = record { left = rw (sub-zero, sub-zero) (c.texts s); within = omega arith; strings = omega arith }

module _ {row : ℕ → Row} {rows : ℕ} {s W : List ℕ} {n r j : ℕ} (i : Stands row rows s W n r j) (h : r < rows) {x : Row} (e : x ≡ row r) where
  module _ (k : x.kind ≡ 11) where
    here : text_of s x ∷ texts_of s (from row (suc r) (rows - suc r)) ≡ from (numbered_text row W s) j (n - j)
    here = sym (texts_string row rows r h e s k) ∙ i.left

    pub string_there : j < n
    string_there = go (leb n j) refl
      where
        go : (b : Bool) → leb n j ≡ b → j < n
        go false f = leb-false n j f
        go true f =
            let z : from (numbered_text row W s) j (n - j) ≡ [] = from_none (numbered_text row W s) j n (leb-true n j f) in
            let g : ◌≡◌ {A = ℕ} 0 1 = no (here ∙ z) in
            absurd (omega arith)
          where
            no : {t : Text} {ts : List Text} → t ∷ ts ≡ [] → ◌≡◌ {A = ℕ} 0 1
            no q = cc

    pub next_string_lem : Stands row rows s W n (suc r) (suc j)
    next_string_lem = record { left = tails (here ∙ from_step (numbered_text row W s) j n string_there); within = h; strings = string_there }
      where
        tails : {t u : Text} {ts us : List Text} → t ∷ ts ≡ u ∷ us → ts ≡ us
        tails q = cc

    rest_string : rest row rows s W n r j ≡ string_bytes (sent_of (kept (texts_of s (from row 0 rows))) (before (numbered_text row W s) j) (numbered_text row W s j)) ++ rest row rows s W n (suc r) (suc j)
    unfolding items_of sents before
    rest_string = rw (from_step row r rows h, ← e, eq-eqb _ _ k, from_step (numbered_text row W s) j n string_there)

  module _ (k : x.kind ≡ 11 → ⊥) where
    pub next_other : Stands row rows s W n (suc r) j
    next_other = record { left = sym (texts_other row rows r h e s k) ∙ i.left; within = h; strings = i.strings }

    rest_other : rest row rows s W n r j ≡ item_bytes s x ++ rest row rows s W n (suc r) j
    rest_other = items_other row rows h e s k _

-- behind a run of rows that are no strings
module _ {row : ℕ → Row} {rows : ℕ} {s W : List ℕ} {n r j end : ℕ} {xs : List ℕ} (i : Stands row rows s W n r j) (b : Between row rows s r end xs) where
  pub next_run : Stands row rows s W n end j
  next_run = record { left = sym b.texts ∙ i.left; within = b.within; strings = i.strings }

rest_first : {row : ℕ → Row} {rows : ℕ} (s : List ℕ) {W : List ℕ} {n : ℕ} → Collected row rows W n → planned s (from row 0 rows) ≡ rest row rows s W n 0 0
unfolding planned before
rest_first {row} {rows} s {W} {n} c =
    rw (sub-zero, sub-zero)
    (ap (λ (ts : List Text). items_of s (from row 0 rows) (sents (kept (texts_of s (from row 0 rows))) [] ts)) (c.texts s))

rest_none : (row : ℕ → Row) (rows : ℕ) (s W : List ℕ) (n r j : ℕ) → rows ≤ r → rest row rows s W n r j ≡ []
unfolding items_of
rest_none row rows s W n r j h = rw (from_none row r rows h)

pub written_is : (s : List ℕ) (xs : List Row) → written s xs ≡ prefix ++ planned s xs
unfolding written message_of planned
written_is s xs = refl

-- a string that is next
module _ {row : ℕ → Row} {rows : ℕ} {s W fs sp : List ℕ} {r j : ℕ} {x : Row} (k : Known row rows s W fs sp) (i : Stands row rows s W k.count r j) (h : r < rows) (e : x ≡ row r) where
  told_there : x.kind ≡ 11 → Told fs sp j
  told_there f =
      let l = string_there i h e f in
      record { first = omega (arith, k.room); spot = omega (arith, k.room_spots); earlier = (k.firsts.at j l).within }

  rest_told : x.kind ≡ 11 → rest row rows s W k.count r j ≡ string_bytes (told fs sp j (numbered_text row W s j)) ++ rest row rows s W k.count (suc r) (suc j)
  rest_told f =
      rest_string i h e f
      ∙ ap (λ (u : Sent). string_bytes u ++ rest row rows s W k.count (suc r) (suc j)) (sym (told_is (kept (texts_of s (from row 0 rows))) (numbered_text row W s) j k.firsts k.slots (string_there i h e f)))

  asked_there : {room words : ℕ} → Ready rows room words → Asked room words s W fs sp j x
  asked_there y = record { told = told_there; there = λ f. through (strings_there y k.strings) (string_there i h e f); short = k.short }

  -- what row r adds, and what comes behind it
  stands_row : Stands row rows s W k.count (suc r) (next_string j x)
  unfolding next_string
  stands_row = go (is_string x) refl
    where
      go : (b : Bool) → is_string x ≡ b → Stands row rows s W k.count (suc r) (cond b (suc j) j)
      go true q = next_string_lem i h e (eqb-true x.kind 11 q)
      go false q = next_other i h e (eqb-false x.kind 11 q)

  rest_row : rest row rows s W k.count r j ≡ row_bytes row s W fs sp j x ++ rest row rows s W k.count (suc r) (next_string j x)
  unfolding row_bytes next_string
  rest_row = go (is_string x) refl
    where
      go : (b : Bool) → is_string x ≡ b → rest row rows s W k.count r j ≡ cond b (string_bytes (told fs sp j (numbered_text row W s j))) (item_bytes s x) ++ rest row rows s W k.count (suc r) (cond b (suc j) j)
      go true q = rest_told (eqb-true x.kind 11 q)
      go false q = rest_other i h e (eqb-false x.kind 11 q)

  few_strings : {room words : ℕ} → Ready rows room words → j ≤ 4096
  few_strings y = omega (arith, i.strings, k.strings.few, y.stated, y.most)

-- a row's item, by whether the row is a string's
module _ (row : ℕ → Row) (s W fs sp : List ℕ) (j : ℕ) (x : Row) where
  string_bytes_lem : x.kind ≡ 11 → row_bytes row s W fs sp j x ≡ string_bytes (told fs sp j (numbered_text row W s j))
  unfolding row_bytes
  string_bytes_lem f = rw (eq-eqb x.kind 11 f)

  item_bytes_lem : (x.kind ≡ 11 → ⊥) → row_bytes row s W fs sp j x ≡ item_bytes s x
  unfolding row_bytes
  item_bytes_lem f = rw (ne_eqb x.kind 11 f)

  module _ {room words : ℕ} (a : Asked room words s W fs sp j x) where
    module _ (f : x.kind ≡ 11) where
      pub asked_told : Told fs sp j
      asked_told = a.told f

      pub asked_words : Through room words j W
      asked_words = a.there f

      pub string_long : {n : ℕ} → Takes row s W fs sp j n → Long (row_bytes row s W fs sp j x) n
      string_long t = record { is = t.is ∙ rw (string_bytes_lem f); few = omega (arith, t.is, string_most row W s fs sp j, a.short) }

    pub item_long : {n : ℕ} → (x.kind ≡ 11 → ⊥) → n ≡ length (item_bytes s x) → Long (row_bytes row s W fs sp j x) n
    item_long f e = record { is = e ∙ rw (item_bytes_lem f); few = omega (arith, item_most s x, a.short) }

pub next_yes : (j : ℕ) (x : Row) → x.kind ≡ 11 → j + 1 ≡ next_string j x
unfolding next_string
next_yes j x f = add-one j ∙ rw (eq-eqb x.kind 11 f)

pub next_no : (j : ℕ) (x : Row) → (x.kind ≡ 11 → ⊥) → j ≡ next_string j x
unfolding next_string
next_no j x f = rw (ne_eqb x.kind 11 f)

pub ruleset rowwise = (asked_told, asked_words, string_long, item_long, next_yes, next_no)

-- where the measuring stands
pub record Measuring (row : ℕ → Row) (rows : ℕ) (s W fs sp : List ℕ) (r j sum : ℕ) : Type 0 where
  pub known : Known row rows s W fs sp
  pub stands : Stands row rows s W known.count r j
  pub so_far_lem : sum + length (rest row rows s W known.count r j) ≡ length (written s (from row 0 rows))
  pub small : sum ≤ 12 + r * 65542

module _ (s : List ℕ) (xs : List Row) where
  written_long : length (written s xs) ≡ 12 + length (planned s xs)
  written_long = ap length (written_is s xs) ∙ length-append prefix (planned s xs)

pub measure_first : {row : ℕ → Row} {rows : ℕ} {s W fs sp : List ℕ} → Known row rows s W fs sp → Measuring row rows s W fs sp 0 0 12
measure_first {row} {rows} {s} {W} k =
    let e : planned s (from row 0 rows) ≡ rest row rows s W k.count 0 0 = rest_first s k.strings in
    record {
      known = k;
      stands = stands_first s k.strings;
      so_far_lem = omega (arith, written_long s (from row 0 rows), ap length e);
      small = omega arith;
    }

module _ {row : ℕ → Row} {rows : ℕ} {s W fs sp : List ℕ} {r j sum : ℕ} (i : Measuring row rows s W fs sp r j sum) where
  pub measure_done : rows ≤ r → sum ≡ length (written s (from row 0 rows))
  measure_done h = omega (arith, i.so_far_lem, ap length (rest_none row rows s W i.known.count r j h))

  module _ {x : Row} (e : x ≡ row r) (h : r < rows) where
    pub measure_again : {m k : ℕ} → Long (row_bytes row s W fs sp j x) m → k ≡ next_string j x → Measuring row rows s W fs sp (r + 1) k (sum + m)
    measure_again {m} l q =
        rw (add-one r, q)
        (record {
          known = i.known;
          stands = stands_row i.known i.stands h e;
          so_far_lem = omega (arith, i.so_far_lem, l.is, ap length (rest_row i.known i.stands h e) ∙ length-append (row_bytes row s W fs sp j x) (rest row rows s W i.known.count (suc r) (next_string j x)));
          small = omega (arith, i.small, l.few);
        })

    module _ {room words : ℕ} (y : Ready rows room words) where
      pub measure_asked : Asked room words s W fs sp j x
      measure_asked = asked_there i.known i.stands h e y

      pub measure_few : j ≤ 4096
      measure_few = few_strings i.known i.stands h e y

      pub measure_fits : {m : ℕ} → Long (row_bytes row s W fs sp j x) m → Fits w64 (sum + m)
      measure_fits l = omega (arith, l.few, i.small, y.stated, y.most)

pub row_room : {r rows room words : ℕ} → Ready rows room words → r < rows → r < room
row_room h l = omega (arith, h.stated)

pub ruleset measuring = (measure_first, measure_done, measure_asked, measure_few, measure_fits, measure_again, row_room)

-- where the writing stands: `at` bytes of the output are put, `most` at the most; it was o, and its first 12 bytes stay
pub record Writing (row : ℕ → Row) (rows : ℕ) (s W fs sp : List ℕ) (most : ℕ) (o : List ℕ) (r j at : ℕ) (out : List ℕ) : Type 0 where
  pub known : Known row rows s W fs sp
  pub stands : Stands row rows s W known.count r j
  pub done : List ℕ
  pub split : take 12 o ++ planned s (from row 0 rows) ≡ done ++ rest row rows s W known.count r j
  pub front : Front done o out
  pub place : at ≡ length done
  pub within : at ≤ most
  pub long : length out ≡ length o
  pub room : Most (length o) most

pub write_first : {row : ℕ → Row} {rows : ℕ} {s W fs sp : List ℕ} {most : ℕ} {o : List ℕ} → Known row rows s W fs sp → Most (length o) most → 12 ≤ most → Writing row rows s W fs sp most o 0 0 12 o
write_first {row} {rows} {s} {W} {most = most} {o = o} k m h =
    let l : length (take 12 o) ≡ 12 = length-take-le 12 o (omega (arith, m.within)) in
    record {
      known = k;
      stands = stands_first s k.strings;
      done = take 12 o;
      split = ap (λ (w : List ℕ). take 12 o ++ w) (rest_first s k.strings);
      front = record { is = rw l (sym (take-append-drop 12 o)) };
      place = sym l;
      within = h;
      long = refl;
      room = m;
    }

module _ {row : ℕ → Row} {rows : ℕ} {s W fs sp : List ℕ} {most : ℕ} {o : List ℕ} {r j at : ℕ} {out : List ℕ} (i : Writing row rows s W fs sp most o r j at out) where
  pub write_left : at ≤ most
  write_left = i.within

  pub write_part : at ≤ length out
  write_part = omega (arith, i.within, i.long, i.room.within)

  pub write_room : most - at ≤ length (take (length out - at) (drop at out))
  write_room = simp (length-take, length-drop) (omega (arith, i.long, i.room.within))

  pub write_done : rows ≤ r → Fitted (take 12 o ++ planned s (from row 0 rows)) most o out at
  write_done h =
      let q : take 12 o ++ planned s (from row 0 rows) ≡ i.done = i.split ∙ rw (rest_none row rows s W i.known.count r j h) (append-nil i.done) in
      record { put = λ k. record { front = rw q i.front; long = i.place ∙ ap length (sym q) }; over = λ k. absurd (omega (arith, i.within)) }

  pub write_short : length s ≤ 65536
  write_short = i.known.short

  pub write_few : most - at ≤ 65536
  write_few = omega (arith, i.room.few)

  -- bytes xs put behind what is there, with `more` to come
  module _ (xs more : List ℕ) (q : rest row rows s W i.known.count r j ≡ xs ++ more) {m : ℕ} {ys : List ℕ} (long : m ≡ length xs) (front : m ≤ most - at → Front xs (take (length out - at) (drop at out)) ys) where
    split_here : take 12 o ++ planned s (from row 0 rows) ≡ i.done ++ (xs ++ more)
    split_here = i.split ∙ ap (λ (w : List ℕ). i.done ++ w) q

    over_here : {out' : List ℕ} → most - at < m → Fitted (take 12 o ++ planned s (from row 0 rows)) most o out' (at + m)
    over_here l =
        record {
          put = λ k. absurd (omega (arith, i.within));
          over = λ k. omega (arith, i.within, i.place, long, ap length split_here ∙ length-append i.done _, length-append xs more);
        }

    module _ (l : m ≤ most - at) where
      front_here : Front (i.done ++ xs) o (take at out ++ (ys ++ drop (length out - at) (drop at out)))
      front_here = front_on i.front at (sym i.place) (omega (arith, i.within, i.room.within)) (front l)

      place_here : at + m ≡ length (i.done ++ xs)
      place_here = sym (length-append i.done xs ∙ omega (arith, i.place, long))

      put_here : {r' j' : ℕ} → Stands row rows s W i.known.count r' j' → more ≡ rest row rows s W i.known.count r' j' → Writing row rows s W fs sp most o r' j' (at + m) (take at out ++ (ys ++ drop (length out - at) (drop at out)))
      put_here g z =
          record {
            known = i.known;
            stands = g;
            done = i.done ++ xs;
            split = split_here ∙ ap (λ (w : List ℕ). i.done ++ (xs ++ w)) z ∙ sym (append_assoc i.done xs _);
            front = front_here;
            place = place_here;
            within = omega (arith, i.within);
            long = front_long front_here (at + m) (sym place_here) (omega (arith, i.within, i.room.within));
            room = i.room;
          }

  module _ {x : Row} (e : x ≡ row r) (h : r < rows) where
    module _ (f : x.kind ≡ 11) where
      pub write_told : Told fs sp j
      write_told = told_there i.known i.stands h e f

      module _ {room words : ℕ} (y : Ready rows room words) where
        pub write_through : Through room words j W
        write_through = through (strings_there y i.known.strings) (string_there i.stands h e f)

        pub write_count : Fits w64 (j + 1)
        write_count = omega (arith, few_strings i.known i.stands h e y)

      module _ {m : ℕ} {ys : List ℕ} (p : Tried (string_bytes (told fs sp j (numbered_text row W s j))) (most - at) (take (length out - at) (drop at out)) ys m) where
        pub write_fits : Fits w64 (at + m)
        write_fits = omega (arith, p.long, string_most row W s fs sp j, i.known.short, i.within, i.room.few)

        pub write_over : {out' : List ℕ} → most - at < m → Fitted (take 12 o ++ planned s (from row 0 rows)) most o out' (at + m)
        write_over = over_here _ _ (rest_told i.known i.stands h e f) p.long p.front

        pub write_string : m ≤ most - at → Writing row rows s W fs sp most o (r + 1) (j + 1) (at + m) (take at out ++ (ys ++ drop (length out - at) (drop at out)))
        write_string l = rw (add-one r, add-one j) (put_here _ _ (rest_told i.known i.stands h e f) p.long p.front l (next_string_lem i.stands h e f) refl)

    pub write_other : (x.kind ≡ 11 → ⊥) → (row r).kind ≡ 11 → ⊥
    write_other f k = f (rw e k)

  module _ {ys : List ℕ} {run : Run} (p : Ran row rows s r (most - at) (take (length out - at) (drop at out)) ys run) where
    pub run_fits : Fits w64 (at + run.bytes)
    run_fits = omega (arith, p.few, i.within, i.room.few)

    pub run_less : r < rows → rows - run.end < rows - r
    run_less h = omega (arith, p.further)

    pub run_over : {out' : List ℕ} → most - at < run.bytes → Fitted (take 12 o ++ planned s (from row 0 rows)) most o out' (at + run.bytes)
    run_over = over_here _ _ (p.between.items _) p.long p.front

    pub run_again : run.bytes ≤ most - at → Writing row rows s W fs sp most o run.end j (at + run.bytes) (take at out ++ (ys ++ drop (length out - at) (drop at out)))
    run_again l = put_here _ _ (p.between.items _) p.long p.front l (next_run i.stands p.between) refl

pub ruleset writing = (write_first, write_left, write_part, write_room, write_done, write_short, write_few, write_told, write_through, write_count, write_fits, write_over, write_string, write_other, run_fits, run_less, run_over, run_again, row_room)

-- the first bytes, and the items behind them
pub message_start : {most n : ℕ} → Most n most → 12 ≤ most → 12 ≤ n
message_start m h = omega (arith, m.within)

pub message_most : {most a : ℕ} {o o₁ : List ℕ} → Most (length o) most → 12 ≤ most → Put prefix o o₁ a → Most (length o₁) most
message_most m h p = rw (front_long p.front 12 refl (message_start m h)) m

module _ (s : List ℕ) (xs : List Row) {most : ℕ} {o : List ℕ} where
  pub message_none : most < 12 → Fitted (written s xs) most o o 12
  message_none h = record { put = λ k. absurd (omega arith); over = λ k. omega (arith, written_long s xs) }

  module _ (m : Most (length o) most) (h : 12 ≤ most) where
    module _ {o₁ : List ℕ} {a : ℕ} (p : Put prefix o o₁ a) where
      pub message_fitted : {o₂ : List ℕ} {n : ℕ} → Fitted (take 12 o₁ ++ planned s xs) most o₁ o₂ n → Fitted (written s xs) most o o₂ n
      message_fitted {o₂} {n} f =
          let q : take 12 o₁ ++ planned s xs ≡ written s xs = rw (front_take p.front 12 refl (message_start m h)) (sym (written_is s xs)) in
          record {
            put = λ k.
                let g = rw q at (f.put k) in
                let d : drop (length (written s xs)) o₁ ≡ drop (length (written s xs)) o = past (length (written s xs)) (omega (arith, written_long s xs)) in
                record { front = record { is = g.front.is ∙ rw d }; long = g.long };
            over = λ k. rw q at (f.over k);
          }
        where
          past : (i : ℕ) → 12 ≤ i → drop i o₁ ≡ drop i o
          past i l =
              let e : 12 + (i - 12) ≡ i = omega arith in
              sym (drop-drop (i - 12) 12 o₁ ∙ ap (λ (k : ℕ). drop k o₁) e) ∙ rw (front_drop p.front 12 refl (message_start m h)) (drop-drop (i - 12) 12 o ∙ ap (λ (k : ℕ). drop k o) e)

pub ruleset whole = (message_none, message_start, message_most, message_fitted)
