-- What becomes of the notes on keys while items are read, and where the loop over them stands. Assumes nothing.
use mathlib.Core.Path.{◌≡◌, refl, ap, ◌∙◌}
use mathlib.Core.Bool.{Bool, true, false}
use mathlib.Core.List.{List, [], ◌∷◌}
use Prim.Native.Nat.{ℕ, zero, suc, ◌+◌, ◌-◌, ◌*◌, ◌≤◌, ◌<◌, min}
use native.Mathlib.Omega.{arith}
use lib.ListN.{length, get_or}
use Rattle.draft.specs.declared.Row.{Row}
use Rattle.draft.specs.Bytes.{unsigned_at}
use Rattle.draft.specs.Codebook.{Book}
use Rattle.draft.specs.Strings.{Text}
use Rattle.draft.specs.Table.{put_rows}
use Rattle.draft.specs.Rows.{row}
use Rattle.draft.specs.Read.{Reading, got, refused, Reader, floor, over, alike, key as key_of, member, keeping, first_text, item, tag_of}
use Rattle.codebook.specs.Words.{book_of}
use Rattle.table.proofs.Rows.{length_put_rows}
use Rattle.table.proofs.Stored.{first_row, row_other}
use Rattle.item.proofs.Stepping.{wrote_by, did_next, did_ends, pair_first, pair_both}
use Rattle.item.specs.Contract.{Step, step_number, step_at, step_row}
use Rattle.item.specs.Contract.{answer, read_to, Leaves, Did, Closed, Ends}
use Rattle.item.proofs.Readings.{over_closed}
use Rattle.keys.specs.Notes.{owner_of, named, keys_of, Noted, Keeps, Joins}
use Rattle.keys.proofs.Keeping.{keys_first, key_below, noted_move, keeps_none, keeps_then, keeps_moved}
use Rattle.member_keys.specs.Contract.{Prepared, After, Joined, Done, KeyDone, KeyIf}
use Rattle.member_keys.proofs.Keying.{named_kept}
use Rattle.heads.specs.Items.{entry, kept, entries, kind_for, contents_of, Begun}
use Rattle.value.proofs.Taking.{scalar_takes}
use Rattle.value.proofs.Turns.{Turn, turn_first, after, again_by, refused_by, turn_done}

-- nothing is kept of what was refused
pub after_not : {t t' : ℕ → Text} {N N' : List ℕ} {first : ℕ} {step : Step} → (step_number step ≡ 0 → ⊥) → After t t' N N' first step
after_not n = record { keeps = λ e. absurd (n e); behind = λ e. absurd (n e) }

-- a Value that holds no others leaves the notes
pub after_scalar : (s : List ℕ) (at : ℕ) (book : Book) {bytes room from r : ℕ} {T T' W W' N : List ℕ} {step : Step} → Did (item s room (tag_of (get_or s at 0)) floor at r book) bytes room from r T T' W' step → Prepared s at r room T W N → After (named s room T) (named s room T') N N r step
after_scalar s at book {room = room} {r = r} {T = T} {T'} {N = N} d p =
    record {
      keeps = λ e. let g = did_next d e in keeps_none p.noted (λ k l. named_kept s g k (key_below p.noted k l)) _ (omega (arith, g.next));
      behind = λ e. let g = did_next d e in omega (arith, g.next, scalar_takes s room (tag_of (get_or s at 0)) at r book g.reading, p.entries.behind);
    }

-- an item's own row, stored behind the rows of what it holds: that row is no key
module _ (s : List ℕ) {o : Reading} {bytes room from r : ℕ} {T T₁ T₂ W' N N' : List ℕ} {step result : Step} {k b : ℕ} (d : Did o bytes room from (r + 1) T T₁ W' step) (c : Closed step k b r room T₁ T₂ result) (a : Noted (named s room T) N r) (f : After (named s room T) (named s room T₁) N N' (r + 1) step) where
  same_text : (e : step_number step ≡ 0) (q : ℕ) → 0 < owner_of N' q → named s room T₂ q ≡ named s room T₁ q
  unfolding named
  same_text e q h =
      let g = did_next d e in
      let z = f.keeps e in
      let l = key_below z.noted q h in
      rw (wrote_by c e, row_other room T₁ r q (row k 0 b (step_row step)) (omega (arith, g.next, g.fits)) (omega (arith, g.fits)) (λ i. omega (arith, ap (owner_of N') i, z.owners r (omega arith), a.blank r (omega arith))))

  after_closed : After (named s room T) (named s room T₂) N N' r result
  after_closed =
      rw c.same
      (record {
        keeps = λ e. keeps_then (keeps_none a (λ k l. refl) (r + 1) (omega arith)) (omega arith) (keeps_moved (f.keeps e) (same_text e));
        behind = f.behind;
      })

noted_next : {t : ℕ → Text} {N : List ℕ} {r : ℕ} → Noted t N r → Noted t N (r + 1)
noted_next {r = r} a = noted_move a (λ k h. refl) (r + 1) (omega arith)

-- the count and the kind, as they were read
counted_as : (s : List ℕ) (keyed : Bool) (f : Reader) (to : ℕ) (book : Book) {k j m n bytes room from r : ℕ} {T T' W' : List ℕ} {step : Step} → m ≡ n → k ≡ j → Did (over k m r (entries s room keyed f m to (r + 1) book)) bytes room from r T T' W' step → Did (over j n r (entries s room keyed f n to (r + 1) book)) bytes room from r T T' W' step
counted_as s keyed f to book e i d = rw (← e, ← i) d

-- what an Array or a Struct holds
module _ {s : List ℕ} {room deep at r : ℕ} {T W N : List ℕ} (b : Begun s room deep at r) (p : Prepared s at r room T W N) where
  pub contents_ready : Prepared s (at + 5) (r + 1) room T W N
  contents_ready =
      let f = p.ready.fitting in
      record {
        ready = record { fitting = record { within = b.count; fits = omega (arith, b.row); rows = f.rows; table = f.table; message = f.message }; book = p.ready.book };
        entries = record { behind = omega (arith, p.entries.behind); enough = p.entries.enough; most = p.entries.most };
        noted = noted_next p.noted;
      }

  pub contents_done : (keyed : Bool) (f : Reader) {k m : ℕ} {T₁ T₂ W' N' : List ℕ} {step result : Step} → m ≡ unsigned_at s (at + 1) → k ≡ kind_for keyed → Done (entries s room keyed f m (at + 5) (r + 1) (book_of W)) s room (at + 5 + min m 1) (r + 1) T T₁ W' N N' step → Closed step k m r room T₁ T₂ result → Done (contents_of s room keyed f at r (book_of W)) s room (at + 1) r T T₂ W' N N' result
  unfolding contents_of
  contents_done keyed f e k d c =
      record { did = counted_as s keyed f _ _ e k (over_closed _ _ r d.did c (omega arith)); after = after_closed s d.did c p.noted d.after }

-- where the loop over items stands, whose keys, if they have some, are noted for the row r₀
pub record Going (s : List ℕ) (keyed : Bool) (f : Reader) (n at₀ r₀ room : ℕ) (T₀ W₀ N₀ : List ℕ) (left at r : ℕ) (T W N : List ℕ) : Type 0 where
  pub turn : Turn (entry s room keyed f) (kept s room keyed) n at₀ r₀ (length s) room T₀ W₀ left at r T W
  pub keeps : Keeps (named s room T₀) (named s room T) N₀ N r₀ r
  pub are : keyed ≡ true → keys_of (named s room T) N r₀ r ≡ turn.seen
  pub behind : r ≤ at
  pub some : left < n → at₀ < at
  pub table : room * 4 ≤ length T

pub going_first : {s : List ℕ} {keyed : Bool} {f : Reader} {n at r room : ℕ} {T W N : List ℕ} → Prepared s at r room T W N → Going s keyed f n at r room T W N n at r T W N
unfolding turn_first
going_first p =
    let f = p.ready.fitting in
    record { turn = turn_first f.within f.fits; keeps = keeps_none p.noted (λ k l. refl) _ (omega arith); are = λ _. keys_first p.noted; behind = p.entries.behind; some = λ h. absurd (omega arith); table = f.table }

first_is : (s : List ℕ) (room r : ℕ) (T T' : List ℕ) (rows : List Row) → T' ≡ put_rows room T r rows → 0 < length rows → r < room → room * 4 ≤ length T → named s room T' r ≡ first_text s room rows
unfolding named
first_is s room r T T' [] e h k l = absurd (omega arith)
first_is s room r T T' (x ∷ rows) e h k l = rw (e, first_row room T r x rows k l)

-- a key and its value: the key is noted, and the keys of others stay what they were
member_joined :
    (s : List ℕ) {o : Reading} {bytes room from r : ℕ} {T₁ T₂ W₂ N N₁ N₂ : List ℕ} {t : ℕ → Text} {owner : ℕ} {key step : Step} → step_number key ≡ 0 → Did o bytes room from (step_row key) T₁ T₂ W₂ step → 0 < owner → owner ≤ r
    → Joined t (named s room T₁) N N₁ owner r key → After (named s room T₁) (named s room T₂) N₁ N₂ (step_row key) step → Joined t (named s room T₂) N N₂ owner r step
member_joined s {r = r} {owner = owner} e d p q j i =
    let x = j.joins e in
    record {
      joins = λ e₂.
          let z = i.keeps e₂ in
          let g = did_next d e₂ in
          record {
            on = omega (arith, x.on, g.next);
            noted = z.noted;
            owners = λ k l. z.owners k (omega (arith, x.on)) ∙ x.owners k l;
            mine = z.keys owner p (omega (arith, x.on)) ∙ x.mine ∙ rw (named_kept s g r x.on);
            others = λ o h l n. z.keys o h (omega (arith, x.on)) ∙ x.others o h l n;
          };
      behind = i.behind;
    }

-- how far a reading got that was accepted
further : {o : Reading} {bytes room from to r : ℕ} {T T' W' : List ℕ} {step : Step} → Did o bytes room from r T T' W' step → (step_number step ≡ 0 → to ≤ (step_at step)) → Did o bytes room to r T T' W' step
further {o} {bytes} {room} {from} {to} {r} {T} {T'} {W'} {step} d h = record { says = d.says; leaves = go o d.says d.leaves }
  where
    go : (o : Reading) → step ≡ answer r o → Leaves o bytes room from r T T' W' → Leaves o bytes room to r T T' W'
    go (refused m p) e l = tt
    go (got rows at book) e l =
        record { wrote = l.wrote; ahead = rw (ap (λ (x : Step). step_at x) e) at (h (ap (λ (x : Step). step_number x) e)); within = l.within; fits = l.fits; holds = l.holds }

least : (n : ℕ) {from at : ℕ} → from ≤ at → (0 < n → from < at) → from + min n 1 ≤ at
least zero h k = omega arith
least (suc n) h k = omega (arith, k (omega arith))

-- a turn of the loop over a Struct's pairs
module _ {s : List ℕ} {f : Reader} {n at₀ r₀ room : ℕ} {T₀ W₀ N₀ : List ℕ} {left at r : ℕ} {T W N : List ℕ} (i : Going s true f n at₀ r₀ room T₀ W₀ N₀ left at r T W N) {T₁ W₁ N₁ : List ℕ} {key : Step} (k : KeyDone s room r₀ at r T T₁ W W₁ N N₁ key) where
  key_did : Did (key_of s room i.turn.seen at r (book_of W)) (length s) room (at + 1) r T T₁ W₁ key
  key_did = rw (i.are refl) at k.did

  pair_stops : {T' W' : List ℕ} → (step_number key ≡ 0 → ⊥) → Did (member s room f i.turn.seen at r (book_of W)) (length s) room (at + 1) r T T' W' key
  unfolding member
  pair_stops z = pair_first (key_of s room i.turn.seen) f at (book_of W) key_did z

  module _ (e : step_number key ≡ 0) {T₂ W₂ : List ℕ} {step : Step} (d : Did (f (step_at key) (step_row key) (book_of W₁)) (length s) room ((step_at key) + 1) (step_row key) T₁ T₂ W₂ step) where
    pair_did : Did (member s room f i.turn.seen at r (book_of W)) (length s) room (at + 1) r T T₂ W₂ step
    unfolding member
    pair_did = pair_both (key_of s room i.turn.seen) f at (book_of W) key_did e d

    module _ (h : 0 < left) (o : 0 < r₀) {N₂ : List ℕ} (a : After (named s room T₁) (named s room T₂) N₁ N₂ (step_row key) step) (z : step_number step ≡ 0) where
      on : r₀ ≤ r
      on = omega (arith, i.turn.next)

      joined : Joins (named s room T) (named s room T₂) N N₂ r₀ r (step_row step)
      joined = (member_joined s e d o on k.joined a).joins z

      pair_keeps : Keeps (named s room T₀) (named s room T₂) N₀ N₂ r₀ (step_row step)
      pair_keeps =
          record {
            noted = joined.noted;
            owners = λ k l. joined.owners k (omega (arith, on)) ∙ i.keeps.owners k l;
            keys = λ o p l. joined.others o p (omega (arith, on)) (λ q. omega arith) ∙ i.keeps.keys o p l;
          }

      pair_keys : keys_of (named s room T₂) N₂ r₀ (step_row step) ≡ keeping s room i.turn.seen (did_next pair_did z).rows
      unfolding keeping
      pair_keys =
          let g = did_next pair_did z in
          joined.mine ∙ rw (i.are refl, first_is s room r T T₂ g.rows g.wrote (omega (arith, joined.on, g.next)) (omega (arith, joined.on, g.fits)) i.table)

      pair_again : Going s true f n at₀ r₀ room T₀ W₀ N₀ (left - 1) (step_at step) (step_row step) T₂ W₂ N₂
      unfolding again_by after
      pair_again =
          let g = did_next pair_did z in
          record { turn = again_by i.turn h pair_did z; keeps = pair_keeps; are = λ _. pair_keys; behind = a.behind z; some = λ _. omega (arith, i.turn.ahead, g.ahead); table = rw (g.wrote, length_put_rows room T r g.rows) i.table }

-- a turn of the loop over an Array's values
module _ {s : List ℕ} {f : Reader} {n at₀ r₀ room : ℕ} {T₀ W₀ N₀ : List ℕ} {left at r : ℕ} {T W N : List ℕ} (i : Going s false f n at₀ r₀ room T₀ W₀ N₀ left at r T W N) {T₂ W₂ : List ℕ} {step : Step} (d : Did (f at r (book_of W)) (length s) room (at + 1) r T T₂ W₂ step) where
  value_did : Did (alike f i.turn.seen at r (book_of W)) (length s) room (at + 1) r T T₂ W₂ step
  unfolding alike
  value_did = d

  value_again : 0 < left → {N₂ : List ℕ} → After (named s room T) (named s room T₂) N N₂ r step → step_number step ≡ 0 → Going s false f n at₀ r₀ room T₀ W₀ N₀ (left - 1) (step_at step) (step_row step) T₂ W₂ N₂
  unfolding again_by after
  value_again h a z =
      let g = did_next value_did z in
      record {
        turn = again_by i.turn h value_did z;
        keeps = keeps_then i.keeps (omega (arith, i.turn.next)) (a.keeps z);
        are = λ e. let z : ◌≡◌ {A = ℕ} 0 1 = cc in absurd (omega arith);
        behind = a.behind z;
        some = λ _. omega (arith, i.turn.ahead, g.ahead);
        table = rw (g.wrote, length_put_rows room T r g.rows) i.table;
      }

module _ {s : List ℕ} {f : Reader} {n at₀ r₀ room : ℕ} {T₀ W₀ N₀ : List ℕ} {left at r : ℕ} {T W N : List ℕ} where
  pub going_ready : {keyed : Bool} → Going s keyed f n at₀ r₀ room T₀ W₀ N₀ left at r T W N → Prepared s at₀ r₀ room T₀ W₀ N₀ → length T ≡ length T₀ → length W ≡ length W₀ → length N ≡ length N₀ → Prepared s at r room T W N
  going_ready i p t w n =
      let f = p.ready.fitting in
      record {
        ready = record { fitting = record { within = i.turn.within; fits = i.turn.fits; rows = f.rows; table = i.table; message = f.message }; book = w ∙ p.ready.book };
        entries = record { behind = i.behind; enough = rw n p.entries.enough; most = rw n p.entries.most };
        noted = i.keeps.noted;
      }

  pub going_on : {keyed : Bool} → Going s keyed f n at₀ r₀ room T₀ W₀ N₀ left at r T W N → r₀ ≤ r
  going_on i = omega (arith, i.turn.next)

  pub going_done : {keyed : Bool} → Going s keyed f n at₀ r₀ room T₀ W₀ N₀ left at r T W N → left ≤ 0 → Done (entries s room keyed f n at₀ r₀ (book_of W₀)) s room (at₀ + min n 1) r₀ T₀ T W N₀ N (read_to at r)
  unfolding entries
  going_done i h = record { did = further (turn_done i.turn h) (λ _. least n i.turn.ahead (λ l. i.some (omega arith))); after = record { keeps = λ _. i.keeps; behind = λ _. i.behind } }

  module _ {T₁ W₁ N₁ : List ℕ} {key : Step} where
    -- a key is refused
    pub key_stops : {keyed : Bool} → Going s keyed f n at₀ r₀ room T₀ W₀ N₀ left at r T W N → 0 < left → KeyIf keyed s room r₀ at r T T₁ W W₁ N N₁ key → (step_number key ≡ 0 → ⊥) → {T' W' N' : List ℕ} → Done (entries s room keyed f n at₀ r₀ (book_of W₀)) s room (at₀ + min n 1) r₀ T₀ T' W' N₀ N' key
    unfolding entries
    key_stops {keyed = true} i h k z = record { did = further (refused_by i.turn h (pair_stops i (k.some refl) {T' = T₁} {W' = W₁} z) z) (λ e. absurd (z e)); after = after_not z }
    key_stops {keyed = false} i h k z = absurd (z (ap (λ (x : Step). step_number x) (k.none refl).says))

    module _ {T₂ W₂ : List ℕ} {step : Step} where
      -- a value is refused
      pub value_stops : {keyed : Bool} → Going s keyed f n at₀ r₀ room T₀ W₀ N₀ left at r T W N → 0 < left → KeyIf keyed s room r₀ at r T T₁ W W₁ N N₁ key → step_number key ≡ 0 → Did (f (step_at key) (step_row key) (book_of W₁)) (length s) room ((step_at key) + 1) (step_row key) T₁ T₂ W₂ step → (step_number step ≡ 0 → ⊥) → {T' W' N' : List ℕ} → Done (entries s room keyed f n at₀ r₀ (book_of W₀)) s room (at₀ + min n 1) r₀ T₀ T' W' N₀ N' step
      unfolding entries
      value_stops {keyed = true} i h k e d z = record { did = further (refused_by i.turn h (pair_did i (k.some refl) e d) z) (λ e. absurd (z e)); after = after_not z }
      value_stops {keyed = false} i h k e d z =
          let q = k.none refl in
          record { did = further (refused_by i.turn h (value_did i (rw (q.says, q.table, q.book) at d)) z) (λ e. absurd (z e)); after = after_not z }

      -- a value is read
      pub goes_on : {keyed : Bool} → Going s keyed f n at₀ r₀ room T₀ W₀ N₀ left at r T W N → 0 < left → (keyed ≡ true → 0 < r₀) → KeyIf keyed s room r₀ at r T T₁ W W₁ N N₁ key → step_number key ≡ 0 → Did (f (step_at key) (step_row key) (book_of W₁)) (length s) room ((step_at key) + 1) (step_row key) T₁ T₂ W₂ step → {N₂ : List ℕ} → After (named s room T₁) (named s room T₂) N₁ N₂ (step_row key) step → step_number step ≡ 0 → Going s keyed f n at₀ r₀ room T₀ W₀ N₀ (left - 1) (step_at step) (step_row step) T₂ W₂ N₂
      goes_on {keyed = true} i h o k e d a z = pair_again i (k.some refl) e d h (o refl) a z
      goes_on {keyed = false} i h o k e d a z =
          let q = k.none refl in
          value_again i (rw (q.says, q.table, q.book) at d) h (rw (q.says, q.table, q.notes) at a) z

-- what closing asks
pub done_ends : {o : Reading} {s : List ℕ} {room from r : ℕ} {T T' W' N N' : List ℕ} {step : Step} → Done o s room from r T T' W' N N' step → Ends step room
done_ends d = did_ends d.did

pub ruleset going = (done_ends, contents_ready, contents_done, going_first, going_ready, going_on, going_done)
