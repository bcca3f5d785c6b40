-- What is found in a job file is what its records say: a card, and 15, 16 and 26, each exactly where document 02 has it; and bytes behind a card or
-- a kind 2 record change nothing. Assumes nothing.
use mathlib.Core.Path.{◌≡◌, refl, sym, ap, ◌∙◌}
use mathlib.Core.Bool.{Bool, true, false, ◌&&◌, cond}
use mathlib.Core.Logic.{◌↔◌}
use mathlib.Core.List.{List, ◌++◌}
use Prim.Native.Nat.{ℕ, ◌+◌, ◌≤◌, ◌<◌}
use native.Mathlib.Omega.{arith}
use lib.ListN.{length, drop, length-append, length-drop, get_or-append}
use lib.Seq.{drop-append-le, drop-drop}
use lib.Dec.{leb, eqb}
use borrow.Author.Tests.{leb-true, leb-false, eqb-true, eqb-false, eq-eqb, ne_eqb}
use Rattle.std.specs.Prelude.{Ok, Err}
use Rattle.draft.specs.Bytes.{byte_at, unsigned_at}
use Rattle.records.specs.declared.Kind.{Kind}
use Rattle.records.specs.declared.Kind.TheVariants.{Card, End, Other}
use Rattle.records.specs.declared.JobRefusal.TheVariants.{FileEnded, WrongEnd, NoCard}
use Rattle.records.specs.Job.{Found, body_at, missing_at, refusal_number, kind_at, body_length, record_length, ends_with, find, body_of}
use Rattle.records.specs.Records.{kind_number, Stands, Due, first, past_card, past_other, CardAt, EndAt, Counts}
use Rattle.records.proofs.Finding.{same_body, same_missing}
use Rattle.records.proofs.Trails.{Trail, cut, asked, ended, wrong, passed, other, trail, step_cut, step_asked, step_passed, step_other, step_ended, step_wrong}

-- a record's kind by its number
module _ (r : List ℕ) where
  card_kind : kind_number r ≡ 1 → kind_at r ≡ Card
  card_kind e = rw e

  end_kind : kind_number r ≡ 2 → kind_at r ≡ End
  end_kind e = rw e

  other_kind : (kind_number r ≡ 1 → ⊥) → (kind_number r ≡ 2 → ⊥) → kind_at r ≡ Other
  other_kind m n = rw (ne_eqb _ _ m, ne_eqb _ _ n)

  data Numbered : Kind → Type 0 where
    is_card : kind_number r ≡ 1 → Numbered Card
    is_end : kind_number r ≡ 2 → Numbered End
    is_other : (kind_number r ≡ 1 → ⊥) → (kind_number r ≡ 2 → ⊥) → Numbered Other

  numbered : Numbered (kind_at r)
  numbered = go (eqb (kind_number r) 1) (eqb (kind_number r) 2) refl refl
    where
      go : (b c : Bool) → eqb (kind_number r) 1 ≡ b → eqb (kind_number r) 2 ≡ c → Numbered (cond b Card (cond c End Other))
      go true c e f = is_card (eqb-true _ _ e)
      go false true e f = is_end (eqb-true _ _ f)
      go false false e f = is_other (eqb-false _ _ e) (eqb-false _ _ f)

  card_number : kind_at r ≡ Card → kind_number r ≡ 1
  card_number k = go (rw k at numbered)
    where
      go : Numbered Card → kind_number r ≡ 1
      go (is_card e) = e

  end_number : kind_at r ≡ End → kind_number r ≡ 2
  end_number k = go (rw k at numbered)
    where
      go : Numbered End → kind_number r ≡ 2
      go (is_end e) = e

  other_number : kind_at r ≡ Other → (kind_number r ≡ 1 → ⊥) × (kind_number r ≡ 2 → ⊥)
  other_number k = go (rw k at numbered)
    where
      go : Numbered Other → (kind_number r ≡ 1 → ⊥) × (kind_number r ≡ 2 → ⊥)
      go (is_other m n) = (m, n)

-- a kind 2 body
counts_ends : (r : List ℕ) (cards : ℕ) → Counts r cards → ends_with r cards ≡ true
counts_ends r cards c = rw (eq-eqb _ _ c.0, eq-eqb _ _ c.1)

ends_counts : (r : List ℕ) (cards : ℕ) → ends_with r cards ≡ true → Counts r cards
ends_counts r cards = go (eqb (body_length r) 4) (eqb (unsigned_at r 6) cards) refl refl
  where
    go : (b c : Bool) → eqb (body_length r) 4 ≡ b → eqb (unsigned_at r 6) cards ≡ c → (b && c) ≡ true → Counts r cards
    go true true e f z = (eqb-true _ _ e, eqb-true _ _ f)
    go true false e f z = let w : ◌≡◌ {A = ℕ} 0 1 = cc in absurd (omega arith)
    go false c e f z = let w : ◌≡◌ {A = ℕ} 0 1 = cc in absurd (omega arith)

not_ends : (r : List ℕ) (cards : ℕ) → (Counts r cards → ⊥) → ends_with r cards ≡ false
not_ends r cards n = go (ends_with r cards) refl
  where
    go : (b : Bool) → ends_with r cards ≡ b → b ≡ false
    go true e = absurd (n (ends_counts r cards e))
    go false e = refl

not_counts : (r : List ℕ) (cards : ℕ) → ends_with r cards ≡ false → Counts r cards → ⊥
not_counts r cards e c = let z : true ≡ false = sym (counts_ends r cards c) ∙ e in let w : ◌≡◌ {A = ℕ} 0 1 = cc in omega arith

abbrev found_number : Found → ℕ
found_number (Ok body) = 0
found_number (Err none) = refusal_number none.refusal

-- What is found of card n, by the records of the file s.
pub data Told (s : List ℕ) (n : ℕ) : Found → Type 0 where
  card : {start size : ℕ} → CardAt s n start size → Told s n (body_at start size)
  file_ends : {cards at : ℕ} → Due s cards at → cards ≤ n → length (drop at s) < record_length (drop at s) → Told s n (missing_at FileEnded at)
  wrong_end : {cards at : ℕ} → EndAt s cards at → cards ≤ n → (Counts (drop at s) cards → ⊥) → Told s n (missing_at WrongEnd at)
  no_card : {cards at : ℕ} → EndAt s cards at → cards ≤ n → Counts (drop at s) cards → Told s n (missing_at NoCard at)

-- the record that stands at `at`, as the bytes r
module _ (s : List ℕ) {n cards at : ℕ} {r : List ℕ} (e : r ≡ drop at s) (d : Due s cards at) (l : cards ≤ n) where
  tell_cut : length r < record_length r → Told s n (missing_at FileEnded at)
  tell_cut h = file_ends d l (rw e at h)

  module _ (w : record_length r ≤ length r) where
    tell_card : kind_at r ≡ Card → cards ≡ n → Told s n (body_at (at + 6) (body_length r))
    tell_card k i =
        card (record { at = at; due = rw (← i) d; stands = rw e at w; kind = rw e at (card_number r k); behind = refl; long = ap body_length e })

    end_here : kind_at r ≡ End → EndAt s cards at
    end_here k = record { due = d; stands = rw e at w; kind = rw e at (end_number r k) }

    tell_wrong : kind_at r ≡ End → ends_with r cards ≡ false → Told s n (missing_at WrongEnd at)
    tell_wrong k i = wrong_end (end_here k) l (rw e at (not_counts r cards i))

    tell_ended : kind_at r ≡ End → ends_with r cards ≡ true → Told s n (missing_at NoCard at)
    tell_ended k i = no_card (end_here k) l (rw e at (ends_counts r cards i))

    past_a_card : kind_at r ≡ Card → Due s (cards + 1) (at + record_length r)
    past_a_card k = rw e (past_card d (rw e at w) (rw e at (card_number r k)))

    past_another : kind_at r ≡ Other → Due s cards (at + record_length r)
    past_another k = let o = other_number r k in rw e (past_other d (rw e at w) (rw e at o.0) (rw e at o.1))

    behind_it : drop (record_length r) r ≡ drop (at + record_length r) s
    behind_it = rw e (drop-drop (record_length (drop at s)) at s)

tell : (s : List ℕ) {n cards at : ℕ} {r : List ℕ} {f : Found} → Trail n cards at r f → r ≡ drop at s → Due s cards at → cards ≤ n → Told s n f
tell s (cut h) e d l = tell_cut s e d l h
tell s (asked w k i) e d l = tell_card s e d l w k i
tell s (ended w k i) e d l = tell_ended s e d l w k i
tell s (wrong w k i) e d l = tell_wrong s e d l w k i
tell s {n} {cards} (passed w k i t) e d l = tell s t (behind_it s e d l w) (past_a_card s e d l w k) (next i l)
  where
    next : (cards ≡ n → ⊥) → cards ≤ n → cards + 1 ≤ n
    next i l = omega arith
tell s (other w k t) e d l = tell s t (behind_it s e d l w) (past_another s e d l w k) l

pub told : (s : List ℕ) (n : ℕ) → Told s n (body_of s n)
told s n = tell s (trail n 0 0 s) refl first (omega arith)

-- and back: from a record that is due, the search goes on as from the start of the file
pub find_due : (s : List ℕ) {cards at : ℕ} → Due s cards at → (n : ℕ) → cards ≤ n → body_of s n ≡ find n cards at 0 (drop at s)
find_due s first n l = refl
find_due s (past_card {cards} {at} d w k) n l =
    let m : cards ≤ n = omega arith in
    let i : cards ≡ n → ⊥ = λ i. omega arith in
    find_due s d n m ∙ step_passed n cards at (drop at s) w (card_kind (drop at s) k) i
    ∙ ap (find n (cards + 1) (at + record_length (drop at s)) 0) (drop-drop (record_length (drop at s)) at s)
find_due s (past_other {cards} {at} d w i j) n l =
    find_due s d n l ∙ step_other n cards at (drop at s) w (other_kind (drop at s) i j)
    ∙ ap (find n cards (at + record_length (drop at s)) 0) (drop-drop (record_length (drop at s)) at s)

module _ (s : List ℕ) (n : ℕ) where
  card_found : {start size : ℕ} → CardAt s n start size → body_of s n ≡ body_at start size
  card_found c =
      find_due s c.due n (omega arith) ∙ step_asked n n c.at (drop c.at s) c.stands (card_kind (drop c.at s) c.kind) refl ∙ rw (c.behind, c.long)

  -- CARD EXACTLY: where its body lies.
  pub card_exactly : (start size : ℕ) → (body_of s n ≡ body_at start size) ↔ CardAt s n start size
  card_exactly start size = (λ e. go (told s n) e, card_found)
    where
      go : {f : Found} → Told s n f → f ≡ body_at start size → CardAt s n start size
      go (card {start = x} {size = y} c) e =
          let i = same_body e in rw (i.0, i.1) at c
      go (file_ends d l h) e = let z : ◌≡◌ {A = ℕ} 0 1 = cc in absurd (omega arith)
      go (wrong_end d l h) e = let z : ◌≡◌ {A = ℕ} 0 1 = cc in absurd (omega arith)
      go (no_card d l h) e = let z : ◌≡◌ {A = ℕ} 0 1 = cc in absurd (omega arith)

  -- 15 EXACTLY: no whole record stands where one is due, and no kind 2 record, nor the card, before.
  pub cut_exactly : (at : ℕ) → (body_of s n ≡ missing_at FileEnded at) ↔ ((cards : ℕ) × Due s cards at × (cards ≤ n) × (length (drop at s) < record_length (drop at s)))
  cut_exactly at = (λ e. go (told s n) e, λ h. find_due s h.1 n h.2 ∙ step_cut n h.0 at (drop at s) h.3)
    where
      go : {f : Found} → Told s n f → f ≡ missing_at FileEnded at → (cards : ℕ) × Due s cards at × (cards ≤ n) × (length (drop at s) < record_length (drop at s))
      go (file_ends {cards} {at = x} d l h) e = let p : x ≡ at = (same_missing e).1 in (cards, rw p at d, l, rw p at h)
      go (card c) e = let z : ◌≡◌ {A = ℕ} 0 1 = cc in absurd (omega arith)
      go (wrong_end d l h) e = absurd (omega (arith, ap found_number e))
      go (no_card d l h) e = absurd (omega (arith, ap found_number e))

  -- 16 EXACTLY: a kind 2 record of wrong length or number, and the card not before.
  pub wrong_exactly : (at : ℕ) → (body_of s n ≡ missing_at WrongEnd at) ↔ ((cards : ℕ) × EndAt s cards at × (cards ≤ n) × (Counts (drop at s) cards → ⊥))
  wrong_exactly at = (λ e. go (told s n) e, back)
    where
      go : {f : Found} → Told s n f → f ≡ missing_at WrongEnd at → (cards : ℕ) × EndAt s cards at × (cards ≤ n) × (Counts (drop at s) cards → ⊥)
      go (wrong_end {cards} {at = x} d l h) e = let p : x ≡ at = (same_missing e).1 in (cards, rw p at d, l, rw p at h)
      go (card c) e = let z : ◌≡◌ {A = ℕ} 0 1 = cc in absurd (omega arith)
      go (file_ends d l h) e = absurd (omega (arith, ap found_number e))
      go (no_card d l h) e = absurd (omega (arith, ap found_number e))

      back : (cards : ℕ) × EndAt s cards at × (cards ≤ n) × (Counts (drop at s) cards → ⊥) → body_of s n ≡ missing_at WrongEnd at
      back h =
          find_due s h.1.due n h.2
          ∙ step_wrong n h.0 at (drop at s) h.1.stands (end_kind (drop at s) h.1.kind) (not_ends (drop at s) h.0 h.3)

  -- 26 EXACTLY: a sound kind 2 record, and the card not before.
  pub none_exactly : (at : ℕ) → (body_of s n ≡ missing_at NoCard at) ↔ ((cards : ℕ) × EndAt s cards at × (cards ≤ n) × Counts (drop at s) cards)
  none_exactly at = (λ e. go (told s n) e, back)
    where
      go : {f : Found} → Told s n f → f ≡ missing_at NoCard at → (cards : ℕ) × EndAt s cards at × (cards ≤ n) × Counts (drop at s) cards
      go (no_card {cards} {at = x} d l h) e = let p : x ≡ at = (same_missing e).1 in (cards, rw p at d, l, rw p at h)
      go (card c) e = let z : ◌≡◌ {A = ℕ} 0 1 = cc in absurd (omega arith)
      go (file_ends d l h) e = absurd (omega (arith, ap found_number e))
      go (wrong_end d l h) e = absurd (omega (arith, ap found_number e))

      back : (cards : ℕ) × EndAt s cards at × (cards ≤ n) × Counts (drop at s) cards → body_of s n ≡ missing_at NoCard at
      back h =
          find_due s h.1.due n h.2
          ∙ step_ended n h.0 at (drop at s) h.1.stands (end_kind (drop at s) h.1.kind) (counts_ends (drop at s) h.0 h.3)

  -- NEXT: from the end of a card the next one is found, as it is from the start of the file.
  pub next_from_end : {start size : ℕ} → CardAt s n start size → find (n + 1) (n + 1) (start + size) 0 (drop (start + size) s) ≡ body_of s (n + 1)
  next_from_end {start} {size} c =
      let e : c.at + record_length (drop c.at s) ≡ start + size = omega (arith, c.behind, c.long) in
      sym (rw e at (find_due s (past_card c.due c.stands c.kind) (n + 1) (omega arith)))

-- every number below the count of the cards before a place is a card's
abbrev IsCard : List ℕ → ℕ → Type 0
IsCard s n = (start : ℕ) × (size : ℕ) × CardAt s n start size

this_or_before : (s : List ℕ) {cards n : ℕ} → (cards ≡ n → IsCard s n) → (n < cards → IsCard s n) → n < cards + 1 → IsCard s n
this_or_before s {cards} {n} here before h = go (eqb cards n) refl
  where
    less : (cards ≡ n → ⊥) → n < cards
    less i = omega arith

    go : (b : Bool) → eqb cards n ≡ b → IsCard s n
    go true e = here (eqb-true _ _ e)
    go false e = before (less (eqb-false _ _ e))

pub card_before : (s : List ℕ) {cards at : ℕ} → Due s cards at → (n : ℕ) → n < cards → IsCard s n
card_before s first n h = absurd (omega arith)
card_before s (past_card {cards} {at} d w k) n h =
    this_or_before s
    (λ i. (at + 6, body_length (drop at s), record { at = at; due = rw i at d; stands = w; kind = k; behind = refl; long = refl }))
    (λ l. card_before s d n l) h
card_before s (past_other d w i j) n h = card_before s d n h

-- and no other is, where a kind 2 record stands at the place
pub card_below : (s : List ℕ) {cards at n start size : ℕ} → EndAt s cards at → CardAt s n start size → n < cards
card_below s {cards} {at} {n} {start} {size} d c = go (leb cards n) refl
  where
    none : cards ≤ n → ⊥
    none l = over (ends_with (drop at s) cards) refl
      where
        over : (b : Bool) → ends_with (drop at s) cards ≡ b → ⊥
        over true e =
            let z = sym (card_found s n c) ∙ (none_exactly s n at).1 (cards, d, l, ends_counts (drop at s) cards e) in
            let w : ◌≡◌ {A = ℕ} 0 1 = cc in
            omega arith
        over false e =
            let z = sym (card_found s n c) ∙ (wrong_exactly s n at).1 (cards, d, l, not_counts (drop at s) cards e) in
            let w : ◌≡◌ {A = ℕ} 0 1 = cc in
            omega arith

    go : (b : Bool) → leb cards n ≡ b → n < cards
    go true e = absurd (none (leb-true cards n e))
    go false e = leb-false cards n e

-- a record, whatever stands behind it
module _ (r t : List ℕ) (w : Stands r) where
  byte : (i : ℕ) → i < record_length r → byte_at (r ++ t) i ≡ byte_at r i
  byte i l = get_or-append r t 0 i (omega arith)

  same_length : body_length (r ++ t) ≡ body_length r
  same_length = rw (byte 0 (omega arith), byte 1 (omega arith), byte 2 (omega arith), byte 3 (omega arith))

  same_kind : kind_number (r ++ t) ≡ kind_number r
  same_kind = rw (byte 4 (omega arith), byte 5 (omega arith))

  same_number : body_length r ≡ 4 → unsigned_at (r ++ t) 6 ≡ unsigned_at r 6
  same_number e = rw (byte 6 (omega arith), byte 7 (omega arith), byte 8 (omega arith), byte 9 (omega arith))

  stands_on : Stands (r ++ t)
  stands_on = omega (arith, same_length, length-append r t)

  counts_on : {cards : ℕ} → Counts r cards → Counts (r ++ t) cards
  counts_on c = (same_length ∙ c.0, same_number c.0 ∙ c.1)

  counted_on : {cards : ℕ} → Counts (r ++ t) cards → Counts r cards
  counted_on c = let e = sym same_length ∙ c.0 in (e, sym (same_number e) ∙ c.1)

-- WHATEVER FOLLOWS the bytes u: what stands whole in them stays.
within : {u : List ℕ} {cards at : ℕ} → Due u cards at → at ≤ length u
within first = omega arith
within {u} (past_card {at = at} d w k) = omega (arith, within d, length-drop at u)
within {u} (past_other {at = at} d w i j) = omega (arith, within d, length-drop at u)

module _ (u t : List ℕ) where
  record_on : {cards at : ℕ} → Due u cards at → drop at (u ++ t) ≡ drop at u ++ t
  record_on {at = at} d = drop-append-le at u t (within d)

  due_on : {cards at : ℕ} → Due u cards at → Due (u ++ t) cards at
  due_on first = first
  due_on (past_card {cards} {at} d w k) =
      let e = record_on d in
      let z : record_length (drop at (u ++ t)) ≡ record_length (drop at u) = rw e (ap (λ (n : ℕ). n + 6) (same_length (drop at u) t w)) in
      rw z at (past_card (due_on d) (rw e (stands_on (drop at u) t w)) (rw e (same_kind (drop at u) t w ∙ k)))
  due_on (past_other {cards} {at} d w i j) =
      let e = record_on d in
      let z : record_length (drop at (u ++ t)) ≡ record_length (drop at u) = rw e (ap (λ (n : ℕ). n + 6) (same_length (drop at u) t w)) in
      let y : kind_number (drop at (u ++ t)) ≡ kind_number (drop at u) = rw e (same_kind (drop at u) t w) in
      rw z at (past_other (due_on d) (rw e (stands_on (drop at u) t w)) (λ k. i (sym y ∙ k)) (λ k. j (sym y ∙ k)))

  pub card_on : {n start size : ℕ} → CardAt u n start size → CardAt (u ++ t) n start size
  card_on c =
      let e = record_on c.due in
      let r = drop c.at u in
      record {
        at = c.at;
        due = due_on c.due;
        stands = rw e (stands_on r t c.stands);
        kind = rw e (same_kind r t c.stands ∙ c.kind);
        behind = c.behind;
        long = rw e (c.long ∙ sym (same_length r t c.stands));
      }

  end_on : {cards at : ℕ} → EndAt u cards at → EndAt (u ++ t) cards at
  end_on {at = at} d =
      let e = record_on d.due in
      record { due = due_on d.due; stands = rw e (stands_on (drop at u) t d.stands); kind = rw e (same_kind (drop at u) t d.stands ∙ d.kind) }

  -- a card that stands whole is found, whatever follows
  pub found_on : (n : ℕ) {start size : ℕ} → CardAt u n start size → body_of (u ++ t) n ≡ body_of u n
  found_on n c = card_found (u ++ t) n (card_on c) ∙ sym (card_found u n c)

  -- bytes after kind 2 are ignored
  pub ended_on : (n : ℕ) {cards at : ℕ} → EndAt u cards at → body_of (u ++ t) n ≡ body_of u n
  ended_on n {cards} {at} d = go (leb cards n) refl
    where
      e : drop at (u ++ t) ≡ drop at u ++ t
      e = record_on d.due

      over : cards ≤ n → (b : Bool) → ends_with (drop at u) cards ≡ b → body_of (u ++ t) n ≡ body_of u n
      over l true i =
          let c = ends_counts (drop at u) cards i in
          (none_exactly (u ++ t) n at).1 (cards, end_on d, l, rw e (counts_on (drop at u) t d.stands c)) ∙ sym ((none_exactly u n at).1 (cards, d, l, c))
      over l false i =
          let c = not_counts (drop at u) cards i in
          (wrong_exactly (u ++ t) n at).1 (cards, end_on d, l, λ z. c (counted_on (drop at u) t d.stands (rw e at z)))
          ∙ sym ((wrong_exactly u n at).1 (cards, d, l, c))

      go : (b : Bool) → leb cards n ≡ b → body_of (u ++ t) n ≡ body_of u n
      go true i = over (leb-true cards n i) (ends_with (drop at u) cards) refl
      go false i = found_on n (card_before u d.due n (leb-false cards n i)).2
