-- What all calls for a station have in common: what is told, and the table after it, by the share's words. Assumes nothing.
use mathlib.Core.Path.{◌≡◌, refl, sym, ◌∙◌, ap}
use mathlib.Core.Bool.{Bool, true, false, cond}
use mathlib.Core.Logic.{◌↔◌}
use mathlib.Core.List.{List}
use Prim.Native.Nat.{ℕ, ◌*◌, ◌/◌}
use native.Mathlib.Omega.{arith}
use Rattle.std.specs.Prelude.{Ok, Err}
use lib.ListN.{length, drop}
use Rattle.shares.specs.declared.Station.{Station}
use Rattle.shares.specs.declared.Station.TheVariants.{Four, Five}
use Rattle.shares.specs.Share.{no_share, splits, share_of, on_share, table_on}
use Rattle.shares.proofs.Lent.{below}
use Rattle.shares.proofs.Sharing.{in_rows, given_there, same_length as kept-length, words_behind, unsplit_words, unsplit_told, tables_commute, told_stays}
use Rattle.station_reading.specs.Answers.{read_answer, read_words, card_answer, card_words}
use Rattle.station_pieces.specs.Steps.{next_answer, next_room, next_words, end_answer, end_words}
use Rattle.stations.specs.Calls.{Asked, a_message, a_card, a_piece, an_end, Told, of_message, of_card, of_piece, of_end, Called, reads, reads_card, takes, ends, not_split}
use Rattle.stations.proofs.Keeping.{read_keeps, card_keeps, next_keeps, end_keeps}

-- the share's words after a call
abbrev pub after : Asked → List ℕ → List ℕ
after (a_message limit s) W = read_words limit s W
after (a_card s n) W = card_words s n W
after (a_piece limit state p R) W = next_words limit state p R W
after (an_end limit state bytes) W = end_words limit state bytes W

-- what is told, by the share's words before it
abbrev pub given : Asked → List ℕ → Told
given (a_message limit s) W = of_message (read_answer limit s W)
given (a_card s n) W = of_card (card_answer s n W)
given (a_piece limit state p R) W = of_piece (next_answer limit state p R W) (next_room limit state p R W)
given (an_end limit state bytes) W = of_end (end_answer limit state bytes W)

pub keeps : (q : Asked) (W : List ℕ) → length (after q W) ≡ length W
keeps (a_message limit s) W = read_keeps limit s W
keeps (a_card s n) W = card_keeps s n W
keeps (a_piece limit state p R) W = next_keeps limit state p R W
keeps (an_end limit state bytes) W = end_keeps limit state bytes W

-- a function of what is told
told_by_lem :
    {A B : Type 0} (f : A → B) (station : Station) (split : ℕ) (T : List ℕ) (x : List ℕ → A) (y : A)
    → f (on_share station split T x y) ≡ on_share station split T (λ W. f (x W)) (f y)
unfolding on_share
told_by_lem f station split T x y = go (splits split (length T))
  where
    go : (b : Bool) → f (cond b (x (share_of station split T)) y) ≡ cond b (f (x (share_of station split T))) (f y)
    go true = refl
    go false = refl

told_both :
    {A B C : Type 0} (f : A → B → C) (station : Station) (split : ℕ) (T : List ℕ) (x : List ℕ → A) (y : A) (u : List ℕ → B) (v : B)
    → f (on_share station split T x y) (on_share station split T u v) ≡ on_share station split T (λ W. f (x W) (u W)) (f y v)
unfolding on_share
told_both f station split T x y u v = go (splits split (length T))
  where
    go :
        (b : Bool)
        → f (cond b (x (share_of station split T)) y) (cond b (u (share_of station split T)) v)
        ≡ cond b (f (x (share_of station split T)) (u (share_of station split T))) (f y v)
    go true = refl
    go false = refl

module _ {station : Station} {split : ℕ} {T T' : List ℕ} where
  pub leaves : {q : Asked} {a : Told} → Called station split T T' q a → T' ≡ table_on station split T (after q)
  leaves (reads d) = d.leaves
  leaves (reads_card d) = d.leaves
  leaves (takes d) = d.table
  leaves (ends d) = d.table

  pub says : {q : Asked} {a : Told} → Called station split T T' q a → a ≡ on_share station split T (given q) (not_split q)
  says (reads {limit = limit} {s = s} d) = ap of_message d.says ∙ told_by_lem of_message station split T (read_answer limit s) (Err no_share)
  says (reads_card {s = s} {n = n} d) = ap of_card d.says ∙ told_by_lem of_card station split T (card_answer s n) (Err no_share)
  says (takes {limit = limit} {state = state} {p = p} {R = R} d) =
      rw (d.says, d.room)
      (told_both of_piece station split T (next_answer limit state p R) (Err no_share) (next_room limit state p R) R)
  says (ends {limit = limit} {state = state} {bytes = bytes} d) =
      ap of_end d.says ∙ told_by_lem of_end station split T (end_answer limit state bytes) (Err no_share)

-- 22 is told of no call on a share
not_given : (q : Asked) (W : List ℕ) → given q W ≡ not_split q → ⊥
unfolding read_answer card_answer next_answer end_answer
not_given (a_message limit s) W e = let z : ◌≡◌ {A = ℕ} 0 1 = cc in omega arith
not_given (a_card s n) W e = let z : ◌≡◌ {A = ℕ} 0 1 = cc in omega arith
not_given (a_piece limit state p R) W e = let z : ◌≡◌ {A = ℕ} 0 1 = cc in omega arith
not_given (an_end limit state bytes) W e = let z : ◌≡◌ {A = ℕ} 0 1 = cc in omega arith

module _ {station : Station} {split : ℕ} {T T' : List ℕ} {q : Asked} {a : Told} (c : Called station split T T' q a) where
  pub told_exactly : (a ≡ not_split q) ↔ (splits split (length T) ≡ false)
  told_exactly = (λ e. go (splits split (length T)) refl e, λ h. says c ∙ unsplit_told station split T (given q) (not_split q) h)
    where
      go : (b : Bool) → splits split (length T) ≡ b → a ≡ not_split q → splits split (length T) ≡ false
      go true ok e =
          absurd (not_given q (share_of station split T) (sym (given_there station split T ok (given q) (not_split q)) ∙ sym (says c) ∙ e))
      go false h e = h

  pub same_length : length T' ≡ length T
  same_length = go (splits split (length T)) refl
    where
      go : (b : Bool) → splits split (length T) ≡ b → length T' ≡ length T
      go true ok = ap length (leaves c) ∙ kept-length station split T ok (after q) (keeps q (share_of station split T))
      go false h = ap length (leaves c ∙ unsplit_words station split T (after q) h)

  pub beyond : drop (length T / 4 * 4) T' ≡ drop (length T / 4 * 4) T
  beyond = go (splits split (length T)) refl
    where
      go : (b : Bool) → splits split (length T) ≡ b → drop (length T / 4 * 4) T' ≡ drop (length T / 4 * 4) T
      go true ok =
          ap (drop (length T / 4 * 4)) (leaves c)
          ∙ words_behind station split T ok (after q) (keeps q (share_of station split T)) (length T / 4 * 4) (in_rows station split (length T) (below split (length T) ok))
      go false h = ap (drop (length T / 4 * 4)) (leaves c ∙ unsplit_words station split T (after q) h)

-- a call of each station, in either order
pub record Same (T T' : List ℕ) (a a' b b' : Told) : Type 0 where
  pub table : T ≡ T'
  pub four : a ≡ a'
  pub five : b ≡ b'

module _ (split : ℕ) {T A B C D : List ℕ} {q r : Asked} {x x' y y' : Told} where
  turned :
      Called Four split T A q x → Called Five split A B r y → Called Five split T C r y' → Called Four split C D q x'
      → (t : Bool) → splits split (length T) ≡ t → Same B D x x' y y'
  turned c d e f true ok =
      let a : A ≡ table_on Four split T (after q) = leaves c in
      let b : C ≡ table_on Five split T (after r) = leaves e in
      record {
        table =
            leaves d ∙ ap (λ (U : List ℕ). table_on Five split U (after r)) a
            ∙ tables_commute split T ok (after q) (after r) (keeps q (share_of Four split T)) (keeps r (share_of Five split T))
            ∙ sym (leaves f ∙ ap (λ (U : List ℕ). table_on Four split U (after q)) b);
        four =
            says c
            ∙ sym (says f ∙ ap (λ (U : List ℕ). on_share Four split U (given q) (not_split q)) b
            ∙ told_stays Four split T ok (after r) (keeps r (share_of Five split T)) (given q) (not_split q));
        five =
            says d ∙ ap (λ (U : List ℕ). on_share Five split U (given r) (not_split r)) a
            ∙ told_stays Five split T ok (after q) (keeps q (share_of Four split T)) (given r) (not_split r)
            ∙ sym (says e);
      }
  turned c d e f false ko =
      let a : A ≡ T = leaves c ∙ unsplit_words Four split T (after q) ko in
      let b : C ≡ T = leaves e ∙ unsplit_words Five split T (after r) ko in
      record {
        table =
            leaves d ∙ ap (λ (U : List ℕ). table_on Five split U (after r)) a ∙ unsplit_words Five split T (after r) ko
            ∙ sym (leaves f ∙ ap (λ (U : List ℕ). table_on Four split U (after q)) b ∙ unsplit_words Four split T (after q) ko);
        four = says c ∙ sym (says f ∙ ap (λ (U : List ℕ). on_share Four split U (given q) (not_split q)) b);
        five = says d ∙ ap (λ (U : List ℕ). on_share Five split U (given r) (not_split r)) a ∙ sym (says e);
      }

  pub in_turn :
      Called Four split T A q x → Called Five split A B r y → Called Five split T C r y' → Called Four split C D q x' → Same B D x x' y y'
  in_turn c d e f = turned c d e f (splits split (length T)) refl
