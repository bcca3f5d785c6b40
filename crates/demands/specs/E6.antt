-- E6, MESSAGES IN PIECES, on one page. Each sentence of the paragraph is a field, said once over an interface: of crate `pieces` with a state, and of
-- the exported `binmode_pieces_*` with the six words that the caller keeps. What some bytes come to is `outcome` (pieces/specs/Pieces): the first
-- 65,536 read as a whole message, or 10; `so_far` tells of it with more wanted for 1. That the fields hold is proofs/E6. Assumes nothing.
use Rattle.std.specs.Prelude.{◌≡◌, true, false, ◌↔◌, List, [], ◌∷◌, ◌++◌, ℕ, ◌≤◌, ◌<◌, length, take, drop, replicate, get_or}
use Rattle.draft.specs.Limits.{allowed}
use Rattle.draft.specs.Read.{Reading}
use Rattle.read_answer.specs.Answers.{reading, table_of}
use Rattle.rereading.specs.Rereading.{refused_with_one}
use Rattle.pieces.specs.declared.State.{State}
use Rattle.pieces.specs.Pieces.{Told, more, refusal, joined, outcome, told_of, so_far}
use Rattle.pieces.specs.Steps.{told, Closed}
use Rattle.pieces.specs.Runs.{begun, Runs}
use Rattle.piece_reports.specs.Words.{words_of, told_by}
use Rattle.piece_reports.specs.Reported.{PieceReported, EndReported}
use Rattle.piece_reports.specs.Calls.{Calls, EndCall}

-- An interface: the states S, the one that it starts with, what a state tells; `Runs limit ps s R T s' R' T'`, calls over the pieces ps, each with that
-- limit of nesting, the state as last returned (s at first, s' at last), and one room and table untouched in between (R and T before, R' and T' after
-- them); `End limit s n T T' s'`, an end call with a room of n bytes.
abbrev pub RunsOver : Type 0 → Type 1
RunsOver S = ℕ → List (List ℕ) → S → List ℕ → List ℕ → S → List ℕ → List ℕ → Type 0

abbrev pub EndOver : Type 0 → Type 1
EndOver S = ℕ → S → ℕ → List ℕ → List ℕ → S → Type 0

module _ (S : Type 0) (start : S) (tells : S → Told) (Runs : RunsOver S) (End : EndOver S) where
  -- calls over the pieces ps from the start on, with a limit of 1 to 32 and a room of at least 65,536 bytes
  pub record Run (limit : ℕ) (R₀ T₀ : List ℕ) (ps : List (List ℕ)) (s : S) (R T : List ℕ) : Type 0 where
    pub limited : allowed limit ≡ true
    pub long : 65536 ≤ length R₀
    pub calls : Runs limit ps start R₀ T₀ s R T

  pub record InPieces : Type 0 where
    -- 'Reading takes pieces, some empty, holds them in one lent room of 65,536, and says after each: more wanted, accepted, or refused.'
    pub after_each :
        {limit : ℕ} {R₀ T₀ R T : List ℕ} {ps : List (List ℕ)} {s : S} → Run limit R₀ T₀ ps s R T → tells s ≡ so_far (outcome limit (joined ps) (length T₀))
    -- 'For any cut of up to 65,536 bytes, closed by an end call, with the state as last returned, and one room and table untouched in between, the
    -- outcome and the table are those of the whole message.'
    pub as_whole :
        {limit : ℕ} {R₀ T₀ R T T' : List ℕ} {ps : List (List ℕ)} {s s' : S} → Run limit R₀ T₀ ps s R T → length (joined ps) ≤ 65536
        → End limit s (length R) T T' s'
        → (tells s' ≡ told_of (reading limit (joined ps) (length T₀))) × (T' ≡ table_of (length T₀) (reading limit (joined ps) (length T₀)))
    -- 'With any other state, room or table the result is free, save that 4 is given as below and the room's bytes past 65,536 stay.'
    pub past_stays : {limit : ℕ} {p R T R' T' : List ℕ} {s s' : S} → Runs limit (p ∷ []) s R T s' R' T' → drop 65536 R' ≡ drop 65536 R
    -- 'More is wanted exactly if the bytes so far, read as a whole message, would be refused with 1; the table is then zeros.'
    pub more_exactly :
        {limit : ℕ} {R₀ T₀ R T : List ℕ} {ps : List (List ℕ)} {s : S} → Run limit R₀ T₀ ps s R T
        → (tells s ≡ more) ↔ (refused_with_one (reading limit (joined ps) (length T₀)) ≡ true)
    pub more_zeros :
        {limit : ℕ} {R₀ T₀ R T p : List ℕ} {ps : List (List ℕ)} {s : S} → Run limit R₀ T₀ (p ∷ ps) s R T → tells s ≡ more → T ≡ replicate (length T₀) 0
    -- 'Any other outcome is given with the piece that brings it.'
    pub brought :
        {limit : ℕ} {R₀ T₀ R T p : List ℕ} {ps : List (List ℕ)} {s : S} → Run limit R₀ T₀ (p ∷ ps) s R T
        → refused_with_one (reading limit (take 65536 (joined (p ∷ ps))) (length T₀)) ≡ false
        → (tells s ≡ told_of (reading limit (take 65536 (joined (p ∷ ps))) (length T₀)))
        × (T ≡ table_of (length T₀) (reading limit (take 65536 (joined (p ∷ ps))) (length T₀)))
    -- 'Once accepted or refused, later pieces change nothing; demand 1 speaks of the calls up to that answer.'
    pub later_pieces :
        {limit : ℕ} {R₀ T₀ R T R' T' : List ℕ} {ps qs : List (List ℕ)} {s s' : S} → Run limit R₀ T₀ ps s R T → (tells s ≡ more → ⊥)
        → Runs limit qs s R T s' R' T' → (s' ≡ s) × (R' ≡ R) × (T' ≡ T)
    pub settled :
        {limit : ℕ} {R₀ T₀ R T Q₀ U₀ Q U p : List ℕ} {ps : List (List ℕ)} {s s' : S} → Run limit R₀ T₀ (p ∷ ps) s R T → Run limit Q₀ U₀ (p ∷ ps) s' Q U
        → length T₀ ≡ length U₀ → (tells s ≡ tells s') × (T ≡ U)
    -- 'The room begins with the pieces' bytes through the deciding piece, cut at 65,536; its rest never changes.' A piece that comes while more is wanted
    -- is the deciding one, or more is wanted still; of a later one, later_pieces.
    pub room_holds :
        {limit : ℕ} {R₀ T₀ R T R' T' p : List ℕ} {ps : List (List ℕ)} {s s' : S} → Run limit R₀ T₀ ps s R T → tells s ≡ more
        → Runs limit (p ∷ []) s R T s' R' T' → R' ≡ take 65536 (joined ps ++ p) ++ drop (length (take 65536 (joined ps ++ p))) R₀
    -- 'Refusals: 10 here only if no answer is reached within 65,536 bytes and another byte comes;' at place 0, since none is given
    pub ten_only :
        {limit : ℕ} {R₀ T₀ R T : List ℕ} {ps : List (List ℕ)} {s : S} {place : ℕ} → Run limit R₀ T₀ ps s R T → tells s ≡ refusal 10 place
        → (refused_with_one (reading limit (take 65536 (joined ps)) (length T₀)) ≡ true) × (65536 < length (joined ps))
    pub ten_given :
        {limit : ℕ} {R₀ T₀ R T : List ℕ} {ps : List (List ℕ)} {s : S} → Run limit R₀ T₀ ps s R T
        → refused_with_one (reading limit (take 65536 (joined ps)) (length T₀)) ≡ true → 65536 < length (joined ps) → tells s ≡ refusal 10 0
    -- '4, unused until now, before all else, at place 0, if the room is shorter than 65,536, the room unchanged.' Whatever the state; but 23 (E11) first
    pub short_room :
        {limit : ℕ} {p R T R' T' : List ℕ} {s s' : S} → allowed limit ≡ true → length R < 65536 → Runs limit (p ∷ []) s R T s' R' T'
        → (tells s' ≡ refusal 4 0) × (R' ≡ R) × (T' ≡ replicate (length T) 0)
    pub short_room_end :
        {limit n : ℕ} {T T' : List ℕ} {s s' : S} → allowed limit ≡ true → n < 65536 → End limit s n T T' s'
        → (tells s' ≡ refusal 4 0) × (T' ≡ replicate (length T) 0)

-- `pieces::start`, `next` and `end`; and the exported calls: `binmode_pieces_start` leaves `words_of begun`, and what `told_by` reads in the words (the
-- answer, the rows, the bytes used, the place) is what the caller reads there. `binmode_pieces_next` and `_end` have the limit 8, `_within` any
pub record E6 : Type 0 where
  -- 'would be refused with 1': what `refused_with_one` tests
  pub with_one : (o : Reading) → (refused_with_one o ≡ true) ↔ ((place : ℕ) × (told_of o ≡ refusal 1 place))
  pub functions : InPieces State begun told Runs Closed
  pub exports : InPieces (List ℕ) (words_of begun) told_by Calls EndCall
  -- 'and says after each': the number that an exported call returns is the first word
  pub next_returns : {limit n : ℕ} {w p R T w' R' T' : List ℕ} → PieceReported limit w p R T w' R' T' n → n ≡ get_or w' 0 0
  pub end_returns : {limit bytes n : ℕ} {w T w' T' : List ℕ} → EndReported limit w bytes T w' T' n → n ≡ get_or w' 0 0
