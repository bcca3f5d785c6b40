-- 22 is told by calls for a station alone, and by each of them exactly if the row does not split the table. Assumes nothing.
use mathlib.Core.Path.{◌≡◌, refl, sym, ap, ◌∙◌}
use mathlib.Core.Bool.{Bool, true, false}
use mathlib.Core.Logic.{◌↔◌, ◌≢◌}
use mathlib.Core.List.{List}
use Prim.Native.Nat.{ℕ}
use native.Mathlib.Omega.{arith}
use lib.ListN.{length}
use Rattle.std.specs.Prelude.{Ok, Err}
use Rattle.draft.specs.declared.Refusal.{Refusal}
use Rattle.draft.specs.Refusals.{number_of, refusal_of}
use Rattle.draft.proofs.Naming.{number_own}
use Rattle.read_answer.specs.declared.Answer.{Answer as ReaderAnswer}
use Rattle.read_answer.specs.declared.Answer.TheVariants as read
use Rattle.read_answer.specs.Answers as reader
use Rattle.records.specs.declared.JobRefusal.{JobRefusal}
use Rattle.records.specs.declared.JobRefusal.TheVariants.{FileEnded, WrongEnd, NoCard}
use Rattle.records.specs.Job.{refusal_number, body_of}
use Rattle.job.specs.Cards.{Answer as JobAnswer, accepted_at}
use Rattle.job.specs.declared.JobFault.TheVariants as card
use Rattle.job.specs.Cards as job
use Rattle.pieces.specs.declared.PieceRefusal.{PieceRefusal}
use Rattle.pieces.specs.declared.PieceRefusal.TheVariants.{Message, ShortRoom}
use Rattle.pieces.specs.declared.State.{State}
use Rattle.pieces.specs.declared.State.TheVariants.{More, Accepted, Refused}
use Rattle.pieces.specs.Steps.{number_for, told, at_first, state_went, state_closed}
use Rattle.write_answer.specs.Answers.{Answer as WriterAnswer}
use Rattle.std.specs.declared.result.Result.TheVariants as written
use Rattle.write_answer.specs.Answers as writer
use Rattle.plan_writer.specs.Answers.{Answer as PlanAnswer}
use Rattle.std.specs.Prelude.{Ok, Err}
use Rattle.plan_writer.specs.declared.PlanRefusal.TheVariants as planned
use Rattle.plan_writer.specs.Answers as planner
use Rattle.lookup_answer.specs.declared.Refusal as Why
use Rattle.lookup_answer.specs.declared.Refusal.TheVariants as why
use Rattle.lookup_answer.specs.Answers.{Answer as LookupAnswer}
use Rattle.lookup_answer.specs.declared.Value.TheVariants as found
use Rattle.lookup_answer.specs.Answers as lookups
use Rattle.lookup_answer.specs.Reports as reports
use Rattle.placing.specs.Placing.{Outcome, outcome_number}
use Rattle.shares.specs.declared.Station.{Station}
use Rattle.shares.specs.Share.{splits, share_of, on_share}
use Rattle.shares.proofs.Sharing.{given_there, unsplit_told}
use Rattle.stations.specs.Calls.{Asked, a_message, a_card, a_piece, an_end, Told, Called, not_split}
use Rattle.stations.proofs.Calling.{given, says}
use Rattle.station_reading.specs.Answers.{read_answer, card_answer}
use Rattle.station_pieces.specs.Steps.{next_answer, end_answer}
use Rattle.demands_stations.specs.Numbers.{number_told, call_number}

-- ---- no call without stations tells 22

refusal_not : (m : Refusal) → number_of m ≢ 22
unfolding refusal_of
refusal_not m e =
    let n : number_of m ≡ 23 = ap number_of (sym (number_own m) ∙ ap refusal_of e) in
    omega arith

pub read_not : (a : ReaderAnswer) → (reader.report_of a).number ≢ 22
read_not (read.Accepted rows used) e = omega arith
read_not (read.Refused m place) e = refusal_not m e

job_not : (m : JobRefusal) → refusal_number m ≢ 22
job_not FileEnded e = omega arith
job_not WrongEnd e = omega arith
job_not NoCard e = omega arith

pub card_not : (a : JobAnswer) → (job.report_of a).number ≢ 22
card_not (Ok read) e = omega arith
card_not (Err (card.Refused m place)) e = refusal_not m e
card_not (Err (card.Missing m place)) e = job_not m e

piece_not : (m : PieceRefusal) → number_for m ≢ 22
piece_not (Message m) e = refusal_not m e
piece_not ShortRoom e = omega arith

pub told_not : (state : State) → number_told (told state) ≢ 22
told_not (More held wanted place) e = omega arith
told_not (Accepted rows used) e = omega arith
told_not (Refused m place) e = piece_not m e

pub write_not : (a : WriterAnswer) → (writer.report_of a).number ≢ 22
write_not (written.Ok n) e = omega arith
write_not (written.Err m) e = refusal_not m e

pub plan_not : (a : PlanAnswer) → (planner.report_of a).number ≢ 22
plan_not (Ok n) e = omega arith
plan_not (Err (planned.Refused m)) e = refusal_not m e
plan_not (Err planned.NotTaken) e = omega arith

why_not : (m : Why.Refusal) → lookups.number_of m ≢ 22
why_not why.NotWritable e = omega arith
why_not why.NoMember e = omega arith
why_not why.TooManyDigits e = omega arith

pub lookup_not : (a : LookupAnswer) → (reports.report_of a).number ≢ 22
lookup_not (Ok (found.Whole n)) e = omega arith
lookup_not (Ok (found.Decimal x)) e = omega arith
lookup_not (Ok (found.Truth b)) e = omega arith
lookup_not (Ok (found.Text offset size)) e = omega arith
lookup_not (Ok (found.Row r)) e = omega arith
lookup_not (Err m) e = why_not m e

pub position_not : (o : Outcome) → outcome_number o ≢ 22
position_not (Ok done) e = omega arith
position_not (Err m) e = why_not m e

-- ---- 22 exactly

-- of any call for a station, by the number of what it answers
module _
    {A : Type 0} (number : A → ℕ) (station : Station) (split : ℕ) (T : List ℕ) (on-share : List ℕ → A) (unsplit : A) (has : number unsplit ≡ 22)
    (lacks : (W : List ℕ) → number (on-share W) ≢ 22) {a : A} (is : a ≡ on_share station split T on-share unsplit)
  where
    pub exactly : (number a ≡ 22) ↔ (splits split (length T) ≡ false)
    exactly = (λ e. go (splits split (length T)) refl e, λ h. ap number (is ∙ unsplit_told station split T on-share unsplit h) ∙ has)
      where
        go : (b : Bool) → splits split (length T) ≡ b → number a ≡ 22 → splits split (length T) ≡ false
        go true ok e = absurd (lacks (share_of station split T) (ap number (sym (is ∙ given_there station split T ok on-share unsplit)) ∙ e))
        go false h e = h

-- the calls that may change the table
asked_has : (q : Asked) → call_number (not_split q) ≡ 22
asked_has (a_message limit s) = refl
asked_has (a_card s n) = refl
asked_has (a_piece limit state p R) = refl
asked_has (an_end limit state bytes) = refl

asked_lacks : (q : Asked) (W : List ℕ) → call_number (given q W) ≢ 22
unfolding read_answer card_answer next_answer end_answer
asked_lacks (a_message limit s) W e = read_not (reader.answer_of (reader.reading limit s (length W))) e
asked_lacks (a_card s n) W e = card_not (job.answer_for s (length W) (body_of s n)) e
asked_lacks (a_piece limit state p R) W e = told_not (at_first limit (length R) (state_went limit state p R (length W))) e
asked_lacks (an_end limit state bytes) W e = told_not (at_first limit bytes (state_closed state)) e

pub called_exactly :
    {station : Station} {split : ℕ} {T T' : List ℕ} {q : Asked} {a : Told} → Called station split T T' q a
    → (call_number a ≡ 22) ↔ (splits split (length T) ≡ false)
called_exactly {station} {split} {T} {q = q} c = exactly call_number station split T (given q) (not_split q) (asked_has q) (asked_lacks q) (says c)

-- a call that does not tell 22 has a share
pub has_share :
    {station : Station} {split : ℕ} {T T' : List ℕ} {q : Asked} {a : Told} → Called station split T T' q a → call_number a ≢ 22
    → splits split (length T) ≡ true
has_share {split = split} {T = T} c n = go (splits split (length T)) refl
  where
    go : (b : Bool) → splits split (length T) ≡ b → splits split (length T) ≡ true
    go true e = e
    go false e = absurd (n ((called_exactly c).1 e))
