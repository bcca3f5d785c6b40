-- The limit of nesting that a call states (request E11): it is one of 1 to 32, and for any other each call tells 23 and leaves zeros. Assumes nothing.
use Rattle.std.specs.Prelude.{Ok, Err}
use mathlib.Core.Path.{◌≡◌, refl, sym, ap, ◌∙◌}
use mathlib.Core.Bool.{Bool, true, false, cond, ◌&&◌}
use mathlib.Core.Logic.{◌↔◌, ◌≢◌}
use mathlib.Core.List.{List, [], ◌∷◌}
use Prim.Native.Nat.{ℕ, ◌≤◌}
use native.Mathlib.Omega.{arith}
use lib.Dec.{leb, ltb}
use lib.ListN.{length, take, replicate}
use borrow.Author.Tests.{le-leb}
use Rattle.draft.specs.declared.Refusal.{Refusal}
use Rattle.draft.specs.declared.Refusal.TheVariants.{TooLong, NotWritable, FormTooLong, OutputTooShort, NoLimit}
use Rattle.draft.specs.Refusals.{number_of, refusal_of}
use Rattle.draft.specs.Limits.{allowed}
use Rattle.draft.specs.Table.{room_of, row_at}
use Rattle.draft.specs.Strings.{texts_of}
use Rattle.draft.specs.Writable.{writable, writable_to}
use Rattle.draft.specs.Written.{rows_of}
use Rattle.draft.specs.Read.{Reading, got, refused}
use Rattle.draft.proofs.Limiting.{limit_least, limit_most}
use Rattle.draft.proofs.Naming.{number_own}
use Rattle.exact.proofs.Concluding.{of_reading, WithinRefused, of_bytes, of_message, within_refused}
use Rattle.read_answer.specs.declared.Answer.{Answer}
use Rattle.read_answer.specs.declared.Answer.TheVariants.{Refused}
use Rattle.read_answer.specs.Answers.{reading, answer_of, table_of, Answers, report_of}
use Rattle.read_answer.proofs.Limited.{reading_within, reading_unlimited}
use Rattle.rereading.specs.Rereading.{refused_with_one}
use Rattle.pieces.specs.declared.State.{State}
use Rattle.pieces.specs.Pieces.{told_of, so_far, more, refusal, outcome, through}
use Rattle.pieces.specs.Steps.{told}
use Rattle.pieces.specs.Runs.{begun, Runs, none, piece}
use Rattle.write_answer.specs.Answers.{Answer as WriterAnswer}
use Rattle.std.specs.declared.result.Result.TheVariants as write
use Rattle.write_answer.specs.Answers as writer
use Rattle.plans.specs.Plans.{taken}
use Rattle.plan_writer.specs.Answers.{Answer as PlanAnswer}
use Rattle.std.specs.Prelude.{Ok, Err}
use Rattle.plan_writer.specs.declared.PlanRefusal.TheVariants as plan
use Rattle.plan_writer.specs.Answers as planner
use Rattle.shares.specs.declared.Station.{Station}
use Rattle.shares.specs.Share.{splits, size_of, share_of}
use Rattle.shares.proofs.Sharing.{share_size}
use Rattle.station_reading.specs.Answers.{Answer as StationAnswer, ReadFor}
use Rattle.station_reading.specs.Answers as at-station
use Rattle.station_pieces.specs.Steps.{Answer as PieceAnswer, NextFor, EndFor}
use Rattle.station_tables.specs.Answers.{WriteAnswer}
use Rattle.station_tables.specs.Answers as tables
use Rattle.station_plans.specs.Answers.{Answer as StationPlanAnswer}
use Rattle.station_plans.specs.Answers as planned
use Rattle.member.specs.declared.Member.{Member}
use Rattle.lookup_answer.specs.declared.Refusal.TheVariants as why
use Rattle.lookup_answer.specs.declared.Value.TheVariants as found
use Rattle.lookup_answer.specs.Answers.{lookup, look}
use Rattle.index.specs.Filling as index
use Rattle.index.specs.Filling.{refusal_in}
use Rattle.index_search.specs.Through.{through_if, through as through_index}
use Rattle.choice.specs.declared.Refusal.TheVariants as unfit
use Rattle.defaults.specs.Defaults.{Source, chosen, unless, structs_then, row_in}
use Rattle.demands_pieces.proofs.Pieces.{after_each, no_limit, no_limit_end}
use Rattle.demands_stations.specs.Numbers.{number_told, piece_number}
use Rattle.demands_stations.proofs.Stations.{own_read, own_piece, own_end, own_write, own_planned}

-- 1 TO 32 may be stated, and nothing else.
pub allowed_exactly : (limit : ℕ) → (allowed limit ≡ true) ↔ ((1 ≤ limit) × (limit ≤ 32))
unfolding allowed
allowed_exactly limit = (λ e. (limit_least limit e, limit_most limit e), λ h. rw (le-leb 1 limit h.0, le-leb limit 32 h.1))

pub allowed_else : (limit : ℕ) → (allowed limit ≡ false → ⊥) → allowed limit ≡ true
allowed_else limit n = go (allowed limit) refl
  where
    go : (b : Bool) → allowed limit ≡ b → allowed limit ≡ true
    go true e = e
    go false e = absurd (n e)

-- ---- 23

-- with a limit that may be stated no reading is refused with 23
pub unlimited_only : (limit : ℕ) (s : List ℕ) (words : ℕ) → allowed limit ≡ true → (at : ℕ) → reading limit s words ≢ refused NoLimit at
unlimited_only limit s words e at f = go (within_refused 65536 s (room_of 4096 words) limit (sym (reading_within limit s words e) ∙ f))
  where
    go : WithinRefused 65536 s (room_of 4096 words) limit NoLimit at → ⊥
    go (of_bytes h g) = omega (arith, ap number_of g)
    go (of_message g) = of_reading s (room_of 4096 words) limit g

the_limit : (m : Refusal) → number_of m ≡ 23 → m ≡ NoLimit
unfolding refusal_of
the_limit m e = sym (number_own m) ∙ ap refusal_of e

not_limit : (o : Reading) → ((at : ℕ) → o ≢ refused NoLimit at) → number_told (told_of o) ≢ 23
not_limit (got rows used book) n e = omega arith
not_limit (refused m p) n e = n p (ap (λ (k : Refusal). refused k p) (the_limit m e))

-- READ: 23 exactly if the limit is outside, whatever else; at place 0, the table zeros
pub read_unlimited :
    (limit : ℕ) (s : List ℕ) (words : ℕ) {T : List ℕ} {a : Answer} → Answers (reading limit s words) words T a
    → (((report_of a).number ≡ 23) ↔ (allowed limit ≡ false)) × (allowed limit ≡ false → (a ≡ Refused NoLimit 0) × (T ≡ replicate words 0))
read_unlimited limit s words {T} {a} d = ((λ e. go (allowed limit) refl e, λ h. ap (λ (x : Answer). (report_of x).number) (told_so h).0), told_so)
  where
    told_so : allowed limit ≡ false → (a ≡ Refused NoLimit 0) × (T ≡ replicate words 0)
    told_so h =
        let o : reading limit s words ≡ refused NoLimit 0 = reading_unlimited limit s words h in
        (d.says ∙ ap answer_of o, d.leaves ∙ ap (table_of words) o)

    same : (o : Reading) → (report_of (answer_of o)).number ≡ number_told (told_of o)
    same (got rows used book) = refl
    same (refused m p) = refl

    go : (b : Bool) → allowed limit ≡ b → (report_of a).number ≡ 23 → allowed limit ≡ false
    go true ok e =
        absurd
        (not_limit (reading limit s words) (unlimited_only limit s words ok)
        (sym (ap (λ (x : Answer). (report_of x).number) d.says ∙ same (reading limit s words)) ∙ e))
    go false h e = h

-- IN PIECES: after any piece, from the first call on, with a room that is long enough
pub runs_limit : {limit : ℕ} {p : List ℕ} {ps : List (List ℕ)} {a b : State} {R T R' T' : List ℕ} → allowed limit ≡ false → Runs limit (p ∷ ps) a R T b R' T' → told b ≡ refusal 23 0
runs_limit {limit} h (piece {state = state} w none) = (no_limit limit state w h).0
runs_limit h (piece w (piece v x)) = runs_limit h (piece v x)

so_far_limit : (o : Reading) → ((at : ℕ) → o ≢ refused NoLimit at) → number_told (so_far o) ≢ 23
so_far_limit o n = go (refused_with_one o)
  where
    go : (b : Bool) → number_told (cond b more (told_of o)) ≢ 23
    go true e = omega arith
    go false e = not_limit o n e

outcome_limit : (limit : ℕ) (s : List ℕ) (words : ℕ) → allowed limit ≡ true → (at : ℕ) → outcome limit s words ≢ refused NoLimit at
unfolding outcome
outcome_limit limit s words ok at = by (refused_with_one (reading limit (take 65536 s) words) && ltb 65536 (length s))
  where
    by : (b : Bool) → cond b (refused TooLong 0) (reading limit (take 65536 s) words) ≢ refused NoLimit at
    by true e = let z : ◌≡◌ {A = ℕ} 0 1 = cc in omega arith
    by false e = unlimited_only limit (take 65536 s) words ok at e

pub pieces_unlimited :
    (limit : ℕ) (R₀ T₀ : List ℕ) → 65536 ≤ length R₀ → (p : List ℕ) (ps : List (List ℕ)) {state : State} {R T : List ℕ} → Runs limit (p ∷ ps) begun R₀ T₀ state R T
    → (number_told (told state) ≡ 23) ↔ (allowed limit ≡ false)
pieces_unlimited limit R₀ T₀ long p ps {state} calls = (λ e. go (allowed limit) refl e, λ h. ap number_told (runs_limit h calls))
  where
    go : (b : Bool) → allowed limit ≡ b → number_told (told state) ≡ 23 → allowed limit ≡ false
    go true ok e =
        let s = through limit (length T₀) [] (p ∷ ps) in
        absurd
        (so_far_limit (outcome limit s (length T₀)) (outcome_limit limit s (length T₀) ok) (sym (ap number_told (after_each limit ok R₀ T₀ long (p ∷ ps) calls)) ∙ e))
    go false h e = h

-- WRITTEN: 23 exactly if the limit is outside, before all else; the output zeros
first_test :
    (l a b c d : Bool) (n : ℕ)
    → (writer.report_of (writer.given l NoLimit (writer.given a TooLong (writer.given b NotWritable (writer.given c FormTooLong (writer.given d OutputTooShort (write.Ok n))))))).number ≡ 23
    → l ≡ false
first_test false a b c d n e = refl
first_test true false b c d n e = absurd (omega arith)
first_test true true false c d n e = absurd (omega arith)
first_test true true true false d n e = absurd (omega arith)
first_test true true true true false n e = absurd (omega arith)
first_test true true true true true n e = absurd (omega arith)

pub write_unlimited :
    (limit : ℕ) (T : List ℕ) (rows : ℕ) (s out₀ out : List ℕ) {a : WriterAnswer} → writer.Did limit T rows s out₀ out a
    → (((writer.report_of a).number ≡ 23) ↔ (allowed limit ≡ false)) × (allowed limit ≡ false → out ≡ replicate (length out₀) 0)
unfolding writer.answer_of writer.answer_to
write_unlimited limit T rows s out₀ out {a} d = ((there, λ h. ap (λ (x : WriterAnswer). (writer.report_of x).number) (so h)), λ h. d.leaves ∙ rw (so h))
  where
    so : allowed limit ≡ false → a ≡ write.Err NoLimit
    so h = d.says ∙ rw h

    size : ℕ
    size = length (writer.form_of T rows s)

    there : (writer.report_of a).number ≡ 23 → allowed limit ≡ false
    there e =
        first_test (allowed limit) (leb (length s) 65536) (writable_to limit T rows s) (leb size 65536) (leb size (length out₀)) size
        (sym (ap (λ (x : WriterAnswer). (writer.report_of x).number) d.says) ∙ e)

-- and by a plan
first_planned :
    (l a b t c d : Bool) (n : ℕ)
    → (planner.report_of (planner.given l (Err (plan.Refused NoLimit)) (planner.given a (Err (plan.Refused TooLong)) (planner.given b (Err (plan.Refused NotWritable)) (planner.given t (Err plan.NotTaken) (planner.given c (Err (plan.Refused FormTooLong)) (planner.given d (Err (plan.Refused OutputTooShort)) (Ok n)))))))).number ≡ 23
    → l ≡ false
first_planned false a b t c d n e = refl
first_planned true false b t c d n e = absurd (omega arith)
first_planned true true false t c d n e = absurd (omega arith)
first_planned true true true false c d n e = absurd (omega arith)
first_planned true true true true false d n e = absurd (omega arith)
first_planned true true true true true false n e = absurd (omega arith)
first_planned true true true true true true n e = absurd (omega arith)

pub planned_unlimited :
    (limit : ℕ) (T : List ℕ) (rows : ℕ) (s p out₀ out : List ℕ) {a : PlanAnswer} → planner.Did limit T rows s p out₀ out a
    → (((planner.report_of a).number ≡ 23) ↔ (allowed limit ≡ false)) × (allowed limit ≡ false → out ≡ replicate (length out₀) 0)
unfolding planner.answer_of planner.answer_by
planned_unlimited limit T rows s p out₀ out {a} d = ((there, λ h. ap (λ (x : PlanAnswer). (planner.report_of x).number) (so h)), λ h. d.leaves ∙ rw (so h))
  where
    so : allowed limit ≡ false → a ≡ Err (plan.Refused NoLimit)
    so h = d.says ∙ rw h

    size : ℕ
    size = length (planner.chosen s (rows_of 4096 T rows) p)

    there : (planner.report_of a).number ≡ 23 → allowed limit ≡ false
    there e =
        first_planned (allowed limit) (leb (length s) 65536) (writable_to limit T rows s) (taken p (texts_of s (rows_of 4096 T rows))) (leb size 65536)
        (leb size (length out₀)) size (sym (ap (λ (x : PlanAnswer). (planner.report_of x).number) d.says) ∙ e)

-- AT STATIONS, behind 22: of the share, and E6's room unchanged
module _ (at : Station) (split : ℕ) (T : List ℕ) (ok : splits split (length T) ≡ true) (limit : ℕ) where
  pub station_read_unlimited :
      (s : List ℕ) {T' : List ℕ} {a : StationAnswer} → ReadFor limit s at split T T' a
      → (((at-station.report_of a).number ≡ 23) ↔ (allowed limit ≡ false))
      × (allowed limit ≡ false → (a ≡ Ok (Refused NoLimit 0)) × (share_of at split T' ≡ replicate (size_of at split (length T)) 0))
  station_read_unlimited s d =
      let x = own_read at split T ok limit s d in
      let z = read_unlimited limit s (size_of at split (length T)) x.did in
      let i = ap (λ (y : StationAnswer). (at-station.report_of y).number) x.is in (
        (λ e. z.0.0 (sym i ∙ e), λ h. i ∙ z.0.1 h),
        λ h. (x.is ∙ ap Ok (z.1 h).0, (z.1 h).1),
      )

  pub station_piece_unlimited :
      (state : State) (p R : List ℕ) {R' T' : List ℕ} {a : PieceAnswer} → NextFor limit state p at split R T R' T' a → allowed limit ≡ false
      → (piece_number a ≡ 23) × (R' ≡ R) × (share_of at split T' ≡ replicate (size_of at split (length T)) 0)
  station_piece_unlimited state p R d h =
      let x = own_piece at split T ok limit state p R d in
      let z = no_limit limit state x.did h in
      (ap piece_number x.is ∙ ap number_told z.0, z.1, z.2 ∙ ap (λ (n : ℕ). replicate n 0) (share_size at split T ok))

  pub station_end_unlimited :
      (state : State) (bytes : ℕ) {T' : List ℕ} {a : PieceAnswer} → EndFor limit state bytes at split T T' a → allowed limit ≡ false
      → (piece_number a ≡ 23) × (share_of at split T' ≡ replicate (size_of at split (length T)) 0)
  station_end_unlimited state bytes d h =
      let x = own_end at split T ok limit state bytes d in
      let z = no_limit_end limit state x.did h in
      (ap piece_number x.is ∙ ap number_told z.0, z.1 ∙ ap (λ (n : ℕ). replicate n 0) (share_size at split T ok))

  pub station_write_unlimited :
      (rows : ℕ) (s out : List ℕ) {out' : List ℕ} {a : WriteAnswer} → tables.WroteFor limit T at split rows s out out' a
      → (((tables.write_report_of a).number ≡ 23) ↔ (allowed limit ≡ false)) × (allowed limit ≡ false → out' ≡ replicate (length out) 0)
  station_write_unlimited rows s out {out'} d =
      let x = own_write at split T ok limit rows s out d in
      let z = write_unlimited limit (share_of at split T) rows s out out' x.did in
      let i = ap (λ (y : WriteAnswer). (tables.write_report_of y).number) x.is in
      ((λ e. z.0.0 (sym i ∙ e), λ h. i ∙ z.0.1 h), z.1)

  pub station_planned_unlimited :
      (rows : ℕ) (s p out : List ℕ) {out' : List ℕ} {a : StationPlanAnswer} → planned.WroteFor limit T at split rows s p out out' a
      → (((planned.report_of a).number ≡ 23) ↔ (allowed limit ≡ false)) × (allowed limit ≡ false → out' ≡ replicate (length out) 0)
  station_planned_unlimited rows s p out {out'} d =
      let x = own_planned at split T ok limit rows s p out d in
      let z = planned_unlimited limit (share_of at split T) rows s p out out' x.did in
      let i = ap (λ (y : StationPlanAnswer). (planned.report_of y).number) x.is in
      ((λ e. z.0.0 (sym i ∙ e), λ h. i ∙ z.0.1 h), z.1)

-- ---- judged at 32, where a table is looked at and not written

module _ (T : List ℕ) (rows : ℕ) (s : List ℕ) (r : ℕ) where
  pub lookup_judged :
      (key : List ℕ)
      → lookup T rows s r key ≡ cond (writable_to 32 T rows s) (look (row_at (room_of 4096 (length T)) T) rows s r key) (Err why.NotWritable)
  unfolding lookup writable writable_to
  lookup_judged key = refl

  pub index_judged :
      (n : ℕ) → index.refusal_of T rows s r n ≡ cond (writable_to 32 T rows s) (refusal_in (room_of 4096 (length T)) (row_at (room_of 4096 (length T)) T) rows s r n) 11
  unfolding index.refusal_of writable writable_to
  index_judged n = refl

  pub through_judged :
      (es : List Member) (key : List ℕ) → through_index T rows s r es key ≡ through_if T s (writable_to 32 T rows s) rows r es key
  unfolding through_index writable writable_to
  through_judged es key = refl

pub defaults_judged :
    (card defaults : Source) (key : List ℕ)
    → chosen card defaults key
    ≡ unless (writable_to 32 card.table card.rows card.text) unfit.NotWritable
    (unless (writable_to 32 defaults.table defaults.rows defaults.text) unfit.NotWritable
    (structs_then (row_in card) card.rows card.text card.row (row_in defaults) defaults.rows defaults.text defaults.row key))
unfolding chosen writable writable_to
defaults_judged card defaults key = refl
