-- Request E11's law of growth, for each call that reads, of its own answers: one that is none of 8, 9, 22 and 23 stays. Assumes nothing.
use Rattle.std.specs.Prelude.{Ok, Err}
use mathlib.Core.Path.{◌≡◌, refl, sym, ap, ◌∙◌}
use mathlib.Core.Bool.{Bool, true, false, ◌&&◌, cond}
use mathlib.Core.Logic.{◌≢◌}
use mathlib.Core.List.{List, [], ◌∷◌, ◌++◌}
use Prim.Native.Nat.{ℕ, ◌≤◌}
use native.Mathlib.Omega.{arith}
use lib.Dec.{leb, ltb}
use lib.ListN.{length, take}
use borrow.Author.Tests.{leb-true}
use Rattle.text.proofs.Comparing.{clash}
use Rattle.draft.specs.declared.Refusal.TheVariants.{TooDeep, NoRow, TooLong, NoLimit}
use Rattle.draft.specs.Refusals.{number_of}
use Rattle.draft.specs.Bytes.{part}
use Rattle.draft.specs.Limits.{allowed}
use Rattle.draft.specs.Table.{room_of}
use Rattle.draft.specs.Read.{Reading, got, refused, message, message_within}
use Rattle.exact.proofs.Concluding.{within_is}
use Rattle.read_answer.specs.declared.Answer.{Answer}
use Rattle.read_answer.specs.declared.Answer.TheVariants.{Accepted, Refused}
use Rattle.read_answer.specs.Answers.{reading, answer_of, table_of, Answers, report_of}
use Rattle.read_answer.proofs.Limited.{reading_within, reading_not}
use Rattle.rereading.specs.Rereading.{refused_with_one}
use Rattle.records.specs.Job.{body_of, Found, body_at, missing_at}
use Rattle.job.specs.Cards.{Answer as JobAnswer, located, Reads}
use Rattle.job.specs.Cards as job
use Rattle.pieces.specs.declared.State.{State}
use Rattle.pieces.specs.Pieces.{joined, told_of, so_far, more, refusal, outcome, wanting, through}
use Rattle.pieces.specs.Steps.{told, Closed}
use Rattle.pieces.specs.Runs.{begun, Runs}
use Rattle.shares.specs.declared.Station.{Station}
use Rattle.shares.specs.Share.{splits, size_of, share_of}
use Rattle.station_reading.specs.Answers.{Answer as StationAnswer, CardAnswer, ReadFor, CardFor}
use Rattle.station_reading.specs.Answers as at-station
use Rattle.station_pieces.specs.Steps.{EndFor}
use Rattle.stations.specs.Calls as call
use Rattle.stations.specs.Turns.{Turns}
use Rattle.stations.proofs.Owning.{turns_run}
use Rattle.demands_reading.proofs.Reading.{growth_of_limits}
use Rattle.demands_pieces.proofs.Pieces.{as_whole, after_each, table_settled, no_limit_end}
use Rattle.demands_stations.specs.Numbers.{number_told, rows_told}
use Rattle.demands_stations.proofs.Numbers.{has_share}
use Rattle.demands_stations.proofs.Stations.{own_read, own_card, its_end}
use Rattle.demands_calls.specs.Growth.{Lasts, Stays}
use Rattle.demands_calls.specs.Columns.{rows_in, decided}
use Rattle.demands_calls.proofs.Stated.{allowed_else, runs_limit}
use Rattle.demands_calls.proofs.Tables.{fits, fits_outcome, stays}

-- a reading that is refused with none of 8, 9 and 23
record Lasting (o : Reading) : Type 0 where
  not_deep : (at : ℕ) → o ≢ refused TooDeep at
  not_full : (at : ℕ) → o ≢ refused NoRow at
  not_unlimited : (at : ℕ) → o ≢ refused NoLimit at

lasting_told : (o : Reading) → Lasts (number_told (told_of o)) → Lasting o
lasting_told o l =
    record {
      not_deep = λ at z. l.not_deep (ap (λ (x : Reading). number_told (told_of x)) z);
      not_full = λ at z. l.not_full (ap (λ (x : Reading). number_told (told_of x)) z);
      not_unlimited = λ at z. l.not_limit (ap (λ (x : Reading). number_told (told_of x)) z);
    }

lasting_one : (o : Reading) → refused_with_one o ≡ true → Lasting o
lasting_one o h =
    record {
      not_deep = λ at z. clash h (ap refused_with_one z);
      not_full = λ at z. clash h (ap refused_with_one z);
      not_unlimited = λ at z. clash h (ap refused_with_one z);
    }

lasting_so_far : (o : Reading) → Lasts (number_told (so_far o)) → Lasting o
lasting_so_far o l = go (refused_with_one o) refl l
  where
    go : (b : Bool) → refused_with_one o ≡ b → Lasts (number_told (cond b more (told_of o))) → Lasting o
    go true h l = lasting_one o h
    go false h l = lasting_told o l

-- too many bytes are so under any limit
too_many : (s : List ℕ) (room deep : ℕ) → leb (length s) 65536 ≡ false → message_within 65536 s room deep ≡ refused TooLong 0
unfolding message_within
too_many s room deep e = rw e

-- one message, under a limit that is not lower, up to 32, and into a table, or a share, that is not smaller
module _ (s : List ℕ) {limit later words words' : ℕ} (higher : limit ≤ later) (ok : allowed later ≡ true) (larger : words ≤ words') where
  reading_stays : Lasting (reading limit s words) → reading later s words' ≡ reading limit s words
  reading_stays l =
      reading_within later s words' ok ∙ go (leb (length s) 65536) refl ∙ sym (reading_within limit s words stated)
    where
      stated : allowed limit ≡ true
      stated = reading_not limit s words l.not_unlimited

      go :
          (b : Bool) → leb (length s) 65536 ≡ b
          → message_within 65536 s (room_of 4096 words') later ≡ message_within 65536 s (room_of 4096 words) limit
      go true e =
          let f : reading limit s words ≡ message s (room_of 4096 words) limit =
          reading_within limit s words stated ∙ within_is 65536 s (room_of 4096 words) limit (leb-true (length s) 65536 e) in
          within_is 65536 s (room_of 4096 words') later (leb-true (length s) 65536 e)
          ∙ growth_of_limits s (omega arith) higher (λ at z. l.not_deep at (f ∙ z)) (λ at z. l.not_full at (f ∙ z))
          ∙ sym (within_is 65536 s (room_of 4096 words) limit (leb-true (length s) 65536 e))
      go false e = too_many s (room_of 4096 words') later e ∙ sym (too_many s (room_of 4096 words) limit e)

-- the number and the rows of an answer are those of its reading
answer_number_lem : (o : Reading) → (report_of (answer_of o)).number ≡ number_told (told_of o)
answer_number_lem (got rows used book) = refl
answer_number_lem (refused m p) = refl

answer_rows : (o : Reading) → (report_of (answer_of o)).rows ≡ length (rows_in o)
answer_rows (got rows used book) = refl
answer_rows (refused m p) = refl

-- READ
pub read_stays :
    (s : List ℕ) {limit later words words' : ℕ} → limit ≤ later → allowed later ≡ true → words ≤ words' → {T T' : List ℕ} {a b : Answer}
    → Answers (reading limit s words) words T a → Answers (reading later s words') words' T' b → Lasts (report_of a).number
    → Stays a b (report_of a).rows T T'
read_stays s {limit} {later} {words} {words'} higher ok larger {a = a} d e l =
    let f : (report_of a).number ≡ number_told (told_of (reading limit s words)) = ap (λ (x : Answer). (report_of x).number) d.says ∙ answer_number_lem (reading limit s words) in
    let i : reading later s words' ≡ reading limit s words = reading_stays s higher ok larger (lasting_told (reading limit s words) (rw f at l)) in
    stays larger (reading limit s words) (fits limit s words (reading limit s words) refl) d.leaves (e.leaves ∙ ap (table_of words') i)
    (e.says ∙ ap answer_of i ∙ sym d.says) (ap (λ (x : Answer). (report_of x).rows) d.says ∙ answer_rows (reading limit s words))

-- what stays of answers that hold others
within :
    {A B : Type 0} (f : A → B) {a b : A} {x y : B} {n m : ℕ} {T T' : List ℕ} → x ≡ f a → y ≡ f b → m ≡ n → Stays a b n T T' → Stays x y m T T'
within f {T = T} {T' = T'} i j k s =
    record {
      answer = j ∙ ap f s.answer ∙ sym i;
      rows = rw k s.rows;
      added = rw k s.added;
    }

-- A CARD of a job file; cards are read at 32
located_number : (start : ℕ) (a : Answer) → (job.report_of (located start a)).number ≡ (report_of a).number
located_number start (Accepted rows used) = refl
located_number start (Refused m p) = refl

located_rows : (start : ℕ) (a : Answer) → (job.report_of (located start a)).rows ≡ (report_of a).rows
located_rows start (Accepted rows used) = refl
located_rows start (Refused m p) = refl

pub card_stays :
    (s : List ℕ) (f : Found) {words words' : ℕ} → words ≤ words' → {T T' : List ℕ} {a b : JobAnswer} → Reads s words f T a → Reads s words' f T' b
    → Lasts (job.report_of a).number → Stays a b (job.report_of a).rows T T'
unfolding allowed
card_stays s (Ok body) {words} {words'} larger {a = a} d e l =
    let o : Reading = reading 32 (part s body.start body.length) words in
    let o' : Reading = reading 32 (part s body.start body.length) words' in
    let n : (job.report_of a).number ≡ (report_of (answer_of o)).number = ap (λ (x : JobAnswer). (job.report_of x).number) d.says ∙ located_number body.start (answer_of o) in
    within (located body.start) d.says e.says (ap (λ (x : JobAnswer). (job.report_of x).rows) d.says ∙ located_rows body.start (answer_of o))
    (read_stays (part s body.start body.length) {limit = 32} {later = 32} {words = words} {words' = words'} (omega arith) refl larger
    (record { says = refl; leaves = d.leaves }) (record { says = refl; leaves = e.leaves }) (rw n at l))
card_stays s (Err none) larger d e l =
    stays larger (refused TooLong 0) tt d.leaves e.leaves (e.says ∙ sym d.says) (ap (λ (x : JobAnswer). (job.report_of x).rows) d.says)

-- AT STATIONS: under a larger share
module _
    (here there : Station) (split split' : ℕ) (T U : List ℕ) (is' : splits split' (length U) ≡ true) (s : List ℕ)
    (larger : size_of here split (length T) ≤ size_of there split' (length U)) {T' U' : List ℕ}
  where
    pub station_stays :
        {limit later : ℕ} → limit ≤ later → allowed later ≡ true → {a b : StationAnswer} → ReadFor limit s here split T T' a → ReadFor later s there split' U U' b
        → Lasts (at-station.report_of a).number → Stays a b (at-station.report_of a).rows (share_of here split T') (share_of there split' U')
    station_stays {limit} {later} higher ok d e l =
        let x = own_read here split T (has_share (call.reads d) l.not_split_lem) limit s d in
        let y = own_read there split' U is' later s e in
        within Ok x.is y.is (ap (λ (z : StationAnswer). (at-station.report_of z).rows) x.is)
        (read_stays s higher ok larger x.did y.did (rw (ap (λ (z : StationAnswer). (at-station.report_of z).number) x.is) at l))

    pub station_card_stays :
        (number : ℕ) {a b : CardAnswer} → CardFor s number here split T T' a → CardFor s number there split' U U' b
        → Lasts (at-station.card_report_of a).number → Stays a b (at-station.card_report_of a).rows (share_of here split T') (share_of there split' U')
    station_card_stays number d e l =
        let x = own_card here split T (has_share (call.reads_card d) l.not_split_lem) s number d in
        let y = own_card there split' U is' s number e in
        within Ok x.is y.is (ap (λ (z : CardAnswer). (at-station.card_report_of z).rows) x.is)
        (card_stays s (body_of s number) larger x.did y.did (rw (ap (λ (z : CardAnswer). (at-station.card_report_of z).number) x.is) at l))

-- ---- in pieces

told_rows : (o : Reading) → rows_told (told_of o) ≡ length (rows_in o)
told_rows (got rows used book) = refl
told_rows (refused m p) = refl

so_far_rows : (o : Reading) → rows_told (so_far o) ≡ length (rows_in o)
so_far_rows (got rows used book) = refl
so_far_rows (refused m p) = go (refused_with_one (refused m p))
  where
    go : (b : Bool) → rows_told (cond b more (refusal (number_of m) p)) ≡ 0
    go true = refl
    go false = refl

module _ {limit later words words' : ℕ} (higher : limit ≤ later) (ok : allowed later ≡ true) (larger : words ≤ words') where
  outcome_stays : (s : List ℕ) → Lasting (outcome limit s words) → outcome later s words' ≡ outcome limit s words
  unfolding outcome
  outcome_stays s l =
      ap (λ (o : Reading). cond (refused_with_one o && ltb 65536 (length s)) (refused TooLong 0) o)
      (reading_stays (take 65536 s) higher ok larger (inner (refused_with_one (reading limit (take 65536 s) words)) refl))
    where
      inner : (b : Bool) → refused_with_one (reading limit (take 65536 s) words) ≡ b → Lasting (reading limit (take 65536 s) words)
      inner true h = lasting_one (reading limit (take 65536 s) words) h
      inner false h =
          let e : cond (refused_with_one (reading limit (take 65536 s) words) && ltb 65536 (length s)) (refused TooLong 0) (reading limit (take 65536 s) words) ≡ reading limit (take 65536 s) words = rw h in
          rw e at l

  through_stays : (s : List ℕ) (ps : List (List ℕ)) → Lasting (outcome limit (through limit words s ps) words) → through later words' s ps ≡ through limit words s ps
  unfolding through
  through_stays s [] l = refl
  through_stays s (p ∷ ps) l = go (wanting limit s words) refl l (λ z. through_stays (s ++ p) ps z)
    where
      go :
          (b : Bool) → wanting limit s words ≡ b → Lasting (outcome limit (cond (wanting limit s words) (through limit words (s ++ p) ps) s) words)
          → (Lasting (outcome limit (through limit words (s ++ p) ps) words) → through later words' (s ++ p) ps ≡ through limit words (s ++ p) ps)
          → cond (wanting later s words') (through later words' (s ++ p) ps) s ≡ cond (wanting limit s words) (through limit words (s ++ p) ps) s
      go true h l rest =
          let e : wanting later s words' ≡ true = ap refused_with_one (outcome_stays s (lasting_one (outcome limit s words) h)) ∙ h in
          rw (e, h) (rest (rw h at l))
      go false h l rest =
          let e : wanting later s words' ≡ false = ap refused_with_one (outcome_stays s (rw h at l)) ∙ h in
          rw (e, h)

module _ {limit later : ℕ} (higher : limit ≤ later) (ok : allowed later ≡ true) (R₀ T₀ Q₀ U₀ : List ℕ) (long : 65536 ≤ length R₀) (long' : 65536 ≤ length Q₀) (larger : length T₀ ≤ length U₀) where
  -- AFTER EACH PIECE: what is told comes with the same piece
  pub piece_stays :
      (p : List ℕ) (ps : List (List ℕ)) {a b : State} {R T Q U : List ℕ} → Runs limit (p ∷ ps) begun R₀ T₀ a R T → Runs later (p ∷ ps) begun Q₀ U₀ b Q U
      → Lasts (number_told (told a)) → Stays (told a) (told b) (rows_told (told a)) T U
  piece_stays p ps {a} x y l =
      let fine : allowed limit ≡ true = allowed_else limit (λ h. l.not_limit (ap number_told (runs_limit h x))) in
      let i : told a ≡ so_far (decided limit (length T₀) (p ∷ ps)) = after_each limit fine R₀ T₀ long (p ∷ ps) x in
      let z = lasting_so_far (decided limit (length T₀) (p ∷ ps)) (rw (ap number_told i) at l) in
      let k : decided later (length U₀) (p ∷ ps) ≡ decided limit (length T₀) (p ∷ ps) =
      ap (λ (s : List ℕ). outcome later s (length U₀)) (through_stays higher ok larger [] (p ∷ ps) z)
      ∙ outcome_stays higher ok larger (through limit (length T₀) [] (p ∷ ps)) z in
      stays larger (decided limit (length T₀) (p ∷ ps)) (fits_outcome limit (through limit (length T₀) [] (p ∷ ps)) (length T₀))
      (table_settled limit fine R₀ T₀ long p ps x) (table_settled later ok Q₀ U₀ long' p ps y ∙ ap (table_of (length U₀)) k)
      (after_each later ok Q₀ U₀ long' (p ∷ ps) y ∙ ap so_far k ∙ sym i) (ap rows_told i ∙ so_far_rows (decided limit (length T₀) (p ∷ ps)))

  -- AT THE END: of one message of up to 65,536 bytes, however it is cut
  pub end_stays :
      (ps qs : List (List ℕ)) → joined ps ≡ joined qs → length (joined ps) ≤ 65536 → {a b a' b' : State} {R T T' Q U U' : List ℕ}
      → Runs limit ps begun R₀ T₀ a R T → Closed limit a (length R) T T' a' → Runs later qs begun Q₀ U₀ b Q U → Closed later b (length Q) U U' b'
      → Lasts (number_told (told a')) → Stays (told a') (told b') (rows_told (told a')) T' U'
  end_stays ps qs e few {a} {b} x c y d l =
      let fine : allowed limit ≡ true = allowed_else limit (λ h. l.not_limit (ap number_told (no_limit_end limit a c h).0)) in
      let i = as_whole limit fine R₀ T₀ long ps x few c in
      let j = as_whole later ok Q₀ U₀ long' qs y (rw e at few) d in
      let z = lasting_told (reading limit (joined ps) (length T₀)) (rw (ap number_told i.says) at l) in
      let k : reading later (joined qs) (length U₀) ≡ reading limit (joined ps) (length T₀) =
      ap (λ (t : List ℕ). reading later t (length U₀)) (sym e) ∙ reading_stays (joined ps) higher ok larger z in
      stays larger (reading limit (joined ps) (length T₀)) (fits limit (joined ps) (length T₀) (reading limit (joined ps) (length T₀)) refl) i.table
      (j.table ∙ ap (table_of (length U₀)) k) (j.says ∙ ap told_of k ∙ sym i.says) (ap rows_told i.says ∙ told_rows (reading limit (joined ps) (length T₀)))

  -- AT STATIONS, with any calls of the other station in between: T₀ and U₀ are the shares' words before the first piece
  module _ (here there : Station) where
    pub station_piece_stays :
        (p : List ℕ) (ps : List (List ℕ)) {a b : State} {R W Q X : List ℕ} → Turns limit here (p ∷ ps) begun R₀ T₀ a R W → Turns later there (p ∷ ps) begun Q₀ U₀ b Q X
        → Lasts (number_told (told a)) → Stays (told a) (told b) (rows_told (told a)) W X
    station_piece_stays p ps x y = piece_stays p ps (turns_run x) (turns_run y)

    pub station_end_stays :
        (split split' : ℕ) (T U : List ℕ) (ps qs : List (List ℕ)) → joined ps ≡ joined qs → length (joined ps) ≤ 65536 → {a b a' b' : State} {R Q T' U' : List ℕ}
        → Turns limit here ps begun R₀ T₀ a R (share_of here split T) → EndFor limit a (length R) here split T T' (Ok a')
        → Turns later there qs begun Q₀ U₀ b Q (share_of there split' U) → EndFor later b (length Q) there split' U U' (Ok b')
        → Lasts (number_told (told a')) → Stays (told a') (told b') (rows_told (told a')) (share_of here split T') (share_of there split' U')
    station_end_stays split split' T U ps qs e few x c y d = end_stays ps qs e few (turns_run x) (its_end here split T c) (turns_run y) (its_end there split' U d)
