-- Messages in pieces by the exported calls, whose state is six words that the caller keeps: calls from the words that `binmode_pieces_start` leaves
-- are a run of the functions' calls, and tell what it tells. Assumes nothing.
use mathlib.Core.Path.{◌≡◌, refl, sym, ap, ◌∙◌}
use mathlib.Core.Bool.{Bool, true, false, cond}
use mathlib.Core.Logic.{◌↔◌}
use mathlib.Core.List.{List, [], ◌∷◌, ◌++◌}
use Prim.Native.Nat.{ℕ, ◌+◌, ◌-◌, ◌≤◌, ◌<◌}
use native.Mathlib.Omega.{arith}
use lib.Dec.{ltb, eqb}
use lib.ListN.{length, take, drop, replicate, get_or}
use Rattle.draft.specs.declared.Row.{Row}
use Rattle.draft.specs.Codebook.{Book}
use Rattle.draft.specs.Table.{room_of}
use Rattle.draft.specs.Limits.{allowed}
use Rattle.draft.specs.Refusals.{number_of}
use Rattle.draft.specs.Read.{Reading, got, refused}
use Rattle.read_answer.specs.Answers.{reading, table_of}
use Rattle.read_answer.proofs.Limited.{got_within}
use Rattle.rereading.specs.Rereading.{refused_with_one}
use Rattle.room.specs.Room.{taken}
use Rattle.pieces.specs.declared.State.{State}
use Rattle.pieces.specs.declared.State.TheVariants.{More, Accepted, Refused}
use Rattle.pieces.specs.Pieces.{joined, outcome, more, refusal, told_of, so_far}
use Rattle.pieces.specs.Steps.{told, state_of as stateRead, bytes_held, state_went, Went, Closed}
use Rattle.pieces.specs.Runs.{begun, Runs, none, piece}
use Rattle.piece_reports.specs.Words.{words_of, told_by, state_of}
use Rattle.piece_reports.specs.Calls as exported
use Rattle.piece_reports.specs.Calls.{Calls, EndCall}
use Rattle.piece_reports.proofs.Keeping.{SomeRows, wants, accepts, refuses, kept, tells}
use Rattle.written.proofs.Concluding.{some_cell}
use Rattle.exact.proofs.Realising.{counts}
use Rattle.demands_reading.proofs.Reading.{sound}
use Rattle.demands_pieces.proofs.Pieces as functions

-- an accepted message has a row
accepted_rows : (limit : ℕ) (s : List ℕ) (words : ℕ) {rows : List Row} {used : ℕ} {book : Book} → reading limit s words ≡ got rows used book → 1 ≤ length rows
accepted_rows limit s words e =
    let d = sound 65536 s (room_of 4096 words) limit (got_within limit s words e) in
    omega (arith, counts d.meaning, some_cell d.begins.derived)

-- ---- no call gives a state that is accepted with 0 rows
some_pick : (b : Bool) {x y : State} → SomeRows x → SomeRows y → SomeRows (cond b x y)
some_pick true f g = f
some_pick false f g = g

some_read : (limit held n : ℕ) (s : List ℕ) (words : ℕ) → SomeRows (stateRead held n s (reading limit s words))
some_read limit held n s words = by (reading limit s words) refl
  where
    by : (o : Reading) → reading limit s words ≡ o → SomeRows (stateRead held n s o)
    by (got rows used book) e = accepts {rows = length rows} (λ z. omega (arith, z, accepted_rows limit s words e))
    by (refused m place) e = some_pick (eqb (number_of m) 1) (some_pick (ltb (65536 - held) n) refuses wants) refuses

some_went : (limit : ℕ) {state : State} (p R : List ℕ) (words : ℕ) → SomeRows state → SomeRows (state_went limit state p R words)
unfolding state_went
some_went limit p R words (wants {held = held} {wanted = wanted}) =
    some_pick (ltb 65536 held) refuses
    (some_pick (ltb (held + taken held p) wanted) (some_pick (ltb (65536 - held) (length p)) refuses wants)
    (some_read limit held (length p) (bytes_held held p R) words))
some_went limit p R words (accepts h) = accepts h
some_went limit p R words refuses = refuses

went_some : (limit : ℕ) {state : State} {p R T R' T' : List ℕ} {state' : State} → SomeRows state → Went limit state p R T R' T' state' → SomeRows state'
went_some limit {p = p} {R} {T} h w = rw w.says (some_pick (allowed limit) (some_pick (ltb (length R) 65536) refuses (some_went limit p R (length T) h)) refuses)

-- ---- calls from the words of a state are calls from that state
pub record AsRun (limit : ℕ) (ps : List (List ℕ)) (state : State) (R T w R' T' : List ℕ) : Type 0 where
  pub last : State
  pub run : Runs limit ps state R T last R' T'
  pub words : w ≡ words_of last
  pub rows : SomeRows last

pub as_run :
    {limit : ℕ} {ps : List (List ℕ)} {w R T w' R' T' : List ℕ} (state : State) → w ≡ words_of state → SomeRows state → Calls limit ps w R T w' R' T'
    → AsRun limit ps state R T w' R' T'
as_run state e h exported.none = record { last = state; run = none; words = e; rows = h }
as_run {limit} {w = w} state e h (exported.piece c rest) =
    let b : state_of w ≡ state = ap state_of e ∙ kept h in
    let g = rw b at c.went in
    let i = as_run c.state c.kept.words (went_some limit h g) rest in
    record { last = i.last; run = piece g i.run; words = i.words; rows = i.rows }

-- the end call likewise
end_run : {limit bytes : ℕ} {w T T' w' : List ℕ} (state : State) → w ≡ words_of state → SomeRows state → (e : EndCall limit w bytes T T' w') → Closed limit state bytes T T' e.reported.state
end_run {w = w} state e h c = let b : state_of w ≡ state = ap state_of e ∙ kept h in rw b at c.reported.closed

-- ---- calls from the words that the start leaves: what is told, the room and the table are those of the functions' calls
module _ (limit : ℕ) (ok : allowed limit ≡ true) (R₀ T₀ : List ℕ) (long : 65536 ≤ length R₀) (ps : List (List ℕ)) {w R T : List ℕ} (calls : Calls limit ps (words_of begun) R₀ T₀ w R T) where
  pub started : AsRun limit ps begun R₀ T₀ w R T
  started = as_run begun refl wants calls

  tells_last : told_by w ≡ told started.last
  tells_last = ap told_by started.words ∙ tells started.last

  pub so_far_lem : told_by w ≡ so_far (outcome limit (joined ps) (length T₀))
  so_far_lem = tells_last ∙ functions.so_far_lem limit ok R₀ T₀ long ps started.run

  pub as_whole :
      {T' w' : List ℕ} → length (joined ps) ≤ 65536 → EndCall limit w (length R) T T' w'
      → (told_by w' ≡ told_of (reading limit (joined ps) (length T₀))) × (T' ≡ table_of (length T₀) (reading limit (joined ps) (length T₀)))
  as_whole few c =
      let i = functions.as_whole limit ok R₀ T₀ long ps started.run few (end_run started.last started.words started.rows c) in
      (ap told_by c.reported.kept.words ∙ tells c.reported.state ∙ i.says, i.table)

  pub more_exactly : (told_by w ≡ more) ↔ (refused_with_one (reading limit (joined ps) (length T₀)) ≡ true)
  more_exactly = rw tells_last (functions.more_exactly limit ok R₀ T₀ long ps started.run)

  pub later_pieces :
      {qs : List (List ℕ)} {w' R' T' : List ℕ} → (told_by w ≡ more → ⊥) → Calls limit qs w R T w' R' T' → (w' ≡ w) × (R' ≡ R) × (T' ≡ T)
  later_pieces h next =
      let n = as_run started.last started.words started.rows next in
      let i = functions.later_calls limit ok R₀ T₀ long ps started.run (λ e. h (tells_last ∙ e)) n.run in
      (n.words ∙ ap words_of i.0 ∙ sym started.words, i.1, i.2)

  pub room_next :
      {p w' R' T' : List ℕ} → told_by w ≡ more → Calls limit (p ∷ []) w R T w' R' T'
      → R' ≡ take 65536 (joined ps ++ p) ++ drop (length (take 65536 (joined ps ++ p))) R₀
  room_next h next =
      let n = as_run started.last started.words started.rows next in
      functions.room_next limit ok R₀ T₀ long ps started.run (sym tells_last ∙ h) n.run

  pub ten_told : {p : ℕ} → told_by w ≡ refusal 10 p → (refused_with_one (reading limit (take 65536 (joined ps)) (length T₀)) ≡ true) × (65536 < length (joined ps))
  ten_told h = functions.ten_told limit ok R₀ T₀ long ps started.run (sym tells_last ∙ h)

  pub ten_given : refused_with_one (reading limit (take 65536 (joined ps)) (length T₀)) ≡ true → 65536 < length (joined ps) → told_by w ≡ refusal 10 0
  ten_given h k = tells_last ∙ functions.ten_given limit ok R₀ T₀ long ps started.run h k

  -- of the bytes wanted, the sixth word
  pub wanted_waits :
      told_by w ≡ more
      → (get_or w 5 0 ≤ 65537) × ((qs : List (List ℕ)) (w' R' T' : List ℕ) → Calls limit qs w R T w' R' T' → length (joined ps ++ joined qs) < get_or w 5 0 → told_by w' ≡ more)
  wanted_waits h = by started.last started.words started.rows started.run (sym tells_last ∙ h)
    where
      by :
          (state : State) → w ≡ words_of state → SomeRows state → Runs limit ps begun R₀ T₀ state R T → told state ≡ more
          → (get_or w 5 0 ≤ 65537) × ((qs : List (List ℕ)) (w' R' T' : List ℕ) → Calls limit qs w R T w' R' T' → length (joined ps ++ joined qs) < get_or w 5 0 → told_by w' ≡ more)
      by (More held wanted place) e s r f = (
        rw e (functions.wanted_most limit ok R₀ T₀ long ps r),
        λ qs w' R' T' next few.
            let n = as_run (More held wanted place) e s next in
            ap told_by n.words ∙ tells n.last ∙ functions.wanted_waits limit ok R₀ T₀ long ps r qs n.run (rw e at few),
      )
      by (Accepted rows used) e s r f = let z : ◌≡◌ {A = ℕ} 0 1 = cc in absurd (omega arith)
      by (Refused m place) e s r f = let z : ◌≡◌ {A = ℕ} 0 1 = cc in absurd (omega arith)

module _ (limit : ℕ) (ok : allowed limit ≡ true) (R₀ T₀ : List ℕ) (long : 65536 ≤ length R₀) (p : List ℕ) (ps : List (List ℕ)) {w R T : List ℕ} (calls : Calls limit (p ∷ ps) (words_of begun) R₀ T₀ w R T) where
  pub more_zeros : told_by w ≡ more → T ≡ replicate (length T₀) 0
  more_zeros h =
      functions.more_zeros limit ok R₀ T₀ long p ps (started limit ok R₀ T₀ long (p ∷ ps) calls).run (sym (tells_last limit ok R₀ T₀ long (p ∷ ps) calls) ∙ h)

  pub brought :
      refused_with_one (reading limit (take 65536 (joined (p ∷ ps))) (length T₀)) ≡ false
      → (told_by w ≡ told_of (reading limit (take 65536 (joined (p ∷ ps))) (length T₀))) × (T ≡ table_of (length T₀) (reading limit (take 65536 (joined (p ∷ ps))) (length T₀)))
  brought h =
      let i = functions.brought limit ok R₀ T₀ long p ps (started limit ok R₀ T₀ long (p ∷ ps) calls).run h in
      (tells_last limit ok R₀ T₀ long (p ∷ ps) calls ∙ i.0, i.1)

pub settled :
    (limit : ℕ) (ok : allowed limit ≡ true) (R₀ T₀ : List ℕ) → 65536 ≤ length R₀ → (Q₀ U₀ : List ℕ) → 65536 ≤ length Q₀ → length T₀ ≡ length U₀ → (p : List ℕ) (ps : List (List ℕ))
    {w v R T Q U : List ℕ} → Calls limit (p ∷ ps) (words_of begun) R₀ T₀ w R T → Calls limit (p ∷ ps) (words_of begun) Q₀ U₀ v Q U → (told_by w ≡ told_by v) × (T ≡ U)
settled limit ok R₀ T₀ long Q₀ U₀ far l p ps x y =
    let i = functions.settled limit ok R₀ T₀ long Q₀ U₀ far l p ps (started limit ok R₀ T₀ long (p ∷ ps) x).run (started limit ok Q₀ U₀ far (p ∷ ps) y).run in
    (tells_last limit ok R₀ T₀ long (p ∷ ps) x ∙ i.0 ∙ sym (tells_last limit ok Q₀ U₀ far (p ∷ ps) y), i.1)

-- ---- any words, room and table
pub past_stays : (limit : ℕ) {p w R T w' R' T' : List ℕ} → Calls limit (p ∷ []) w R T w' R' T' → drop 65536 R' ≡ drop 65536 R
past_stays limit {w = w} (exported.piece c exported.none) = functions.past_stays limit (state_of w) c.went

pub short_room :
    (limit : ℕ) {p w R T w' R' T' : List ℕ} → allowed limit ≡ true → length R < 65536 → Calls limit (p ∷ []) w R T w' R' T'
    → (told_by w' ≡ refusal 4 0) × (R' ≡ R) × (T' ≡ replicate (length T) 0)
short_room limit {w = w} ok h (exported.piece c exported.none) =
    let i = functions.short_room limit (state_of w) c.went ok h in
    (ap told_by c.kept.words ∙ tells c.state ∙ i.0, i.1, i.2)

pub short_room_end :
    (limit : ℕ) {bytes : ℕ} {w T T' w' : List ℕ} → allowed limit ≡ true → bytes < 65536 → EndCall limit w bytes T T' w'
    → (told_by w' ≡ refusal 4 0) × (T' ≡ replicate (length T) 0)
short_room_end limit {w = w} ok h c =
    let i = functions.short_room_end limit (state_of w) c.reported.closed ok h in
    (ap told_by c.reported.kept.words ∙ tells c.reported.state ∙ i.0, i.1)
