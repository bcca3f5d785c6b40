-- The codebook replayed over Strings as sent: legal sendings taken apart and put together, and how reading's codebook agrees with the recordings.
-- Assumes nothing.
use mathlib.Core.Path.{◌≡◌, refl, ap}
use mathlib.Core.Bool.{Bool, true, false, cond}
use mathlib.Core.Option.{Option, some, none}
use mathlib.Core.List.{List, [], ◌∷◌, ◌++◌}
use Prim.Native.Nat.{ℕ}
use native.Mathlib.Omega.{arith}
use lib.Dec.{eqb}
use lib.ListN.{length}
use Rattle.std.specs.Prelude.{Some, None}
use Rattle.draft.specs.declared.Span.{Span}
use Rattle.draft.specs.Codebook.{Entry, span, Book, clear, recorded as record-text}
use Rattle.draft.specs.Grammar.{Sent, regular, recorded, recalled, Recording, text_at, look, after, Legal, legal_none, legal_regular, legal_recorded, legal_recalled}
use Rattle.exact.proofs.Standing.{Here}

pub after_append : (R : List Recording) (fs gs : List Sent) → after R (fs ++ gs) ≡ after (after R fs) gs
after_append R [] gs = refl
after_append R (regular t ∷ fs) gs = after_append R fs gs
after_append R (recorded p t ∷ fs) gs = after_append (text_at p t ∷ R) fs gs
after_append R (recalled p t ∷ fs) gs = after_append R fs gs

pub legal_front : {R : List Recording} (fs gs : List Sent) → Legal R (fs ++ gs) → Legal R fs
legal_front [] gs l = legal_none
legal_front (regular t ∷ fs) gs (legal_regular l) = legal_regular (legal_front fs gs l)
legal_front (recorded p t ∷ fs) gs (legal_recorded l) = legal_recorded (legal_front fs gs l)
legal_front (recalled p t ∷ fs) gs (legal_recalled e l) = legal_recalled e (legal_front fs gs l)

pub legal_back : {R : List Recording} (fs gs : List Sent) → Legal R (fs ++ gs) → Legal (after R fs) gs
legal_back [] gs l = l
legal_back (regular t ∷ fs) gs (legal_regular l) = legal_back fs gs l
legal_back (recorded p t ∷ fs) gs (legal_recorded l) = legal_back fs gs l
legal_back (recalled p t ∷ fs) gs (legal_recalled e l) = legal_back fs gs l

pub legal_join : {R : List Recording} (fs gs : List Sent) → Legal R fs → Legal (after R fs) gs → Legal R (fs ++ gs)
legal_join [] gs l k = k
legal_join (regular t ∷ fs) gs (legal_regular l) k = legal_regular (legal_join fs gs l k)
legal_join (recorded p t ∷ fs) gs (legal_recorded l) k = legal_recorded (legal_join fs gs l k)
legal_join (recalled p t ∷ fs) gs (legal_recalled e l) k = legal_recalled e (legal_join fs gs l k)

-- what reading's codebook has at a position is where the recorded text stands
pub data Same (s : List ℕ) : Entry → Option (List ℕ) → Type 0 where
  same_unset : Same s None none
  same_text : {x : Span} {t : List ℕ} → Here s x.offset t → x.length ≡ length t → Same s (Some x) (some t)

pub record Agrees (s : List ℕ) (book : Book) (R : List Recording) : Type 0 where
  pub each : (p : ℕ) → Same s (book p) (look p R)

pub agrees_clear : {s : List ℕ} → Agrees s clear []
agrees_clear = record { each = λ p. same_unset }

pub agrees_recorded :
    {s : List ℕ} {book : Book} {R : List Recording} (p : ℕ) {o n : ℕ} {t : List ℕ} → Agrees s book R → Here s o t → n ≡ length t
    → Agrees s (record-text book p o n) (text_at p t ∷ R)
unfolding record-text
agrees_recorded {s} {book} {R} p {o} {n} {t} a h l = record { each = λ q. go q (eqb q p) }
  where
    go : (q : ℕ) (b : Bool) → Same s (cond b (Some (span o n)) (book q)) (cond b (some t) (look q R))
    go q true = same_text h l
    go q false = a.each q

-- a position that is set, on either side
pub record Found (s : List ℕ) (e : Entry) (t : List ℕ) : Type 0 where
  pub offset : ℕ
  pub size : ℕ
  pub is : e ≡ Some (span offset size)
  pub here : Here s offset t
  pub long : size ≡ length t

pub found : {s : List ℕ} {e : Entry} {t : List ℕ} (f : Option (List ℕ)) → Same s e f → f ≡ some t → Found s e t
found none same_unset i = let z : ◌≡◌ {A = ℕ} 0 1 = cc in absurd (omega arith)
found {s} {t = t} (some u) (same_text {x} h l) i =
    let j : u ≡ t = cc in
    record { offset = x.offset; size = x.length; is = refl; here = rw j at h; long = rw j at l }

pub record Said (s : List ℕ) (o n : ℕ) (f : Option (List ℕ)) : Type 0 where
  pub content : List ℕ
  pub is : f ≡ some content
  pub here : Here s o content
  pub long : n ≡ length content

pub said : {s : List ℕ} {o n : ℕ} {f : Option (List ℕ)} (e : Entry) → Same s e f → e ≡ Some (span o n) → Said s o n f
said None same_unset i = let z : ◌≡◌ {A = ℕ} 0 1 = cc in absurd (omega arith)
said {s} {o} {n} (Some x) (same_text {t = t} h l) i =
    let z : x ≡ span o n = cc in
    let j : x.offset ≡ o = ap (λ (y : Span). y.offset) z in
    let k : x.length ≡ n = ap (λ (y : Span). y.length) z in
    record { content = t; is = refl; here = rw j at h; long = rw k at l }
