-- What answers each return of the functions that read a whole message. Assumes nothing.
use mathlib.Core.Path.{◌≡◌, refl, sym, ◌∙◌}
use mathlib.Core.Bool.{Bool, true, false}
use mathlib.Core.List.{List}
use Prim.Native.Nat.{ℕ, ◌+◌, ◌*◌, ◌/◌, ◌≤◌, ◌<◌, min}
use Rattle.std.specs.Result.{is_err}
use native.Mathlib.Omega.{arith}
use native.Mathlib.Nat.{zero-add}
use lib.Dec.{eqb}
use lib.ListN.{length, get_or, replicate}
use borrow.Author.Tests.{eqb-true, le-leb, lt-leb}
use Rattle.draft.specs.Table.{room_of}
use Rattle.std.specs.Prelude.{Ok, Err}
use Rattle.draft.specs.declared.Refused.{Refused}
use Rattle.item.specs.declared.Reached.{Reached}
use Rattle.item.specs.Contract.{Fitting}
use Rattle.keys.proofs.Keeping.{noted_blank}
use Rattle.glyph.specs.declared.Refusal.{Refusal}
use Rattle.glyph.specs.declared.Refusal.TheVariants.{UnexpectedByte, BadLimit, TooLong}
use Rattle.glyph.specs.declared.Edition.{Edition}
use Rattle.glyph.specs.declared.Accepted.{Accepted}
use Rattle.glyph.specs.declared.Want.TheVariants.{Any}
use Rattle.glyph.specs.Numbers.{past}
use Rattle.glyph.specs.Read.{Reading, got, refused, opened, text, object, rooted, root, message}
use Rattle.glyph.specs.Letters.{letter_of}
use Rattle.glyph.specs.declared.Letter.TheVariants.{Leaf}
use Rattle.glyph.specs.declared.Leaf.TheVariants.{Unicode}
use Rattle.glyph.specs.Answers.{Answer, reading, answer_of, table_of, Answers}
use Rattle.glyph_bytes.specs.Places.{Skipped, Stands}
use Rattle.glyph_item.specs.Contract.{Step, Did}
use Rattle.glyph_item.proofs.Readings.{Got, done, did_next, did_not}
use Rattle.glyph_keys.specs.Contract.{Entries, Prepared, Done}
use Rattle.glyph_objects.proofs.Objects.{object_is}
use Rattle.glyph_reader.specs.Rooted.{RootDid, BodyDid}

-- the root with nothing noted
pub root_ready : {s : List ℕ} {room at : ℕ} {T N : List ℕ} → Fitting 0 0 room (length s) (length T) → Entries 0 0 room (length s) (length N) → N ≡ replicate (length N) 0 → Skipped s 0 at → Prepared s at 0 room T N
root_ready f n z k =
    record {
      fitting = record { within = k.within; fits = f.fits; rows = f.rows; table = f.table; message = f.message };
      entries = record { behind = omega arith; enough = n.enough; most = n.most };
      noted = noted_blank z;
    }

pub root_did : {s : List ℕ} {room : ℕ} {e : Edition} {limit at from : ℕ} {T T' N N' : List ℕ} {step : Step} → Skipped s 0 at → Done (object s room e limit Any at 0) s room from 0 T T' N N' step → RootDid s room e limit T T' step
root_did {from = from} k d = record { from = from; did = rw k.is at d.did }

-- a text as the root, without notes
pub text_fits : {s : List ℕ} {room at words : ℕ} → Fitting 0 0 room (length s) words → Skipped s 0 at → Fitting at 0 room (length s) words
text_fits f k = record { within = k.within; fits = f.fits; rows = f.rows; table = f.table; message = f.message }

pub text_in : {s : List ℕ} {at : ℕ} {test b : Bool} → Stands s at test b → b ≡ true → at < length s
text_in x e = x.there e

letter_unicode : (e : Edition) (b : ℕ) → b ≡ 117 → Leaf Unicode ≡ letter_of e b
unfolding letter_of
letter_unicode e b i = rw i

pub text_did : {s : List ℕ} {room : ℕ} (e : Edition) (limit : ℕ) {at : ℕ} {T T' : List ℕ} {step : Step} {b : Bool} → Skipped s 0 at → Stands s at (eqb (get_or s at 0) 117) b → b ≡ true → Did (opened room at 0 (text s true at 0)) (length s) room (at + 1) 0 T T' step → RootDid s room e limit T T' step
text_did {s} {room} e limit {at} k x y d =
    let i : get_or s at 0 ≡ 117 = eqb-true (get_or s at 0) 117 (sym x.is ∙ y) in
    record { from = past s 0 + 1; did = rw k.is at (done (object_is s room e limit Any at 0 (x.there y) (letter_unicode e (get_or s at 0) i)) d) }

pub root_in : {s : List ℕ} {room : ℕ} {e : Edition} {limit : ℕ} {T T' : List ℕ} {step : Step} {x : Reached} → RootDid s room e limit T T' step → step ≡ Ok x → x.at ≤ length s
root_in d z = (did_next d.did z).within

-- the root and the blanks around it, read into zeros
module _ (s : List ℕ) (e : Edition) (limit words : ℕ) {room : ℕ} {T T₁ : List ℕ} {step : Step} (f : room ≡ room_of 4096 words) (d : RootDid s room e limit T T₁ step) where
  by_object : (o : Reading) → object s room e limit Any (past s 0) 0 ≡ o → root s (room_of 4096 words) e limit ≡ rooted s (room_of 4096 words) o
  unfolding root
  by_object o i = rw (← f, i)

  pub root_no : {T' : List ℕ} {x : Refused Refusal} {answer : Answer} → step ≡ Err x → answer ≡ Err x → BodyDid (root s (room_of 4096 words) e limit) words T' answer
  root_no {x = x} n z =
      let o : root s (room_of 4096 words) e limit ≡ refused x.refusal x.place = by_object _ (did_not d.did n) in
      record { says = z ∙ rw o; leaves = λ y i. absurd (cc) }

  module _ {x : Reached} {to : ℕ} (z : step ≡ Ok x) (y : Skipped s x.at to) where
    pub root_more : {T' : List ℕ} → to < length s → BodyDid (root s (room_of 4096 words) e limit) words T' (Err (record { refusal = UnexpectedByte; place = to }))
    root_more m =
        let g = did_next d.did z in
        let o : root s (room_of 4096 words) e limit ≡ refused UnexpectedByte to = by_object _ g.reading ∙ simp (← y.is, lt-leb _ _ m) in
        record { says = rw o; leaves = λ u i. absurd (cc) }

    pub root_got : length s ≤ to → T ≡ replicate words 0 → BodyDid (root s (room_of 4096 words) e limit) words T₁ (Ok (record { rows = x.row; used = x.at }))
    root_got m t =
        let g = did_next d.did z in
        let o : root s (room_of 4096 words) e limit ≡ got g.rows x.at = by_object _ g.reading ∙ simp (← y.is, le-leb _ _ m) in
        let n : x.row ≡ length g.rows = g.next ∙ zero-add _ in
        record { says = simp (o, n); leaves = λ u i. g.wrote ∙ simp (o, f, t) }

-- the whole message
module _ (e : Edition) (limit : ℕ) (s : List ℕ) (words : ℕ) where
  pub read_low : {T' : List ℕ} → limit < 1 → T' ≡ replicate words 0 → Answers (reading e limit s words) words T' (Err (record { refusal = BadLimit; place = 0 }))
  unfolding reading message
  read_low h w = record { says = simp (lt-leb _ _ h); leaves = simp (lt-leb _ _ h, w) }

  module _ (h : 1 ≤ limit) where
    pub read_high : {T' : List ℕ} → 32 < limit → T' ≡ replicate words 0 → Answers (reading e limit s words) words T' (Err (record { refusal = BadLimit; place = 0 }))
    unfolding reading message
    read_high k w = record { says = simp (le-leb _ _ h, lt-leb _ _ k); leaves = simp (le-leb _ _ h, lt-leb _ _ k, w) }

    module _ (k : limit ≤ 32) where
      pub read_long : {T' : List ℕ} → 65536 < length s → T' ≡ replicate words 0 → Answers (reading e limit s words) words T' (Err (record { refusal = TooLong; place = 0 }))
      unfolding reading message
      read_long l w = record { says = simp (le-leb _ _ h, le-leb _ _ k, lt-leb _ _ l); leaves = simp (le-leb _ _ h, le-leb _ _ k, lt-leb _ _ l, w) }

      pub read_on : (words₁ : ℕ) {T' : List ℕ} {r : Answer} → length s ≤ 65536 → Answers (root s (room_of 4096 words₁) e limit) words₁ T' r → words₁ ≡ words → Answers (reading e limit s words) words T' r
      unfolding reading message
      read_on words₁ l d j = rw (le-leb _ _ h, le-leb _ _ k, le-leb _ _ l, ← j) d

-- a body that was accepted, and one that was refused, whose table is cleared
pub body_ok : {o : Reading} {words : ℕ} {T' : List ℕ} {a : Answer} {b : Bool} → BodyDid o words T' a → b ≡ is_err a → b ≡ false → Answers o words T' a
body_ok {a = Ok x} d e f = record { says = d.says; leaves = d.leaves x refl }
body_ok {a = Err x} d e f = absurd (cc)

pub body_err : {o : Reading} {words : ℕ} {T₁ T' : List ℕ} {a : Answer} {b : Bool} → BodyDid o words T₁ a → b ≡ is_err a → b ≡ true → T' ≡ replicate words 0 → Answers o words T' a
body_err {a = Ok x} d e f t = absurd (cc)
body_err {o = got rows at} {a = Err x} d e f t = absurd (let w : Err x ≡ answer_of (got rows at) = d.says in cc)
body_err {o = refused m p} {a = Err x} d e f t = record { says = d.says; leaves = t }

pub zeros : (words words₁ : ℕ) {T : List ℕ} → T ≡ replicate words 0 → words ≡ words₁ → T ≡ replicate words₁ 0
zeros words words₁ e k = rw (← k) e

pub ruleset whole = (text_fits, text_in, text_did, root_ready, root_did, root_in, root_no, root_more, root_got, read_low, read_high, read_long)
