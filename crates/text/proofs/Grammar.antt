-- The test `well_formed` and RFC 3629's grammar agree: bytes are well-formed exactly if the grammar derives them. Assumes nothing.
use mathlib.Core.Path.{◌≡◌, refl, sym, ap, ◌∙◌}
use mathlib.Core.Bool.{Bool, true, false, cond}
use mathlib.Core.List.{List, [], ◌∷◌, ◌++◌}
use Prim.Native.Nat.{ℕ, ◌<◌}
use native.Mathlib.Omega.{arith}
use lib.Dec.{leb}
use borrow.Author.Tests.{leb-true, le-leb}
use Rattle.text.specs.Rfc3629.{Octet, single, pair, UTF8-3, from_E0, from_E1_EC, from_ED, from_EE_EF, UTF8-4, from_F0, from_F1_F3, from_F4, UTF8-char, char_1, char_2, char_3, char_4, UTF8-octets, none, more}
use Rattle.text.specs.Utf8.{Range, ◌to◌, within, Form, ◌then◌, forms, tail, Due, due, wrong, due_by, due_after, step, whole, octets, well_formed}
use Rattle.text.proofs.Bytewise.{listed, agree}
use Rattle.text.proofs.Comparing.{clash, both}

octet : {low high b : ℕ} → within (low to high) b ≡ true → Octet low high b
unfolding within
octet {low} {high} {b} w = let h = both (leb low b) (leb b high) w in record { from = leb-true _ _ h.0; to = leb-true _ _ h.1 }

inside : {low high b : ℕ} → Octet low high b → within (low to high) b ≡ true
unfolding within
inside {low} {high} {b} o = rw (le-leb _ _ o.from, le-leb _ _ o.to)

only : {low b : ℕ} → Octet low low b → b ≡ low
only o = omega (arith, o.from, o.to)

-- bytes that lie in ranges, one in each
data Fit : List Range → List ℕ → Type 0 where
  fit_none : Fit [] []
  fit_more : {range : Range} {ranges : List Range} {b : ℕ} {s : List ℕ} → within range b ≡ true → Fit ranges s → Fit (range ∷ ranges) (b ∷ s)

-- what the grammar derives is passed over

fit_on : {ranges : List Range} {s : List ℕ} → Fit ranges s → (t : List ℕ) → octets (due ranges) (s ++ t) ≡ well_formed t
unfolding well_formed octets step
fit_on fit_none t = refl
fit_on (fit_more {range} {ranges} {b} {s} w f) t = ap (λ v. octets (cond v (due ranges) wrong) (s ++ t)) w ∙ fit_on f t

-- a first byte, and what is due after it
record Lead (a : ℕ) (ranges : List Range) : Type 0 where
  follow : due_after a ≡ due ranges

-- a form's first bytes, by a test of all bytes
leads : (low high : ℕ) (ranges : List Range) → listed 256 (λ k. cond (within (low to high) k) (due_after k) (due ranges)) ≡ listed 256 (λ k. due ranges) → high < 256 → {a : ℕ} → Octet low high a → Lead a ranges
leads low high ranges e h {a} o =
    let at = agree 256 (λ k. cond (within (low to high) k) (due_after k) (due ranges)) (λ k. due ranges) e a (omega (arith, o.to)) in
    record { follow = ap (λ v. cond v (due_after a) (due ranges)) (sym (inside o)) ∙ at }

led : {a : ℕ} {ranges : List Range} {s : List ℕ} → Lead a ranges → Fit ranges s → (t : List ℕ) → well_formed ((a ∷ s) ++ t) ≡ well_formed t
unfolding well_formed octets step
led {a} {ranges} {s} e f t = ap (λ d. octets d (s ++ t)) e.follow ∙ fit_on f t

next : {low high b : ℕ} {ranges : List Range} {s : List ℕ} → Octet low high b → Fit ranges s → Fit (low to high ∷ ranges) (b ∷ s)
next o f = fit_more (inside o) f

over_three : {s : List ℕ} → UTF8-3 s → (t : List ℕ) → well_formed (s ++ t) ≡ well_formed t
unfolding due_after due_by within
over_three (from_E0 b c) t = led (record { follow = refl }) (next b (next c fit_none)) t
over_three (from_E1_EC a b c) t = led (leads 0xE1 0xEC (tail ∷ tail ∷ []) refl (omega arith) a) (next b (next c fit_none)) t
over_three (from_ED b c) t = led (record { follow = refl }) (next b (next c fit_none)) t
over_three (from_EE_EF a b c) t = led (leads 0xEE 0xEF (tail ∷ tail ∷ []) refl (omega arith) a) (next b (next c fit_none)) t

over_four : {s : List ℕ} → UTF8-4 s → (t : List ℕ) → well_formed (s ++ t) ≡ well_formed t
unfolding due_after due_by within
over_four (from_F0 b c d) t = led (record { follow = refl }) (next b (next c (next d fit_none))) t
over_four (from_F1_F3 a b c d) t =
    led (leads 0xF1 0xF3 (tail ∷ tail ∷ tail ∷ []) refl (omega arith) a) (next b (next c (next d fit_none))) t
over_four (from_F4 b c d) t = led (record { follow = refl }) (next b (next c (next d fit_none))) t

over : {s : List ℕ} → UTF8-char s → (t : List ℕ) → well_formed (s ++ t) ≡ well_formed t
unfolding due_after due_by within
over (char_1 (single a)) t = led (leads 0x00 0x7F [] refl (omega arith) a) fit_none t
over (char_2 (pair a b)) t = led (leads 0xC2 0xDF (tail ∷ []) refl (omega arith) a) (next b fit_none) t
over (char_3 c) t = over_three c t
over (char_4 c) t = over_four c t

pub accepted : {s : List ℕ} → UTF8-octets s → well_formed s ≡ true
unfolding well_formed octets
accepted none = refl
accepted (more {char} {rest} c r e) = rw e (over c rest ∙ accepted r)

-- what is well-formed, the grammar derives

-- the form that a first byte chose
data Chosen : List Form → ℕ → List Range → Type 0 where
  here : {low high a : ℕ} {ranges : List Range} {fs : List Form} → Octet low high a → Chosen ((low to high then ranges) ∷ fs) a ranges
  there : {a : ℕ} {ranges : List Range} {f : Form} {fs : List Form} → Chosen fs a ranges → Chosen (f ∷ fs) a ranges

chosen : (fs : List Form) (a : ℕ) {ranges : List Range} → due_by fs a ≡ due ranges → Chosen fs a ranges
unfolding due_by
chosen [] a e = let z : ◌≡◌ {A = ℕ} 0 1 = cc in absurd (omega arith)
chosen ((low to high then rs) ∷ fs) a {ranges} e = go (within (low to high) a) refl (chosen fs a) e
  where
    go : (w : Bool) → within (low to high) a ≡ w → (due_by fs a ≡ due ranges → Chosen fs a ranges) → cond w (due rs) (due_by fs a) ≡ due ranges → Chosen ((low to high then rs) ∷ fs) a ranges
    go true w later e = let q : rs ≡ ranges = cc in rw (← q) (here (octet w))
    go false w later e = there (later e)

-- a character by its form
formed : {a : ℕ} {ranges : List Range} {s : List ℕ} → Chosen forms a ranges → Fit ranges s → UTF8-char (a ∷ s)
formed (here a) fit_none = char_1 (single a)
formed (there (here a)) (fit_more b fit_none) = char_2 (pair a (octet b))
formed (there (there (here a))) (fit_more b (fit_more c fit_none)) = rw (only a) (char_3 (from_E0 (octet b) (octet c)))
formed (there (there (there (here a)))) (fit_more b (fit_more c fit_none)) = char_3 (from_E1_EC a (octet b) (octet c))
formed (there (there (there (there (here a))))) (fit_more b (fit_more c fit_none)) = rw (only a) (char_3 (from_ED (octet b) (octet c)))
formed (there (there (there (there (there (here a)))))) (fit_more b (fit_more c fit_none)) = char_3 (from_EE_EF a (octet b) (octet c))
formed (there (there (there (there (there (there (here a))))))) (fit_more b (fit_more c (fit_more d fit_none))) = rw (only a) (char_4 (from_F0 (octet b) (octet c) (octet d)))
formed (there (there (there (there (there (there (there (here a)))))))) (fit_more b (fit_more c (fit_more d fit_none))) = char_4 (from_F1_F3 a (octet b) (octet c) (octet d))
formed (there (there (there (there (there (there (there (there (here a))))))))) (fit_more b (fit_more c (fit_more d fit_none))) = rw (only a) (char_4 (from_F4 (octet b) (octet c) (octet d)))
formed (there (there (there (there (there (there (there (there (there x))))))))) _ = elim x [ ]

-- the bytes s are what is due, and then what the grammar derives
record Derived (ranges : List Range) (s : List ℕ) : Type 0 where
  begun : List ℕ
  rest : List ℕ
  fit : Fit ranges begun
  derives : UTF8-octets rest
  split : s ≡ begun ++ rest

abbrev Sound : Due → List ℕ → Type 0
Sound (due ranges) s = Derived ranges s
Sound wrong s = ⊥

ending : (d : Due) → whole d ≡ true → Sound d []
ending (due []) e = record { begun = []; rest = []; fit = fit_none; derives = none; split = refl }
ending (due (range ∷ ranges)) e = clash e refl
ending wrong e = clash e refl

begin : (x : ℕ) (s : List ℕ) (d : Due) → due_after x ≡ d → Sound d s → Derived [] (x ∷ s)
unfolding due_after
begin x s (due ranges) e o =
    record {
      begun = [];
      rest = x ∷ s;
      fit = fit_none;
      derives = more (formed (chosen forms x e) o.fit) o.derives (ap (λ t. x ∷ t) o.split);
      split = refl;
    }
begin x s wrong e o = absurd o

go_on : (range : Range) (ranges : List Range) (x : ℕ) (s : List ℕ) (w : Bool) → within range x ≡ w → Sound (cond w (due ranges) wrong) s → Derived (range ∷ ranges) (x ∷ s)
go_on range ranges x s true w o =
    record { begun = x ∷ o.begun; rest = o.rest; fit = fit_more w o.fit; derives = o.derives; split = ap (λ t. x ∷ t) o.split }
go_on range ranges x s false w o = absurd o

turn : (x : ℕ) (s : List ℕ) (d : Due) → Sound (step d x) s → Sound d (x ∷ s)
unfolding step
turn x s (due []) o = begin x s (due_after x) refl o
turn x s (due (range ∷ ranges)) o = go_on range ranges x s (within range x) refl o
turn x s wrong o = o

sound : (s : List ℕ) (d : Due) → octets d s ≡ true → Sound d s
unfolding octets
sound [] d e = ending d e
sound (x ∷ s) d e = turn x s d (sound s (step d x) e)

none_begun : {s : List ℕ} → Derived [] s → UTF8-octets s
none_begun o = go o.fit o.split o.derives
  where
    go : {begun rest s : List ℕ} → Fit [] begun → s ≡ begun ++ rest → UTF8-octets rest → UTF8-octets s
    go fit_none e r = rw e r

pub derived : (s : List ℕ) → well_formed s ≡ true → UTF8-octets s
unfolding well_formed
derived s e = none_begun (sound s (due []) e)

-- bytes are well-formed exactly if the grammar derives them
pub exactly : (s : List ℕ) → (well_formed s ≡ true → UTF8-octets s) × (UTF8-octets s → well_formed s ≡ true)
exactly s = (derived s, accepted)
