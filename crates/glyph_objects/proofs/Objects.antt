-- What answers each return of the function that reads an object, by its letter. Assumes nothing.
use mathlib.Core.Path.{◌≡◌, refl, ◌∙◌}
use mathlib.Core.List.{List}
use Prim.Native.Nat.{ℕ, zero, suc, ◌+◌, ◌-◌, ◌≤◌, ◌<◌}
use native.Mathlib.Omega.{arith}
use native.Mathlib.Numerals.{sub-one}
use lib.ListN.{length, get_or}
use borrow.Author.Tests.{lt-ltb, le-ltb}
use Rattle.draft.specs.Strings.{Text}
use Rattle.std.specs.Prelude.{Ok, Err}
use Rattle.draft.specs.declared.Refused.{Refused}
use Rattle.item.specs.declared.Reached.{Reached}
use Rattle.keys.specs.Notes.{named}
use Rattle.keys.proofs.Keeping.{key_below, keeps_none}
use Rattle.glyph.specs.declared.Refusal.{Refusal}
use Rattle.glyph.specs.declared.Refusal.TheVariants.{Ended, UnexpectedByte, TooDeep, NoRow}
use Rattle.glyph.specs.declared.Edition.{Edition}
use Rattle.glyph.specs.declared.Want.{Want}
use Rattle.glyph.specs.declared.Leaf.{Leaf as LeafLetter}
use Rattle.glyph.specs.declared.Many.{Many as ManyLetter}
use Rattle.glyph.specs.declared.Three.{Three as ThreeLetter}
use Rattle.glyph.specs.declared.Letter.{Letter}
use Rattle.glyph.specs.declared.Letter.TheVariants.{Leaf, Many, Three, Unknown}
use Rattle.glyph.specs.Letters.{letter_of, wanted}
use Rattle.glyph.specs.Read.{Reading, refused, Nest, floor, under, opened, leaf_of, many, three, item, object}
use Rattle.glyph_item.specs.Contract.{Step, refused_at, Did}
use Rattle.glyph_item.proofs.Readings.{did_next, done, did_no, ok_not}
use Rattle.glyph_keys.specs.Contract.{After, Prepared, Done}
use Rattle.glyph_keys.proofs.Ones.{One, opened_one}
use Rattle.glyph_keys.proofs.Keying.{named_kept}
use Rattle.glyph_objects.specs.Contract.{Begun}

-- nothing is kept of what was refused
pub after_not : {t t' : ℕ → Text} {N N' : List ℕ} {first : ℕ} {step : Step} {x : Refused Refusal} → step ≡ Err x → After t t' N N' first step
after_not n = record { keeps = λ _ e. absurd (ok_not e n); behind = λ _ e. absurd (ok_not e n) }

pub done_no : (m : Refusal) {o : Reading} {s : List ℕ} {room from r p : ℕ} {T T' N N' : List ℕ} {step : Step} → step ≡ refused_at m p → o ≡ refused m p → Done o s room from r T T' N N' step
done_no m e i = record { did = did_no m e i; after = after_not e }

pub done_by : {o o' : Reading} {s : List ℕ} {room from r : ℕ} {T T' N N' : List ℕ} {step : Step} → o ≡ o' → Done o' s room from r T T' N N' step → Done o s room from r T T' N N' step
done_by e d = rw e d

-- what may nest in an object
unfoldable pub nest_of : List ℕ → ℕ → Edition → ℕ → Nest
nest_of s room e zero = floor
nest_of s room e (suc d) = under (object s room e d)

-- an object, by its letter
pub object_is : (s : List ℕ) (room : ℕ) (e : Edition) (d : ℕ) (want : Want) (at r : ℕ) {l : Letter} → at < length s → l ≡ wanted want (letter_of e (get_or s at 0)) → object s room e d want at r ≡ item s room l (nest_of s room e d) at r
unfolding object nest_of
object_is s room e zero want at r h i = rw (lt-ltb _ _ h, ← i)
object_is s room e (suc d) want at r h i = rw (lt-ltb _ _ h, ← i)

nest_none : (s : List ℕ) (room : ℕ) (e : Edition) (d : ℕ) → d ≡ 0 → nest_of s room e d ≡ floor
unfolding nest_of
nest_none s room e d z = rw z

nest_less : (s : List ℕ) (room : ℕ) (e : Edition) (d : ℕ) → (d ≡ 0 → ⊥) → nest_of s room e d ≡ under (object s room e (d - 1))
unfolding nest_of
nest_less s room e zero n = absurd (n refl)
nest_less s room e (suc d) n = rw sub-one

-- an object of one row leaves the notes
pub one_after : (s : List ℕ) (at : ℕ) {o : Reading} {room r : ℕ} {T T' N : List ℕ} {step : Step} → One o → Did o (length s) room (at + 1) r T T' step → Prepared s at r room T N → After (named s room T) (named s room T') N N r step
one_after s at x d p =
    record {
      keeps = λ _ e. let g = did_next d e in keeps_none p.noted (λ k h. named_kept s g k (key_below p.noted k h)) _ (omega (arith, g.next));
      behind = λ _ e. let g = did_next d e in omega (arith, g.next, g.ahead, x.row g.reading, p.entries.behind);
    }

module _ (s : List ℕ) (e : Edition) (d : ℕ) (want : Want) (at : ℕ) {room r : ℕ} {T T' N N' : List ℕ} {step : Step} where
  pub object_short : length s ≤ at → step ≡ refused_at Ended at → Done (object s room e d want at r) s room (at + 1) r T T' N N' step
  unfolding object
  object_short h k = go d
    where
      go : (d : ℕ) → Done (object s room e d want at r) s room (at + 1) r T T' N N' step
      go zero = done_no Ended k (simp (le-ltb _ _ h))
      go (suc d) = done_no Ended k (simp (le-ltb _ _ h))

  module _ {l : Letter} (h : at < length s) (i : l ≡ wanted want (letter_of e (get_or s at 0))) where
    pub object_unknown : l ≡ Unknown → step ≡ refused_at UnexpectedByte at → Done (object s room e d want at r) s room (at + 1) r T T' N N' step
    object_unknown j k = done_no UnexpectedByte k (object_is s room e d want at r h i ∙ rw j)

    module _ {m : ManyLetter} (j : l ≡ Many m) where
      pub many_deep : d ≡ 0 → step ≡ refused_at TooDeep at → Done (object s room e d want at r) s room (at + 1) r T T' N N' step
      many_deep z k = done_no TooDeep k (object_is s room e d want at r h i ∙ rw (j, nest_none s room e d z))

      pub many_full : (d ≡ 0 → ⊥) → room ≤ r → step ≡ refused_at NoRow at → Done (object s room e d want at r) s room (at + 1) r T T' N N' step
      many_full n f k = done_no NoRow k (object_is s room e d want at r h i ∙ rw (j, nest_less s room e d n, le-ltb _ _ f))

      pub many_on : (d ≡ 0 → ⊥) → r < room → Done (many s m (object s room e (d - 1)) at r) s room (at + 1) r T T' N N' step → Done (object s room e d want at r) s room (at + 1) r T T' N N' step
      many_on n f k = done_by (object_is s room e d want at r h i ∙ rw (j, nest_less s room e d n, lt-ltb _ _ f)) k

    module _ {m : ThreeLetter} (j : l ≡ Three m) where
      pub three_deep : d ≡ 0 → step ≡ refused_at TooDeep at → Done (object s room e d want at r) s room (at + 1) r T T' N N' step
      three_deep z k = done_no TooDeep k (object_is s room e d want at r h i ∙ rw (j, nest_none s room e d z))

      pub three_full : (d ≡ 0 → ⊥) → room ≤ r → step ≡ refused_at NoRow at → Done (object s room e d want at r) s room (at + 1) r T T' N N' step
      three_full n f k = done_no NoRow k (object_is s room e d want at r h i ∙ rw (j, nest_less s room e d n, le-ltb _ _ f))

      pub three_on : (d ≡ 0 → ⊥) → r < room → Done (three s m (object s room e (d - 1)) at r) s room (at + 1) r T T' N N' step → Done (object s room e d want at r) s room (at + 1) r T T' N N' step
      three_on n f k = done_by (object_is s room e d want at r h i ∙ rw (j, nest_less s room e d n, lt-ltb _ _ f)) k

pub object_leaf : (s : List ℕ) (e : Edition) (d : ℕ) (want : Want) (at : ℕ) {room r : ℕ} {T T' N : List ℕ} {step : Step} {l : Letter} {m : LeafLetter} → at < length s → l ≡ wanted want (letter_of e (get_or s at 0)) → l ≡ Leaf m → Did (opened room at r (leaf_of s m at r)) (length s) room (at + 1) r T T' step → Prepared s at r room T N → Done (object s room e d want at r) s room (at + 1) r T T' N N step
object_leaf s e d want at {room} {r} {m = m} h i j k p = record { did = done (object_is s room e d want at r h i ∙ rw j) k; after = one_after s at (opened_one s room m at r) k p }

pub begun : {s : List ℕ} {at r room : ℕ} → at < length s → r < room → Begun s at r room
begun h k = record { there = h; left = k }

pub ruleset objects = (object_short, object_unknown, many_deep, many_full, many_on, three_deep, three_full, three_on, object_leaf, begun)
