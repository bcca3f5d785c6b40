-- What answers the returns of the functions that find how each string is sent, and fill an output after that. Assumes nothing.
use Prim.Native.Nat.{ℕ, suc, ◌≤◌, ◌<◌}
use mathlib.Core.Path.{◌≡◌, refl, sym, ap, ◌∙◌}
use mathlib.Core.Bool.{Bool, true, false, not, cond}
use mathlib.Core.List.{List, [], ◌∷◌}
use native.Mathlib.Omega.{arith}
use lib.ListN.{length, replicate, length-append}
use borrow.Author.Tests.{leb-false}
use Rattle.draft.specs.declared.Row.{Row}
use Rattle.draft.specs.Read.{prefix, text_of}
use Rattle.draft.specs.Table.{from}
use Rattle.draft.specs.Grammar.{Sent, regular, recorded, recalled}
use Rattle.draft.specs.Strings.{Text, texts_of, kept, keep, is_string, position, sents, plan, cost, costs}
use Rattle.draft.specs.Written.{string_bytes, item_bytes, next, items_of, written}
use Rattle.text.specs.Texts.{among}
use Rattle.text.proofs.Comparing.{clash}
use Rattle.buckets.specs.Numbered.{numbered_text}
use Rattle.texts.specs.Contract.{new_cost, news, Scanned}
use Rattle.positions.specs.Contract.{Placed}
use Rattle.sending.specs.Contract.{Collected}
use Rattle.message.specs.Filled.{Filled}
use Rattle.form.specs.Contract.{Settled, Prepared}
use Rattle.message.specs.Contract.{planned, Known}
use Rattle.sending.proofs.Sending.{string_cost}
use Rattle.message.proofs.Writing.{written_is}
use Rattle.message.proofs.Filling.{too_long}

-- the new texts cost no more than the strings of the written form, and those no more than all items
news_least : (P seen ts : List Text) → news seen ts ≤ costs (sents P seen ts)
unfolding news costs sents cost
news_least P seen [] = omega arith
news_least P seen (t ∷ ts) = omega (arith, one (among seen t) (among P t), news_least P (t ∷ seen) ts)
  where
    one : (x y : Bool) → new_cost (not x) (length t) ≤ cost (cond y (cond x (recalled (position P t) t) (recorded (position P t) t)) (regular t))
    one true true = omega arith
    one true false = omega arith
    one false true = omega arith
    one false false = omega arith

sents_many : (P seen ts : List Text) → length (sents P seen ts) ≡ length ts
unfolding sents
sents_many P seen [] = refl
sents_many P seen (t ∷ ts) = ap suc (sents_many P (t ∷ seen) ts)

costs_least : (s : List ℕ) (xs : List Row) (fs : List Sent) → length fs ≤ length (texts_of s xs) → costs fs ≤ length (items_of s xs fs)
unfolding costs texts_of items_of
costs_least s [] [] h = omega arith
costs_least s [] (f ∷ fs) h = absurd (omega arith)
costs_least s (x ∷ xs) fs h = go (is_string x) fs h (λ gs. costs_least s xs gs)
  where
    go : (b : Bool) (gs : List Sent) → length gs ≤ length (keep b (text_of s x) (texts_of s xs)) → ((hs : List Sent) → length hs ≤ length (texts_of s xs) → costs hs ≤ length (items_of s xs hs)) → costs gs ≤ length (next b (item_bytes s x) gs (λ left. items_of s xs left))
    go false gs l i = omega (arith, i gs l, length-append (item_bytes s x) (items_of s xs gs))
    go true [] l i = omega arith
    go true (g ∷ gs) l i = omega (arith, i gs (omega arith), length-append (string_bytes g) (items_of s xs gs), string_cost g)

news_written : (s : List ℕ) (xs : List Row) → news [] (texts_of s xs) ≤ length (written s xs)
unfolding planned
news_written s xs =
    omega (arith, news_least (kept (texts_of s xs)) [] (texts_of s xs), costs_least s xs (plan (texts_of s xs)) (omega (arith, sents_many (kept (texts_of s xs)) [] (texts_of s xs))), ap length (written_is s xs) ∙ length-append prefix (planned s xs))

-- what is known of the strings after they were scanned
module _ {t : ℕ → Text} {n : ℕ} {fs sp : List ℕ} {b : Bool} (d : Scanned t n fs b) where
  pub settled_known : b ≡ true → Placed n fs sp → Settled t n fs sp true
  settled_known e p =
      record {
        says = sym e ∙ d.says;
        firsts = λ f. d.firsts e;
        slots = λ f. p.at t (d.firsts e);
        room = λ f. d.room e;
        room_spots = λ f. p.room;
      }

  pub settled_dear : b ≡ false → Settled t n fs sp false
  settled_dear e =
      record {
        says = sym e ∙ d.says;
        firsts = λ f. clash f refl;
        slots = λ f. clash f refl;
        room = λ f. clash f refl;
        room_spots = λ f. clash f refl;
      }

pub prepared_settled : {row : ℕ → Row} {rows : ℕ} {s W fs sp : List ℕ} {n : ℕ} {b : Bool} → Collected row rows W n → Settled (numbered_text row W s) n fs sp b → length s ≤ 65536 → Prepared row rows s W fs sp b
prepared_settled {row} {rows} {s} {W} {n = n} {b = b} c d h =
    record {
      known =
          λ e.
          record {
            count = n;
            strings = c;
            firsts = d.firsts e;
            slots = rw (c.texts s) (d.slots e);
            room = d.room e;
            room_spots = d.room_spots e;
            short = h;
          };
      dear = λ e.
          let w : 65536 < news [] (from (numbered_text row W s) 0 n) = leb-false (news [] (from (numbered_text row W s) 0 n)) 65536 (sym d.says ∙ e) in
          let q : news [] (texts_of s (from row 0 rows)) ≡ news [] (from (numbered_text row W s) 0 n) = ap (news []) (c.texts s) in
          omega (arith, news_written s (from row 0 rows));
    }

module _ {row : ℕ → Row} {rows : ℕ} {s W fs sp : List ℕ} {b : Bool} (p : Prepared row rows s W fs sp b) where
  pub strings_known : b ≡ true → Known row rows s W fs sp
  strings_known e = p.known e

  pub too_dear : {o o' : List ℕ} → b ≡ false → o' ≡ replicate (length o) 0 → Filled (written s (from row 0 rows)) o o' 65537
  too_dear e z = too_long (written s (from row 0 rows)) (p.dear e) z

pub ruleset preparing = (settled_known, settled_dear, prepared_settled, strings_known, too_dear)
