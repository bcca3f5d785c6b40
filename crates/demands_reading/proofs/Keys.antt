-- What a message says whose Struct has a key twice: 20 at the second, once that key is read. Assumes nothing.
use mathlib.Core.Path.{◌≡◌, refl, sym, ap, ◌∙◌}
use mathlib.Core.Bool.{Bool, true, false, ◌||◌}
use mathlib.Core.List.{List, [], ◌∷◌, ◌++◌, append_assoc}
use Prim.Native.Nat.{ℕ, zero, suc, ◌+◌, ◌<◌}
use native.Mathlib.Omega.{arith}
use native.Mathlib.Nat.{add-zero}
use lib.ListN.{length, length-append}
use borrow.Author.Tests.{lt-ltb, le-leb}
use Rattle.text.specs.Texts.{same, among}
use Rattle.draft.specs.declared.Refusal.TheVariants.{RepeatedKey}
use Rattle.draft.specs.declared.Content.TheVariants as content
use Rattle.draft.specs.declared.Row.{Row}
use Rattle.draft.specs.Bytes.{bytes}
use Rattle.draft.specs.Codebook.{Book, clear}
use Rattle.draft.specs.Read.{refused, Texts, items, tag_of, member, keeping, value, nested, call_or_response, agree, message}
use Rattle.draft.specs.Grammar.{Cell, Sent, LSB, String, Recording, after, Legal}
use Rattle.exact.proofs.Standing.{Here, front, back}
use Rattle.exact.proofs.Replaying.{legal_front, legal_back, Agrees, agrees_clear}
use Rattle.exact.proofs.Realising.{counts}
use Rattle.exact.proofs.Completing.{value_is, string_read, first_text_lem, key_text_lem, member_read}
use Rattle.exact.proofs.Keys.{Fresh, no_key, new_key, all_fresh}
use Rattle.demands_reading.specs.Members.{PairsWith, no_pair, and_pair, Distinct}
use Rattle.demands_reading.proofs.Reading.{key_repeated}

-- one of three, in another order
turned : (a b c : Bool) → (a || b) || c ≡ true → b || (a || c) ≡ true
turned true true c e = refl
turned true false c e = refl
turned false true c e = refl
turned false false c e = e

-- a message's bytes, and the rows that there is room for
module _ (s : List ℕ) (room : ℕ) where
  -- members with new keys, and a key that is one of them or of those seen
  run_said :
      {d : ℕ} {keys : List (List ℕ)} {xs : List ℕ} {cs : List Cell} {fs : List Sent} → PairsWith d keys xs cs fs → {seen : Texts} → Fresh seen keys
      → {ys t : List ℕ} {f : Sent} → String ys t f → (n : ℕ) → length keys < n → among keys t || among seen t ≡ true → (acc : List Row) (at r : ℕ)
      (book : Book) (R : List Recording) → Here s at (xs ++ ys) → Legal R (fs ++ (f ∷ [])) → Agrees s book R → r + length acc + length cs < room
      → items (member s room (value s room d)) (keeping s room) n seen acc at r book ≡ refused RepeatedKey (at + length xs)
  unfolding items among keeping
  run_said p h x zero k e acc at r book R w l a i = absurd (omega arith)
  run_said {d} no_pair {seen} no_key x (suc n) k e acc at r book R w l a i =
      let g = (string_read s room x).reads at (r + length acc) book R w l a (omega arith) in
      rw (key_repeated s room (value s room d) seen at (r + length acc) book g.is (rw (first_text_lem s room g.rows content.Text g.realises) e), add-zero at)
  run_said {d} (and_pair {keys = keys} {t = u} {xs = xs} {ys = ys'} {us = us} {vs = vs} {fs = fs} {gs = gs} p ps z v j) {seen} (new_key y h) {ys} {t} {f} x (suc n) k e acc at r book R w l a i =
      let c : Here s at (xs ++ (ys' ++ ys)) = rw (z, append_assoc) at w in
      let q : Legal R (fs ++ (gs ++ (f ∷ []))) = rw (j, append_assoc) at l in
      let o = ap length v ∙ length-append us vs in
      let g = (member_read s room p seen y).reads at (r + length acc) book R (front xs (ys' ++ ys) c refl) (legal_front fs (gs ++ (f ∷ [])) q) a (omega (arith, o)) in
      let b = length-append acc g.rows in
      let m = run_said ps {seen = u ∷ seen} h x n (omega arith) (turned (same t u) (among keys t) (among seen t) e) (acc ++ g.rows) (at + length xs) r g.book (after R fs) (back xs (ys' ++ ys) c refl) (legal_back fs (gs ++ (f ∷ [])) q) g.agrees (omega (arith, b, o, counts g.realises)) in
      let to : at + length xs + length ys' ≡ at + length (xs ++ ys') = omega (arith, length-append xs ys') in
      rw (g.is, key_text_lem s room g.rows p g.realises, z) (m ∙ ap (refused RepeatedKey) to)

-- TWENTY. A Response with a Struct of n members, of which some with distinct keys stand there, and then a key that is one of theirs, is refused with 20
-- at that key, whatever follows.
pub key_said :
    (d room i j k l : ℕ) {n : ℕ} {keys : List (List ℕ)} {xs ys t : List ℕ} {cs : List Cell} {fs : List Sent} {f : Sent} (rest : List ℕ) → LSB n i j k l
    → PairsWith d keys xs cs fs → Distinct keys → String ys t f → length keys < n → among keys t ≡ true → Legal [] (fs ++ (f ∷ []))
    → 2 + length cs < room
    → message (bytes "binmode-rpc:RS" ++ (i ∷ j ∷ k ∷ l ∷ (xs ++ (ys ++ rest)))) room (suc d) ≡ refused RepeatedKey (18 + length xs)
unfolding message agree call_or_response nested tag_of among
key_said d room i j k l {n} {keys} {xs} {ys} {t} rest e p u x h m q w =
    let s = bytes "binmode-rpc:RS" ++ (i ∷ j ∷ k ∷ l ∷ (xs ++ (ys ++ rest))) in
    let here : Here s 18 (xs ++ ys) = record { rest = rest; from = rw append_assoc; starts = omega arith } in
    let g = run_said s room p (all_fresh keys u) x n h (rw m) [] 18 2 clear [] here q agrees_clear (omega arith) in
    rw (le-leb 12 (length s) (omega arith), lt-ltb 12 (length s) (omega arith), lt-ltb 0 room (omega arith), lt-ltb 13 (length s) (omega arith), value_is s room (suc d) 13 1 clear, lt-ltb 13 (length s) (omega arith), lt-ltb 1 room (omega arith), le-leb 18 (length s) (omega arith), sym e, g)
