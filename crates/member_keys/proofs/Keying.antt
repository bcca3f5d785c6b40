-- What answers the returns of the functions that read a key. Assumes nothing.
use mathlib.Core.Path.{◌≡◌, refl, sym, ap, ◌∙◌}
use mathlib.Core.Bool.{Bool, true, false, ◌&&◌, true≢false}
use mathlib.Core.List.{List}
use Prim.Native.Nat.{ℕ, ◌+◌, ◌≤◌, ◌<◌}
use native.Mathlib.Omega.{arith}
use lib.ListN.{length, get_or, replicate, get_or-eq_default}
use lib.Dec.{ltb, eqb}
use borrow.Author.Tests.{lt-ltb, le-ltb, ltb-true, ltb-false, eqb-true}
use Rattle.draft.specs.declared.Refusal.TheVariants.{RepeatedKey}
use Rattle.draft.specs.Codebook.{Book}
use Rattle.draft.specs.Content.{bad_if, key_rule}
use Rattle.draft.specs.Strings.{Text}
use Rattle.draft.specs.Table.{row_at}
use Rattle.draft.specs.Read.{Reading, Texts, string, recalled_item, text_of, key}
use Rattle.draft.proofs.Naming.{number_some}
use Rattle.codebook.specs.Words.{book_of}
use Rattle.table.proofs.Stored.{rows_kept}
use Rattle.std.specs.Prelude.{Ok, Err}
use Rattle.item.specs.declared.Reached.{Reached}
use Rattle.item.proofs.Readings.{did_next as new_next}
use Rattle.item.proofs.Items.{the_row as string_one_row}
use Rattle.item.proofs.Stepping.{Got, did_next, name_refused, name_judged, the_row, string_row}
use Rattle.item.specs.Contract.{Step, step_number, step_at, step_row}
use Rattle.item.specs.Contract.{refused_at, read_to, judged_at, Ready, Did}
use Rattle.item.proofs.Items.{string_recalled}
use Rattle.keys.specs.Notes.{head_of, owner_of, named, keys_of, joined, Noted, Rows, Entry, Placed, Added, Noting, Joins}
use Rattle.keys.proofs.Chaining.{keys_move, note_alone}
use Rattle.keys.proofs.Keeping.{noted_move, noted_blank, key_below}
use Rattle.member_keys.specs.Contract.{Entries, Prepared, Joined, Done, KeyDone, KeyIf}

-- rows stored from row r on leave the texts of those before
pub named_kept : (s : List ℕ) {o : Reading} {bytes room from r : ℕ} {T T' W' : List ℕ} {step : Step} → Got o bytes room from r T T' W' step → (q : ℕ) → q < r → named s room T' q ≡ named s room T q
unfolding named
named_kept s {room = room} {r = r} {T = T} g q l = rw (g.wrote, rows_kept room T r q g.rows l (omega (arith, g.next, g.fits)))

-- a byte that begins a recalled String, or not
pub recalled_not : (s : List ℕ) (at : ℕ) → length s ≤ at → false ≡ (ltb at (length s) && eqb (get_or s at 0) 60)
recalled_not s at h = simp (le-ltb _ _ h)

pub recalled_is : (s : List ℕ) (at : ℕ) → at < length s → eqb (get_or s at 0) 60 ≡ (ltb at (length s) && eqb (get_or s at 0) 60)
recalled_is s at h = simp (lt-ltb _ _ h)

and_left : (a b : Bool) → (a && b) ≡ true → a ≡ true
and_left true b e = refl
and_left false b e = e

and_right : (a b : Bool) → (a && b) ≡ true → b ≡ true
and_right true b e = e
and_right false b e = let z : ◌≡◌ {A = ℕ} 0 1 = cc in absurd (omega arith)

module _ (s : List ℕ) (at : ℕ) {b : Bool} (e : b ≡ (ltb at (length s) && eqb (get_or s at 0) 60)) (t : b ≡ true) where
  pub recalled_there : at < length s
  recalled_there = ltb-true at (length s) (and_left _ (eqb (get_or s at 0) 60) (sym e ∙ t))

  pub recalled_string : (book : Book) {bytes room from r : ℕ} {T T' W' : List ℕ} {step : Step} → Did (recalled_item s room at r book) bytes room from r T T' W' step → Did (string s room at r book) bytes room from r T T' W' step
  recalled_string book d = string_recalled s at recalled_there book (eqb-true (get_or s at 0) 60 (and_right (ltb at (length s)) _ (sym e ∙ t))) d

pub not_recalled : (s : List ℕ) (at : ℕ) {b : Bool} → b ≡ (ltb at (length s) && eqb (get_or s at 0) 60) → b ≡ false → get_or s at 0 ≡ 60 → ⊥
not_recalled s at e f i = go (ltb at (length s)) refl
  where
    go : (x : Bool) → ltb at (length s) ≡ x → ⊥
    go true l = true≢false (sym (e ∙ rw (l, i)) ∙ f)
    go false l = let z = sym (get_or-eq_default s 0 (ltb-false at (length s) l)) ∙ i in omega arith

-- nothing is kept of what was refused
joined_not : {t t' : ℕ → Text} {N N' : List ℕ} {owner first : ℕ} {step : Step} → (step_number step ≡ 0 → ⊥) → Joined t t' N N' owner first step
joined_not n = record { joins = λ e. absurd (n e); behind = λ e. absurd (n e) }

pub key_refused : (s : List ℕ) (owner at : ℕ) {room r : ℕ} {T T₁ T' W W₁ W' N N' : List ℕ} {step : Step} → Did (string s room at r (book_of W)) (length s) room (at + 1) r T T₁ W₁ step → (step_number step ≡ 0 → ⊥) → KeyDone s room owner at r T T' W W' N N' step
unfolding key
key_refused s owner at {W = W} d n = record { did = name_refused s (key_rule _) at at (book_of W) d n; joined = joined_not n }

-- a key that was read as a String
module _ (s : List ℕ) (at : ℕ) {room r : ℕ} {T T₁ W W₁ N : List ℕ} {step : Step} (d : Did (string s room at r (book_of W)) (length s) room (at + 1) r T T₁ W₁ step) (e : step_number step ≡ 0) (p : Prepared s at r room T W N) where
  old : (k : ℕ) → 0 < owner_of N k → named s room T₁ k ≡ named s room T k
  old k h = named_kept s (did_next d e) k (key_below p.noted k h)

  pub key_noted : Noted (named s room T₁) N r
  key_noted = noted_move p.noted old r (omega arith)

  pub key_rows_lem : length T₁ ≡ length T → Rows r room (length T₁)
  key_rows_lem l = let f = p.ready.fitting in record { inside = string_row s at (book_of W) d e; most = f.rows; table = rw l f.table }

  pub key_entry : {owner : ℕ} → 0 < owner → owner ≤ r → Entry owner r (length N)
  key_entry h k =
      let g = did_next d e in
      let n = p.entries in
      record { some = h; before = k; inside = omega (arith, n.behind, n.enough, g.ahead, g.within, string_row s at (book_of W) d e); most = n.most }

  module _ {owner : ℕ} (h : 0 < owner) where
    keys_same : keys_of (named s room T₁) N owner r ≡ keys_of (named s room T) N owner r
    keys_same = keys_move (named s room T) (named s room T₁) N N owner r (λ k l. refl) (λ k l q. old k (omega (arith, q)))

    abbrev seen : Texts
    seen = keys_of (named s room T) N owner r

    module _ {N' : List ℕ} {b : Bool} (c : Noting (named s room T₁) N N' owner r b) where
      rule_is : bad_if b RepeatedKey ≡ key_rule seen (text_of s (row_at room T₁ r))
      unfolding key_rule named
      rule_is = rw (c.says, keys_same)

      judged : {answer : Step} (v : Bool) → b ≡ v → answer ≡ judged_at (bad_if v RepeatedKey) at step → Did (key s room seen at r (book_of W)) (length s) room (at + 1) r T T₁ W₁ answer
      unfolding key
      judged v q f = name_judged s at (book_of W) d e (key_rule seen) at p.ready.fitting.table refl (ap (λ (x : Bool). bad_if x RepeatedKey) (sym q) ∙ rule_is) f

      pub key_again : {answer : Step} → b ≡ true → answer ≡ refused_at RepeatedKey at → KeyDone s room owner at r T T₁ W W₁ N N' answer
      key_again q f = record { did = judged true q f; joined = joined_not (λ i. number_some RepeatedKey (sym (ap (λ (x : Step). step_number x) f) ∙ i)) }

      module _ (q : b ≡ false) where
        next_row : (step_row step) ≡ r + 1
        next_row = let n : length (did_next d e).rows ≡ 1 = rw (the_row s at (book_of W) d e).1 in (did_next d e).next ∙ rw n

        joins : Added (named s room T₁) N N' owner r → Joins (named s room T) (named s room T₁) N N' owner r (r + 1)
        joins z =
            record {
              on = omega arith;
              noted = z.noted;
              owners = z.owners;
              mine = z.mine ∙ rw keys_same;
              others = λ o p m n. z.others o n ∙ keys_move (named s room T) (named s room T₁) N N o r (λ k l. refl) (λ k l i. old k (omega (arith, i)));
            }

        pub key_new : KeyDone s room owner at r T T₁ W W₁ N N' step
        key_new =
            record {
              did = judged false q refl;
              joined = record { joins = λ _. rw next_row (joins (c.added q)); behind = λ _. omega (arith, next_row, (did_next d e).ahead, p.entries.behind) };
            }

    -- where its bucket has no keys of the owner
    pub key_alone : {N' : List ℕ} {q : ℕ} {b : Bool} → owner ≤ r → Placed (named s room T₁) (length N) owner r q → b ≡ ltb owner (head_of N q) → b ≡ false → N' ≡ joined N owner r q → KeyDone s room owner at r T T₁ W W₁ N N' step
    key_alone k z f g j = key_new (note_alone key_noted (key_entry h k) z f g j) refl

-- a key where there are keys, or nothing
pub key_owner : {keyed : Bool} {owner : ℕ} → (keyed ≡ true → 0 < owner) → keyed ≡ true → 0 < owner
key_owner h e = h e

module _ {s : List ℕ} {room owner at r : ℕ} {T T' W W' N N' : List ℕ} {step : Step} where
  pub key_some : {keyed : Bool} → keyed ≡ true → KeyDone s room owner at r T T' W W' N N' step → KeyIf keyed s room owner at r T T' W W' N N' step
  key_some e k = record { some = λ _. k; none = λ f. let z : ◌≡◌ {A = ℕ} 0 1 = cc in absurd (omega arith) }

pub key_none : {keyed : Bool} {s : List ℕ} {room owner at r : ℕ} {T W N : List ℕ} → keyed ≡ false → KeyIf keyed s room owner at r T T W W N N (read_to at r)
key_none e = record { some = λ f. let z : ◌≡◌ {A = ℕ} 0 1 = cc in absurd (omega arith); none = λ _. record { says = refl; table = refl; book = refl; notes = refl } }

-- what reading asks where no key is noted yet
pub prepared_blank : {s : List ℕ} {at r room : ℕ} {T W N : List ℕ} → Ready at r room (length s) (length T) (length W) → Entries at r room (length s) (length N) → N ≡ replicate (length N) 0 → Prepared s at r room T W N
prepared_blank a b z = record { ready = a; entries = b; noted = noted_blank z }

-- what a call did, apart from the notes
pub done_did : {o : Reading} {s : List ℕ} {room from r : ℕ} {T T' W' N N' : List ℕ} {step : Step} → Done o s room from r T T' W' N N' step → Did o (length s) room from r T T' W' step
done_did d = d.did

pub string_entries : (s : List ℕ) (at : ℕ) (book : Book) {bytes room r : ℕ} {T T₁ W₁ : List ℕ} {x : Reached} {step : Step} → Did (string s room at r book) bytes room (at + 1) r T T₁ W₁ step → step ≡ Ok x → {words : ℕ} → Entries at r room bytes words → Entries x.at x.row room bytes words
string_entries s at book d e n =
    let g = new_next d e in
    let l : length g.rows ≡ 1 = rw (string_one_row s at book d e).1 in
    record { behind = omega (arith, g.next, g.ahead, n.behind); enough = n.enough; most = n.most }

pub ruleset keying = (recalled_not, recalled_is, recalled_there, recalled_string, not_recalled, string_row, key_refused, key_noted, key_entry, key_again, key_owner, key_some, key_none)
