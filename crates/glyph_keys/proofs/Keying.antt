-- What answers the returns of the functions that read a key. Assumes nothing.
use Rattle.std.proofs.Common.{◌≡◌, refl, sym, ap, ◌∙◌, Ok, Err, Bool, true, false, List, [], ◌∷◌, ℕ, ◌+◌, ◌*◌, ◌≤◌, ◌<◌, length, get_or, arith}
use borrow.Author.Tests.{lt-ltb, le-ltb, eq-eqb, ne_eqb}
use Rattle.text.specs.Texts.{among}
use Rattle.draft.specs.declared.Row.{Row}
use Rattle.draft.specs.declared.Refused.{Refused}
use Rattle.draft.specs.Strings.{Text}
use Rattle.draft.specs.Table.{put_rows}
use Rattle.table.proofs.Stored.{rows_kept, first_row}
use Rattle.item.specs.declared.Reached.{Reached}
use Rattle.item.specs.Contract.{read_to}
use Rattle.keys.specs.Notes.{owner_of, named, keys_of, Noted, Rows, Entry, Added, Noting, Joins}
use Rattle.keys.proofs.Chaining.{keys_move}
use Rattle.keys.proofs.Keeping.{noted_move, key_below}
use Rattle.glyph.specs.declared.Refusal.{Refusal}
use Rattle.glyph.specs.declared.Refusal.TheVariants.{Ended, UnexpectedByte, RepeatedKey}
use Rattle.glyph.specs.Read.{Reading, got, Texts, opened, text, first_text, distinct}
use Rattle.glyph_bytes.specs.Places.{Skipped}
use Rattle.glyph_item.specs.Contract.{Step, refused_at, Leaves, Did}
use Rattle.glyph_item.proofs.Readings.{Got, did_next, did_not, done, did_no, ok_not}
use Rattle.glyph_keys.specs.Contract.{name, Prepared, Joined, KeyDone, Past, KeyIf}
use Rattle.glyph_keys.proofs.Ones.{name_one}

-- rows stored from row r on leave the texts of those before
pub named_kept : (s : List ℕ) {o : Reading} {bytes room from r : ℕ} {T T' : List ℕ} {x : Reached} → Got o bytes room from r T T' x → (q : ℕ) → q < r → named s room T' q ≡ named s room T q
unfolding named
named_kept s {room = room} {r = r} {T = T} g q l = rw (g.wrote, rows_kept room T r q g.rows l (omega (arith, g.next, g.fits)))

-- the first row's text
pub first_is : (s : List ℕ) (room r : ℕ) (T T' : List ℕ) (rows : List Row) → T' ≡ put_rows room T r rows → 0 < length rows → r < room → room * 4 ≤ length T → named s room T' r ≡ first_text s rows
unfolding named
first_is s room r T T' [] e h k l = absurd (omega arith)
first_is s room r T T' (x ∷ rows) e h k l = rw (e, first_row room T r x rows k l)

module _ (s : List ℕ) (at : ℕ) {room r : ℕ} {T T' : List ℕ} {step : Step} where
  pub name_short : length s ≤ at → step ≡ refused_at Ended at → Did (name s room at r) (length s) room (at + 1) r T T' step
  unfolding name
  name_short h e = did_no Ended e (simp (le-ltb _ _ h))

  pub name_wrong : at < length s → (get_or s at 0 ≡ 117 → ⊥) → step ≡ refused_at UnexpectedByte at → Did (name s room at r) (length s) room (at + 1) r T T' step
  unfolding name
  name_wrong h n e = did_no UnexpectedByte e (simp (lt-ltb _ _ h, ne_eqb _ _ n))

  pub name_on : at < length s → get_or s at 0 ≡ 117 → Did (opened room at r (text s true at r)) (length s) room (at + 1) r T T' step → Did (name s room at r) (length s) room (at + 1) r T T' step
  unfolding name
  name_on h n d = done (simp (lt-ltb _ _ h, eq-eqb _ _ n)) d

-- nothing is kept of what was refused
pub joined_not : {t t' : ℕ → Text} {N N' : List ℕ} {owner first : ℕ} {step : Step} {x : Refused Refusal} → step ≡ Err x → Joined t t' N N' owner first step
joined_not n = record { joins = λ _ e. absurd (ok_not e n); behind = λ _ e. absurd (ok_not e n) }

distinct_not : (s : List ℕ) (seen : Texts) (at : ℕ) {o : Reading} {bytes room from from' r : ℕ} {T T₁ T' : List ℕ} {step answer : Step} {x : Refused Refusal} → Did o bytes room from r T T₁ step → step ≡ Err x → answer ≡ Err x → Did (distinct s seen at o) bytes room from' r T T' answer
unfolding distinct
distinct_not s seen at {x = x} d n e = did_no x.refusal e (ap (distinct s seen at) (did_not d n))

pub key_refused : (s : List ℕ) (owner at : ℕ) {room r : ℕ} {T T₁ T' N N' : List ℕ} {step answer : Step} {x : Refused Refusal} → Did (name s room at r) (length s) room (at + 1) r T T₁ step → step ≡ Err x → answer ≡ Err x → KeyDone s room owner at r T T' N N' answer
key_refused s owner at d n e = record { did = distinct_not s _ at d n e; joined = joined_not e }

-- a key that was read as a unicode
module _ (s : List ℕ) (at : ℕ) {room r : ℕ} {T T₁ N : List ℕ} {step : Step} {x : Reached} (d : Did (name s room at r) (length s) room (at + 1) r T T₁ step) (e : step ≡ Ok x) (p : Prepared s at r room T N) where
  old : (k : ℕ) → 0 < owner_of N k → named s room T₁ k ≡ named s room T k
  old k h = named_kept s (did_next d e) k (key_below p.noted k h)

  one : length (did_next d e).rows ≡ 1
  one = (name_one s room at r).row (did_next d e).reading

  pub key_noted : Noted (named s room T₁) N r
  key_noted = noted_move p.noted old r (omega arith)

  pub key_rows_lem : length T₁ ≡ length T → Rows r room (length T₁)
  key_rows_lem l = let g = did_next d e in let f = p.fitting in record { inside = omega (arith, one, g.next, g.fits); most = f.rows; table = rw l f.table }

  pub key_entry : {owner : ℕ} → 0 < owner → owner ≤ r → Entry owner r (length N)
  key_entry h k =
      let g = did_next d e in
      let n = p.entries in
      record { some = h; before = k; inside = omega (arith, n.behind, n.enough, g.ahead, g.within, one, g.next, g.fits); most = n.most }

  module _ {owner : ℕ} (h : 0 < owner) where
    keys_same : keys_of (named s room T₁) N owner r ≡ keys_of (named s room T) N owner r
    keys_same = keys_move (named s room T) (named s room T₁) N N owner r (λ k l. refl) (λ k l q. old k (omega (arith, q)))

    abbrev seen : Texts
    seen = keys_of (named s room T) N owner r

    module _ {N' : List ℕ} {b : Bool} (c : Noting (named s room T₁) N N' owner r b) where
      text_is : named s room T₁ r ≡ first_text s (did_next d e).rows
      text_is = let g = did_next d e in first_is s room r T T₁ g.rows g.wrote (omega (arith, one)) (omega (arith, one, g.next, g.fits)) p.fitting.table

      says : b ≡ among seen (first_text s (did_next d e).rows)
      says = c.says ∙ rw (keys_same, text_is)

      pub key_again : {answer : Step} → b ≡ true → answer ≡ refused_at RepeatedKey at → KeyDone s room owner at r T T₁ N N' answer
      unfolding distinct
      key_again q f =
          record {
            did = did_no RepeatedKey f (rw ((did_next d e).reading, ← says, q));
            joined = joined_not f;
          }

      module _ (q : b ≡ false) where
        next_row : x.row ≡ r + 1
        next_row = (did_next d e).next ∙ rw one

        joins : Added (named s room T₁) N N' owner r → Joins (named s room T) (named s room T₁) N N' owner r (r + 1)
        joins z =
            record {
              on = omega arith;
              noted = z.noted;
              owners = z.owners;
              mine = z.mine ∙ rw keys_same;
              others = λ o p m n. z.others o n ∙ keys_move (named s room T) (named s room T₁) N N o r (λ k l. refl) (λ k l i. old k (omega (arith, i)));
            }

        key_is : {y : Reached} {step : Step} → step ≡ Ok x → step ≡ Ok y → x ≡ y
        key_is i j = cc

        ends : Joined (named s room T) (named s room T₁) N N' owner r (Ok x)
        ends =
            record {
              joins = λ y i. rw (← key_is refl i, next_row) (joins (c.added q));
              behind = λ y i. rw (← key_is refl i) (omega (arith, next_row, (did_next d e).ahead, p.entries.behind));
            }

        pub key_new : KeyDone s room owner at r T T₁ N N' (Ok x)
        unfolding distinct
        key_new =
            record {
              did = let g = did_next d e in
                  record { says = sym e ∙ d.says ∙ rw (g.reading, ← says, q); leaves = let l : Leaves (got g.rows x.at) (length s) room (at + 1) r T T₁ = rw g.reading at d.leaves in rw (g.reading, ← says, q) l };
              joined = ends;
            }

-- where there are keys, and where there are none
module _ {s : List ℕ} {room owner at r : ℕ} {T T' N N' : List ℕ} {key : Step} where
  pub key_in : {x : Reached} → KeyDone s room owner at r T T' N N' key → key ≡ Ok x → x.at ≤ length s
  key_in d e = (did_next d.did e).within

  pub if_stops : {keyed : Bool} {x : Refused Refusal} {step : Step} → keyed ≡ true → KeyDone s room owner at r T T' N N' key → key ≡ Err x → step ≡ Err x → KeyIf keyed s room owner at r T T' N N' step
  if_stops k d n i = record { some = λ _. record { key = key; done = d; stops = λ y e. cc; goes = λ y e. absurd (ok_not e n) }; none = λ f. absurd (cc) }

  pub if_goes : {keyed : Bool} {x : Reached} {to : ℕ} → keyed ≡ true → KeyDone s room owner at r T T' N N' key → key ≡ Ok x → Skipped s x.at to → KeyIf keyed s room owner at r T T' N N' (read_to to x.row)
  if_goes {keyed} {x} {to} k d e z = record { some = λ _. record { key = key; done = d; stops = λ y n. absurd (ok_not e n); goes = goes }; none = λ f. absurd (cc) }
    where
      same : {y : Reached} → key ≡ Ok y → x ≡ y
      same i = cc

      goes : (y : Reached) → key ≡ Ok y → Past s y (read_to to x.row)
      goes y i = rw (← same i) (record { to = to; skipped = z; says = refl })

pub if_none : {keyed : Bool} (s : List ℕ) (room owner at r : ℕ) (T N : List ℕ) → keyed ≡ false → KeyIf keyed s room owner at r T T N N (read_to at r)
if_none s room owner at r T N k = record { some = λ f. absurd (cc); none = λ _. record { says = refl; table = refl; notes = refl } }

pub ruleset key_ifs = (key_in, if_stops, if_goes, if_none)

pub ruleset keying = (name_short, name_wrong, name_on, key_refused, key_noted, key_rows_lem, key_entry, key_again)
