-- What answers the returns of the function that walks a key; and where walks that met no other end. Assumes nothing.
use mathlib.Core.Path.{◌≡◌, refl, sym, ◌∙◌}
use mathlib.Core.Bool.{Bool, true, false}
use mathlib.Core.List.{List}
use Prim.Native.Nat.{ℕ, ◌+◌, ◌≤◌, ◌<◌}
use native.Mathlib.Omega.{arith}
use lib.ListN.{length}
use lib.Dec.{eqb, ltb}
use Rattle.std.proofs.Common.{Option, Some, None}
use Rattle.draft.specs.declared.Refusal.TheVariants.{RepeatedKey}
use Rattle.draft.specs.Verdict.{Verdict}
use Rattle.std.specs.Prelude.{Ok, Err}
use Rattle.draft.specs.declared.Content.{Content as ContentOf}
use Rattle.draft.specs.declared.Content.TheVariants.{Text as TextOf}
use Rattle.draft.specs.declared.Row.{Row}
use Rattle.draft.specs.Strings.{Text}
use Rattle.draft.specs.Content.{bad_if, key_rule, verdict}
use Rattle.draft.specs.Table.{row_at}
use Rattle.draft.specs.Read.{text_of}
use Rattle.draft.specs.Writable.{fit, ruled, closed, leaf, sized, content_item, only, string, string_by}
use Rattle.extents.proofs.Walking.{only_there}
use Rattle.keys.specs.Notes.{head_of, named, keys_of, joined, Rows, Entry, Placed, Added, Noting, Joins}
use Rattle.keys.proofs.Chaining.{note_alone}
use Rattle.key_rows.specs.Contract.{Prepared, Joined, KeyDone, KeyIf}

-- an end that was found
pub until_one : {m n : ℕ} → Some m ≡ Some n → m ≡ n
until_one e = cc

pub no_end : {n : ℕ} → None ≡ Some n → ⊥
no_end e = let z : ◌≡◌ {A = ℕ} 0 1 = cc in omega arith

pub fit_end : (b : Bool) (o : Option ℕ) {n : ℕ} → fit b o ≡ Some n → o ≡ Some n
fit_end true o e = e
fit_end false o e = absurd (no_end e)

pub ruled_end : (v : Verdict) (o : Option ℕ) {n : ℕ} → ruled v o ≡ Some n → o ≡ Some n
ruled_end (Ok tt) o e = e
ruled_end (Err m) o e = absurd (no_end e)

pub closed_end : (x : Row) (o : Option ℕ) {n : ℕ} → closed x o ≡ Some n → o ≡ Some n
closed_end x None e = absurd (no_end e)
closed_end x (Some k) e = fit_end (eqb x.end k) (Some k) e

pub content_end : (s : List ℕ) (c : ContentOf) (x : Row) (r : ℕ) {n : ℕ} → content_item s c x r ≡ Some n → n ≡ r + 1
unfolding content_item
content_end s c x r e = sym (until_one (closed_end x (Some (r + 1)) (ruled_end (verdict c s x.a x.b) (leaf x r) (fit_end (sized c x.b) (ruled (verdict c s x.a x.b) (leaf x r)) e))))

module _ (row : ℕ → Row) (rows : ℕ) (s : List ℕ) where
  pub only_end : (k : ℕ) (c : ContentOf) (r : ℕ) {n : ℕ} → only row rows s k (content_item s c) r ≡ Some n → n ≡ r + 1
  unfolding only
  only_end k c r e = content_end s c (row r) r (fit_end (eqb (row r).kind k) (content_item s c (row r) r) (fit_end (ltb r rows) (fit (eqb (row r).kind k) (content_item s c (row r) r)) e))

  pub string_end : (r : ℕ) {n : ℕ} → string row rows s r ≡ Some n → n ≡ r + 1
  unfolding string
  string_end r e = only_end 11 TextOf r e

  string_in : (r : ℕ) {o : Option ℕ} {n : ℕ} → o ≡ string row rows s r → o ≡ Some n → r < rows
  unfolding string
  string_in r h i = only_there row rows s 11 (content_item s TextOf) r h i

  by_no : (rule : List ℕ → Verdict) (r : ℕ) {o : Option ℕ} → o ≡ string row rows s r → o ≡ None → None ≡ string_by row rows s rule r
  unfolding string_by
  by_no rule r h i = rw (← h, i)

  by_on : (rule : List ℕ → Verdict) (r : ℕ) {o : Option ℕ} {n : ℕ} {v : Verdict} → o ≡ string row rows s r → o ≡ Some n → v ≡ rule (text_of s (row r)) → ruled v (Some n) ≡ string_by row rows s rule r
  unfolding string_by
  by_on rule r h i j = rw (← h, i, j)

pub joined_none : {t : ℕ → Text} {N N' : List ℕ} {owner first : ℕ} → Joined t N N' owner first None
joined_none = record { joins = λ next e. absurd (no_end e) }

-- a key's row, walked as a String
module _ (s : List ℕ) {room rows : ℕ} (T : List ℕ) {r : ℕ} {N : List ℕ} where
  pub key_no : {owner : ℕ} {N' : List ℕ} {o : Option ℕ} → None ≡ string (row_at room T) rows s r → o ≡ None → KeyDone s room rows T owner r N N' o
  key_no {owner} h i = rw i (record { says = by_no (row_at room T) rows s (key_rule (keys_of (named s room T) N owner r)) r h refl; joined = joined_none })

module _ (s : List ℕ) {room rows : ℕ} (T : List ℕ) {good r : ℕ} {N : List ℕ} (p : Prepared s room rows T good r N) {n : ℕ} (h : Some n ≡ string (row_at room T) rows s r) where
  there : r < rows
  there = string_in (row_at room T) rows s r h refl

  pub key_rows_lem : Rows r room (length T)
  key_rows_lem = record { inside = omega (arith, p.ready.stated, there); most = p.ready.most; table = p.ready.table }

  pub key_entry : {owner : ℕ} → 0 < owner → owner ≤ r → Entry owner r (length N)
  key_entry k l = record { some = k; before = l; inside = omega (arith, p.entries.enough, there); most = p.entries.most }

  module _ {N' : List ℕ} {owner : ℕ} {b : Bool} (c : Noting (named s room T) N N' owner r b) where
    rule_is : {b' : Bool} → b ≡ b' → bad_if b' RepeatedKey ≡ key_rule (keys_of (named s room T) N owner r) (text_of s (row_at room T r))
    unfolding key_rule named
    rule_is q = rw (← q, c.says)

    pub key_again : b ≡ true → KeyDone s room rows T owner r N N' None
    key_again q = record { says = by_on (row_at room T) rows s (key_rule (keys_of (named s room T) N owner r)) r h refl (rule_is q); joined = joined_none }

    module _ (q : b ≡ false) where
      joins : Added (named s room T) N N' owner r → Joins (named s room T) (named s room T) N N' owner r (r + 1)
      joins z = record { on = omega arith; noted = z.noted; owners = z.owners; mine = z.mine; others = λ o p m k. z.others o k }

      pub key_new : KeyDone s room rows T owner r N N' (Some n)
      key_new =
          let e : n ≡ r + 1 = string_end (row_at room T) rows s r (sym h) in
          record {
            says = by_on (row_at room T) rows s (key_rule (keys_of (named s room T) N owner r)) r h refl (rule_is q);
            joined = record { joins = λ next f. rw (sym (until_one f) ∙ e) (joins (c.added q)) };
          }

  -- where its bucket has no keys of the owner
  pub key_alone : {owner : ℕ} {N' : List ℕ} {q : ℕ} {b : Bool} → 0 < owner → owner ≤ r → Placed (named s room T) (length N) owner r q → b ≡ ltb owner (head_of N q) → b ≡ false → N' ≡ joined N owner r q → KeyDone s room rows T owner r N N' (Some n)
  key_alone k l z f g j = key_new (note_alone p.noted (key_entry k l) z f g j) refl

-- where there are keys, and where there are none
module _ {s : List ℕ} {room rows : ℕ} {T : List ℕ} {keyed : Bool} {owner r : ℕ} {N : List ℕ} where
  pub keyed_some : {N' : List ℕ} {o : Option ℕ} → keyed ≡ true → KeyDone s room rows T owner r N N' o → KeyIf s room rows T keyed owner r N N' o
  keyed_some e d = record { some = λ _. d; none = λ f. other e f }
    where
      other : {A : Type 0} → keyed ≡ true → keyed ≡ false → A
      other e f = let z : ◌≡◌ {A = Bool} true false = sym e ∙ f in let y : ◌≡◌ {A = ℕ} 0 1 = cc in absurd (omega arith)

  pub keyed_none : keyed ≡ false → KeyIf s room rows T keyed owner r N N (Some r)
  keyed_none e = record { some = λ f. other e f; none = λ _. record { says = refl; notes = refl } }
    where
      other : {A : Type 0} → keyed ≡ false → keyed ≡ true → A
      other e f = let z : ◌≡◌ {A = Bool} false true = sym e ∙ f in let y : ◌≡◌ {A = ℕ} 0 1 = cc in absurd (omega arith)

pub key_owner : {keyed : Bool} {owner : ℕ} → (keyed ≡ true → 0 < owner) → keyed ≡ true → 0 < owner
key_owner h e = h e

pub ruleset keying = (key_owner, key_no, key_rows_lem, key_entry, key_again, key_new, key_alone, keyed_some, keyed_none)
