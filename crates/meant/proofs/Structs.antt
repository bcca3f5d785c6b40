-- Every Struct's row of what a message means has a derivation: by the productions. Assumes nothing.
use mathlib.Core.Path.{◌≡◌, refl, ap}
use mathlib.Core.Logic.{◌⊎◌, inl, inr}
use mathlib.Core.List.{List, [], ◌∷◌, ◌++◌, append_assoc, append-nil}
use Prim.Native.Nat.{ℕ, zero, suc, ◌+◌}
use native.Mathlib.Omega.{arith}
use lib.ListN.{length}
use Rattle.draft.specs.declared.Content.TheVariants as content
use Rattle.draft.specs.Read.{Texts}
use Rattle.draft.specs.Grammar.{Payload, Cell, cell, Sent, content_cell, struct_cell, Derives, Message, call_message, response_message, Call, call, Response, value_response, fault_response, Fault, fault, Value, integer_value, boolean_value, double_value, datetime_value, binary_value, array_value, struct_value, string_value, other_value, Array, array, Values, no_values, more_values, Struct, struct, Pairs, no_pairs, more_pairs, Pair, pair, Other, other}
use Rattle.meant.specs.Meant.{StructAt}

abbrev kind_of_cell : Cell → ℕ
kind_of_cell (cell kind below p) = kind

-- the kind of the cell at r; none is 0
unfoldable pub kind_at : List Cell → ℕ → ℕ
kind_at [] r = 0
kind_at (c ∷ cs) zero = kind_of_cell c
kind_at (c ∷ cs) (suc r) = kind_at cs r

-- each Struct's cell has a derivation
abbrev Structs : List Cell → Type 0
Structs cs = (r : ℕ) → kind_at cs r ≡ 10 → StructAt cs r

under : {cs : List Cell} {r : ℕ} (c : Cell) → StructAt cs r → StructAt (c ∷ cs) (suc r)
under c t = record { d = t.d; n = t.n; xs = t.xs; ws = t.ws; fs = t.fs; pairs = t.pairs; before = c ∷ t.before; after = t.after; is = ap (λ (l : List Cell). c ∷ l) t.is; place = ap suc t.place }

followed : {us : List Cell} {r : ℕ} (vs : List Cell) → StructAt us r → StructAt (us ++ vs) r
followed vs t = record { d = t.d; n = t.n; xs = t.xs; ws = t.ws; fs = t.fs; pairs = t.pairs; before = t.before; after = t.after ++ vs; is = rw t.is (simp append_assoc); place = t.place }

none : Structs []
unfolding kind_at
none r e = let z : ◌≡◌ {A = ℕ} 0 10 = e in absurd (omega arith)

-- a cell of another kind in front
beside : {cs : List Cell} (kind below : ℕ) (p : Payload) → (kind ≡ 10 → ⊥) → Structs cs → Structs (cell kind below p ∷ cs)
unfolding kind_at
beside kind below p n f zero e = absurd (n e)
beside kind below p n f (suc r) e = under (cell kind below p) (f r e)

-- a Struct's own cell in front of those of its pairs
opened : {d n below : ℕ} {xs : List ℕ} {ws : List Cell} {fs : List Sent} → Pairs d [] n xs ws fs → below ≡ length ws → Structs ws → Structs (struct_cell n below ∷ ws)
unfolding kind_at
opened {d} {n} {below} {xs} {ws} {fs} p h f zero e =
    record { d = d; n = n; xs = xs; ws = ws; fs = fs; pairs = p; before = []; after = []; is = rw (h, append-nil); place = refl }
opened p h f (suc r) e = under _ (f r e)

-- the cell at r of two lists stands in the first, or so far on in the second
split : (us vs : List Cell) (r : ℕ) → kind_at (us ++ vs) r ≡ 10 → (kind_at us r ≡ 10) ⊎ ((q : ℕ) × (r ≡ length us + q) × (kind_at vs q ≡ 10))
unfolding kind_at
split [] vs r e = inr (r, omega arith, e)
split (c ∷ us) vs zero e = inl e
split (c ∷ us) vs (suc r) e = go (split us vs r e)
  where
    go : (kind_at us r ≡ 10) ⊎ ((q : ℕ) × (r ≡ length us + q) × (kind_at vs q ≡ 10)) → (kind_at us r ≡ 10) ⊎ ((q : ℕ) × (suc r ≡ suc (length us) + q) × (kind_at vs q ≡ 10))
    go (inl h) = inl h
    go (inr (q, h, i)) = inr (q, omega arith, i)

preceded : {vs : List Cell} {r : ℕ} (us : List Cell) → StructAt vs r → StructAt (us ++ vs) (length us + r)
preceded {vs} {r} [] t = let z : r ≡ 0 + r = omega arith in rw z at t
preceded {vs} {r} (c ∷ us) t = let z : suc (length us + r) ≡ suc (length us) + r = omega arith in rw z at (under c (preceded us t))

joined : {us vs ws : List Cell} → ws ≡ us ++ vs → Structs us → Structs vs → Structs ws
joined {us} {vs} w f g r = rw w (λ e. go (split us vs r e))
  where
    go : (kind_at us r ≡ 10) ⊎ ((q : ℕ) × (r ≡ length us + q) × (kind_at vs q ≡ 10)) → StructAt (us ++ vs) r
    go (inl h) = followed vs (f r h)
    go (inr (q, h, i)) = rw h (preceded us (g q i))

-- ---- the productions

text_no_struct : {t : List ℕ} {cs : List Cell} → Structs cs → Structs (content_cell content.Text t ∷ cs)
text_no_struct f = beside 11 0 _ (λ e. omega arith) f

mutual
  message_structs : {d : ℕ} {xs : List ℕ} {cs : List Cell} {fs : List Sent} → Message d xs cs fs → Structs cs
  message_structs (call_message c e) = call_structs c
  message_structs (response_message c e) = response_structs c

  call_structs : {d : ℕ} {xs : List ℕ} {cs : List Cell} {fs : List Sent} → Call d xs cs fs → Structs cs
  call_structs (call s a e h) = beside 1 _ _ (λ e. omega arith) (text_no_struct (array_structs a))

  response_structs : {d : ℕ} {xs : List ℕ} {cs : List Cell} {fs : List Sent} → Response d xs cs fs → Structs cs
  response_structs (value_response v h) = beside 2 _ _ (λ e. omega arith) (value_structs v)
  response_structs (fault_response f h) = beside 3 _ _ (λ e. omega arith) (fault_structs f)

  fault_structs : {d : ℕ} {xs : List ℕ} {cs : List Cell} {fs : List Sent} → Fault d xs cs fs → Structs cs
  fault_structs (fault s h) = struct_structs s

  value_structs : {d : ℕ} {xs : List ℕ} {cs : List Cell} {fs : List Sent} → Value d xs cs fs → Structs cs
  value_structs (integer_value v) = beside 4 _ _ (λ e. omega arith) none
  value_structs (boolean_value v) = beside 5 _ _ (λ e. omega arith) none
  value_structs (double_value v) = beside 6 _ _ (λ e. omega arith) none
  value_structs (datetime_value v) = beside 7 _ _ (λ e. omega arith) none
  value_structs (binary_value v) = beside 8 _ _ (λ e. omega arith) none
  value_structs (array_value v) = array_structs v
  value_structs (struct_value v) = struct_structs v
  value_structs (string_value v) = text_no_struct none
  value_structs (other_value v) = other_structs v

  array_structs : {d : ℕ} {xs : List ℕ} {cs : List Cell} {fs : List Sent} → Array d xs cs fs → Structs cs
  array_structs (array l v h) = beside 9 _ _ (λ e. omega arith) (values_structs v)

  values_structs : {d n : ℕ} {xs : List ℕ} {cs : List Cell} {fs : List Sent} → Values d n xs cs fs → Structs cs
  values_structs no_values = none
  values_structs (more_values v vs z w h) = joined w (value_structs v) (values_structs vs)

  struct_structs : {d : ℕ} {xs : List ℕ} {cs : List Cell} {fs : List Sent} → Struct d xs cs fs → Structs cs
  struct_structs (struct l p h) = opened p h (pairs_structs p)

  pairs_structs : {d n : ℕ} {seen : Texts} {xs : List ℕ} {cs : List Cell} {fs : List Sent} → Pairs d seen n xs cs fs → Structs cs
  pairs_structs no_pairs = none
  pairs_structs (more_pairs p k ps z w h) = joined w (pair_structs p) (pairs_structs ps)

  pair_structs : {d : ℕ} {t xs : List ℕ} {cs : List Cell} {fs : List Sent} → Pair d t xs cs fs → Structs cs
  pair_structs (pair s v e) = text_no_struct (value_structs v)

  other_structs : {xs : List ℕ} {cs : List Cell} {f : Sent} → Other xs cs f → Structs cs
  other_structs (other s h b e) = beside 12 _ _ (λ e. omega arith) (text_no_struct (beside 8 _ _ (λ e. omega arith) none))

-- THE STRUCTS OF A MESSAGE: a cell of kind 10 has a derivation
pub derived_structs : {d : ℕ} {xs : List ℕ} {cs : List Cell} → Derives d xs cs → (r : ℕ) → kind_at cs r ≡ 10 → StructAt cs r
derived_structs g = message_structs g.derivation

-- and what has one is of kind 10
pub struct_kind : {cs : List Cell} {r : ℕ} → StructAt cs r → kind_at cs r ≡ 10
unfolding kind_at
struct_kind {cs} {r} t = rw (t.is, ← t.place) (go t.before)
  where
    go : (before : List Cell) → kind_at (before ++ (struct_cell t.n (length t.ws) ∷ (t.ws ++ t.after))) (length before) ≡ 10
    go [] = refl
    go (c ∷ before) = go before
