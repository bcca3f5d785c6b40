-- What a derivation settles besides its meaning: which texts its strings stand for, how many bytes it takes, and that legal strings keep the
-- rule for text. Assumes nothing.
use mathlib.Core.Path.{◌≡◌, refl, sym, ap, ◌∙◌}
use mathlib.Core.Bool.{Bool, true, false, cond}
use mathlib.Core.Option.{some}
use mathlib.Core.List.{List, [], ◌∷◌, ◌++◌}
use Prim.Native.Nat.{ℕ, ◌+◌}
use native.Mathlib.Omega.{arith}
use lib.Dec.{eqb}
use lib.ListN.{length, length-append}
use Rattle.draft.specs.declared.Content.TheVariants as content
use Rattle.draft.specs.Rows.{item_of}
use Rattle.draft.specs.Read.{Texts, prefix}
use Rattle.draft.specs.Written.{lsb, counted, string_bytes}
use Rattle.draft.specs.Strings.{costs}
use Rattle.draft.specs.Grammar.{Cell, content_cell, Sent, regular, recorded, recalled, Keeps, Message, call_message, response_message, Call, call, Response, value_response, fault_response, fault, Value, integer_value, boolean_value, double_value, datetime_value, array_value, struct_value, string_value, other_value, integer, boolean_true, boolean_false, double, datetime, binary_value, Binary, binary, Array, array, Values, no_values, more_values, Struct, struct, Pairs, no_pairs, more_pairs, Pair, pair, Other, other, String, regular_string, recorded_string, recalled_string, string_data, Recording, text_at, look, Legal, legal_none, legal_regular, legal_recorded, legal_recalled}
use Rattle.written.proofs.Sending.{text_in, texts, texts_append}
use Rattle.written.proofs.Forming.{strings, form, strings_append, form_append, fixed, form_length}

-- each string that has its text with it keeps the rule
pub data Honest : List Sent → Type 0 where
  honest_none : Honest []
  honest_regular : {t : List ℕ} {fs : List Sent} → Keeps content.Text t → Honest fs → Honest (regular t ∷ fs)
  honest_recorded : {p : ℕ} {t : List ℕ} {fs : List Sent} → Keeps content.Text t → Honest fs → Honest (recorded p t ∷ fs)
  honest_recalled : {p : ℕ} {t : List ℕ} {fs : List Sent} → Honest fs → Honest (recalled p t ∷ fs)

honest_append : {fs gs : List Sent} → Honest fs → Honest gs → Honest (fs ++ gs)
honest_append honest_none k = k
honest_append (honest_regular e h) k = honest_regular e (honest_append h k)
honest_append (honest_recorded e h) k = honest_recorded e (honest_append h k)
honest_append (honest_recalled h) k = honest_recalled (honest_append h k)

-- each string keeps the rule
pub data Kept : List Sent → Type 0 where
  kept_none : Kept []
  kept_more : {f : Sent} {fs : List Sent} → Keeps content.Text (text_in f) → Kept fs → Kept (f ∷ fs)

pub kept_front : (fs gs : List Sent) → Kept (fs ++ gs) → Kept fs
kept_front [] gs k = kept_none
kept_front (f ∷ fs) gs (kept_more e k) = kept_more e (kept_front fs gs k)

pub kept_back : (fs gs : List Sent) → Kept (fs ++ gs) → Kept gs
kept_back [] gs k = k
kept_back (f ∷ fs) gs (kept_more e k) = kept_back fs gs k

-- and so does what was recorded
record Good (R : List Recording) : Type 0 where
  each : (p : ℕ) (t : List ℕ) → look p R ≡ some t → Keeps content.Text t

good_recorded : {R : List Recording} {p : ℕ} {t : List ℕ} → Keeps content.Text t → Good R → Good (text_at p t ∷ R)
good_recorded {R} {p} {t} k g = record { each = λ q u e. go q u (eqb q p) e }
  where
    go : (q : ℕ) (u : List ℕ) (b : Bool) → cond b (some t) (look q R) ≡ some u → Keeps content.Text u
    go q u true e = let i : t ≡ u = cc in rw i at k
    go q u false e = g.each q u e

kept_legal : {R : List Recording} {fs : List Sent} → Legal R fs → Honest fs → Good R → Kept fs
kept_legal legal_none h g = kept_none
kept_legal (legal_regular l) (honest_regular e h) g = kept_more e (kept_legal l h g)
kept_legal (legal_recorded l) (honest_recorded e h) g = kept_more e (kept_legal l h (good_recorded e g))
kept_legal (legal_recalled {p = p} {t = t} i l) (honest_recalled h) g = kept_more (g.each p t i) (kept_legal l h g)

pub kept : {fs : List Sent} → Legal [] fs → Honest fs → Kept fs
kept l h = kept_legal l h (record { each = λ p t e. let z : ◌≡◌ {A = ℕ} 0 1 = cc in absurd (omega arith) })

-- the strings are the cells', and there are as many bytes as in their form
pub record Measured (xs : List ℕ) (cs : List Cell) (fs : List Sent) : Type 0 where
  pub same : texts fs ≡ strings cs
  pub size : length xs ≡ length (form cs fs)
  pub honest : Honest fs

joined :
    {xs ys zs : List ℕ} {us vs ws : List Cell} {fs gs hs : List Sent} → Measured xs us fs → Measured ys vs gs → zs ≡ xs ++ ys → ws ≡ us ++ vs
    → hs ≡ fs ++ gs → Measured zs ws hs
joined {xs} {ys} {zs} {us} {vs} {ws} {fs} {gs} {hs} p q e i j =
    rw (e, i, j)
    (record {
      same = texts_append fs gs ∙ rw (p.same, q.same) (sym (strings_append us vs));
      size =
          omega
          (arith, length-append xs ys, ap length (form_append us vs fs gs p.same), length-append (form us fs) (form vs gs), p.size, q.size);
      honest = honest_append p.honest q.honest;
    })

string_measured : {xs t : List ℕ} {f : Sent} → String xs t f → Measured xs (content_cell content.Text t ∷ []) (f ∷ [])
unfolding form strings string_bytes counted lsb
string_measured {t = t} (regular_string (string_data e n k)) = record { same = refl; size = omega (arith, length-append t []); honest = honest_regular k honest_none }
string_measured {t = t} (recorded_string (string_data e n k)) = record { same = refl; size = omega (arith, length-append t []); honest = honest_recorded k honest_none }
string_measured recalled_string = record { same = refl; size = refl; honest = honest_recalled honest_none }

binary_measured : {xs t : List ℕ} → Binary xs t → Measured xs (content_cell content.Binary t ∷ []) []
unfolding form strings counted lsb item_of
binary_measured {t = t} (binary e n k) = record { same = refl; size = omega (arith, length-append t []); honest = honest_none }

other_measured : {xs : List ℕ} {cs : List Cell} {f : Sent} → Other xs cs f → Measured xs cs (f ∷ [])
unfolding form strings item_of
other_measured (other {xs = xs} {ys} {zs} {t} {u} {f} x k y e) =
    let g = joined (string_measured x) (binary_measured y) e refl refl in
    record { same = g.same; size = omega (arith, g.size); honest = g.honest }

mutual
  unfolding form strings item_of lsb

  value_measured : {d : ℕ} {xs : List ℕ} {cs : List Cell} {fs : List Sent} → Value d xs cs fs → Measured xs cs fs
  value_measured (integer_value (integer e)) = record { same = refl; size = refl; honest = honest_none }
  value_measured (boolean_value boolean_true) = record { same = refl; size = refl; honest = honest_none }
  value_measured (boolean_value boolean_false) = record { same = refl; size = refl; honest = honest_none }
  value_measured (double_value {t = t} (double e k)) = record { same = refl; size = omega (arith, length-append t []); honest = honest_none }
  value_measured (datetime_value {t = t} (datetime e k)) = record { same = refl; size = omega (arith, length-append t []); honest = honest_none }
  value_measured (binary_value x) = binary_measured x
  value_measured (array_value x) = array_measured x
  value_measured (struct_value x) = struct_measured x
  value_measured (string_value x) = string_measured x
  value_measured (other_value x) = other_measured x

  array_measured : {d : ℕ} {xs : List ℕ} {cs : List Cell} {fs : List Sent} → Array d xs cs fs → Measured xs cs fs
  array_measured (array e vs m) = let g = values_measured vs in record { same = g.same; size = omega (arith, g.size); honest = g.honest }

  values_measured : {d n : ℕ} {xs : List ℕ} {cs : List Cell} {fs : List Sent} → Values d n xs cs fs → Measured xs cs fs
  values_measured no_values = record { same = refl; size = refl; honest = honest_none }
  values_measured (more_values v vs e f g) = joined (value_measured v) (values_measured vs) e f g

  struct_measured : {d : ℕ} {xs : List ℕ} {cs : List Cell} {fs : List Sent} → Struct d xs cs fs → Measured xs cs fs
  struct_measured (struct e ps m) = let g = pairs_measured ps in record { same = g.same; size = omega (arith, g.size); honest = g.honest }

  pairs_measured : {d n : ℕ} {seen : Texts} {xs : List ℕ} {cs : List Cell} {fs : List Sent} → Pairs d seen n xs cs fs → Measured xs cs fs
  pairs_measured no_pairs = record { same = refl; size = refl; honest = honest_none }
  pairs_measured (more_pairs p k ps e f g) = joined (pair_measured p) (pairs_measured ps) e f g

  pair_measured : {d : ℕ} {t xs : List ℕ} {cs : List Cell} {fs : List Sent} → Pair d t xs cs fs → Measured xs cs fs
  pair_measured (pair x v e) = joined (string_measured x) (value_measured v) e refl refl

-- a whole message, behind its prefix
pub record Whole (zs : List ℕ) (cs : List Cell) (fs : List Sent) : Type 0 where
  pub same : texts fs ≡ strings cs
  pub size : length zs ≡ 12 + fixed cs + costs fs
  pub honest : Honest fs

behind : {xs zs : List ℕ} {cs : List Cell} {fs : List Sent} → Measured xs cs fs → zs ≡ prefix ++ xs → Whole zs cs fs
behind {xs} {zs} {cs} {fs} g e =
    record { same = g.same; size = omega (arith, ap length e, g.size, form_length cs fs g.same); honest = g.honest }

call_measured : {d : ℕ} {xs : List ℕ} {cs : List Cell} {fs : List Sent} → Call d xs cs fs → Measured xs cs fs
unfolding form strings item_of
call_measured (call x y e m) =
    let g = joined (string_measured x) (array_measured y) e refl refl in
    record { same = g.same; size = omega (arith, g.size); honest = g.honest }

response_measured : {d : ℕ} {xs : List ℕ} {cs : List Cell} {fs : List Sent} → Response d xs cs fs → Measured xs cs fs
unfolding form strings item_of
response_measured (value_response v m) = let g = value_measured v in record { same = g.same; size = omega (arith, g.size); honest = g.honest }
response_measured (fault_response (fault x k) m) = let g = struct_measured x in record { same = g.same; size = omega (arith, g.size); honest = g.honest }

pub measured : {d : ℕ} {zs : List ℕ} {cs : List Cell} {fs : List Sent} → Message d zs cs fs → Whole zs cs fs
measured (call_message x e) = behind (call_measured x) e
measured (response_message x e) = behind (response_measured x) e
