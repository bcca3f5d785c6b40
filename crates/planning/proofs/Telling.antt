-- Bytes and what they mean tell how the strings were sent: a message that has one meaning sends its strings in one way. Assumes nothing.
use mathlib.Core.Path.{◌≡◌, refl, sym, ap, ◌∙◌}
use mathlib.Core.Bool.{cond}
use mathlib.Core.List.{List, [], ◌∷◌, ◌++◌, append_assoc, append-nil}
use Prim.Native.Nat.{ℕ, suc, ◌+◌}
use Prim.Native.Char.{code}
use native.Mathlib.Omega.{arith}
use lib.Dec.{eqb}
use lib.ListN.{length, drop}
use lib.Seq.{drop-append_seam}
use Rattle.draft.specs.declared.Content.TheVariants as content
use Rattle.draft.specs.Bytes.{byte_at}
use Rattle.draft.specs.Rows.{kind_of, item_of}
use Rattle.draft.specs.Read.{Texts, prefix}
use Rattle.draft.specs.Written.{lsb, counted}
use Rattle.draft.specs.Strings.{Text, cost}
use Rattle.draft.specs.Grammar.{Cell, cell, content_cell, Sent, regular, recorded, recalled, Message, call_message, response_message, Call, call, Response, value_response, fault_response, fault, Value, integer_value, boolean_value, double_value, datetime_value, array_value, struct_value, string_value, other_value, integer, boolean_true, boolean_false, double, datetime, binary_value, Binary, binary, Array, array, Values, no_values, more_values, Struct, struct, Pairs, no_pairs, more_pairs, Pair, pair, Other, other, String, regular_string, recorded_string, recalled_string, string_data}
use Rattle.written.proofs.Forming.{content as contentIn, bytes_for}

-- the string of the text t at the front of the bytes
abbrev sent_in : List ℕ → Text → Sent
sent_in xs t = cond (eqb (byte_at xs 0) (code "U")) (regular t) (cond (eqb (byte_at xs 0) (code ">")) (recorded (byte_at xs 1) t) (recalled (byte_at xs 1) t))

-- how the strings of the cells are sent in the bytes
unfoldable told : List Cell → List ℕ → List Sent
told [] xs = []
told (cell k m p ∷ cs) xs =
    cond (eqb k (kind_of content.Text))
    (sent_in xs (contentIn p) ∷ told cs (drop (cost (sent_in xs (contentIn p))) xs))
    (told cs (drop (length (bytes_for (item_of k) p)) xs))

-- the bytes xs tell how the cells' strings are sent, whatever follows
record Tells (xs : List ℕ) (cs : List Cell) (fs : List Sent) : Type 0 where
  is : (ds : List Cell) (more : List ℕ) → told (cs ++ ds) (xs ++ more) ≡ fs ++ told ds more

joined :
    {xs ys zs : List ℕ} {us vs ws : List Cell} {fs gs hs : List Sent} → Tells xs us fs → Tells ys vs gs → zs ≡ xs ++ ys → ws ≡ us ++ vs
    → hs ≡ fs ++ gs → Tells zs ws hs
joined {xs} {ys} {zs} {us} {vs} {ws} {fs} {gs} {hs} p q e i j =
    rw (e, i, j)
    (record {
      is = λ ds more.
          rw (append_assoc us vs ds, append_assoc xs ys more, append_assoc fs gs (told ds more))
          (p.is (vs ++ ds) (ys ++ more) ∙ ap (λ (l : List Sent). fs ++ l) (q.is ds more));
    })

-- a letter and a number before a text, or a letter, a position and a number, passed with it
five : (a b c d e : ℕ) (t more : List ℕ) → drop (5 + length t) (a ∷ b ∷ c ∷ d ∷ e ∷ (t ++ more)) ≡ more
five a b c d e t more = let i : 5 + length t ≡ suc (suc (suc (suc (suc (length t))))) = omega arith in rw i (drop-append_seam t more)

six : (a b c d e f : ℕ) (t more : List ℕ) → drop (6 + length t) (a ∷ b ∷ c ∷ d ∷ e ∷ f ∷ (t ++ more)) ≡ more
six a b c d e f t more = let i : 6 + length t ≡ suc (suc (suc (suc (suc (suc (length t)))))) = omega arith in rw i (drop-append_seam t more)

string_tells : {xs t : List ℕ} {f : Sent} → String xs t f → Tells xs (content_cell content.Text t ∷ []) (f ∷ [])
unfolding told cost
string_tells {t = t} (regular_string (string_data {i = i} {j} {k} {l} e n h)) = record { is = λ ds more. ap (λ (x : List ℕ). regular t ∷ told ds x) (five (code "U") i j k l t more) }
string_tells {t = t} (recorded_string {p = p} (string_data {i = i} {j} {k} {l} e n h)) = record { is = λ ds more. ap (λ (x : List ℕ). recorded p t ∷ told ds x) (six (code ">") p i j k l t more) }
string_tells recalled_string = record { is = λ ds more. refl }

binary_tells : {xs t : List ℕ} → Binary xs t → Tells xs (content_cell content.Binary t ∷ []) []
unfolding told item_of counted lsb
binary_tells {t = t} (binary e n k) = record { is = λ ds more. ap (told ds) (drop-append_seam t more) }

other_tells : {xs : List ℕ} {cs : List Cell} {f : Sent} → Other xs cs f → Tells xs cs (f ∷ [])
unfolding told item_of
other_tells (other x k y e) = let g = joined (string_tells x) (binary_tells y) e refl refl in record { is = λ ds more. g.is ds more }

mutual
  unfolding told item_of lsb

  value_tells : {d : ℕ} {xs : List ℕ} {cs : List Cell} {fs : List Sent} → Value d xs cs fs → Tells xs cs fs
  value_tells (integer_value (integer e)) = record { is = λ ds more. refl }
  value_tells (boolean_value boolean_true) = record { is = λ ds more. refl }
  value_tells (boolean_value boolean_false) = record { is = λ ds more. refl }
  value_tells (double_value {t = t} (double e k)) = record { is = λ ds more. ap (told ds) (drop-append_seam t more) }
  value_tells (datetime_value {t = t} (datetime e k)) = record { is = λ ds more. ap (told ds) (drop-append_seam t more) }
  value_tells (binary_value x) = binary_tells x
  value_tells (array_value x) = array_tells x
  value_tells (struct_value x) = struct_tells x
  value_tells (string_value x) = string_tells x
  value_tells (other_value x) = other_tells x

  array_tells : {d : ℕ} {xs : List ℕ} {cs : List Cell} {fs : List Sent} → Array d xs cs fs → Tells xs cs fs
  array_tells (array e vs m) = let g = values_tells vs in record { is = λ ds more. g.is ds more }

  values_tells : {d n : ℕ} {xs : List ℕ} {cs : List Cell} {fs : List Sent} → Values d n xs cs fs → Tells xs cs fs
  values_tells no_values = record { is = λ ds more. refl }
  values_tells (more_values v vs e f g) = joined (value_tells v) (values_tells vs) e f g

  struct_tells : {d : ℕ} {xs : List ℕ} {cs : List Cell} {fs : List Sent} → Struct d xs cs fs → Tells xs cs fs
  struct_tells (struct e ps m) = let g = pairs_tells ps in record { is = λ ds more. g.is ds more }

  pairs_tells : {d n : ℕ} {seen : Texts} {xs : List ℕ} {cs : List Cell} {fs : List Sent} → Pairs d seen n xs cs fs → Tells xs cs fs
  pairs_tells no_pairs = record { is = λ ds more. refl }
  pairs_tells (more_pairs p k ps e f g) = joined (pair_tells p) (pairs_tells ps) e f g

  pair_tells : {d : ℕ} {t xs : List ℕ} {cs : List Cell} {fs : List Sent} → Pair d t xs cs fs → Tells xs cs fs
  pair_tells (pair x v e) = joined (string_tells x) (value_tells v) e refl refl

call_tells : {d : ℕ} {xs : List ℕ} {cs : List Cell} {fs : List Sent} → Call d xs cs fs → Tells xs cs fs
unfolding told item_of
call_tells (call x y e m) = let g = joined (string_tells x) (array_tells y) e refl refl in record { is = λ ds more. g.is ds more }

response_tells : {d : ℕ} {xs : List ℕ} {cs : List Cell} {fs : List Sent} → Response d xs cs fs → Tells xs cs fs
unfolding told item_of
response_tells (value_response v m) = let g = value_tells v in record { is = λ ds more. g.is ds more }
response_tells (fault_response (fault x k) m) = let g = struct_tells x in record { is = λ ds more. g.is ds more }

-- a whole message, behind its prefix
behind : {xs zs : List ℕ} {cs : List Cell} {fs : List Sent} → Tells xs cs fs → zs ≡ prefix ++ xs → (more : List ℕ) → told cs (drop 12 (zs ++ more)) ≡ fs
unfolding told
behind {xs} {zs} {cs} {fs} g e more = rw e (rw (append-nil cs, append-nil fs) at (g.is [] more))

message_tells : {d : ℕ} {zs : List ℕ} {cs : List Cell} {fs : List Sent} → Message d zs cs fs → (more : List ℕ) → told cs (drop 12 (zs ++ more)) ≡ fs
message_tells (call_message x e) more = behind (call_tells x) e more
message_tells (response_message x e) more = behind (response_tells x) e more

-- ONE WAY: two messages with one meaning that begin the same bytes send their strings alike
pub one_way :
    {d e : ℕ} {xs ys : List ℕ} (us vs : List ℕ) {cs ds : List Cell} {fs gs : List Sent} → Message d xs cs fs → Message e ys ds gs → cs ≡ ds
    → xs ++ us ≡ ys ++ vs → fs ≡ gs
one_way {ys = ys} us vs {cs} {ds} m n i e =
    sym (message_tells m us) ∙ ap (λ (l : List ℕ). told cs (drop 12 l)) e ∙ ap (λ (l : List Cell). told l (drop 12 (ys ++ vs))) i ∙ message_tells n vs
