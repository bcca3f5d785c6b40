-- The written form over cells: what a table's rows are written as is settled by the cells that they realise; appending; and the length.
-- Assumes nothing.
use mathlib.Core.Path.{◌≡◌, refl, sym, ap, ap₂, ◌∙◌}
use mathlib.Core.Bool.{Bool, true, false, cond}
use mathlib.Core.List.{List, [], ◌∷◌, ◌++◌, append_assoc}
use Prim.Native.Nat.{ℕ, ◌+◌}
use Prim.Native.Char.{code}
use native.Mathlib.Omega.{arith}
use lib.Dec.{eqb}
use lib.ListN.{length, length-append}
use borrow.Author.Tests.{eqb-true}
use Rattle.text.proofs.Comparing.{clash}
use Rattle.draft.specs.declared.Row.{Row}
use Rattle.draft.specs.declared.Content.TheVariants.{Double, DateTime, Binary, Text}
use Rattle.draft.specs.declared.Item.{Item}
use Rattle.draft.specs.declared.Item.TheVariants.{Call, Response, Fault, Integer, Boolean, Content, Array, Struct, Other, Unknown}
use Rattle.draft.specs.Bytes.{part}
use Rattle.draft.specs.Rows.{kind_of, item_of}
use Rattle.draft.specs.Read.{prefix}
use Rattle.draft.specs.Grammar.{Payload, holding, number, contents, Cell, cell, Sent, regular, recorded, recalled}
use Rattle.draft.specs.Meaning.{has_number, has_content, Says, says_holding, says_number, says_contents, means, Realises, no_more, and_then}
use Rattle.draft.specs.Strings.{Text as TextBytes, keep, texts_of, cost, costs, plan}
use Rattle.draft.specs.Written.{lsb, counted, string_bytes, letter, content_bytes, bytes_of, item_bytes, next, items_of, message_of, written}
use Rattle.exact.proofs.Realising.{content_has, number_no_content}
use Rattle.written.proofs.Sending.{texts, plan_texts}

-- what a cell says
abbrev pub held : Payload → ℕ
held (holding n) = n
held (number n) = 0
held (contents t) = 0

abbrev pub numbered : Payload → ℕ
numbered (holding n) = 0
numbered (number n) = n
numbered (contents t) = 0

abbrev pub content : Payload → TextBytes
content (holding n) = []
content (number n) = []
content (contents t) = t

-- an item that is no String, without the items that it holds
abbrev pub bytes_for : Item → Payload → List ℕ
bytes_for Call p = code "C" ∷ []
bytes_for Response p = code "R" ∷ []
bytes_for Fault p = code "R" ∷ code "F" ∷ []
bytes_for Integer p = code "I" ∷ lsb (numbered p)
bytes_for Boolean p = letter (eqb (numbered p) 0) ∷ []
bytes_for (Content c) p = content_bytes c (content p)
bytes_for Array p = code "A" ∷ lsb (held p)
bytes_for Struct p = code "S" ∷ lsb (held p)
bytes_for Other p = code "O" ∷ []
bytes_for Unknown p = []

-- the texts of cells that are strings, and the items of cells
unfoldable pub strings : List Cell → List TextBytes
strings [] = []
strings (cell k m p ∷ cs) = keep (eqb k (kind_of Text)) (content p) (strings cs)

unfoldable pub form : List Cell → List Sent → List ℕ
form [] fs = []
form (cell k m p ∷ cs) fs = next (eqb k (kind_of Text)) (bytes_for (item_of k) p) fs (λ left. form cs left)

-- the kind of an item
abbrev pub HasKind : Item → ℕ → Type 0
HasKind Call k = k ≡ 1
HasKind Response k = k ≡ 2
HasKind Fault k = k ≡ 3
HasKind Integer k = k ≡ 4
HasKind Boolean k = k ≡ 5
HasKind (Content c) k = k ≡ kind_of c
HasKind Array k = k ≡ 9
HasKind Struct k = k ≡ 10
HasKind Other k = k ≡ 12
HasKind Unknown k = Unit {0}

item_or : (k n : ℕ) (x y : Item) → (k ≡ n → HasKind x k) → HasKind y k → HasKind (cond (eqb k n) x y) k
item_or k n x y h i = go (eqb k n) refl
  where
    go : (b : Bool) → eqb k n ≡ b → HasKind (cond b x y) k
    go true e = h (eqb-true k n e)
    go false e = i

pub item_kind : (k : ℕ) → HasKind (item_of k) k
unfolding item_of
item_kind k =
    item_or k 1 Call _ (λ e. e)
    (item_or k 2 Response _ (λ e. e)
    (item_or k 3 Fault _ (λ e. e)
    (item_or k 4 Integer _ (λ e. e)
    (item_or k 5 Boolean _ (λ e. e)
    (item_or k 6 (Content Double) _ (λ e. e)
    (item_or k 7 (Content DateTime) _ (λ e. e)
    (item_or k 8 (Content Binary) _ (λ e. e)
    (item_or k 9 Array _ (λ e. e)
    (item_or k 10 Struct _ (λ e. e)
    (item_or k 11 (Content Text) _ (λ e. e)
    (item_or k 12 Other _ (λ e. e) tt)))))))))))

-- what a row says of a kind: a number, content, or how much it holds
module _ {s : List ℕ} {x : Row} where
  pub says_its_number : {p : Payload} → Says s x p → has_number x.kind ≡ true → (x.a ≡ numbered p) × (p ≡ number (numbered p)) × (x.b ≡ 0)
  says_its_number (says_holding h k a b) n = clash n h
  says_its_number (says_number h a b) n = (a, refl, b)
  says_its_number (says_contents h i j) n = clash h (number_no_content x.kind n)

  pub says_its_content : {p : Payload} → Says s x p → has_content x.kind ≡ true → (part s x.a x.b ≡ content p) × (p ≡ contents (content p))
  says_its_content (says_holding h k a b) n = clash n k
  says_its_content (says_number h a b) n = clash n (number_no_content x.kind h)
  says_its_content (says_contents h i j) n = (j, refl)

  pub says_held : {p : Payload} → Says s x p → has_number x.kind ≡ false → has_content x.kind ≡ false → (x.b ≡ held p) × (x.a ≡ 0) × (p ≡ holding (held p))
  says_held (says_holding h k a b) n m = (b, a, refl)
  says_held (says_number h a b) n m = clash h n
  says_held (says_contents h i j) n m = clash h m

  bytes_same : {p : Payload} (i : Item) → HasKind i x.kind → Says s x p → bytes_of s i x ≡ bytes_for i p
  unfolding has_number has_content
  bytes_same Call e y = refl
  bytes_same Response e y = refl
  bytes_same Fault e y = refl
  bytes_same Integer e y = rw (says_its_number y (rw e)).0
  bytes_same Boolean e y = rw (says_its_number y (rw e)).0
  bytes_same (Content c) e y = ap (content_bytes c) (says_its_content y (rw e (content_has c))).0
  bytes_same Array e y = rw (says_held y (rw e) (rw e)).0
  bytes_same Struct e y = rw (says_held y (rw e) (rw e)).0
  bytes_same Other e y = refl
  bytes_same Unknown e y = refl

-- rows are written as the cells that they realise
pub texts_same : {s : List ℕ} {r : ℕ} {xs : List Row} {cs : List Cell} → Realises s r xs cs → texts_of s xs ≡ strings cs
unfolding texts_of strings has_content
texts_same no_more = refl
texts_same {s} (and_then {r} {x} {c} {xs} {cs} (means {kind = k} {below = m} {p = p} h e y) t) = rw h (go (eqb k 11) refl (texts_same t))
  where
    go : (b : Bool) → eqb k 11 ≡ b → texts_of s xs ≡ strings cs → keep b (part s x.a x.b) (texts_of s xs) ≡ keep b (content p) (strings cs)
    go true i j =
        let z : part s x.a x.b ≡ content p = (says_its_content y (rw (h, eqb-true k 11 i))).0 in
        ap₂ (λ (t : TextBytes) (l : List TextBytes). t ∷ l) z j
    go false i j = j

next_same :
    (b c : Bool) {xs ys : List ℕ} (fs : List Sent) (more also : List Sent → List ℕ) → b ≡ c → xs ≡ ys → ((left : List Sent) → more left ≡ also left)
    → next b xs fs more ≡ next c ys fs also
next_same b c {xs} {ys} fs more also i e h = rw i (go c fs)
  where
    go : (c : Bool) (fs : List Sent) → next c xs fs more ≡ next c ys fs also
    go false fs = ap₂ (λ (l m : List ℕ). l ++ m) e (h fs)
    go true [] = h []
    go true (f ∷ fs) = ap (λ (l : List ℕ). string_bytes f ++ l) (h fs)

pub items_same : {s : List ℕ} {r : ℕ} {xs : List Row} {cs : List Cell} → Realises s r xs cs → (fs : List Sent) → items_of s xs fs ≡ form cs fs
unfolding items_of form item_bytes
items_same no_more fs = refl
items_same {s} (and_then {r} {x} {c} {xs} {cs} (means {kind = k} {below = m} {p = p} h e y) t) fs =
    let i : HasKind (item_of k) x.kind = rw h (item_kind k) in
    next_same (eqb x.kind 11) (eqb k 11) fs (λ left. items_of s xs left) (λ left. form cs left) (ap (λ (n : ℕ). eqb n 11) h)
    (ap (λ (n : ℕ). bytes_of s (item_of n) x) h ∙ bytes_same (item_of k) i y) (items_same t)

-- the written form of cells
abbrev pub formed : List Cell → List ℕ
formed cs = prefix ++ form cs (plan (strings cs))

pub written_formed : {s : List ℕ} {r : ℕ} {xs : List Row} {cs : List Cell} → Realises s r xs cs → written s xs ≡ formed cs
unfolding written message_of
written_formed {s} {r} {xs} {cs} t = ap (λ (l : List ℕ). prefix ++ l) (items_same t (plan (texts_of s xs)) ∙ ap (λ (ts : List TextBytes). form cs (plan ts)) (texts_same t))

-- one list of cells after another
keep_append : (b : Bool) (t : TextBytes) (us vs ws : List TextBytes) → ws ≡ us ++ vs → keep b t ws ≡ keep b t us ++ vs
keep_append true t us vs ws e = ap (λ (l : List TextBytes). t ∷ l) e
keep_append false t us vs ws e = e

pub strings_append : (us vs : List Cell) → strings (us ++ vs) ≡ strings us ++ strings vs
unfolding strings
strings_append [] vs = refl
strings_append (cell k m p ∷ us) vs = keep_append (eqb k 11) (content p) (strings us) (strings vs) (strings (us ++ vs)) (strings_append us vs)

pub form_append : (us vs : List Cell) (fs gs : List Sent) → texts fs ≡ strings us → form (us ++ vs) (fs ++ gs) ≡ form us fs ++ form vs gs
unfolding form strings
form_append [] vs [] gs e = refl
form_append [] vs (f ∷ fs) gs e = let z : ◌≡◌ {A = ℕ} 0 1 = cc in absurd (omega arith)
form_append (cell k m p ∷ us) vs fs gs e = go (eqb k 11) fs e (form_append us vs)
  where
    go :
        (b : Bool) (fs : List Sent) → texts fs ≡ keep b (content p) (strings us)
        → ((fs gs : List Sent) → texts fs ≡ strings us → form (us ++ vs) (fs ++ gs) ≡ form us fs ++ form vs gs)
        → next b (bytes_for (item_of k) p) (fs ++ gs) (λ left. form (us ++ vs) left) ≡ next b (bytes_for (item_of k) p) fs (λ left. form us left) ++ form vs gs
    go false fs e rest = ap (λ (l : List ℕ). bytes_for (item_of k) p ++ l) (rest fs gs e) ∙ sym (append_assoc (bytes_for (item_of k) p) (form us fs) (form vs gs))
    go true [] e rest = let z : ◌≡◌ {A = ℕ} 0 1 = cc in absurd (omega arith)
    go true (f ∷ fs) e rest =
        let i : texts fs ≡ strings us = cc in
        ap (λ (l : List ℕ). string_bytes f ++ l) (rest fs gs i) ∙ sym (append_assoc (string_bytes f) (form us fs) (form vs gs))

-- how long it is: what the strings cost, and the other items
abbrev other : Bool → ℕ → ℕ
other true n = 0
other false n = n

unfoldable pub fixed : List Cell → ℕ
fixed [] = 0
fixed (cell k m p ∷ cs) = other (eqb k (kind_of Text)) (length (bytes_for (item_of k) p)) + fixed cs

string_length : (f : Sent) → length (string_bytes f) ≡ cost f
unfolding string_bytes cost counted lsb
string_length (regular t) = omega arith
string_length (recorded p t) = omega arith
string_length (recalled p t) = refl

pub form_length : (cs : List Cell) (fs : List Sent) → texts fs ≡ strings cs → length (form cs fs) ≡ fixed cs + costs fs
unfolding form strings fixed costs
form_length [] [] e = refl
form_length [] (f ∷ fs) e = let z : ◌≡◌ {A = ℕ} 0 1 = cc in absurd (omega arith)
form_length (cell k m p ∷ cs) fs e = go (eqb k 11) fs e (form_length cs)
  where
    go :
        (b : Bool) (fs : List Sent) → texts fs ≡ keep b (content p) (strings cs)
        → ((fs : List Sent) → texts fs ≡ strings cs → length (form cs fs) ≡ fixed cs + costs fs)
        → length (next b (bytes_for (item_of k) p) fs (λ left. form cs left)) ≡ other b (length (bytes_for (item_of k) p)) + fixed cs + costs fs
    go false fs e rest = omega (arith, length-append (bytes_for (item_of k) p) (form cs fs), rest fs e)
    go true [] e rest = let z : ◌≡◌ {A = ℕ} 0 1 = cc in absurd (omega arith)
    go true (f ∷ fs) e rest =
        let i : texts fs ≡ strings cs = cc in
        omega (arith, length-append (string_bytes f) (form cs fs), rest fs i, string_length f)

pub formed_length : (cs : List Cell) → length (formed cs) ≡ 12 + fixed cs + costs (plan (strings cs))
formed_length cs = omega (arith, length-append prefix (form cs (plan (strings cs))), form_length cs (plan (strings cs)) (plan_texts (strings cs)))
