-- What is asked of a table is settled by its rows: two functions that give the same rows below the stated number, or below the room where a list of
-- entries may name any row, are answered alike. Assumes nothing.
use mathlib.Core.Path.{◌≡◌, refl, sym, ap, ◌∙◌, fun_ext}
use mathlib.Core.Bool.{Bool, true, false, cond, ◌&&◌}
use mathlib.Core.List.{List, [], ◌∷◌}
use Prim.Native.Nat.{ℕ, zero, suc, ◌+◌, ◌≤◌, ◌<◌}
use native.Mathlib.Omega.{arith}
use lib.Dec.{ltb, eqb}
use lib.ListN.{length}
use borrow.Author.Tests.{ltb-true, eqb-true, eq-eqb}
use Rattle.std.proofs.Common.{Option, Some, None}
use Rattle.text.proofs.Comparing.{clash}
use Rattle.draft.specs.declared.Row.{Row}
use Rattle.draft.specs.Bytes.{Below}
use Rattle.draft.specs.Table.{from}
use Rattle.draft.specs.Read.{text_of}
use Rattle.draft.specs.Writable.{call_or_response, wholly}
use Rattle.exact.proofs.Deriving.{message_make}
use Rattle.written.proofs.Sending.{plan_texts, plan_legal}
use Rattle.written.proofs.Forming.{strings}
use Rattle.written.proofs.Standing.{stands_realises, realises_stands}
use Rattle.written.proofs.Measuring.{measured, kept}
use Rattle.written.proofs.Bounding.{cells_below, formed_below}
use Rattle.written.proofs.Walking.{walked}
use Rattle.written.proofs.Fitting.{message_fits}
use Rattle.draft.specs.Strings.{plan}
use Rattle.member.specs.declared.Member.{Member}
use Rattle.member.specs.Members.{member_of, members_from, is_struct, members, has_key, find, is_among}
use Rattle.lookup_answer.specs.Answers.{answer_at, found_answer, look}
use Rattle.std.proofs.Common.{Greater}
use Rattle.order.specs.ByteOrder.{compared}
use Rattle.sorting.specs.Sorting.{key_text}
use Rattle.index.specs.Filling.{refusal_in, order_in}
use Rattle.index_search.specs.Through.{relation_to, is_member}
use Rattle.defaults.specs.Defaults.{numbered_text, found_text, held_in}

-- the same rows below n
abbrev pub Alike : (ℕ → Row) → (ℕ → Row) → ℕ → Type 0
Alike f g n = (i : ℕ) → i < n → f i ≡ g i

pub alike_below : {f g : ℕ → Row} {n : ℕ} (m : ℕ) → Alike f g n → m ≤ n → Alike f g m
alike_below m a h i k = a i (omega arith)

pub from_same : {A : Type 0} (f g : ℕ → A) (r n : ℕ) → ((i : ℕ) → i < r + n → f i ≡ g i) → from f r n ≡ from g r n
unfolding from
from_same f g r zero h = refl
from_same f g r (suc n) h = rw (h r (omega arith), from_same f g (suc r) n (λ i l. h i (omega arith)))

-- ---- members

-- their two rows are below a number
data Low (rows : ℕ) : List Member → Type 0 where
  no_member : Low rows []
  and_member : {r : ℕ} {ms : List Member} → r + 1 < rows → Low rows ms → Low rows (member_of r (r + 1) ∷ ms)

abbrev FoundLow : ℕ → Option Member → Type 0
FoundLow rows (Some m) = m.value < rows
FoundLow rows None = Unit {0}

module _ (f g : ℕ → Row) (rows : ℕ) (same : Alike f g rows) where
  pub struct_same : (r : ℕ) → is_struct f rows r ≡ is_struct g rows r
  unfolding is_struct
  struct_same r = go (ltb r rows) refl
    where
      go : (b : Bool) → ltb r rows ≡ b → (b && eqb (f r).kind 10) ≡ (b && eqb (g r).kind 10)
      go true e = ap (λ (x : Row). eqb x.kind 10) (same r (ltb-true r rows e))
      go false e = refl

  members_from_lem : (n r : ℕ) → members_from f rows n r ≡ members_from g rows n r
  unfolding members_from
  members_from_lem zero r = refl
  members_from_lem (suc n) r = go (λ k. members_from_lem n k) (ltb (r + 1) rows) refl
    where
      go : ((k : ℕ) → members_from f rows n k ≡ members_from g rows n k) → (b : Bool) → ltb (r + 1) rows ≡ b
          → cond b (member_of r (r + 1) ∷ members_from f rows n (f (r + 1)).end) [] ≡ cond b (member_of r (r + 1) ∷ members_from g rows n (g (r + 1)).end) []
      go m true e = rw (same (r + 1) (ltb-true (r + 1) rows e), m (g (r + 1)).end)
      go m false e = refl

  pub members_same : (r : ℕ) → members f rows r ≡ members g rows r
  unfolding members is_struct
  members_same r = go (ltb r rows) refl
    where
      go : (b : Bool) → ltb r rows ≡ b
          → cond (b && eqb (f r).kind 10) (members_from f rows (f r).b (r + 1)) [] ≡ cond (b && eqb (g r).kind 10) (members_from g rows (g r).b (r + 1)) []
      go true e = rw (same r (ltb-true r rows e), members_from_lem (g r).b (r + 1))
      go false e = refl

  low_from : (n r : ℕ) → Low rows (members_from g rows n r)
  unfolding members_from
  low_from zero r = no_member
  low_from (suc n) r = go (λ k. low_from n k) (ltb (r + 1) rows) refl
    where
      go : ((k : ℕ) → Low rows (members_from g rows n k)) → (b : Bool) → ltb (r + 1) rows ≡ b → Low rows (cond b (member_of r (r + 1) ∷ members_from g rows n (g (r + 1)).end) [])
      go m true e = and_member (ltb-true (r + 1) rows e) (m (g (r + 1)).end)
      go m false e = no_member

  low_members : (r : ℕ) → Low rows (members g rows r)
  unfolding members
  low_members r = go (is_struct g rows r)
    where
      go : (b : Bool) → Low rows (cond b (members_from g rows (g r).b (r + 1)) [])
      go true = low_from (g r).b (r + 1)
      go false = no_member

  module _ (s key : List ℕ) where
    find_same : {ms : List Member} → Low rows ms → find f s key ms ≡ find g s key ms
    unfolding find has_key
    find_same no_member = refl
    find_same (and_member {r} l m) = rw (same r (omega arith), find_same m)

    find_low : {ms : List Member} → Low rows ms → FoundLow rows (find g s key ms)
    unfolding find
    find_low no_member = tt
    find_low (and_member {r} {ms} l m) = go (find_low m) (has_key g s key r)
      where
        go : FoundLow rows (find g s key ms) → (b : Bool) → FoundLow rows (cond b (Some (member_of r (r + 1))) (find g s key ms))
        go i true = l
        go i false = i

    -- what is found, and what is made of it
    look_found : (o : Option Member) → FoundLow rows o → found_answer f s o ≡ found_answer g s o
    unfolding answer_at
    look_found (Some m) l = rw (same m.value l)
    look_found None l = refl

    held_found : (o : Option Member) → FoundLow rows o → found_text f o ≡ found_text g o
    unfolding numbered_text
    held_found (Some m) l = rw (same m.value l)
    held_found None l = refl

    pub look_same : (r : ℕ) → look f rows s r key ≡ look g rows s r key
    unfolding look
    look_same r =
        rw (members_same r, find_same (low_members r)) (look_found (find g s key (members g rows r)) (find_low (low_members r)))

    pub held_same : (r : ℕ) → held_in f rows s r key ≡ held_in g rows s r key
    unfolding held_in
    held_same r =
        rw (members_same r, find_same (low_members r)) (held_found (find g s key (members g rows r)) (find_low (low_members r)))

  pub answer_same : (s : List ℕ) (r : ℕ) → r < rows → answer_at f s r ≡ answer_at g s r
  unfolding answer_at
  answer_same s r h = rw (same r h)

-- ---- an index, whose entries may name any row that there is room for

module _ (f g : ℕ → Row) (room : ℕ) (same : Alike f g room) where
  pub text_same : (s : List ℕ) → key_text room f s ≡ key_text room g s
  unfolding key_text
  text_same s = fun_ext (λ r. go r (ltb r room) refl)
    where
      go : (r : ℕ) (b : Bool) → ltb r room ≡ b → cond b (text_of s (f r)) [] ≡ cond b (text_of s (g r)) []
      go r true e = ap (text_of s) (same r (ltb-true r room e))
      go r false e = refl

  pub relation_same : (s key : List ℕ) → relation_to room f s key ≡ relation_to room g s key
  unfolding relation_to
  relation_same s key = fun_ext (λ e. ap (λ (t : ℕ → List ℕ). cond (eqb e.key 0) Greater (compared (t e.key) key)) (text_same s))

  module _ (rows : ℕ) (h : rows ≤ room) where
    pub member_same : (r : ℕ) → is_member f rows r ≡ is_member g rows r
    unfolding is_member
    member_same r = fun_ext (λ e. ap (is_among e) (members_same f g rows (alike_below rows same h) r))

    pub refusal_same : (s : List ℕ) (r n : ℕ) → refusal_in room f rows s r n ≡ refusal_in room g rows s r n
    unfolding refusal_in
    refusal_same s r n = rw (struct_same f g rows (alike_below rows same h) r, members_same f g rows (alike_below rows same h) r)

    pub order_same : (s : List ℕ) (r n : ℕ) → order_in room f rows s r n ≡ order_in room g rows s r n
    unfolding order_in
    order_same s r n = rw (refusal_same s r n, text_same s, members_same f g rows (alike_below rows same h) r)

-- ---- judging

until_is : (rows : ℕ) (o : Option ℕ) → wholly rows o ≡ true → o ≡ Some rows
until_is rows (Some r) e = ap Some (eqb-true r rows e)
until_is rows None e = clash e refl

-- a walk over rows that are words of 32 bits
walk_over :
    (f g : ℕ → Row) (rows : ℕ) (s : List ℕ) (deep : ℕ) → Below 256 s → ((r : ℕ) → ((f r).a < 4294967296) × ((f r).b < 4294967296)) → Alike f g rows
    → call_or_response f rows s deep 0 ≡ Some rows → call_or_response g rows s deep 0 ≡ Some rows
walk_over f g rows s deep o w same e =
    let k = walked f rows s deep 0 rows e in
    let n : length k.cells ≡ rows = omega (arith, k.ends) in
    let m = rw (n, from_same f g 0 rows (λ i l. same i (omega arith))) at (stands_realises k.stands) in
    let d = message_make ((k.writes w).derives (plan (strings k.cells)) (plan_texts (strings k.cells))) in
    let h = message_fits g rows s d (formed_below (cells_below o m)) (kept (plan_legal (strings k.cells)) (measured d).honest) in
    h.walks 0 (realises_stands {row = g} rows m) (omega (arith, n)) ∙ ap Some (omega (arith, n))

-- a test of walks that imply one another
agreeing : (b c : Bool) → (b ≡ true → c ≡ true) → (c ≡ true → b ≡ true) → b ≡ c
agreeing true c f g = sym (f refl)
agreeing false true f g = g refl
agreeing false false f g = refl

pub walk_same :
    (f g : ℕ → Row) (rows : ℕ) (s : List ℕ) (deep : ℕ) → Below 256 s → ((r : ℕ) → ((f r).a < 4294967296) × ((f r).b < 4294967296))
    → ((r : ℕ) → ((g r).a < 4294967296) × ((g r).b < 4294967296)) → Alike f g rows
    → wholly rows (call_or_response f rows s deep 0) ≡ wholly rows (call_or_response g rows s deep 0)
walk_same f g rows s deep o w w' same =
    agreeing _ _
    (λ e. whole (walk_over f g rows s deep o w same (until_is rows _ e)))
    (λ e. whole (walk_over g f rows s deep o w' (λ i l. sym (same i l)) (until_is rows _ e)))
  where
    whole : {x : Option ℕ} → x ≡ Some rows → wholly rows x ≡ true
    whole e = rw e (eq-eqb rows rows refl)
