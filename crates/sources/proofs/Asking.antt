-- What a Struct has under a key is what E5's lookup answers there, and what a choice comes from. Assumes nothing.
use mathlib.Core.Path.{◌≡◌, refl, sym, ap}
use mathlib.Core.Bool.{Bool, true, false, cond}
use mathlib.Core.List.{List}
use Prim.Native.Nat.{ℕ}
use native.Mathlib.Omega.{arith}
use lib.Dec.{eqb}
use borrow.Author.Tests.{eqb-true}
use Rattle.std.specs.Prelude.{Option, Some, None, Ok, Err}
use Rattle.decimal.specs.Decimal as D
use Rattle.decimal.specs.Decimal.{decimal_of}
use Rattle.draft.specs.declared.Row.{Row}
use Rattle.draft.specs.declared.Content.TheVariants as content
use Rattle.draft.specs.declared.Item.TheVariants as item
use Rattle.draft.specs.Rows.{item_of}
use Rattle.draft.specs.Read as read
use Rattle.member.specs.declared.Member.{Member}
use Rattle.member.specs.Members.{members, find}
use Rattle.lookup_answer.specs.declared.Refusal.TheVariants as why
use Rattle.lookup_answer.specs.Answers.{Answer, decimal_answer, item_answer, answer_at, found_answer, look}
use Rattle.lookup_answer.specs.declared.Value.TheVariants as answer
use Rattle.choice.specs.declared.Held.{Held}
use Rattle.choice.specs.declared.Held.TheVariants.{Absent, NoText, Text}
use Rattle.choice.specs.declared.Refusal.{Refusal}
use Rattle.choice.specs.declared.Refusal.TheVariants.{NotWritable, NoMember}
use Rattle.choice.specs.declared.Source.TheVariants.{Card, Defaults}
use Rattle.choice.specs.declared.Source as S
use Rattle.choice.specs.declared.Chosen.{Chosen}
use Rattle.choice.specs.Choosing.{Choice, text_of, text_in, preferred}
use Rattle.defaults.specs.Defaults.{numbered_text, found_text, held_in, unless}

-- ---- an answer of another sort is no text

pub decimal_other : {o n : ℕ} (d : D.Decimal) → decimal_answer d ≡ Ok (answer.Text o n) → ⊥
decimal_other (Ok x) e = let z : ◌≡◌ {A = ℕ} 0 1 = cc in omega arith
decimal_other (Err why) e = let z : ◌≡◌ {A = ℕ} 0 1 = cc in omega arith

-- by the tests of `item_of`, where the one for a String fails
other_kind :
    {o n : ℕ} (s : List ℕ) (x : Row) (r : ℕ) (call response fault integer boolean double date binary array struct other : Bool)
    → item_answer
    (cond call item.Call
    (cond response item.Response
    (cond fault item.Fault
    (cond integer item.Integer
    (cond boolean item.Boolean
    (cond double (item.Content content.Double)
    (cond date (item.Content content.DateTime)
    (cond binary (item.Content content.Binary)
    (cond array item.Array
    (cond struct item.Struct
    (cond false (item.Content content.Text)
    (cond other item.Other item.Unknown))))))))))))
    s x r
    ≡ Ok (answer.Text o n)
    → ⊥
other_kind s x r true _ _ _ _ _ _ _ _ _ _ e = let z : ◌≡◌ {A = ℕ} 0 1 = cc in omega arith
other_kind s x r false true _ _ _ _ _ _ _ _ _ e = let z : ◌≡◌ {A = ℕ} 0 1 = cc in omega arith
other_kind s x r false false true _ _ _ _ _ _ _ _ e = let z : ◌≡◌ {A = ℕ} 0 1 = cc in omega arith
other_kind s x r false false false true _ _ _ _ _ _ _ e = let z : ◌≡◌ {A = ℕ} 0 1 = cc in omega arith
other_kind s x r false false false false true _ _ _ _ _ _ e = let z : ◌≡◌ {A = ℕ} 0 1 = cc in omega arith
other_kind s x r false false false false false true _ _ _ _ _ e = decimal_other (decimal_of (read.text_of s x)) e
other_kind s x r false false false false false false true _ _ _ _ e = let z : ◌≡◌ {A = ℕ} 0 1 = cc in omega arith
other_kind s x r false false false false false false false true _ _ _ e = let z : ◌≡◌ {A = ℕ} 0 1 = cc in omega arith
other_kind s x r false false false false false false false false true _ _ e = let z : ◌≡◌ {A = ℕ} 0 1 = cc in omega arith
other_kind s x r false false false false false false false false false true _ e = let z : ◌≡◌ {A = ℕ} 0 1 = cc in omega arith
other_kind s x r false false false false false false false false false false true e = let z : ◌≡◌ {A = ℕ} 0 1 = cc in omega arith
other_kind s x r false false false false false false false false false false false e = let z : ◌≡◌ {A = ℕ} 0 1 = cc in omega arith

-- ---- what a Struct has under a key, what is found, and what is answered

pub data Agrees : Held → Option Member → Answer → Type 0 where
  absent : Agrees Absent None (Err why.NoMember)
  a_text : {m : Member} {o n : ℕ} → Agrees (Text o n) (Some m) (Ok (answer.Text o n))
  no_text : {m : Member} {a : Answer} → ((o n : ℕ) → a ≡ Ok (answer.Text o n) → ⊥) → Agrees NoText (Some m) a

module _ (row : ℕ → Row) (s : List ℕ) where
  row_agrees : (r : ℕ) {m : Member} → Agrees (numbered_text row r) (Some m) (answer_at row s r)
  unfolding numbered_text answer_at item_of
  row_agrees r {m} = go (eqb (row r).kind 11) refl
    where
      go : (b : Bool) → eqb (row r).kind 11 ≡ b → Agrees (numbered_text row r) (Some m) (answer_at row s r)
      go true h = rw (eqb-true (row r).kind 11 h) a_text
      go false h =
          rw h
          (no_text (λ o n e.
          other_kind s (row r) r (eqb (row r).kind 1) (eqb (row r).kind 2) (eqb (row r).kind 3) (eqb (row r).kind 4) (eqb (row r).kind 5)
          (eqb (row r).kind 6) (eqb (row r).kind 7) (eqb (row r).kind 8) (eqb (row r).kind 9) (eqb (row r).kind 10) (eqb (row r).kind 12) e))

  found_agrees : (f : Option Member) → Agrees (found_text row f) f (found_answer row s f)
  found_agrees None = absent
  found_agrees (Some m) = row_agrees m.value

  pub agrees : (rows r : ℕ) (key : List ℕ) → Agrees (held_in row rows s r key) (find row s key (members row rows r)) (look row rows s r key)
  unfolding held_in look
  agrees rows r key = found_agrees (find row s key (members row rows r))

-- ---- what a choice comes from

-- two texts that are the same
record Same (a b : S.Source) (p q o n : ℕ) : Type 0 where
  whose : a ≡ b
  where_it_lies : p ≡ o
  long : q ≡ n

source_in : Choice → S.Source → S.Source
source_in (Ok text) d = text.source
source_in (Err why) d = d

offset_in : Choice → ℕ
offset_in (Ok text) = text.offset
offset_in (Err why) = 0

length_in : Choice → ℕ
length_in (Ok text) = text.length
length_in (Err why) = 0

same_text : {a b : S.Source} {p q o n : ℕ} → text_of a p q ≡ text_of b o n → Same a b p q o n
unfolding source_in offset_in length_in
same_text {a} e = record { whose = ap (λ (c : Choice). source_in c a) e; where_it_lies = ap offset_in e; long = ap length_in e }

two_sources : {X : Type 0} → Defaults ≡ Card → X
two_sources e = absurd (cc)

card_by_defaults : {o n : ℕ} (h : Held) → text_in Defaults h ≡ text_of Card o n → ⊥
card_by_defaults Absent e = cc
card_by_defaults NoText e = cc
card_by_defaults (Text p q) e = two_sources (same_text e).whose

pub card_of : {o n : ℕ} {h : Held} (h' : Held) {f : Option Member} {a : Answer} → Agrees h f a → a ≡ Ok (answer.Text o n) → preferred h h' ≡ text_of Card o n
card_of h' absent e = let z : ◌≡◌ {A = ℕ} 0 1 = cc in absurd (omega arith)
card_of {o} {n} h' (a_text {o = p} {n = q}) e = let i : p ≡ o = cc in let j : q ≡ n = cc in rw (i, j)
card_of {o} {n} h' (no_text other) e = absurd (other o n e)

pub card_by : {o n : ℕ} {h : Held} (h' : Held) {f : Option Member} {a : Answer} → Agrees h f a → preferred h h' ≡ text_of Card o n → a ≡ Ok (answer.Text o n)
card_by h' absent e = absurd (card_by_defaults h' e)
card_by h' a_text e = let i = same_text e in rw (i.where_it_lies, i.long)
card_by h' (no_text other) e = let z : ◌≡◌ {A = ℕ} 0 1 = cc in absurd (omega arith)

text_of_defaults : {o n : ℕ} {h : Held} {f : Option Member} {a : Answer} → Agrees h f a → a ≡ Ok (answer.Text o n) → text_in Defaults h ≡ text_of Defaults o n
text_of_defaults absent e = let z : ◌≡◌ {A = ℕ} 0 1 = cc in absurd (omega arith)
text_of_defaults {o} {n} (a_text {o = p} {n = q}) e = let i : p ≡ o = cc in let j : q ≡ n = cc in rw (i, j)
text_of_defaults {o} {n} (no_text other) e = absurd (other o n e)

text_by_defaults : {o n : ℕ} {h : Held} {f : Option Member} {a : Answer} → Agrees h f a → text_in Defaults h ≡ text_of Defaults o n → a ≡ Ok (answer.Text o n)
text_by_defaults absent e = let z : ◌≡◌ {A = ℕ} 0 1 = cc in absurd (omega arith)
text_by_defaults a_text e = let i = same_text e in rw (i.where_it_lies, i.long)
text_by_defaults (no_text other) e = let z : ◌≡◌ {A = ℕ} 0 1 = cc in absurd (omega arith)

pub defaults_of :
    {o n : ℕ} {h h' : Held} {f f' : Option Member} {a a' : Answer} → Agrees h f a → Agrees h' f' a'
    → f ≡ None → a' ≡ Ok (answer.Text o n) → preferred h h' ≡ text_of Defaults o n
defaults_of absent g e i = text_of_defaults g i
defaults_of a_text g e i = let z : ◌≡◌ {A = ℕ} 0 1 = cc in absurd (omega arith)
defaults_of (no_text other) g e i = let z : ◌≡◌ {A = ℕ} 0 1 = cc in absurd (omega arith)

pub defaults_by :
    {o n : ℕ} {h h' : Held} {f f' : Option Member} {a a' : Answer} → Agrees h f a → Agrees h' f' a'
    → preferred h h' ≡ text_of Defaults o n → (f ≡ None) × (a' ≡ Ok (answer.Text o n))
defaults_by absent g e = (refl, text_by_defaults g e)
defaults_by a_text g e = two_sources (sym (same_text e).whose)
defaults_by (no_text other) g e = let z : ◌≡◌ {A = ℕ} 0 1 = cc in absurd (omega arith)

-- where the card's Struct has the key, the defaults have no part in it
pub unchanged : (x y : Held) {h : Held} {f : Option Member} {a : Answer} → Agrees h f a → (f ≡ None → ⊥) → preferred h x ≡ preferred h y
unchanged x y absent n = absurd (n refl)
unchanged x y a_text n = refl
unchanged x y (no_text other) n = refl

-- ---- past the refusals that come before

-- a choice that is a text
pub data Given : Choice → Type 0 where
  a_choice : {text : Chosen} → Given (Ok text)

none_given : {x : Choice} {why : Refusal} → Given x → Err why ≡ x → ⊥
none_given a_choice e = cc

pub past_refusals :
    (a b c d : Bool) (x : Choice) {y : Choice} → Given y
    → unless a NotWritable (unless b NotWritable (unless c NoMember (unless d NoMember x))) ≡ y
    → (a ≡ true) × (b ≡ true) × (c ≡ true) × (d ≡ true) × (x ≡ y)
past_refusals true true true true x i e = (refl, refl, refl, refl, e)
past_refusals true true true false x i e = absurd (none_given i e)
past_refusals true true false d x i e = absurd (none_given i e)
past_refusals true false c d x i e = absurd (none_given i e)
past_refusals false b c d x i e = absurd (none_given i e)
