-- E4 holds, by the laws of what rows of kinds 6 and 7 mean and of what a message with such an item says. Assumes nothing.
use mathlib.Core.Path.{◌≡◌, refl, ap, ◌∙◌}
use mathlib.Core.Bool.{Bool, true, false}
use mathlib.Core.Logic.{◌↔◌}
use mathlib.Core.List.{List}
use Prim.Native.Nat.{ℕ, ◌+◌, ◌≤◌, ◌<◌}
use Prim.Native.Char.{code}
use native.Mathlib.Omega.{arith}
use lib.Dec.{eqb}
use lib.ListN.{length}
use Rattle.text.specs.Texts.{ascii}
use Rattle.lexical.specs.Double.{is_double}
use Rattle.lexical.specs.DateTime.{is_date_time}
use Rattle.lexical.specs.Grammar.{Double, DateTime}
use Rattle.draft.specs.declared.Refusal.TheVariants.{BadText, BadValue}
use Rattle.draft.specs.Verdict.{Verdict}
use Rattle.std.specs.Prelude.{Ok, Err}
use Rattle.draft.specs.declared.Content.{Content}
use Rattle.draft.specs.declared.Content.TheVariants as content
use Rattle.draft.specs.declared.Tag.TheVariants as tag
use Rattle.draft.specs.declared.Plain.{Plain}
use Rattle.draft.specs.declared.Plain.TheVariants as plain
use Rattle.draft.specs.Bytes.{byte_at}
use Rattle.draft.specs.Rows.{kind_of}
use Rattle.draft.specs.Content.{content_rule, ascii_then}
use Rattle.draft.specs.Codebook.{Book, clear}
use Rattle.draft.specs.Table.{room_of, row_at}
use Rattle.draft.specs.Limits.{allowed}
use Rattle.draft.specs.Read.{judged, over, leaf, text_of, tag_of, item, short_item, value, nested}
use Rattle.draft.specs.Written.{rows_of}
use Rattle.draft.specs.Grammar.{Keeps}
use Rattle.read_answer.specs.declared.Answer.{Answer}
use Rattle.read_answer.specs.Answers.{reading, Answers, Report, report_of, answer_of}
use Rattle.written.specs.Derivable.{DerivesRows}
use Rattle.demands_reading.specs.Placed.{Begun, short_text}
use Rattle.demands_reading.proofs.Reading.{text_is_double, text_is_datetime}
use Rattle.demands_reading.proofs.Answering.{answered, refused_stands}
use Rattle.demands_reading.proofs.Ordered.{double_there, datetime_there}
use Rattle.demands_reading.proofs.Values.{derived_values, value_said}
use Rattle.demands_writing.proofs.Writing.{form_derived}
use Rattle.demands_writing.proofs.Accepting.{read_derives, eleven}
use Rattle.demands.specs.E4.{E4, row_in, sent, Judged}

-- rows that mean what is derived
meant :
    {deep : ℕ} {xs : List ℕ} (T : List ℕ) (n : ℕ) (s : List ℕ) → DerivesRows deep xs s (rows_of 4096 T n) → (r : ℕ) → r < n
    → ((row_in T r).kind ≡ 6 → Double (text_of s (row_in T r))) × ((row_in T r).kind ≡ 7 → DateTime (text_of s (row_in T r)))
unfolding rows_of
meant T n s g r h = derived_values (row_at (room_of 4096 (length T)) T) s n g.derived g.meaning r h

-- what the rule of an item's content says, if its tag begins a short item of that content
module _
    (c : Content) (x : ℕ) (Good : List ℕ → Type 0) (test : List ℕ → Bool) (rule : (t : List ℕ) → content_rule c t ≡ ascii_then (ascii t) (test t))
    (good : (t : List ℕ) → Keeps c t ↔ Good t)
    (short : (s : List ℕ) (room deep : ℕ) → item s room (tag_of x) (nested s room deep) 13 1 clear ≡ short_item s room c 13 1 clear)
    (f : eqb x (code "F") ≡ false) (z : Plain)
    (there : (s : List ℕ) (room deep at r : ℕ) (book : Book) → Begun s at (tag.Plain z) → r < room → at + 2 + byte_at s (at + 1) ≤ length s
    → value s room deep at r book
    ≡ judged (content_rule c (short_text s at)) at (leaf (kind_of c) (at + 2) (byte_at s (at + 1)) r (at + 2 + byte_at s (at + 1)) book))
  where
    -- the report of a message whose text has this verdict
    abbrev told : List ℕ → Verdict → Report
    told t v = report_of (answer_of (over 2 1 0 (judged v 13 (leaf (kind_of c) 15 (length t) 1 (15 + length t) clear))))

    by :
        (t : List ℕ) (v : Verdict) → content_rule c t ≡ v → (limit : ℕ) (more : List ℕ) (words : ℕ) (T : List ℕ) (a : Answer) → allowed limit ≡ true
        → length (sent x t more) ≤ 65536 → 2 ≤ room_of 4096 words → Answers (reading limit (sent x t more) words) words T a → report_of a ≡ told t v
    by t v e limit more words T a l h r d =
        ap report_of (answered limit (sent x t more) words l h d
        ∙ ap answer_of (value_said c x t more (room_of 4096 words) limit (λ s. short s (room_of 4096 words) limit) f r
        ∙ ap (λ (w : Verdict). over 2 1 0 (judged w 13 (leaf (kind_of c) 15 (length t) 1 (15 + length t) clear))) e))

    bad : (t : List ℕ) → ascii t ≡ true → (Good t → ⊥) → content_rule c t ≡ Err BadValue
    bad t a g = rule t ∙ rw a (go (test t) refl)
      where
        go : (b : Bool) → test t ≡ b → ascii_then true b ≡ Err BadValue
        go false e = refl
        go true e = absurd (g ((good t).0 (rule t ∙ rw (a, e))))

    judges : Judged x z Good
    judges = record {
      five = λ t a. by t (Err BadText) (rule t ∙ rw a);
      seventeen = λ t a g. by t (Err BadValue) (bad t a g);
      taken = λ t g. by t (Ok tt) ((good t).1 g);
      five_anywhere = λ s room deep at r book b k j a.
          record { why = BadText; is = there s room deep at r book b k j ∙ rw (rule (short_text s at), a); numbered = refl };
      seventeen_anywhere = λ s room deep at r book b k j a.
          record { why = BadValue; is = there s room deep at r book b k j ∙ rw (bad (short_text s at) a.0 a.1); numbered = refl };
    }

double_rule : (t : List ℕ) → content_rule content.Double t ≡ ascii_then (ascii t) (is_double t)
unfolding content_rule
double_rule t = refl

datetime_rule : (t : List ℕ) → content_rule content.DateTime t ≡ ascii_then (ascii t) (is_date_time t)
unfolding content_rule
datetime_rule t = refl

double_short : (s : List ℕ) (room deep : ℕ) → item s room (tag_of (code "D")) (nested s room deep) 13 1 clear ≡ short_item s room content.Double 13 1 clear
unfolding tag_of
double_short s room deep = refl

datetime_short : (s : List ℕ) (room deep : ℕ) → item s room (tag_of (code "8")) (nested s room deep) 13 1 clear ≡ short_item s room content.DateTime 13 1 clear
unfolding tag_of
datetime_short s room deep = refl

pub holds : E4
holds = record {
  double = text_is_double;
  read_double = λ limit s words T n used d r h e. (meant T n s (read_derives limit s words d) r h).0 e;
  datetime = text_is_datetime;
  read_datetime = λ limit s words T n used d r h e. (meant T n s (read_derives limit s words d) r h).1 e;
  double_judged = judges content.Double (code "D") Double is_double double_rule text_is_double double_short refl plain.Double double_there;
  datetime_judged = judges content.DateTime (code "8") DateTime is_date_time datetime_rule text_is_datetime datetime_short refl plain.DateTime datetime_there;
  seventeen_only = λ limit s words d e. rw e at (refused_stands limit s words d (λ f. omega (arith, e, f)) (λ f. omega (arith, e, f)));
  double_eleven = λ limit T rows s out₀ out a l h w d r k e f.
      eleven limit T rows s out₀ out d l h (λ v. f ((meant T rows s (form_derived limit T rows s v w) r k).0 e));
  datetime_eleven = λ limit T rows s out₀ out a l h w d r k e f.
      eleven limit T rows s out₀ out d l h (λ v. f ((meant T rows s (form_derived limit T rows s v w) r k).1 e));
}
