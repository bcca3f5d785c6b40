-- E14 holds.
use mathlib.Core.Path.{◌≡◌, refl, sym, ap, ◌∙◌}
use mathlib.Core.Bool.{Bool, true, false}
use mathlib.Core.Logic.{◌↔◌}
use mathlib.Core.List.{List}
use Prim.Native.Nat.{ℕ, ◌≤◌, ◌<◌}
use lib.ListN.{length, replicate}
use borrow.Author.Tests.{le-leb, lt-leb}
use Rattle.std.proofs.Common.{Err}
use Rattle.text.proofs.Comparing.{clash}
use Rattle.draft.specs.declared.Row.{Row}
use Rattle.draft.specs.declared.Refusal.TheVariants.{NoLimit}
use Rattle.draft.specs.Limits.{allowed}
use Rattle.draft.specs.Table.{room_of, place, put_rows}
use Rattle.draft.specs.Codebook.{clear}
use Rattle.draft.specs.Read.{got}
use Rattle.draft.specs.Writable.{writable_to}
use Rattle.write_answer.specs.Answers.{Answer as BinmodeAnswer}
use Rattle.write_answer.specs.Answers as binmode
use Rattle.plan_writer.specs.Answers.{Answer as PlanAnswer}
use Rattle.plan_writer.specs.Answers as planned
use Rattle.layouts.specs.Layouts.{by_rows, put_rows_by, SameRows}
use Rattle.layouts.proofs.Storing.{rows_lay, columns_lay, read_same}
use Rattle.demands_calls.proofs.Tables.{table_is}
use Rattle.glyph.specs.declared.Edition.{Edition}
use Rattle.glyph.specs.declared.Refusal.TheVariants.{TooLong}
use Rattle.glyph.specs.Read.{message}
use Rattle.glyph.specs.Answers.{Answer, refused_as, reading, Answers}
use Rattle.glyph_form.specs.Writable.{writable}
use Rattle.glyph_form.specs.Answers.{Answer as WriterAnswer, Did}
use Rattle.glyph_form.proofs.Cases as writing
use Rattle.glyph_told.specs.Tables.{Words}
use Rattle.glyph_demands.specs.Answered.{has, rows_in}
use Rattle.glyph_demands.proofs.Cases as cases
use Rattle.glyph_demands.proofs.Ends as ends
use Rattle.glyph_demands.proofs.Letters as letters
use Rattle.glyph_demands.proofs.Reading as reading-laws
use Rattle.glyph_demands.proofs.Settled as reader
use Rattle.glyph_written.specs.RowKinds.{binmode_kinds}
use Rattle.glyph_written.proofs.RowKinds as kinds
use Rattle.glyph_writing_demands.specs.Accepting as writer-refusals
use Rattle.glyph_writing_demands.specs.Accepting.{Says}
use Rattle.glyph_writing_demands.proofs.Tables as tables
use Rattle.glyph_writing_demands.proofs.Writer as writer
use Rattle.glyph_writing_demands.proofs.Output as output
use Rattle.glyph_shares.proofs.Stations as stations
use Rattle.demands.specs.E14.{kind_at, Reads, Writes, E14}

reads : (e : Edition) (limit : ℕ) (s : List ℕ) (words : ℕ) {T : List ℕ} {a : Answer} → Answers (reading e limit s words) words T a → Reads e limit s words T a
reads e limit s words {T} {a} d =
    record {
      taken = λ ok g fits. reader.taken e limit s words ok g fits d;
      means = λ i. reader.means e limit s words (rw i at d);
      all_end = λ i. ends.all_end e limit s words (rw i at d);
      other_letters = λ {x} {rest} i ok b h. letters.other_letters e limit x rest words (rw i at ok) b h (rw i at d);
    }

writes : (e : Edition) (limit : ℕ) (T : List ℕ) (rows : ℕ) (s out₀ out : List ℕ) {a : WriterAnswer} → Did e limit T rows s out₀ out a → Writes e limit T rows s out₀ out a
writes e limit T rows s out₀ out d =
    let g = writer.accepted_exactly e limit T rows s (length out₀) in
    record {
      lacks = λ w ok short r k h. writer.lacked e limit T rows s out₀ out w ok short r k h d;
      writable_exactly = tables.writable_exactly e limit T rows s;
      accepted_exactly = λ n. (λ i. (g n).0 (sym d.says ∙ i), λ x. d.says ∙ (g n).1 x);
      the_form = λ i. output.first_bytes e limit T rows s out₀ out (rw i at d);
      read_back = λ i. output.read_back e limit T rows s out₀ out (rw i at d);
    }

-- a table with a stated row of a kind that Binmode lacks is not writable for it
unwritable : (limit : ℕ) (T : List ℕ) (rows : ℕ) (s : List ℕ) → Words T → (r : ℕ) → r < rows → has binmode_kinds (kind_at T r) ≡ false → writable_to limit T rows s ≡ false
unwritable limit T rows s w r k h = go (writable_to limit T rows s) refl
  where
    go : (b : Bool) → writable_to limit T rows s ≡ b → writable_to limit T rows s ≡ false
    go true i = absurd (clash (kinds.binmode_has limit T rows s w i r k) h)
    go false i = i

binmode_lacks :
    (limit : ℕ) (T : List ℕ) (rows : ℕ) (s out₀ out : List ℕ) {a : BinmodeAnswer} → Words T → allowed limit ≡ true → length s ≤ 65536 → (r : ℕ) → r < rows
    → has binmode_kinds (kind_at T r) ≡ false → binmode.Did limit T rows s out₀ out a → binmode.report_of a ≡ record { number = 11; length = 0; place = 0 }
unfolding binmode.answer_of
binmode_lacks limit T rows s out₀ out w ok short r k h d = ap binmode.report_of d.says ∙ rw (ok, le-leb (length s) 65536 short, unwritable limit T rows s w r k h)

plan_lacks :
    (limit : ℕ) (T : List ℕ) (rows : ℕ) (s plan out₀ out : List ℕ) {a : PlanAnswer} → Words T → allowed limit ≡ true → length s ≤ 65536 → (r : ℕ) → r < rows
    → has binmode_kinds (kind_at T r) ≡ false → planned.Did limit T rows s plan out₀ out a → planned.report_of a ≡ record { number = 11; length = 0; place = 0 }
unfolding planned.answer_of
plan_lacks limit T rows s plan out₀ out w ok short r k h d = ap planned.report_of d.says ∙ rw (ok, le-leb (length s) 65536 short, unwritable limit T rows s w r k h)

not_both : (e : Edition) (limit deep : ℕ) (T : List ℕ) (rows : ℕ) (s : List ℕ) → Words T → writable e deep T rows s ≡ true → writable_to limit T rows s ≡ false
not_both e limit deep T rows s w h = go (writable_to limit T rows s) refl
  where
    go : (b : Bool) → writable_to limit T rows s ≡ b → writable_to limit T rows s ≡ false
    go true i = absurd (clash h (kinds.not_both e limit deep T rows s w i))
    go false i = i

-- the table that was one row after the other: as for a reading of Binmode with these rows
laid :
    (words : ℕ) (rows : List Row) → length rows ≤ room_of 4096 words
    → SameRows by_rows place (put_rows_by by_rows (room_of 4096 words) (replicate words 0) 0 rows) (put_rows (room_of 4096 words) (replicate words 0) 0 rows)
laid words rows fits = rw (← table_is words (got rows 0 clear)) (read_same rows_lay columns_lay words (got rows 0 clear) fits)

as_before :
    (e : Edition) (limit : ℕ) (s : List ℕ) (words : ℕ) {T : List ℕ} {a : Answer} → Answers (reading e limit s words) words T a
    → SameRows by_rows place (put_rows_by by_rows (room_of 4096 words) (replicate words 0) 0 (rows_in (reading e limit s words))) T
as_before e limit s words d = rw (reader.rows_stored e limit s words d) (laid words (rows_in (reading e limit s words)) (reader.fits e limit s words))

too_long :
    (e : Edition) (limit : ℕ) (s : List ℕ) (words : ℕ) {T : List ℕ} {a : Answer} → Answers (reading e limit s words) words T a → allowed limit ≡ true
    → 65536 < length s → a ≡ refused_as TooLong 0
unfolding reading message allowed
too_long e limit s words d h l = d.says ∙ rw (h, lt-leb (length s) 65536 l)

write_refused :
    (e : Edition) (limit : ℕ) (T : List ℕ) (rows : ℕ) (s out₀ out : List ℕ) {a : WriterAnswer} → Did e limit T rows s out₀ out a → (n : ℕ)
    → (Says n a ↔ writer-refusals.RefusedFor e limit T rows s (length out₀) n) × (Says n a → out ≡ replicate (length out₀) 0)
write_refused e limit T rows s out₀ out {a} d n =
    let g = writer.refused_exactly e limit T rows s (length out₀) {n = n} in
    ((λ x. g.0 (rw d.says at x), λ x. rw d.says (g.1 x)), λ x. d.leaves ∙ rw x.is)

pub holds : E14
holds =
    record {
      numbers = (refl, refl, refl, refl, refl, refl, refl, refl, refl);
      reads = reads;
      cases_read = cases.cases_read;
      writes = writes;
      binmode_lacks = binmode_lacks;
      plan_lacks = plan_lacks;
      not_both = not_both;
      cases_written = writing.cases_written;
      meaning = λ e limit limit' T T' rows rows' s s' out₀ out₁ out out' {n} {n'} w w' d d'.
          record {
            as_in_01 =
                tables.mean_same e limit limit' T rows s T' rows' s' w w' (output.was_writable e limit T rows s out₀ out d)
                (output.was_writable e limit' T' rows' s' out₁ out' d');
            one_form = output.same_bytes e limit limit' T T' rows rows' s s' out₀ out₁ out out' w w' d d';
          };
      one_meaning = reading-laws.one_meaning;
      shared = λ {e} {limit} {s} {station} {split} {T} d.
          record {
            not_split_lem = stations.told_exactly d;
            nothing_changed = stations.nothing_changed d;
            own = λ ok. stations.own_read station split T ok e limit s d;
            others_stay = stations.others_stay d;
            beyond_stays = stations.beyond_stays d;
            columns = λ ok. stations.share_columns station split T ok e limit s d;
            unlimited = λ ok h. stations.read_unlimited station split T ok e h s d;
          };
      shared_write = λ {e} {limit} {T} {station} {split} {rows} {s} {out} d.
          record {
            not_split_lem = stations.write_told_exactly d;
            nothing_changed = stations.no_byte_changed d;
            own = λ ok. stations.own_write station split T ok e limit rows s out d;
            unlimited = λ ok h.
                let z = stations.write_unlimited station split T ok e h rows s out d in
                (Err NoLimit, z.0, record { refusal = NoLimit; is = refl; number_is = refl }, z.1);
          };
      reported = (refl, refl);
      read_alike = stations.read_alike;
      write_alike = stations.write_alike;
      stays = λ e s higher most larger. reader.stays e s higher most larger;
      share_stays = stations.share_stays;
      from_the_reader = λ e limit s words d later h. writer.from_the_reader e limit s words d later h;
      columns = λ e limit s words d. (reader.columns e limit s words d, as_before e limit s words d);
      stated_columns = λ e limit T T' rows s out₀ out₁ out out' w w' hold l d d'. output.stated_columns e limit T T' rows s out₀ out₁ out out' w w' hold l d d';
      refused_true = λ e limit s words d. (reader.refused_true e limit s words d, reader.refused_zeros e limit s words d);
      too_long = too_long;
      write_refused = write_refused;
      unlimited = λ e limit s words d.
          ((λ i. reader.unlimited_only e limit s words (rw i at d), λ h. (reader.unlimited e limit s words h d).0), λ h. (reader.unlimited e limit s words h d).1);
      write_unlimited = λ e limit T rows s out₀ out d h. writer.unlimited e limit T rows s out₀ out h d;
      settled = reader.settled;
      output_settled = λ e limit T rows s out₀ out₁ out out' l d d'. writer.settled e limit T rows s out₀ out out₁ out' l d d';
    }
