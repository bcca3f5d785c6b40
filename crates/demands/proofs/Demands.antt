-- The three demands hold: a value of each record, by the laws of demands_reading and demands_writing. Assumes nothing.
use mathlib.Core.Path.{refl, sym, ap, ◌∙◌}
use Prim.Native.Nat.{ℕ}
use native.Mathlib.Omega.{arith}
use lib.ListN.{length}
use Rattle.draft.specs.Table.{room_of}
use Rattle.read_answer.specs.declared.Answer.TheVariants as read
use Rattle.read_answer.specs.Answers as reader-says
use Rattle.read_answer.proofs.Limited.{reading_got, got_within}
use Rattle.exact.proofs.Realising.{counts}
use Rattle.demands_reading.proofs.Settled as reader
use Rattle.demands_reading.proofs.Reading as reading-laws
use Rattle.demands_reading.proofs.Answering as refusals
use Rattle.demands_writing.proofs.Accepting as writer
use Rattle.demands_writing.proofs.Writer as output
use Rattle.demands.specs.Demands.{Demand1, Demand2, Demand3, Demands}

pub first : Demand1
first = record {
  reader_answers = λ limit s words. (_, _, record { says = refl; leaves = refl });
  writer_answers = λ limit T rows s out₀. (_, _, record { says = refl; leaves = refl });
  reader_number = refusals.refused_number;
  writer_number = writer.refused_number;
  table_settled = reader.settled;
  table_whole = reader.whole;
  output_settled = writer.settled;
  output_whole = writer.whole;
  table_zeros = reader.refused_zeros;
  output_zeros = writer.refused_zeros;
}

pub second : Demand2
second = record {
  accepted_exactly = λ limit s words n used d. (
    λ e.
        let g = reader.accepted_read limit s words (rw e at d) in
        let h = reading-laws.sound 65536 s (room_of 4096 words) limit (got_within limit s words g.is) in
        record {
          stated = reading_got limit s words g.is;
          bytes = h.bytes;
          cells = h.cells;
          derived = h.begins;
          rows = sym (counts h.meaning) ∙ g.count;
          room = omega (arith, h.fits, g.count);
        },
    λ h.
        let a = (reading-laws.exactly limit s words used h.cells).1 (h.stated, h.bytes, omega (arith, h.rows, h.room), h.derived) in
        d.says ∙ ap reader-says.answer_of a.is ∙ ap (λ (k : ℕ). read.Accepted k used) (counts a.meaning ∙ h.rows),
  );
  rows_mean = λ limit s words d b.
      let g = reader.accepted_read limit s words d in
      let h = reading-laws.sound 65536 s (room_of 4096 words) limit (got_within limit s words g.is) in
      rw (reader.accepted_rows_of limit s words d, ← (reading-laws.one_meaning h.begins b).1) h.meaning;
  written_exactly = λ limit T rows s out₀ out n d.
      let h = writer.accepted_exactly limit T rows s (length out₀) n in (
        λ e.
            let g = h.0 (sym d.says ∙ e) in
            record { stated = g.stated; text = g.text; table = g.shape; long = g.long; most = g.most; room = g.fits },
        λ g.
            d.says
            ∙ h.1 (record { stated = g.stated; text = g.text; shape = g.table; long = g.long; most = g.most; fits = g.room }),
      );
  read_back = λ limit T rows s out₀ out d w later f i words k c. output.read_back_alone limit T rows s out₀ out d w later f i words k c;
}

pub third : Demand3
third = record {
  the_form = λ limit T rows s out₀ out d. (
    output.first_bytes limit T rows s out₀ out d,
    ((writer.accepted_exactly limit T rows s (length out₀) _).0 (sym d.says)).long,
  );
  no_shorter = λ limit T rows s out₀ out d few t room deep e z.
      let h = output.no_shorter limit T rows s out₀ out d few t room deep e z in
      omega (arith, h.0, h.1);
  no_shorter_sent = λ limit T rows s out₀ out d few t b m. output.no_shorter_sent limit T rows s out₀ out d few t b m;
}

pub holds : Demands
holds = record { first = first; second = second; third = third }
