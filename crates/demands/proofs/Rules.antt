-- Document 01's sentences hold, by the laws of demands_reading and demands_writing. Assumes nothing.
use mathlib.Core.Path.{refl, ap, ◌∙◌}
use mathlib.Core.List.{[]}
use native.Mathlib.Omega.{arith}
use Rattle.draft.specs.Grammar.{regular}
use Rattle.read_answer.specs.Answers.{report_of, answer_of}
use Rattle.demands_reading.proofs.Settled as settled
use Rattle.demands_reading.proofs.Reading as reading-laws
use Rattle.demands_reading.proofs.Answering as answering
use Rattle.demands_reading.proofs.Ordered.{ordered}
use Rattle.demands_reading.proofs.Cases.{cases_read}
use Rattle.demands_writing.proofs.Accepting as accepting
use Rattle.demands_writing.proofs.Positions.{position_at, earlier_smaller}
use Rattle.demands_writing.proofs.Writing as writing-laws
use Rattle.demands_writing.proofs.Writer as output
use Rattle.demands.specs.Rules.{Reading, Refusals, Writing, Rules}

of_reading : Reading
of_reading = record {
  trailing_ignored = λ limit s more words h d d'. answering.follows limit s more words h (λ e. omega (arith, e)) d d';
  text_utf8 = reading-laws.text_is_utf8;
  other_name = reading-laws.other_name;
  mean_same = reading-laws.mean_same;
  one_meaning = reading-laws.one_meaning;
  put_aside = λ s used cells. (
    λ h. (reading-laws.put_aside_meaning s used cells).0 (h.0, h.1, record { rows = h.2; book = h.3; is = h.4; meaning = h.5 }),
    λ h. let g = (reading-laws.put_aside_meaning s used cells).1 h in (g.0, g.1, g.2.rows, g.2.book, g.2.is, g.2.meaning),
  );
  unused_zero = settled.unused_zero;
  stated_rows = λ limit T T' rows s out₀ out₁ out out' w w' o hold l d d' h.
      output.stated_words limit T T' rows s out₀ out₁ out out' w w' o hold l d d' h;
  nesting_most = reading-laws.nesting_bound;
}

of_refusals : Refusals
of_refusals = record {
  underived = answering.refused_underived;
  eight = answering.refused_deeper;
  eight_if = λ limit s words l h b d. answering.eight limit s words l h b d;
  nine = answering.refused_fuller;
  nine_if = λ limit s words l h b d. answering.nine limit s words l h b d;
  ten = answering.refused_long;
  reader_report = (λ n used. refl, λ m p. refl);
  writer_report = (λ n. refl, λ m. refl);
  output_behind = λ limit T rows s out₀ out d. (accepting.written_whole limit T rows s out₀ out d).0;
  order_ten = λ limit s words l d h. ap report_of (d.says ∙ ap answer_of (answering.first_ten limit s words l h));
  order_two = λ limit s words l d h e. ap report_of (d.says ∙ ap answer_of (answering.first_two limit s words l h e));
  order_one = λ limit s words l d h e k. ap report_of (d.says ∙ ap answer_of (answering.first_one limit s words l h e k));
  first_decides = answering.follows;
  placed = answering.refused_stands;
  within_item = ordered;
  writer_ten = accepting.says_ten;
  writer_eleven = accepting.says_eleven;
  writer_twelve = accepting.says_twelve;
  writer_thirteen = accepting.says_thirteen;
  writable_exactly = λ limit T rows s w o. writing-laws.writable_to_lem limit rows w o;
}

of_writing : Writing
of_writing = record {
  repeated_twice = writing-laws.repeated_texts;
  positions = writing-laws.positions;
  kept_first = λ ts. refl;
  from_zero = λ ts. position_at 256 [] ts;
  in_order = λ ts before t u after e. rw (← e) at (earlier_smaller t u after 256 [] before);
  forms = λ before t after. record {
    first_time = λ e f. writing-laws.sent_in_lem before t after (regular []) ∙ rw (e, f);
    from_then_on = λ e f. writing-laws.sent_in_lem before t after (regular []) ∙ rw (e, f);
    every_other = λ e. writing-laws.sent_in_lem before t after (regular []) ∙ rw e;
  };
  nothing_follows = λ limit T rows s out₀ out w d.
      rw (output.first_bytes limit T rows s out₀ out d) (accepting.written_derives limit T rows s out₀ out d w);
  same_bytes = output.same_bytes;
  from_the_reader = accepting.from_the_reader;
  cases_read = cases_read;
}

pub holds : Rules
holds = record { reading = of_reading; refusals = of_refusals; writing = of_writing }
