-- Each report is that of a single lookup.
use Rattle.std.proofs.Common.{ℕ, ◌≡◌, ◌-◌, ◌∙◌, length, ap, arith}
use Rattle.lookup_answer.specs.Reports.{report_of}
use Rattle.index.proofs.Storing.{stored_first, stored_next, stored_done}
use Rattle.index_search.specs.Through.{through, key_at, answered}
use Rattle.index_search.proofs.Looking.{question_rightly, question_answered, reports_all, judged_number}
use Rattle.binmode.proofs.member_index.binmode_index_find.Goals as goal

pub loop-i-init : goal.loop-i-init
loop-i-init c = record {
  within = omega arith;
  comes = stored_first (λ (k : ℕ). report_of (through c.args.table.now c.args.rows c.args.text.now c.args.row c.args.list.now (key_at c.args.keys.now c.args.ends.now k)))
      c.args.reports.now;
}

pub look_through-requires : goal.look_through-requires
look_through-requires c =
    rw (c.question_at-question.ensures, c.judge-judged.ensures) (question_rightly c.args.table.now c.args.rows c.args.text.now c.args.row c.args.ends.now c.loop-i.i)

pub loop-i-preserved : goal.loop-i-preserved
loop-i-preserved c = record {
  within = omega arith;
  comes = stored_next (λ (k : ℕ). report_of (through c.args.table.now c.args.rows c.args.text.now c.args.row c.args.list.now (key_at c.args.keys.now c.args.ends.now k)))
      c.args.reports.now
      (record { i = c.loop-i.i; list = c.loop-i.reports; within = c.loop-i.invariant.within; same = c.loop-i.auto.reports; comes = c.loop-i.invariant.comes })
      c.look_through.result (omega arith)
      (c.look_through.ensures
      ∙ ap (λ q. report_of (answered c.args.table.now c.args.text.now c.args.list.now c.args.keys.now q)) (rw c.judge-judged.ensures at c.question_at-question.ensures)
      ∙ ap report_of (question_answered c.args.table.now c.args.rows c.args.text.now c.args.row c.args.list.now c.args.keys.now c.args.ends.now c.loop-i.i));
}

pub returns : goal.returns
returns c = (
  judged_number c.args.table.now c.args.rows c.args.text.now c.args.row c.judge-judged.ensures,
  stored_done (λ (k : ℕ). report_of (through c.args.table.now c.args.rows c.args.text.now c.args.row c.args.list.now (key_at c.args.keys.now c.args.ends.now k)))
      c.args.reports.now
      (record { i = c.loop-i.i; list = c.loop-i.reports; within = c.loop-i.invariant.within; same = c.loop-i.auto.reports; comes = c.loop-i.invariant.comes }) (omega arith)
      ∙ reports_all c.args.table.now c.args.rows c.args.text.now c.args.row c.args.list.now c.args.keys.now c.args.ends.now (length c.args.reports.now),
)
