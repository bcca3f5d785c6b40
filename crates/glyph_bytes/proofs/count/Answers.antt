use Rattle.std.proofs.Common.{sym, ◌∙◌}
use Rattle.glyph_bytes.proofs.Bytes.{count_again, count_done, count_end}
use Rattle.glyph_bytes.proofs.count.Goals as goal

pub loop-i-preserved : goal.loop-i-preserved
loop-i-preserved c = count_again c.loop-i.invariant c.loop-i-test.true (sym c.is_ascii_digit.ensures.value ∙ c.if-is_ascii_digit.true) c.onward-value.ensures

pub returns-else-is_ascii_digit : goal.returns-else-is_ascii_digit
returns-else-is_ascii_digit c = count_done c.loop-i.invariant (sym c.is_ascii_digit.ensures.value ∙ c.if-is_ascii_digit.false)

pub returns-after-loop-i : goal.returns-after-loop-i
returns-after-loop-i c = count_end c.loop-i.invariant c.loop-i-test.false
