use Rattle.std.proofs.Common.{sym, ◌∙◌}
use Rattle.glyph_bytes.proofs.Bytes.{skip_first, skip_again, skip_done, skip_end}
use Rattle.glyph_bytes.proofs.past_blanks.Goals as goal

pub loop-i-init : goal.loop-i-init
loop-i-init c = skip_first c.requires

pub loop-i-preserved : goal.loop-i-preserved
loop-i-preserved c = skip_again c.loop-i.invariant c.loop-i-test.true (sym c.is_blank.ensures ∙ c.if-not-is_blank.false)

pub returns-then-not-is_blank : goal.returns-then-not-is_blank
returns-then-not-is_blank c = skip_done c.loop-i.invariant c.loop-i-test.true (sym c.is_blank.ensures ∙ c.if-not-is_blank.true)

pub returns : goal.returns
returns c = skip_end c.loop-i.invariant c.loop-i-test.false
