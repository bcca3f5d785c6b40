use Rattle.std.proofs.Common.{◌-◌, length}
use Rattle.glyph_bytes.proofs.Bytes.{Counting}
use Rattle.glyph_bytes.proofs.count.Given as goal

abbrev pub invariant-loop-i : goal.invariant-loop-i
invariant-loop-i l = Counting l.s l.at l.i l.value

abbrev pub decreases-loop-i : goal.decreases-loop-i
decreases-loop-i l = length l.s - l.i
