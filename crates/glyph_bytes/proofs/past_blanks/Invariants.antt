use Rattle.glyph_bytes.proofs.Bytes.{Skipping}
use Rattle.glyph_bytes.proofs.past_blanks.Given as goal

abbrev pub invariant-loop-i : goal.invariant-loop-i
invariant-loop-i l = Skipping l.s l.at l.i
