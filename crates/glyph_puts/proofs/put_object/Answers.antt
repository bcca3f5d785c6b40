use Rattle.std.proofs.Common.{rules}
use Rattle.glyph_puts.proofs.Fitting.{fitting}
use Rattle.glyph_puts.proofs.Puts.{puts}
use Rattle.glyph_puts.proofs.put_object.Goals as goal

pub put_entries-requires : goal.put_entries-requires
put_entries-requires c = (search rules, search rules, search fitting)

pub returns : goal.returns
returns c = search puts
