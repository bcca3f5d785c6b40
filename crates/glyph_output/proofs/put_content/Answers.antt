use Rattle.std.proofs.Common.{rules}
use Rattle.glyph_output.proofs.Adding.{adding}
use Rattle.glyph_output.proofs.Leaves.{empty_put, content_put}
use Rattle.glyph_output.proofs.put_content.Goals as goal

pub returns-then-is_empty : goal.returns-then-is_empty
returns-then-is_empty c = empty_put c.requires.0 c.args.letter c.args.t.now (search rules) c.put_single.ensures

pub put_counted-requires : goal.put_counted-requires
put_counted-requires c = (search adding, search rules)

pub returns : goal.returns
returns c = content_put c.requires.0 c.args.letter c.args.t.now (search rules) c.put_byte-next.ensures c.put_counted.ensures
