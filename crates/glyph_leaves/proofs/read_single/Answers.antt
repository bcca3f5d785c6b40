use Rattle.std.proofs.Common.{rules, ◌≡◌, ◌+◌, ◌<◌, length, get_or}
use Rattle.glyph_leaves.proofs.Leaves.{leaves}
use Rattle.glyph_leaves.proofs.read_single.Goals as goal

pub returns-in-Some-eq59 : goal.returns-in-Some-eq59
returns-in-Some-eq59 c =
    let there : c.args.at + 1 < length c.args.s.now = search rules in
    let ends : get_or c.args.s.now (c.args.at + 1) 0 ≡ 59 = search rules in
    search leaves
