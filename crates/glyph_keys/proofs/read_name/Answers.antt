use Rattle.std.proofs.Common.{rules, ◌≡◌, ◌<◌, length, get_or}
use Rattle.glyph_keys.proofs.Keying.{keying}
use Rattle.glyph_keys.proofs.read_name.Goals as goal

pub returns-in-Some-eq117 : goal.returns-in-Some-eq117
returns-in-Some-eq117 c =
    let there : c.args.at < length c.args.s.now = search rules in
    let begins : get_or c.args.s.now c.args.at 0 ≡ 117 = search rules in
    search keying
