use Rattle.std.proofs.Common.{rules}
use Rattle.key_rows.proofs.Keying.{keying}
use Rattle.key_rows.proofs.walk_key_if.Goals as goal

pub walk_key-requires : goal.walk_key-requires
walk_key-requires c = (search keying, search rules, search rules)

pub returns-then-keyed : goal.returns-then-keyed
returns-then-keyed c = search keying

pub returns-else-keyed : goal.returns-else-keyed
returns-else-keyed c = search keying
