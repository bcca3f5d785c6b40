use Rattle.std.proofs.Common.{rules, ◌≡◌, arith}
use Rattle.scalar.proofs.Words.{words}
use Rattle.scalar.proofs.read_sized.Goals as goal

pub pack-requires : goal.pack-requires
pack-requires c = search words

pub returns : goal.returns
returns c = search words
