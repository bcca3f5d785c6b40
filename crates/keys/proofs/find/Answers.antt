use Rattle.std.proofs.Common.{rules}
use Rattle.keys.proofs.Chaining.{noting}
use Rattle.keys.proofs.find.Goals as goal

pub is_key-requires : goal.is_key-requires
is_key-requires c = (search noting, search rules)

pub returns-then-is_key : goal.returns-then-is_key
returns-then-is_key c = search noting

pub loop-c-smaller : goal.loop-c-smaller
loop-c-smaller c = search noting

pub loop-c-preserved : goal.loop-c-preserved
loop-c-preserved c = search noting

pub returns : goal.returns
returns c = search noting
