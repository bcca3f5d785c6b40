use Rattle.std.proofs.Common.{rules, ◌≡◌, ◌∙◌, arith}
use Rattle.scalar.proofs.Words.{words, refused_back}
use Rattle.scalar.proofs.pack.Goals as goal

pub returns-in-Err : goal.returns-in-Err
returns-in-Err c = refused_back c.requires c.in-Err.is (c.from-number.ensures ∙ c.from.ensures)
