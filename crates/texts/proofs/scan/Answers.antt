use Rattle.std.proofs.Common.{rules, refl, length-set}
use Rattle.buckets.proofs.Chaining.{chains_none}
use Rattle.texts.proofs.Scanning.{scanning}
use Rattle.texts.proofs.scan.Goals as goal

pub loop-j-init : goal.loop-j-init
loop-j-init c =
    record {
      scanned = search scanning;
      chained = search chains_none;
      as_many_firsts = refl;
      as_many_heads = refl;
      as_many_nexts = refl;
    }

pub overflow_add-sum : goal.overflow_add-sum
overflow_add-sum c = search scanning

pub returns-then-sum-gt65536 : goal.returns-then-sum-gt65536
returns-then-sum-gt65536 c = search scanning

pub loop-j-preserved : goal.loop-j-preserved
loop-j-preserved c =
    record {
      scanned = search scanning;
      chained = c.find_or_add-f.ensures.chains;
      as_many_firsts = simp length-set c.loop-j.invariant.as_many_firsts;
      as_many_heads = search rules;
      as_many_nexts = search rules;
    }

pub returns : goal.returns
returns c = search scanning
