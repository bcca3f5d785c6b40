use Rattle.std.proofs.Common.{rules}
use Rattle.long_texts.proofs.Finding.{finding}
use Rattle.long_texts.proofs.is_fine.Goals as goal
use Rattle.long_texts.proofs.is_fine.Goals.{then-text-from-via-then-text-from, then-text-from-via-else-text-from+then-text-from-2}

pub returns-then-text-from : goal.returns-then-text-from
returns-then-text-from c =
    elim c.then-text-from.branch [
      | then-text-from-via-then-text-from w ↦ search (rules, finding)
      | then-text-from-via-else-text-from+then-text-from-2 w ↦ search (rules, finding)
    ]

pub returns : goal.returns
returns c = search (rules, finding)
