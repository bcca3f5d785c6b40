use Rattle.key_order.proofs.Arranging.{fronts}
use Rattle.key_order.proofs.arrange.Goals as goal
use Rattle.key_order.proofs.arrange.Goals.{then-n-lt2-via-then-n-lt2, then-n-lt2-via-else-n-lt2+then-is_over}

pub returns-then-n-lt2 : goal.returns-then-n-lt2
returns-then-n-lt2 c =
    elim c.then-n-lt2.branch [
      | then-n-lt2-via-then-n-lt2 w ↦ search fronts
      | then-n-lt2-via-else-n-lt2+then-is_over w ↦ search fronts
    ]

pub returns : goal.returns
returns c = search fronts
