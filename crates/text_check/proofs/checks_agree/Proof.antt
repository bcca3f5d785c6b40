-- `text_check::checks_agree` meets its contract: both answers are the definition's. Assumes nothing.
use Rattle.text.proofs.Passing.{running}
use borrow.Author.Rules.{rules}
use Rattle.text_check.proofs.checks_agree.Statement.{statement}
use Rattle.text_check.proofs.checks_agree.Tie as tie

pub checks_agree_spec : {M : Type 1} → statement M
checks_agree_spec = tie.close (tie.spec
    (λ c κs. search rules)  -- is-utf8-requires
    (λ c κs. search rules)  -- is-utf8-bytewise-requires
    (λ c. search running))  -- returns
