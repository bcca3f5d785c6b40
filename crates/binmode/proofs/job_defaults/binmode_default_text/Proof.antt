use Rattle.binmode.proofs.Looking.{looking}
use borrow.Author.Rules.{rules}
use Rattle.binmode.proofs.job_defaults.binmode_default_text.Statement.{statement}
use Rattle.binmode.proofs.job_defaults.binmode_default_text.Tie as tie

pub binmode_default_text_spec : {M : Type 1} → statement M
binmode_default_text_spec = tie.close (tie.spec
    (λ c κs. search rules)  -- choose-requires
    (λ c κs. search rules)  -- text-requires
    (λ c. search looking))  -- returns
