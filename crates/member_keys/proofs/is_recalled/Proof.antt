use Rattle.member_keys.proofs.Keying.{keying}
use borrow.Author.Rules.{rules}
use Rattle.member_keys.proofs.is_recalled.Statement.{statement}
use Rattle.member_keys.proofs.is_recalled.Tie as tie

pub is_recalled_spec : {M : Type 1} → statement M
is_recalled_spec = tie.close (tie.spec
    (λ c. search keying)  -- returns
    (λ c. search rules)  -- shared-slice-read-result
    (λ c. search keying))  -- returns-2
