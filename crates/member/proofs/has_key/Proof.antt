use Rattle.member.proofs.Finding.{looking}
use borrow.Author.Rules.{rules}
use Rattle.member.proofs.has_key.Statement.{statement}
use Rattle.member.proofs.has_key.Tie as tie

pub has_key_spec : {M : Type 1} → statement M
has_key_spec = tie.close (tie.spec
    (λ c κs. search rules)  -- get-row-requires
    (λ c. search rules)  -- cast-part
    (λ c. search rules)  -- cast-part-2
    (λ c κs. search rules)  -- part-requires
    (λ c κs. search rules)  -- equal-requires
    (λ c. search looking))  -- returns
