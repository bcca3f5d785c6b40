use Rattle.member.proofs.Counting.{seeking}
use Rattle.member.proofs.Finding.{entering}
use borrow.Author.Rules.{rules}
use Rattle.member.proofs.is_member.Statement.{statement}
use Rattle.member.proofs.is_member.Tie as tie

pub is_member_spec : {M : Type 1} → statement M
is_member_spec = tie.close (tie.spec
    (λ c κs. search rules)  -- is-struct-requires
    (λ c κs. (search entering, search rules, search rules))  -- get-row-requires
    (λ c. search rules)  -- cast-is-among
    (λ c. search entering)  -- add-is-among
    (λ c κs. search rules)  -- is-among-requires
    (λ c. search seeking)  -- returns
    (λ c. search seeking))  -- returns-2
