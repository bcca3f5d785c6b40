use Rattle.member.proofs.Finding.{entering}
use borrow.Author.Rules.{rules}
use Rattle.member.proofs.find.Statement.{statement}
use Rattle.member.proofs.find.Tie as tie

pub find_spec : {M : Type 1} → statement M
find_spec = tie.close (tie.spec
    (λ c κs. search rules)  -- is-struct-requires
    (λ c κs. (search entering, search rules, search rules))  -- get-row-requires
    (λ c. search rules)  -- cast-find-from
    (λ c. search entering)  -- add-find-from
    (λ c κs. search rules)  -- find-from-requires
    (λ c. search entering)  -- returns
    (λ c. search entering))  -- returns-2
