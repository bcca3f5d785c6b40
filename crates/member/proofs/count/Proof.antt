use Rattle.member.proofs.Counting.{counting}
use Rattle.member.proofs.Finding.{entering}
use borrow.Author.Rules.{rules}
use Rattle.member.proofs.count.Statement.{statement}
use Rattle.member.proofs.count.Tie as tie

pub count_spec : {M : Type 1} → statement M
count_spec = tie.close (tie.spec
    (λ c κs. search rules)  -- is-struct-requires
    (λ c κs. (search entering, search rules, search rules))  -- get-row-requires
    (λ c. search rules)  -- cast-count-from
    (λ c. search entering)  -- add-count-from
    (λ c κs. search rules)  -- count-from-requires
    (λ c. search counting)  -- returns
    (λ c. search counting))  -- returns-2
