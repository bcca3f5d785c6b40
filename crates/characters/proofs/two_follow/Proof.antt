-- `characters::two_follow` meets its contract: a byte in its range, and then a tail. Assumes nothing.
use Rattle.text.proofs.Walking.{following, placing}
use borrow.Author.Rules.{rules}
use Rattle.characters.proofs.two_follow.Statement.{statement}
use Rattle.characters.proofs.two_follow.Tie as tie

pub two_follow_spec : {M : Type 1} → statement M
two_follow_spec = tie.close (tie.spec
    (λ c κs. search rules)  -- one-follows-requires
    (λ c. search placing)  -- add-one-follows
    (λ c κs. search rules)  -- one-follows-requires-2
    (λ c. search following)  -- returns
    (λ c. search following))  -- returns-2
