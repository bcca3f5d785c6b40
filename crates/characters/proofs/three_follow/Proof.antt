-- `characters::three_follow` meets its contract: a byte in its range, and then two tails. Assumes nothing.
use Rattle.text.proofs.Walking.{following, placing}
use borrow.Author.Rules.{rules}
use Rattle.characters.proofs.three_follow.Statement.{statement}
use Rattle.characters.proofs.three_follow.Tie as tie

pub three_follow_spec : {M : Type 1} → statement M
three_follow_spec = tie.close (tie.spec
    (λ c κs. search rules)  -- one-follows-requires
    (λ c. search placing)  -- add-two-follow
    (λ c κs. search rules)  -- two-follow-requires
    (λ c. search following)  -- returns
    (λ c. search following))  -- returns-2
