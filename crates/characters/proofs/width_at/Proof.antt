-- `characters::width_at` meets its contract: a law for each way in which a character can begin. Assumes nothing.
use Rattle.text.proofs.Walking.{leading}
use borrow.Author.Rules.{rules}
use Rattle.characters.proofs.width_at.Statement.{statement}
use Rattle.characters.proofs.width_at.Tie as tie

pub width_at_spec : {M : Type 1} → statement M
width_at_spec = tie.close (tie.spec
    (λ c. search rules)  -- shared-slice-read-class-of
    (λ c κs. search rules)  -- class-of-requires
    (λ c. search rules)  -- add-one-follows
    (λ c κs. search rules)  -- one-follows-requires
    (λ c κs. search rules)  -- width-if-requires
    (λ c. search rules)  -- add-two-follow
    (λ c κs. search rules)  -- two-follow-requires
    (λ c κs. search rules)  -- width-if-requires-2
    (λ c. search rules)  -- add-two-follow-2
    (λ c κs. search rules)  -- two-follow-requires-2
    (λ c κs. search rules)  -- width-if-requires-3
    (λ c. search rules)  -- add-two-follow-3
    (λ c κs. search rules)  -- two-follow-requires-3
    (λ c κs. search rules)  -- width-if-requires-4
    (λ c. search rules)  -- add-three-follow
    (λ c κs. search rules)  -- three-follow-requires
    (λ c κs. search rules)  -- width-if-requires-5
    (λ c. search rules)  -- add-three-follow-2
    (λ c κs. search rules)  -- three-follow-requires-2
    (λ c κs. search rules)  -- width-if-requires-6
    (λ c. search rules)  -- add-three-follow-3
    (λ c κs. search rules)  -- three-follow-requires-3
    (λ c κs. search rules)  -- width-if-requires-7
    (λ c. search leading)  -- returns
    (λ c. search leading)  -- returns-2
    (λ c. search leading)  -- returns-3
    (λ c. search leading)  -- returns-4
    (λ c. search leading)  -- returns-5
    (λ c. search leading)  -- returns-6
    (λ c. search leading)  -- returns-7
    (λ c. search leading)  -- returns-8
    (λ c. search leading))  -- returns-9
