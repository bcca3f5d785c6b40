-- `characters::one_follows` meets its contract: by the class of the byte that stands there. Assumes nothing.
use Rattle.text.proofs.Walking.{following}
use borrow.Author.Rules.{rules}
use Rattle.characters.proofs.one_follows.Statement.{statement}
use Rattle.characters.proofs.one_follows.Tie as tie

pub one_follows_spec : {M : Type 1} → statement M
one_follows_spec = tie.close (tie.spec
    (λ c. search rules)  -- shared-slice-read-class-in
    (λ c κs. search rules)  -- class-in-requires
    (λ c. search following)  -- returns
    (λ c. search following))  -- returns-2
