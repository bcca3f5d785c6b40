use Rattle.binmode.proofs.Looking.{looking}
use borrow.Author.Rules.{rules}
use Rattle.binmode.proofs.lookups.binmode_lookup.Statement.{statement}
use Rattle.binmode.proofs.lookups.binmode_lookup.Tie as tie

pub binmode_lookup_spec : {M : Type 1} → statement M
binmode_lookup_spec = tie.close (tie.spec
    (λ c κs. search rules)  -- lookup-requires
    (λ c κs. search rules)  -- report-of-requires
    (λ c κs. search rules)  -- member-requires
    (λ c. search looking))  -- returns
