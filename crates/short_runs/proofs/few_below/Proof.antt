-- `short_runs::few_below` meets its contract: one byte after another. Assumes nothing.
use Rattle.short_runs.proofs.Ends.{ending}
use borrow.Author.Rules.{rules}
use Rattle.short_runs.proofs.few_below.Statement.{statement}
use Rattle.short_runs.proofs.few_below.Tie as tie

pub few_below_spec : {M : Type 1} → statement M
few_below_spec = tie.close (tie.spec
    (λ c. search rules)  -- shared-slice-read-is-single
    (λ c κs. search rules)  -- is-single-requires
    (λ c. search rules)  -- add-is-single
    (λ c. search rules)  -- shared-slice-read-is-single-2
    (λ c κs. search rules)  -- is-single-requires-2
    (λ c. search rules)  -- add-is-single-2
    (λ c. search rules)  -- shared-slice-read-is-single-3
    (λ c κs. search rules)  -- is-single-requires-3
    (λ c. search rules)  -- add-is-single-3
    (λ c. search rules)  -- shared-slice-read-is-single-4
    (λ c κs. search rules)  -- is-single-requires-4
    (λ c. search ending))  -- returns
