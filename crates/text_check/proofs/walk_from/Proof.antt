-- `text_check::walk_from` meets its contract: the code's tables are those that are defined, entry by entry, which antt computes. Assumes nothing.
use mathlib.Core.Path.{refl}
use Rattle.text.specs.Utf8.{within}
use Rattle.text.specs.Classes.{class_by, class_of, class_table}
use Rattle.steps.specs.States.{step_table}
use borrow.Author.Rules.{rules}
use Rattle.text_check.proofs.walk_from.Statement.{statement}
use Rattle.text_check.proofs.walk_from.Tie as tie

walk_runs_requires : tie.Need-walk_runs-requires
unfolding class_table class_of class_by within step_table
walk_runs_requires c κs = (refl, refl, search rules)

pub walk_from_spec : {M : Type 1} → statement M
walk_from_spec = tie.close (tie.spec
    walk_runs_requires
    (λ c. search rules))  -- returns
