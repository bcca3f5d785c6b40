use Rattle.std.proofs.Common.{◌∙◌}
use Rattle.draft.specs.Read.{prefix}
use Rattle.prefix.proofs.Beginning.{front_agrees}
use Rattle.prefix.proofs.agrees.Goals as goal

pub returns : goal.returns
returns c = c.eq.ensures ∙ front_agrees c.min-n.result c.args.s.now prefix c.min-n.ensures
