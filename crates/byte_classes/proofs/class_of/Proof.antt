-- `byte_classes::class_of` meets its contract: the code's table is the table that the rule fills, entry by entry, which antt computes. Assumes nothing.
use mathlib.Core.Path.{refl}
use Rattle.text.specs.Utf8.{within}
use Rattle.text.specs.Classes.{class_by, class_of, class_table}
use borrow.Author.Rules.{rules}
use Rattle.byte_classes.proofs.class_of.Statement.{statement}
use Rattle.byte_classes.proofs.class_of.Tie as tie

class_in_requires : tie.Need-class_in-requires
unfolding class_table class_of class_by within
class_in_requires c κs = refl

pub class_of_spec : {M : Type 1} → statement M
class_of_spec = tie.close (tie.spec
    class_in_requires
    (λ c. search rules))  -- returns
