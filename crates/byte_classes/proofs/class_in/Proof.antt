-- `byte_classes::class_in` meets its contract: an entry of the table of classes is the byte's class. Assumes nothing.
use Rattle.text.proofs.Bytewise.{classing}
use borrow.Author.Rules.{rules}
use Rattle.byte_classes.proofs.class_in.Statement.{statement}
use Rattle.byte_classes.proofs.class_in.Tie as tie

pub class_in_spec : {M : Type 1} → statement M
class_in_spec = tie.close (tie.spec
    (λ c. search rules)  -- element-copy-out-result
    (λ c. search classing))  -- returns
