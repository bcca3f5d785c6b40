-- `text_check::is_utf8_bytewise` meets its contract: the code's table is the table that the rule fills, entry by entry, which antt computes. Assumes nothing.
use mathlib.Core.Path.{refl}
use Rattle.text.specs.Utf8.{within}
use Rattle.text.specs.Classes.{class_by, class_of, class_table}
use borrow.Author.Rules.{rules}
use Rattle.text_check.proofs.is_utf8_bytewise.Statement.{statement}
use Rattle.text_check.proofs.is_utf8_bytewise.Tie as tie

walk_requires : tie.Need-walk-requires
unfolding class_table class_of class_by within
walk_requires c κs = refl

pub is_utf8_bytewise_spec : {M : Type 1} → statement M
is_utf8_bytewise_spec = tie.close (tie.spec
    walk_requires
    (λ c. search rules))  -- returns
