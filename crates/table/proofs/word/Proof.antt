use mathlib.Core.Path.{refl}
use native.Mathlib.Omega.{arith}
use Rattle.table.proofs.Rows.{column, place_in}
use Rattle.draft.specs.Table.{place}
use borrow.Author.Rules.{rules}
use Rattle.table.proofs.word.Statement.{statement}
use Rattle.table.proofs.word.Tie as tie

mul_result : tie.Need-overflow_mul-result
mul_result c = omega (arith, column c.args.room c.args.j (search rules))

add_result : tie.Need-overflow_add-result
add_result c = omega (arith, column c.args.room c.args.j (search rules))

returns : tie.Need-returns
unfolding place
returns c = (refl, place_in _ _ _ (search rules) (search rules))

pub word_spec : {M : Type 1} → statement M
word_spec =
    tie.close
    (tie.spec
    mul_result
    add_result
    returns)
