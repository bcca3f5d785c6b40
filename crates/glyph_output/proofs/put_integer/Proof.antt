use Rattle.glyph_output.proofs.Adding.{adding}
use Rattle.glyph_output.proofs.Leaves.{leaves}
use borrow.Author.Rules.{rules}
use Rattle.glyph_output.proofs.put_integer.Statement.{statement}
use Rattle.glyph_output.proofs.put_integer.Tie as tie

pub put_integer_spec : {M : Type 1} → statement M
put_integer_spec = tie.close (tie.spec
    (λ c κs. search rules)  -- put-byte-requires
    (λ c κs. search adding)  -- put-number-requires
    (λ c. search rules)  -- same-length
    (λ c. search leaves)  -- returns
    (λ c κs. (search adding, search rules))  -- put-negative-requires
    (λ c. search rules)  -- same-length-2
    (λ c. search leaves))  -- returns-2
