use Rattle.certificate.proofs.Judging.{unwritable, of_rows, text_short}
use Rattle.shape.proofs.Judged.{ready_judged}
use borrow.Author.Rules.{rules}
use Rattle.certificate.proofs.proves.Statement.{statement}
use Rattle.certificate.proofs.proves.Tie as tie

pub proves_spec : {M : Type 1} → statement M
proves_spec = tie.close (tie.spec
    (λ c κs. search rules)  -- writable-requires
    (λ c κs. search rules)  -- room-of-requires
    (λ c κs. (search ready_judged, search text_short))  -- judge-requires
    (λ c. search of_rows)  -- returns
    (λ c. search unwritable))  -- returns-2
