use Rattle.shape.proofs.Judged.{ready_is}
use Rattle.writer.proofs.Answering.{did_long, did_unfit, did_rows}
use borrow.Author.Rules.{rules}
use Rattle.writer.proofs.write_within.Statement.{statement}
use Rattle.writer.proofs.write_within.Tie as tie

pub write_within_spec : {M : Type 1} → statement M
write_within_spec = tie.close (tie.spec
    (λ c κs. search rules)  -- refuse-requires
    (λ c. search rules)  -- same-length
    (λ c. search did_long)  -- returns
    (λ c κs. search rules)  -- writable-to-requires
    (λ c κs. search rules)  -- room-of-requires
    (λ c κs. (search ready_is, search rules))  -- fill-requires
    (λ c κs. search rules)  -- answer-for-requires
    (λ c. search rules)  -- same-length-2
    (λ c. search did_rows)  -- returns-2
    (λ c κs. search rules)  -- refuse-requires-2
    (λ c. search rules)  -- same-length-3
    (λ c. search did_unfit))  -- returns-3
