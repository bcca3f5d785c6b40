use Rattle.member_keys.proofs.Keying.{keying}
use borrow.Author.Rules.{rules}
use Rattle.member_keys.proofs.read_name.Statement.{statement}
use Rattle.member_keys.proofs.read_name.Tie as tie

pub read_name_spec : {M : Type 1} → statement M
read_name_spec = tie.close (tie.spec
    (λ c κs. search rules)  -- is-recalled-requires
    (λ c κs. (search keying, search rules))  -- read-recalled-requires
    (λ c. search rules)  -- same-length
    (λ c. search rules)  -- same-length-2
    (λ c. search keying)  -- returns
    (λ c κs. (search keying, search rules))  -- read-sent-requires
    (λ c. search rules)  -- same-length-3
    (λ c. search rules)  -- same-length-4
    (λ c. search rules))  -- returns-2
