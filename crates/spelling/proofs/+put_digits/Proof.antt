use Rattle.spelling.proofs.Putting.{spelling}
use borrow.Author.Rules.{rules}
use Prim.Native.Nat.{ℕ, ◌<◌}
use borrow.Fn.Kinds.{In}
use borrow.Fn.PlainCycle.{Measures, is, falls, and}
use Rattle.spelling.proofs.put_digits.Reads as put-digits
use Rattle.spelling.proofs.put_digits.Kinds as put-digits-kinds
use Rattle.spelling.proofs.+put_digits.Lts-put_digits as put-digits-lts
use Rattle.spelling.proofs.put_byte.Reads as put-byte-reads
use Rattle.spelling.proofs.+put_digits.{statement}
use Rattle.spelling.proofs.+put_digits.Tie.{close}

abbrev μ-put-digits : Measures 1 put-digits-kinds.ps ℕ
μ-put-digits κs a = a.1.1.1.0

abbrev put_digits_at : ℕ → In 1 put-digits-kinds.ps
put_digits_at t =
    and 1 put-digits-kinds.ps (is 1 put-digits-kinds.ps μ-put-digits t) put-digits.Pre

abbrev put_digits_below : ℕ → In 1 put-digits-kinds.ps
put_digits_below t =
    and 1 put-digits-kinds.ps (falls 1 put-digits-kinds.ps ◌<◌ μ-put-digits t) put-digits.Pre

abbrev calls : ℕ → put-digits-lts.Claims
calls t = (put-byte-reads.Asked, put-byte-reads.Learnt, put_digits_below t, put-digits.Post)

pub +put_digits_spec : {M : Type 1} → statement M
+put_digits_spec = close μ-put-digits (λ t. put-digits-lts.spec (calls t)
    (put_digits_at t)
    put-digits.Post
    (λ c. search spelling)  -- put-digits-returns
    (λ c. search rules)  -- put-digits-cast-put-byte
    (λ c. search rules)  -- put-digits-add-put-byte
    (λ c κs. search rules)  -- put-digits-put-byte-requires
    (λ c. search rules)  -- put-digits-same-length
    (λ c. search spelling)  -- put-digits-returns-2
    (λ c. search rules)  -- put-digits-sub-put-digits
    (λ c κs. search rules)  -- put-digits-put-digits-requires
    (λ c. search rules)  -- put-digits-cast-put-byte-2
    (λ c. search rules)  -- put-digits-add-put-byte-2
    (λ c κs. search rules)  -- put-digits-put-byte-requires-2
    (λ c. search rules)  -- put-digits-same-length-2
    (λ c. search spelling))  -- put-digits-returns-3
