-- Worked texts, computed: each value by its bits. Assumes nothing.
use mathlib.Core.Path.{◌≡◌, refl}
use mathlib.Core.Bool.{true, false, true≢false}
use mathlib.Core.List.{List, [], ◌∷◌}
use Prim.Native.Nat.{ℕ}
use Prim.Native.Char.{code}
use Prim.Native.String.{String, [] as empty, ◌∷◌ as first}
use lib.Count.{count_trailing_zeros}
use lib.IntN.{pos}
use lib.Ieee.{fin, binary64, of_int, of_bits, of_fields, div, neg, round, size, span, climb, units, odd}
use Rattle.lexical.specs.Digits.{digit}
use Rattle.std.proofs.Common.{Ok}
use Rattle.decimal.specs.Digits.{digits_of, significant, whole, places, negative}
use Rattle.decimal.specs.Decimal.{power, quotient, signed, held, decimal_of, too_many}

abbrev bytes : String → List ℕ
bytes empty = []
bytes (first c s) = code c ∷ bytes s

tenth : decimal_of (bytes "0.1") ≡ Ok (of_bits binary64 0x3fb9_9999_9999_999a)
unfolding decimal_of held signed quotient power digits_of significant whole places negative digit of_int of_bits of_fields div neg round size span climb units odd count_trailing_zeros
tenth = refl

minus_zero : decimal_of (bytes "-0.0") ≡ Ok (fin true 0 (pos 0))
unfolding decimal_of held signed quotient power digits_of significant whole places negative digit of_int of_bits of_fields div neg round size span climb units odd count_trailing_zeros
minus_zero = refl

-- minus zero is not plus zero
signs_differ : fin true 0 (pos 0) ≡ fin false 0 (pos 0) → ⊥
signs_differ e = true≢false (cc)

smallest : decimal_of (bytes "0.0000000000000000000001") ≡ Ok (of_bits binary64 0x3b5e_3920_1017_5ee6)
unfolding decimal_of held signed quotient power digits_of significant whole places negative digit of_int of_bits of_fields div neg round size span climb units odd count_trailing_zeros
smallest = refl

leading_zeros : decimal_of (bytes "000000000000000000001.5") ≡ Ok (of_bits binary64 0x3ff8_0000_0000_0000)
unfolding decimal_of held signed quotient power digits_of significant whole places negative digit of_int of_bits of_fields div neg round size span climb units odd count_trailing_zeros
leading_zeros = refl

-- 16 digits: the zero after the point counts
sixteen : decimal_of (bytes "123456789012345.0") ≡ too_many
unfolding decimal_of held signed quotient power digits_of significant whole places negative digit of_int of_bits of_fields div neg round size span climb units odd count_trailing_zeros
sixteen = refl
