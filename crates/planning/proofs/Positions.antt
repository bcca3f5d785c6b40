-- The strings of a message whose bytes are below 256 have positions below 256. Assumes nothing.
use mathlib.Core.List.{List, [], ◌∷◌, ◌++◌}
use Prim.Native.Nat.{ℕ, ◌<◌}
use Rattle.draft.specs.Bytes.{Below, and_below, bytes}
use Rattle.draft.specs.Grammar.{Cell, Sent, regular, recorded, recalled, Message, call_message, response_message, Call, call, Response, value_response, fault_response, Fault, fault, Value, integer_value, boolean_value, double_value, datetime_value, binary_value, array_value, struct_value, string_value, other_value, Array, array, Values, no_values, more_values, Struct, struct, Pairs, no_pairs, more_pairs, Pair, pair, other, String, regular_string, recorded_string, recalled_string}
use Rattle.written.proofs.Limiting.{below_front, below_back}

-- every position is below P
pub data Within (P : ℕ) : List Sent → Type 0 where
  within_none : Within P []
  within_regular : {t : List ℕ} {fs : List Sent} → Within P fs → Within P (regular t ∷ fs)
  within_recorded : {p : ℕ} {t : List ℕ} {fs : List Sent} → p < P → Within P fs → Within P (recorded p t ∷ fs)
  within_recalled : {p : ℕ} {t : List ℕ} {fs : List Sent} → p < P → Within P fs → Within P (recalled p t ∷ fs)

module _ {n : ℕ} where
  tail : {x : ℕ} {xs : List ℕ} → Below n (x ∷ xs) → Below n xs
  tail (and_below h b) = b

  joined : {fs gs : List Sent} → Within n fs → Within n gs → Within n (fs ++ gs)
  joined within_none v = v
  joined (within_regular w) v = within_regular (joined w v)
  joined (within_recorded h w) v = within_recorded h (joined w v)
  joined (within_recalled h w) v = within_recalled h (joined w v)

  string_on : {xs t : List ℕ} {f : Sent} {fs : List Sent} → String xs t f → Below n xs → Within n fs → Within n (f ∷ fs)
  string_on (regular_string s) b w = within_regular w
  string_on (recorded_string s) (and_below c (and_below h b)) w = within_recorded h w
  string_on recalled_string (and_below c (and_below h b)) w = within_recalled h w

  mutual
    value_in : {d : ℕ} {xs : List ℕ} {cs : List Cell} {fs : List Sent} → Value d xs cs fs → Below n xs → Within n fs
    value_in (integer_value v) b = within_none
    value_in (boolean_value v) b = within_none
    value_in (double_value v) b = within_none
    value_in (datetime_value v) b = within_none
    value_in (binary_value v) b = within_none
    value_in (array_value v) b = array_in v b
    value_in (struct_value v) b = struct_in v b
    value_in (string_value s) b = string_on s b within_none
    value_in (other_value (other {xs} {ys} s r i e)) b = string_on s (below_front xs ys (rw e at (tail b))) within_none

    array_in : {d : ℕ} {xs : List ℕ} {cs : List Cell} {fs : List Sent} → Array d xs cs fs → Below n xs → Within n fs
    array_in (array l vs e) b = values_in vs (tail (tail (tail (tail (tail b)))))

    values_in : {d m : ℕ} {xs : List ℕ} {cs : List Cell} {fs : List Sent} → Values d m xs cs fs → Below n xs → Within n fs
    values_in no_values b = within_none
    values_in (more_values {xs = xs} {ys} v vs e g h) b =
        let a = rw e at b in
        rw h (joined (value_in v (below_front xs ys a)) (values_in vs (below_back xs ys a)))

    struct_in : {d : ℕ} {xs : List ℕ} {cs : List Cell} {fs : List Sent} → Struct d xs cs fs → Below n xs → Within n fs
    struct_in (struct l ps e) b = pairs_in ps (tail (tail (tail (tail (tail b)))))

    pairs_in : {d m : ℕ} {seen : List (List ℕ)} {xs : List ℕ} {cs : List Cell} {fs : List Sent} → Pairs d seen m xs cs fs → Below n xs → Within n fs
    pairs_in no_pairs b = within_none
    pairs_in (more_pairs {xs = xs} {ys} p k ps e g h) b =
        let a = rw e at b in
        rw h (joined (pair_in p (below_front xs ys a)) (pairs_in ps (below_back xs ys a)))

    pair_in : {d : ℕ} {t xs : List ℕ} {cs : List Cell} {fs : List Sent} → Pair d t xs cs fs → Below n xs → Within n fs
    pair_in (pair {xs = xs} {ys} s v e) b =
        let a = rw e at b in
        string_on s (below_front xs ys a) (value_in v (below_back xs ys a))

  call_in : {d : ℕ} {xs : List ℕ} {cs : List Cell} {fs : List Sent} → Call d xs cs fs → Below n xs → Within n fs
  call_in (call {xs = xs} {ys} s v e l) b =
      let a = rw e at (tail b) in
      string_on s (below_front xs ys a) (array_in v (below_back xs ys a))

  fault_in : {d : ℕ} {xs : List ℕ} {cs : List Cell} {fs : List Sent} → Fault d xs cs fs → Below n xs → Within n fs
  fault_in (fault s e) b = struct_in s (tail b)

  response_in : {d : ℕ} {xs : List ℕ} {cs : List Cell} {fs : List Sent} → Response d xs cs fs → Below n xs → Within n fs
  response_in (value_response v e) b = value_in v (tail b)
  response_in (fault_response f e) b = fault_in f (tail b)

  pub message_in : {d : ℕ} {xs : List ℕ} {cs : List Cell} {fs : List Sent} → Message d xs cs fs → Below n xs → Within n fs
  message_in (call_message {xs = xs} c e) b = call_in c (below_back (bytes "binmode-rpc:") xs (rw e at b))
  message_in (response_message {xs = xs} r e) b = response_in r (below_back (bytes "binmode-rpc:") xs (rw e at b))
