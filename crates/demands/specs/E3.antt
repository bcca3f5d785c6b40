-- REQUEST E3: faster text check on plain names. Both checks promise one thing: `text_check::is_utf8` and `text_check::is_utf8_bytewise` each answer, for the
-- bytes s, an r with `r ≡ well_formed s`, and have no `requires`. That the fields hold is proofs/E3. Assumes nothing.
use Rattle.std.specs.Prelude.{◌≡◌, Bool, true, ◌↔◌, List, ℕ}
use Rattle.text.specs.Rfc3629.{UTF8-octets}
use Rattle.text.specs.Utf8.{well_formed}

-- what either check promises
abbrev pub Checked : List ℕ → Bool → Type 0
Checked s r = r ≡ well_formed s

pub record E3 : Type 0 where
  -- 'let the text check take runs of bytes below 128 eight at a time': the form of `text_check::is_utf8`; no promise says how an answer is come by.
  -- 'No answer, place or promise changes.': its answer is yes exactly for what RFC 3629 derives, and that is all that reading and writing ask of it
  pub answer : (s : List ℕ) (r : Bool) → Checked s r → (r ≡ true) ↔ UTF8-octets s
  -- 'The byte by byte check stays beside it, proved to answer the same' (`text_check::checks_agree` compares the two by running both, and promises yes)
  pub answer_same : (s : List ℕ) (r r' : Bool) → Checked s r → Checked s r' → r ≡ r'
  -- 'and a benchmark on 65,000 ASCII bytes shows the new one faster': `compare/text`
