use Rattle.std.proofs.Common.{rules}
use Rattle.glyph_reader.proofs.Messages.{whole, read_on, body_ok, body_err, zeros}
use Rattle.glyph_reader.proofs.read.Goals.{then-limit-lt1-via-then-limit-lt1, then-limit-lt1-via-else-limit-lt1+then-limit-gt-MOST_NESTING}
use Rattle.glyph_reader.proofs.read.Goals as goal

pub returns-then-limit-lt1 : goal.returns-then-limit-lt1
returns-then-limit-lt1 c = elim c.then-limit-lt1.branch [
  | then-limit-lt1-via-then-limit-lt1 w ↦ search whole
  | then-limit-lt1-via-else-limit-lt1+then-limit-gt-MOST_NESTING w ↦ search whole
]

pub returns-then-message-gt-MOST_BYTES : goal.returns-then-message-gt-MOST_BYTES
returns-then-message-gt-MOST_BYTES c = search whole

pub returns-then-is_err : goal.returns-then-is_err
returns-then-is_err c =
    read_on _ _ _ _ (search rules) (search rules) _ (search rules)
    (body_err c.read_body-answer.ensures c.is_err.ensures.value c.if-is_err.true (zeros _ _ c.clear-then-is_err.ensures (search rules)))
    (search rules)

pub returns-else-is_err : goal.returns-else-is_err
returns-else-is_err c =
    read_on _ _ _ _ (search rules) (search rules) _ (search rules)
    (body_ok c.read_body-answer.ensures c.is_err.ensures.value c.if-is_err.false)
    (search rules)
