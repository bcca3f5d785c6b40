use Rattle.long_texts.proofs.Before.{before}
use Rattle.long_texts.proofs.checked_before.Goals as goal

pub overflow_mul-rows : goal.overflow_mul-rows
overflow_mul-rows c = search before

pub returns-then-rows-text-lt-MANY_BYTES : goal.returns-then-rows-text-lt-MANY_BYTES
returns-then-rows-text-lt-MANY_BYTES c = search before
