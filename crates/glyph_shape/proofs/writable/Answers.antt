use Rattle.glyph_shape.proofs.Whole.{whole}
use Rattle.glyph_shape.proofs.writable.Goals as goal
use Rattle.glyph_shape.proofs.writable.Goals.{then-text-gt-MOST_BYTES-via-then-text-gt-MOST_BYTES, then-text-gt-MOST_BYTES-via-else-text-gt-MOST_BYTES+then-rows-eq0, then-text-gt-MOST_BYTES-via-else-text-gt-MOST_BYTES+else-rows-eq0+then-rows-gt-MOST_ROWS, then-text-gt-MOST_BYTES-via-else-text-gt-MOST_BYTES+else-rows-eq0+else-rows-gt-MOST_ROWS+then-table-rows}

pub returns-then-text-gt-MOST_BYTES : goal.returns-then-text-gt-MOST_BYTES
returns-then-text-gt-MOST_BYTES c =
    elim c.then-text-gt-MOST_BYTES.branch [
      | then-text-gt-MOST_BYTES-via-then-text-gt-MOST_BYTES w ↦ search whole
      | then-text-gt-MOST_BYTES-via-else-text-gt-MOST_BYTES+then-rows-eq0 w ↦ search whole
      | then-text-gt-MOST_BYTES-via-else-text-gt-MOST_BYTES+else-rows-eq0+then-rows-gt-MOST_ROWS w ↦ search whole
      | then-text-gt-MOST_BYTES-via-else-text-gt-MOST_BYTES+else-rows-eq0+else-rows-gt-MOST_ROWS+then-table-rows w ↦ search whole
    ]

pub returns : goal.returns
returns c = search whole
