-- Request E11: the limits of nesting that a call may state. Assumes nothing.
use Rattle.std.specs.Prelude.{ℕ, Bool, ◌&&◌, leb}

-- 'a limit of 1 to 32'
unfoldable pub allowed : ℕ → Bool
allowed limit = leb 1 limit && leb limit 32
