-- Content by what is asked of it: which has no rule, and which was checked before its row is walked. Assumes nothing.
use Rattle.std.specs.Prelude.{Bool, true, false, ◌&&◌, ℕ, ltb, leb}
use Rattle.draft.specs.declared.Content.{Content as ContentOf}
use Rattle.draft.specs.declared.Content.TheVariants.{Double, DateTime, Binary, Text}

abbrev pub is_text : ContentOf → Bool
is_text Double = false
is_text DateTime = false
is_text Binary = false
is_text Text = true

abbrev pub is_binary : ContentOf → Bool
is_binary Double = false
is_binary DateTime = false
is_binary Binary = true
is_binary Text = false

-- whether content of n bytes in row r was checked before
unfoldable pub checked_before : ContentOf → ℕ → ℕ → ℕ → Bool
checked_before c n r good = ltb r good && (leb 512 n && is_text c)
