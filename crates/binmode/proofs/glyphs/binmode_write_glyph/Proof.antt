use Rattle.binmode.proofs.Glyphing.{glyphing}
use borrow.Author.Rules.{rules}
use Rattle.binmode.proofs.glyphs.binmode_write_glyph.Statement.{statement}
use Rattle.binmode.proofs.glyphs.binmode_write_glyph.Tie as tie

pub binmode_write_glyph_spec : {M : Type 1} → statement M
binmode_write_glyph_spec = tie.close (tie.spec
    (λ c κs. search rules)  -- write-requires
    (λ c κs. search rules)  -- written-requires
    (λ c. search rules)  -- same-length
    (λ c. search glyphing))  -- returns
