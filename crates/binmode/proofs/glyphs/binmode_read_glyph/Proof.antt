use Rattle.binmode.proofs.Glyphing.{glyphing}
use borrow.Author.Rules.{rules}
use Rattle.binmode.proofs.glyphs.binmode_read_glyph.Statement.{statement}
use Rattle.binmode.proofs.glyphs.binmode_read_glyph.Tie as tie

pub binmode_read_glyph_spec : {M : Type 1} → statement M
binmode_read_glyph_spec = tie.close (tie.spec
    (λ c κs. search rules)  -- read-requires
    (λ c κs. search rules)  -- message-requires
    (λ c. search rules)  -- same-length
    (λ c. search glyphing))  -- returns
