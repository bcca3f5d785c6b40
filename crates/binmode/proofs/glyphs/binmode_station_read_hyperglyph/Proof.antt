use Rattle.binmode.proofs.Glyphing.{glyphing}
use borrow.Author.Rules.{rules}
use Rattle.binmode.proofs.glyphs.binmode_station_read_hyperglyph.Statement.{statement}
use Rattle.binmode.proofs.glyphs.binmode_station_read_hyperglyph.Tie as tie

pub binmode_station_read_hyperglyph_spec : {M : Type 1} → statement M
binmode_station_read_hyperglyph_spec = tie.close (tie.spec
    (λ c κs. search rules)  -- split-for-requires
    (λ c κs. search rules)  -- station-of-requires
    (λ c κs. search rules)  -- read-requires
    (λ c κs. search rules)  -- station-requires
    (λ c. search rules)  -- same-length
    (λ c. search glyphing))  -- returns
