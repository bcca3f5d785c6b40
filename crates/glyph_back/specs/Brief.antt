-- Objects whose texts are so short that ten digits write their lengths: all that a message of 65,536 bytes can hold. Assumes nothing.
use Rattle.std.specs.Prelude.{ℕ, ◌<◌, List, length}
use Rattle.draft.specs.Grammar.{Payload, holding, number, contents}
use Rattle.glyph.specs.Tree.{Tree, leaf, many, plain, ordered, Trees, none, also, Pairs, no_pairs, pair}

abbrev pub Short : List ℕ → Type 0
Short t = length t < 10000000000

abbrev pub BriefLoad : Payload → Type 0
BriefLoad (holding n) = Unit {0}
BriefLoad (number n) = Unit {0}
BriefLoad (contents t) = Short t

abbrev mutual
  pub Brief : Tree → Type 0
  Brief (leaf kind load) = BriefLoad load
  Brief (many kind ts) = Briefs ts
  Brief (plain ps) = BriefPairs ps
  Brief (ordered ps) = BriefPairs ps

  pub Briefs : Trees → Type 0
  Briefs none = Unit {0}
  Briefs (also t ts) = Brief t × Briefs ts

  pub BriefPairs : Pairs → Type 0
  BriefPairs no_pairs = Unit {0}
  BriefPairs (pair k t ps) = Short k × Brief t × BriefPairs ps
