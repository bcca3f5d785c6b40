use Rattle.std.proofs.Common.{rules}
use Rattle.keys.proofs.Chaining.{noting, note_new}
use Rattle.keys.proofs.note_in.Goals as goal

pub find-requires : goal.find-requires
find-requires c = (search rules, search rules, search noting)

pub returns-then-find : goal.returns-then-find
returns-then-find c = search noting

pub returns : goal.returns
returns c = note_new c.requires.2 c.requires.1 c.requires.3 c.text_of-key.ensures c.find.ensures c.if-find.false c.join.ensures
