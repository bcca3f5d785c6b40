use Rattle.member.proofs.Finding.{found_inside}
use borrow.Author.Rules.{rules}
use Rattle.lookup.proofs.look.Goals as goal

pub row_answer-requires : goal.row_answer-requires
row_answer-requires c = (search (found_inside), search rules, search rules)
