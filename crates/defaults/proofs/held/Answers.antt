use Rattle.member.proofs.Finding.{found_inside}
use borrow.Author.Rules.{rules}
use Rattle.defaults.proofs.held.Goals as goal

pub text_at-requires : goal.text_at-requires
text_at-requires c = (search (found_inside), search rules, search rules)
