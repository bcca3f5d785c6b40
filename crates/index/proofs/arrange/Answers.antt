use borrow.Author.Rules.{rules}
use Rattle.member.proofs.Finding.{entering}
use Rattle.index.proofs.Arranging.{arranging}
use Rattle.index.proofs.arrange.Goals as goal

pub returns-then-not-is_struct : goal.returns-then-not-is_struct
returns-then-not-is_struct c = search arranging

pub returns-then-n-c : goal.returns-then-n-c
returns-then-n-c c = search arranging

pub returns-then-c-gt-MOST : goal.returns-then-c-gt-MOST
returns-then-c-gt-MOST c = search arranging

pub get_row-row-requires : goal.get_row-row-requires
get_row-row-requires c = (search entering, search rules, search rules)

pub overflow_add-r : goal.overflow_add-r
overflow_add-r c = search entering

pub sort-requires : goal.sort-requires
sort-requires c = (search rules, search rules, search rules, search arranging, search rules)

pub returns : goal.returns
returns c = search arranging
