use Rattle.plan_message.proofs.Writing.{message_least, message_items, message_start, message_on, message_room, message_fits, message_put}
use borrow.Author.Rules.{rules}
use Rattle.plan_message.proofs.put_message.Statement.{statement}
use Rattle.plan_message.proofs.put_message.Tie as tie

pub put_message_spec : {M : Type 1} → statement M
put_message_spec = tie.close (tie.spec
    (λ c κs. search message_start)  -- put_bytes-requires
    (λ c. search message_least)  -- overflow_sub-n
    (λ c. search message_on)  -- slice_bounds-put_items-count
    (λ c. search message_on)  -- slice_bounds-put_items-start
    (λ c. search rules)  -- slice_bounds-put_items-end
    (λ c κs. (search rules, search rules, search message_items, search message_room, search rules))  -- put_items-requires
    (λ c. search message_fits)  -- overflow_add-result
    (λ c. search rules)  -- shape_of-output
    (λ c. search message_put))  -- returns
