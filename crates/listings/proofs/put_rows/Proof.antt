use mathlib.Core.Path.{◌≡◌}
use Prim.Native.Nat.{◌-◌}
use lib.ListN.{length}
use Rattle.listings.proofs.Listing.{listed, Listing, rows_again}
use borrow.Author.Rules.{rules}
use Rattle.listings.proofs.put_rows.Statement.{statement}
use Rattle.listings.proofs.put_rows.Tie as tie

abbrev invariant-loop-r : tie.invariant-loop-r
invariant-loop-r line₀ at table rows room last end₀ r₀ line end r = Listing room table last line₀ at r line end × (length line ≡ length line₀)

abbrev decreases-loop-r : tie.decreases-loop-r
decreases-loop-r line₀ at table rows room last end₀ r₀ line end r = last - r

loop-again : tie.Need-loop-r-preserved invariant-loop-r decreases-loop-r
loop-again c = (rows_again c.loop-r.invariant.0 (search rules) c.get_row.ensures c.put_row-end.ensures, search rules)

pub put_rows_spec : {M : Type 1} → statement M
put_rows_spec = tie.close (tie.spec
    invariant-loop-r
    decreases-loop-r
    (λ c κs. search rules)  -- room-of-requires
    (λ c κs. search rules)  -- least-requires
    (λ c. search listed)  -- loop-holds
    (λ c κs. (search listed, search rules, search rules))  -- get-row-requires
    (λ c κs. search rules)  -- put-row-requires
    (λ c. search rules)  -- add-r
    (λ c. search rules)  -- loop-less
    loop-again
    (λ c. search rules)  -- same-length
    (λ c. search listed))  -- returns
