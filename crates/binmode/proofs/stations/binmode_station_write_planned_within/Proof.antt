use Rattle.binmode.proofs.AtStations.{at_stations}
use borrow.Author.Rules.{rules}
use Rattle.binmode.proofs.stations.binmode_station_write_planned_within.Statement.{statement}
use Rattle.binmode.proofs.stations.binmode_station_write_planned_within.Tie as tie

pub binmode_station_write_planned_within_spec : {M : Type 1} → statement M
binmode_station_write_planned_within_spec = tie.close (tie.spec
    (λ c κs. search rules)  -- split-for-requires
    (λ c κs. search rules)  -- station-of-requires
    (λ c κs. search rules)  -- write-requires
    (λ c κs. search rules)  -- planned-requires
    (λ c. search rules)  -- same-length
    (λ c. search at_stations))  -- returns
