use Rattle.binmode.proofs.AtStations.{at_stations}
use borrow.Author.Rules.{rules}
use Rattle.binmode.proofs.stations.binmode_station_position.Statement.{statement}
use Rattle.binmode.proofs.stations.binmode_station_position.Tie as tie

pub binmode_station_position_spec : {M : Type 1} → statement M
binmode_station_position_spec = tie.close (tie.spec
    (λ c κs. search rules)  -- split-for-requires
    (λ c κs. search rules)  -- station-of-requires
    (λ c κs. search rules)  -- position-of-requires
    (λ c κs. search rules)  -- position-requires
    (λ c. search at_stations))  -- returns
