use Rattle.binmode.proofs.AtStations.{at_stations}
use borrow.Author.Rules.{rules}
use Rattle.binmode.proofs.stations.binmode_station_lookup.Statement.{statement}
use Rattle.binmode.proofs.stations.binmode_station_lookup.Tie as tie

pub binmode_station_lookup_spec : {M : Type 1} → statement M
binmode_station_lookup_spec = tie.close (tie.spec
    (λ c κs. search rules)  -- split-for-requires
    (λ c κs. search rules)  -- station-of-requires
    (λ c κs. search rules)  -- lookup-requires
    (λ c κs. search rules)  -- member-requires
    (λ c. search at_stations))  -- returns
