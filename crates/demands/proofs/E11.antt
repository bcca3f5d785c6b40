-- Request E11 holds.
use mathlib.Core.Path.{◌≡◌}
use mathlib.Core.Bool.{true}
use mathlib.Core.List.{List}
use Prim.Native.Nat.{ℕ}
use lib.ListN.{length}
use Rattle.shares.specs.declared.Station.{Station}
use Rattle.shares.specs.Share.{splits}
use Rattle.demands_writing.proofs.Accepting as accepting
use Rattle.demands_writing.proofs.Writer as writer
use Rattle.demands_plans.proofs.Plans as plans
use Rattle.demands_pieces.proofs.Pieces as pieces
use Rattle.demands_calls.proofs.Stated as stated
use Rattle.demands_calls.proofs.Limits as limits
use Rattle.demands.specs.E11.{Judged, NotLower, Growth, Outside, OutsideOnShare, E11}

judged : Judged
judged = record {
  looked_up = stated.lookup_judged;
  index_filled = stated.index_judged;
  looked_through_lem = stated.through_judged;
  defaulted = stated.defaults_judged;
}

not_lower : NotLower
not_lower = record {
  from_the_reader = accepting.from_the_reader;
  from_the_reader_planned = λ limit s words later p out₀ out o w h c d. plans.from_the_reader limit s words later o h c p out₀ out w d;
  read_back = writer.read_back;
  read_back_planned = plans.read_back;
}

growth : Growth
growth = record {
  read_grows = limits.read_stays;
  card_grows = limits.card_stays;
  station_grows = limits.station_stays;
  station_card_grows = limits.station_card_stays;
  piece_grows = limits.piece_stays;
  end_grows = limits.end_stays;
  station_piece_grows = limits.station_piece_stays;
  station_end_grows = limits.station_end_stays;
}

outside : Outside
outside = record {
  read = stated.read_unlimited;
  write = stated.write_unlimited;
  write_planned = stated.planned_unlimited;
  pieces = stated.pieces_unlimited;
  next = pieces.no_limit;
  end = pieces.no_limit_end;
}

outside_on_share : (at : Station) (split : ℕ) (T : List ℕ) → splits split (length T) ≡ true → (limit : ℕ) → OutsideOnShare at split T limit
outside_on_share at split T ok limit = record {
  read = stated.station_read_unlimited at split T ok limit;
  next = stated.station_piece_unlimited at split T ok limit;
  end = stated.station_end_unlimited at split T ok limit;
  write = stated.station_write_unlimited at split T ok limit;
  write_planned = stated.station_planned_unlimited at split T ok limit;
}

pub holds : E11
holds = record {
  limits = stated.allowed_exactly;
  job_states = λ s words start size d. (d.says, d.leaves);
  judged = judged;
  not_lower = not_lower;
  growth = growth;
  outside = outside;
  outside_on_share = outside_on_share;
}
