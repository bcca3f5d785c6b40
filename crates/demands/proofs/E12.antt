-- Request E12 holds.
use mathlib.Core.List.{List}
use Prim.Native.Nat.{ℕ}
use Rattle.draft.specs.Bytes.{Below}
use Rattle.draft.specs.Table.{place}
use Rattle.layouts.specs.Layouts.{by_rows, SameRows}
use Rattle.defaults.specs.Defaults.{source}
use Rattle.demands_writing.proofs.Writer as writer
use Rattle.demands_stations.proofs.Stations as stations
use Rattle.demands_calls.proofs.Columns as columns
use Rattle.demands.specs.E12.{AfterReading, AsBefore, E12}

after_reading : AfterReading
after_reading = record {
  read = columns.read_kept;
  card = columns.card_kept;
  piece = columns.piece_kept;
  end = columns.end_kept;
  station_read = columns.station_kept;
  station_card = columns.station_card_kept;
  station_piece = columns.station_piece_kept;
  station_end = columns.station_end_kept;
}

as_before : {T₀ T : List ℕ} → SameRows by_rows place T₀ T → Below 4294967296 T₀ → Below 4294967296 T → (rows : ℕ) (s : List ℕ) → Below 256 s → AsBefore T₀ T rows s
as_before tie w₀ w rows s o = record {
  judged = columns.writable_tied tie w₀ w rows s o;
  write = columns.write_tied tie w₀ w rows s o;
  write_planned = columns.plan_tied tie w₀ w rows s o;
  proved_shortest = columns.certified_tied tie w₀ w rows s o;
  looked_up = columns.lookup_tied tie w₀ w rows s o;
  placed = columns.position_tied tie w₀ w rows s o;
  index_filled = columns.fill_tied tie w₀ w rows s o;
  looked_through_lem = columns.through_tied tie w₀ w rows s o;
  many_looked_through = columns.reports_tied tie w₀ w rows s o;
}

pub holds : E12
holds = record {
  word_stands = columns.word_stands;
  after_reading = after_reading;
  turned_to_columns = columns.turned_columns;
  turned_to_rows = columns.turned_rows;
  as_before = as_before;
  defaults_as_before = λ T₀ U₀ T U rows rows' s s' r r' t u w₀ w x₀ x o o' key.
      columns.chosen_tied (source T₀ rows s r) (source U₀ rows' s' r') t u w₀ w x₀ x o o' key;
  share_inside = λ station split T r j h k. (columns.share_inside station split T r j h k, columns.share_word station split T r j h k);
  four_first = λ split words ok. let h = stations.shares_lie split words ok in (h.0, h.1);
  stated_columns = writer.stated_columns;
}
