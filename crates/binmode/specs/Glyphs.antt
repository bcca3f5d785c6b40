-- What the exported functions on glyph messages report: the papers' numbers, and the table or the output after the call. Assumes nothing.
use Rattle.std.specs.Prelude.{◌≡◌, Err, List, ℕ, length}
use Rattle.shares.specs.Share.{no_share, station_of, split_for, on_share, table_on}
use Rattle.glyph.specs.declared.Edition.{Edition}
use Rattle.glyph.specs.Read.{Reading}
use Rattle.glyph.specs.Answers.{table_of}
use Rattle.glyph_form.specs.Form.{form_of}
use Rattle.glyph_form.specs.Answers.{answer_of, output_of}
use Rattle.glyph_stations.specs.Answers.{read_answer, read_words, write_answer, written_bytes}
use Rattle.glyph_reports.specs.Numbers.{Report, reading_report, station_report_of}
use Rattle.glyph_reports.specs.Writing as writing

-- of a reading into a table of so many words, which is T' after the call
pub record GlyphReported (o : Reading) (words : ℕ) (T' : List ℕ) (r : Report) : Type 0 where
  pub numbers : r ≡ reading_report o
  pub table : T' ≡ table_of words o

-- for a station, by its number
pub record StationGlyph (e : Edition) (limit : ℕ) (s : List ℕ) (number split : ℕ) (T T' : List ℕ) (r : Report) : Type 0 where
  pub numbers : r ≡ station_report_of (on_share (station_of number) (split_for number split) T (read_answer e limit s) (Err no_share))
  pub table : T' ≡ table_on (station_of number) (split_for number split) T (read_words e limit s)

-- of writing a table, with a limit of nesting and so many stated rows, whose texts lie in s, into an output that is out before the call and out' after it
pub record GlyphWritten (e : Edition) (limit : ℕ) (T : List ℕ) (rows : ℕ) (s out out' : List ℕ) (r : writing.Report) : Type 0 where
  pub numbers : r ≡ writing.report_of (answer_of e limit T rows s (length out))
  pub output : out' ≡ output_of (answer_of e limit T rows s (length out)) (form_of e limit T s) (length out)

pub record StationGlyphWritten (e : Edition) (limit : ℕ) (T : List ℕ) (number split rows : ℕ) (s out out' : List ℕ) (r : writing.Report) : Type 0 where
  pub numbers : r ≡ writing.station_report_of (on_share (station_of number) (split_for number split) T (write_answer e limit rows s (length out)) (Err no_share))
  pub output : out' ≡ on_share (station_of number) (split_for number split) T (written_bytes e limit rows s (length out)) out
