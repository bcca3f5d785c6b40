-- What answers each return of the exported functions on glyph messages. Assumes nothing.
use mathlib.Core.Path.{◌≡◌, ◌∙◌, ap}
use mathlib.Core.List.{List}
use Prim.Native.Nat.{ℕ}
use Rattle.shares.specs.declared.Station.{Station}
use Rattle.shares.specs.Share.{station_of, split_for}
use Rattle.glyph.specs.declared.Edition.{Edition}
use Rattle.glyph.specs.Read.{Reading}
use Rattle.glyph.specs.Answers.{Answer, Answers}
use Rattle.glyph_form.specs.Answers as W
use Rattle.glyph_form.specs.Answers.{Did}
use Rattle.glyph_stations.specs.Answers.{StationAnswer, ReadFor, WroteFor, WriteAnswer}
use Rattle.glyph_reports.specs.Numbers.{Report, report_of, station_report_of}
use Rattle.glyph_reports.specs.Writing as writing
use Rattle.glyph_reports.proofs.Telling.{report_is}
use Rattle.binmode.specs.Glyphs.{GlyphReported, StationGlyph, GlyphWritten, StationGlyphWritten}

pub reports_glyph :
    (o : Reading) {words : ℕ} {T : List ℕ} {a : Answer} {r : Report} → Answers o words T a → r ≡ report_of a → GlyphReported o words T r
reports_glyph o d e = record { numbers = e ∙ ap report_of d.says ∙ report_is o; table = d.leaves }

pub reports_station :
    (number split : ℕ) {row : ℕ} {station : Station} → row ≡ split_for number split → station ≡ station_of number → (e : Edition) (limit : ℕ) (s : List ℕ)
    → {T T' : List ℕ} {a : StationAnswer} {r : Report} → ReadFor e limit s station row T T' a → r ≡ station_report_of a
    → StationGlyph e limit s number split T T' r
reports_station number split i k e limit s d f =
    let g = rw (i, k) at d in
    record { numbers = f ∙ ap station_report_of g.says; table = g.leaves }

pub reports_written :
    (e : Edition) (limit : ℕ) (T : List ℕ) (rows : ℕ) (s out : List ℕ) {out' : List ℕ} {a : W.Answer} {r : writing.Report} → Did e limit T rows s out out' a
    → r ≡ writing.report_of a → GlyphWritten e limit T rows s out out' r
reports_written e limit T rows s out d f = record { numbers = f ∙ ap writing.report_of d.says; output = d.leaves ∙ rw d.says }

pub reports_station_written :
    (number split : ℕ) {row : ℕ} {station : Station} → row ≡ split_for number split → station ≡ station_of number → (e : Edition) (limit : ℕ) (T : List ℕ)
    → (rows : ℕ) (s out : List ℕ) {out' : List ℕ} {a : WriteAnswer} {r : writing.Report} → WroteFor e limit T station row rows s out out' a
    → r ≡ writing.station_report_of a → StationGlyphWritten e limit T number split rows s out out' r
reports_station_written number split i k e limit T rows s out d f =
    let g = rw (i, k) at d in
    record { numbers = f ∙ ap writing.station_report_of g.says; output = g.leaves }

pub ruleset glyphing = (reports_glyph, reports_station, reports_written, reports_station_written)
