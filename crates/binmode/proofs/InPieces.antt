-- What answers each return of the exported functions on messages in pieces. Assumes nothing.
use mathlib.Core.Path.{◌≡◌, ◌∙◌, ap}
use mathlib.Core.List.{List}
use Prim.Native.Nat.{ℕ}
use Rattle.pieces.specs.declared.State.{State}
use Rattle.pieces.specs.Steps.{Went, Closed}
use Rattle.pieces.specs.Runs.{begun}
use Rattle.piece_reports.specs.Words.{words_of, state_of, Kept}
use Rattle.piece_reports.specs.Reported.{PieceReported, EndReported}

pub start_words : {state : State} {w : List ℕ} {n : ℕ} → state ≡ begun → Kept state w n → w ≡ words_of begun
start_words e f = f.words ∙ ap words_of e

module _ (limit : ℕ) (w : List ℕ) {before after : State} {w' : List ℕ} {n : ℕ} (b : before ≡ state_of w) where
  pub reports_piece : {p R T R' T' : List ℕ} → Went limit before p R T R' T' after → Kept after w' n → PieceReported limit w p R T w' R' T' n
  reports_piece g e = record { state = after; went = rw b at g; kept = e }

  pub reports_end : {bytes : ℕ} {T T' : List ℕ} → Closed limit before bytes T T' after → Kept after w' n → EndReported limit w bytes T w' T' n
  reports_end g e = record { state = after; closed = rw b at g; kept = e }

pub ruleset in_pieces = (start_words, reports_piece, reports_end)
