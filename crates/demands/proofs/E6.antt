-- Request E6 holds, of the functions of crate `pieces` and of the exported calls. Assumes nothing.
use mathlib.Core.List.{List}
use Prim.Native.Nat.{ℕ}
use Rattle.pieces.specs.declared.State.{State}
use Rattle.pieces.specs.Steps.{told, Closed}
use Rattle.pieces.specs.Runs.{begun, Runs}
use Rattle.piece_reports.specs.Words.{words_of, told_by}
use Rattle.piece_reports.specs.Calls.{Calls, EndCall}
use Rattle.piece_reports.proofs.Keeping.{returned}
use Rattle.demands_pieces.proofs.Pieces as by_state
use Rattle.demands_pieces.proofs.Exported as by_words
use Rattle.demands.specs.E6.{E6, InPieces}

functions : InPieces State begun told Runs Closed
functions = record {
  after_each = λ r. by_state.so_far_lem _ r.limited _ _ r.long _ r.calls;
  as_whole = λ r few e. let i = by_state.as_whole _ r.limited _ _ r.long _ r.calls few e in (i.says, i.table);
  past_stays = λ c. by_state.past_call _ c;
  more_exactly = λ r. by_state.more_exactly _ r.limited _ _ r.long _ r.calls;
  more_zeros = λ r. by_state.more_zeros _ r.limited _ _ r.long _ _ r.calls;
  brought = λ r h. by_state.brought _ r.limited _ _ r.long _ _ r.calls h;
  later_pieces = λ r h c. by_state.later_calls _ r.limited _ _ r.long _ r.calls h c;
  settled = λ r o l. by_state.settled _ r.limited _ _ r.long _ _ o.long l _ _ r.calls o.calls;
  room_holds = λ r h c. by_state.room_next _ r.limited _ _ r.long _ r.calls h c;
  ten_only = λ r t. by_state.ten_told _ r.limited _ _ r.long _ r.calls t;
  ten_given = λ r h k. by_state.ten_given _ r.limited _ _ r.long _ r.calls h k;
  short_room = λ ok h c. by_state.short_call _ ok h c;
  short_room_end = λ ok h e. by_state.short_room_end _ _ e ok h;
}

exports : InPieces (List ℕ) (words_of begun) told_by Calls EndCall
exports = record {
  after_each = λ r. by_words.so_far_lem _ r.limited _ _ r.long _ r.calls;
  as_whole = λ r few e. by_words.as_whole _ r.limited _ _ r.long _ r.calls few e;
  past_stays = λ c. by_words.past_stays _ c;
  more_exactly = λ r. by_words.more_exactly _ r.limited _ _ r.long _ r.calls;
  more_zeros = λ r. by_words.more_zeros _ r.limited _ _ r.long _ _ r.calls;
  brought = λ r h. by_words.brought _ r.limited _ _ r.long _ _ r.calls h;
  later_pieces = λ r h c. by_words.later_pieces _ r.limited _ _ r.long _ r.calls h c;
  settled = λ r o l. by_words.settled _ r.limited _ _ r.long _ _ o.long l _ _ r.calls o.calls;
  room_holds = λ r h c. by_words.room_next _ r.limited _ _ r.long _ r.calls h c;
  ten_only = λ r t. by_words.ten_told _ r.limited _ _ r.long _ r.calls t;
  ten_given = λ r h k. by_words.ten_given _ r.limited _ _ r.long _ r.calls h k;
  short_room = λ ok h c. by_words.short_room _ ok h c;
  short_room_end = λ ok h e. by_words.short_room_end _ ok h e;
}

pub holds : E6
holds = record {
  with_one = by_state.with_one;
  functions = functions;
  exports = exports;
  next_returns = λ r. returned r.kept;
  end_returns = λ r. returned r.kept;
}
