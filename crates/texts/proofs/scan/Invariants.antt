use Rattle.std.proofs.Common.{◌≡◌, length}
use Rattle.draft.specs.Table.{row_at}
use Rattle.buckets.specs.Numbered.{numbered_text}
use Rattle.buckets.specs.Chains.{Chains}
use Rattle.texts.proofs.Scanning.{Scan}
use Rattle.texts.proofs.scan.Given as goal

abbrev pub invariant-loop-j : goal.invariant-loop-j
invariant-loop-j l =
    record {
      scanned : Scan (numbered_text (row_at l.room l.table) l.strings l.text) l.count l.j l.sum l.firsts;
      chained : Chains (numbered_text (row_at l.room l.table) l.strings l.text) l.j l.heads l.nexts;
      as_many_firsts : length l.firsts ≡ length l.initial.firsts;
      as_many_heads : length l.heads ≡ length l.initial.heads;
      as_many_nexts : length l.nexts ≡ length l.initial.nexts;
    }
