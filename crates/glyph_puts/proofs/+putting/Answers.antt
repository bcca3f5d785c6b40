use Rattle.std.proofs.Common.{rules, arith, refl}
use Rattle.glyph_output.proofs.Adding.{open_next}
use Rattle.glyph_puts.proofs.Fitting.{fitting}
use Rattle.glyph_puts.proofs.Puts.{row_end, letter_put, dict_put_whole, dict_values_ready, run_open, puts, texts, listing, list_first, list_in, list_again, list_leaf, list_done, pairing, pairs_first, pairs_in, pairs_fits, pairs_again, pairs_done, ranks, ranks_first, ranks_again, ranks_done}
use Rattle.glyph_puts.proofs.+putting.Goals as goal
use Rattle.glyph_puts.proofs.+putting.Goals.{put_entries-then-holds, put_entries-else-holds}

pub put_container-returns-then-deep-eq0 : goal.put_container-returns-then-deep-eq0
put_container-returns-then-deep-eq0 t c = search puts

pub put_container-overflow_add-first : goal.put_container-overflow_add-first
put_container-overflow_add-first t c = search fitting

pub put_container-put_dict-requires : goal.put_container-put_dict-requires
put_container-put_dict-requires t c = (search rules, (search rules, search rules, search fitting, search fitting))

pub put_container-returns-in-9 : goal.put_container-returns-in-9
put_container-returns-in-9 t c = search puts

pub put_container-returns-in-10 : goal.put_container-returns-in-10
put_container-returns-in-10 t c = search puts

pub put_container-returns-in-14 : goal.put_container-returns-in-14
put_container-returns-in-14 t c = search puts

pub put_container-returns-in-15 : goal.put_container-returns-in-15
put_container-returns-in-15 t c = search puts

pub put_container-returns-in-16 : goal.put_container-returns-in-16
put_container-returns-in-16 t c = search puts

pub put_container-returns-in_default : goal.put_container-returns-in_default
put_container-returns-in_default t c = search puts

pub put_dict-loop-i-init : goal.put_dict-loop-i-init
put_dict-loop-i-init t c =
    ranks_first c.args.n _ (open_next c.requires.1 c.put_byte-stop.ensures (search rules)) (search rules) (dict_values_ready c.requires.3 c.arrange.ensures (search rules))

pub put_dict-put_pair-stop-requires : goal.put_dict-put_pair-stop-requires
put_dict-put_pair-stop-requires t c = (search rules, (search rules, search (rules, open_next, ranks), search ranks))

pub put_dict-loop-i-preserved : goal.put_dict-loop-i-preserved
put_dict-loop-i-preserved t c =
    ranks_again c.loop-i.invariant c.loop-i-test.true refl (open_next c.requires.1 c.put_byte-stop.ensures (search rules)) c.put_pair-stop.ensures (search rules)

pub put_dict-put_byte-requires : goal.put_dict-put_byte-requires
put_dict-put_byte-requires t c = search (rules, open_next, ranks)

pub put_dict-returns : goal.put_dict-returns
put_dict-returns t c =
    dict_put_whole c.requires.3 c.arrange.ensures c.requires.1 c.put_byte-stop.ensures
    (ranks_done c.loop-i.invariant (open_next c.requires.1 c.put_byte-stop.ensures (search rules)) (omega arith) c.put_byte.ensures)

pub put_entries-get_row-row-requires : goal.put_entries-get_row-row-requires
put_entries-get_row-row-requires t c = (list_in c.loop.invariant (omega arith), search rules, search rules)

pub put_entries-put_container-stop-requires : goal.put_entries-put_container-stop-requires
put_entries-put_container-stop-requires t c = (search rules, (search rules, search listing, search (rules, listing), search rules, search listing))

pub put_entries-put_leaf-stop-requires : goal.put_entries-put_leaf-stop-requires
put_entries-put_leaf-stop-requires t c = (search rules, search listing)

pub put_entries-loop-preserved : goal.put_entries-loop-preserved
put_entries-loop-preserved t c =
    elim c.if-holds.branch [
      | put_entries-then-holds w ↦
          rw (w.order-is, w.out-is, w.stop-is)
          (list_again c.loop.invariant c.requires.1 (omega arith) c.get_row-row.ensures (omega arith) w.put_container-stop.ensures (search rules) (search rules))
      | put_entries-else-holds w ↦
          rw (w.order-is, w.out-is, w.stop-is)
          (list_leaf c.loop.invariant c.requires.1 (omega arith) c.get_row-row.ensures (omega arith) c.holds.ensures w.if-holds.false w.put_leaf-stop.ensures (search rules))
    ]

pub put_entries-returns : goal.put_entries-returns
put_entries-returns t c = list_done c.loop.invariant c.requires.1 (omega arith)

pub put_list-put_entries-stop-requires : goal.put_list-put_entries-stop-requires
put_list-put_entries-stop-requires t c = (search rules, (search rules, search open_next, search rules))

pub put_list-put_byte-requires : goal.put_list-put_byte-requires
put_list-put_byte-requires t c = run_open c.requires.1 c.put_byte-start.ensures (search rules) c.put_entries-stop.ensures (search rules)

pub put_list-returns : goal.put_list-returns
put_list-returns t c = search puts

pub put_ordered-loop-init : goal.put_ordered-loop-init
put_ordered-loop-init t c = pairs_first _ (omega arith) (open_next c.requires.1 c.put_byte-stop.ensures (search rules)) c.requires.2

pub put_ordered-put_pair-stop-requires : goal.put_ordered-put_pair-stop-requires
put_ordered-put_pair-stop-requires t c = (search rules, (search rules, search (rules, open_next, pairing), search (rules, pairing)))

pub put_ordered-overflow_add-here : goal.put_ordered-overflow_add-here
put_ordered-overflow_add-here t c = pairs_fits c.loop.invariant (omega arith) (search rules)

pub put_ordered-get_row-here-requires : goal.put_ordered-get_row-here-requires
put_ordered-get_row-here-requires t c = (pairs_in c.loop.invariant (omega arith), search rules, search rules)

pub put_ordered-loop-preserved : goal.put_ordered-loop-preserved
put_ordered-loop-preserved t c =
    pairs_again c.loop.invariant (open_next c.requires.1 c.put_byte-stop.ensures (search rules)) (omega arith) c.put_pair-stop.ensures (search rules) (row_end c.get_row-here.ensures)

pub put_ordered-put_byte-requires : goal.put_ordered-put_byte-requires
put_ordered-put_byte-requires t c = search (rules, open_next, pairing)

pub put_ordered-returns : goal.put_ordered-returns
put_ordered-returns t c =
    letter_put c.requires.1 79 c.put_byte-stop.ensures
    (pairs_done c.loop.invariant (open_next c.requires.1 c.put_byte-stop.ensures (search rules)) (omega arith) c.put_byte.ensures)

pub put_pair-overflow_add-k : goal.put_pair-overflow_add-k
put_pair-overflow_add-k t c = search fitting

pub put_pair-put_entries-requires : goal.put_pair-put_entries-requires
put_pair-put_entries-requires t c = (search rules, (search rules, search open_next, search fitting))

pub put_pair-returns : goal.put_pair-returns
put_pair-returns t c = search puts

pub put_container-put_list-requires : goal.put_container-put_list-requires
put_container-put_list-requires t c = (search rules, (search rules, search rules, search fitting))

pub put_container-put_ordered-requires : goal.put_container-put_ordered-requires
put_container-put_ordered-requires t c = (search rules, (search rules, search rules, search fitting))

pub put_container-put_list-requires-in-15 : goal.put_container-put_list-requires-in-15
put_container-put_list-requires-in-15 t c = (search rules, (search rules, search rules, search fitting))

pub put_container-put_list-requires-in-16 : goal.put_container-put_list-requires-in-16
put_container-put_list-requires-in-16 t c = (search rules, (search rules, search rules, search fitting))

pub put_dict-arrange-requires : goal.put_dict-arrange-requires
put_dict-arrange-requires t c = (search rules, search rules, search rules, search fitting)

pub put_entries-loop-init : goal.put_entries-loop-init
put_entries-loop-init t c = list_first _ (omega arith) c.requires.1 c.requires.2

pub put_pair-put_content-start-requires : goal.put_pair-put_content-start-requires
put_pair-put_content-start-requires t c = (search rules, search texts)
