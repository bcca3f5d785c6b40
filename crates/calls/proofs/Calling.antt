-- What answers each return of the functions that read a Call. Assumes nothing.
use Rattle.item.proofs.Readings.{at_in, row_in, did_ends, opened_full, opened_on, only_short, only_no, only_on, pair_first, pair_both, over_closed}
use Rattle.item.proofs.Items.{ahead_next, one_in}
use Rattle.member_keys.proofs.Keying.{prepared_blank, string_entries}
use Rattle.heads.proofs.Values.{array_read}

pub ruleset calling = (only_short, only_no, only_on, pair_first, pair_both, at_in, row_in, did_ends, opened_full, opened_on, over_closed, ahead_next, one_in, prepared_blank, string_entries, array_read)
