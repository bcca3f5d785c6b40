-- The table of cases holds: each is computed by the definitions. Assumes nothing.
use mathlib.Core.Path.{◌≡◌, refl}
use Rattle.text.specs.Utf8.{within, due_by, due_after, step, octets, well_formed}
use Rattle.text.specs.Texts.{ascii, same, among, standard_name}
use Rattle.lexical.specs.Digits.{digit, digits, pair as twoDigits, two}
use Rattle.lexical.specs.Double.{sign, some_digits, pointed, unsigned, is_double}
use Rattle.lexical.specs.DateTime.{leap, month_days, is_day, is_date, pair_to, is_time, parted, is_date_time}
use Rattle.draft.specs.Rows.{item_of}
use Rattle.draft.specs.Content.{content_rule, verdict, name_rule, key_rule, held_of, is_code, is_message, is_fault, fault_rule}
use Rattle.draft.specs.Codebook.{recorded}
use Rattle.draft.specs.Table.{place, set_row, put_rows, row_at, from}
use Rattle.draft.specs.Read.{pair, items, alike, nothing, tag_of, contents, string, only, string_by, key, member, keeping, value, nested, held_rows, fault_struct, call_or_response, agree, message, message_within}
use Rattle.draft.specs.Strings.{texts_of, repeats, position, sents}
use Rattle.draft.specs.Written.{lsb, counted, string_bytes, item_bytes, items_of, message_of, written, rows_of}
use Rattle.draft.specs.Limits.{allowed}
use Rattle.read_answer.specs.Answers.{reading}
use Rattle.demands_reading.specs.Cases.{cases, given, expected}

pub cases_read : given cases ≡ expected cases
unfolding cases reading allowed message_within message agree call_or_response fault_struct held_rows held_of is_code is_message is_fault fault_rule nested value keeping member key string_by only string contents tag_of nothing alike items pair put_rows set_row place recorded key_rule name_rule verdict content_rule is_double unsigned pointed some_digits sign is_date_time parted is_time pair_to is_date is_day month_days leap two twoDigits digits digit standard_name among same ascii well_formed octets step due_after due_by within row_at from rows_of item_of texts_of repeats position sents lsb counted string_bytes item_bytes items_of message_of written
cases_read = refl
