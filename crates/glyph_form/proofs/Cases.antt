-- Writing gives what the table of cases says. Assumes nothing.
use mathlib.Core.Path.{◌≡◌, refl}
use Rattle.text.specs.Utf8.{within, due_by, due_after, step, octets, well_formed}
use Rattle.text.specs.Texts.{same, among}
use Rattle.lexical.specs.Digits.{digit}
use Rattle.order.specs.ByteOrder.{compared}
use Rattle.draft.specs.Limits.{allowed}
use Rattle.draft.specs.Content.{content_rule, verdict, key_rule}
use Rattle.draft.specs.Table.{place, set_row, put_rows, row_at}
use Rattle.draft.specs.Writable.{pair, items, alike, nothing, content_item, only, string, string_by, member, keeping}
use Rattle.glyph.specs.Letters.{letter_of}
use Rattle.glyph.specs.Numbers.{is_blank, blanks, past, digits, decimal, is_minus, signs, in_range}
use Rattle.glyph.specs.Read.{good_text, single, number_from, content, lengthened, text, run, distinct, entry as read_entry, kept as readKept, many, three, object as readObject, root, message}
use Rattle.glyph.specs.Answers.{reading}
use Rattle.glyph_form.specs.Sorts.{sort_of, meets}
use Rattle.glyph_form.specs.Writable.{entry, kept, entries, object, writable_within, writable}
use Rattle.glyph_form.specs.Told.{trees, pairs, tree_at}
use Rattle.glyph_form.specs.Form.{insert, sort, canon, canon_all, canon_pairs, digits_before, integer_bytes, boolean_bytes, content_bytes, leaf_bytes, letter_for, bytes_of, bytes_of_all, bytes_of_pairs, written as formOfTree, form_within, form_of}
use Rattle.glyph_form.specs.Answers.{answer_of}
use Rattle.glyph_form.specs.Cases.{cases, expected, written}

pub cases_written : written cases ≡ expected cases
unfolding cases answer_of allowed form_of form_within formOfTree bytes_of_pairs bytes_of_all bytes_of letter_for leaf_bytes content_bytes boolean_bytes integer_bytes digits_before canon_pairs canon_all canon sort insert compared tree_at pairs trees writable writable_within object entries kept entry meets sort_of keeping member string_by string only content_item nothing alike items pair row_at put_rows set_row place key_rule verdict content_rule reading message root readObject three many readKept read_entry distinct run text lengthened content number_from single good_text in_range signs is_minus decimal digits past blanks is_blank letter_of digit among same well_formed octets step due_after due_by within
cases_written = refl
