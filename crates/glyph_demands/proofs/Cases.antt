-- Reading gives what the table of cases says. Assumes nothing.
use mathlib.Core.Path.{◌≡◌, refl}
use Rattle.text.specs.Utf8.{within, due_by, due_after, step, octets, well_formed}
use Rattle.text.specs.Texts.{same, among}
use Rattle.lexical.specs.Digits.{digit}
use Rattle.glyph.specs.Letters.{letter_of}
use Rattle.glyph.specs.Numbers.{is_blank, blanks, past, digits, decimal, is_minus, signs, in_range}
use Rattle.glyph.specs.Read.{good_text, single, number_from, content, lengthened, text, run, distinct, entry, kept, many, three, object, root, message}
use Rattle.glyph.specs.Answers.{reading}
use Rattle.glyph_demands.specs.Cases.{cases, expected, given}

pub cases_read : given cases ≡ expected cases
unfolding cases reading message root object three many kept entry distinct run text lengthened content number_from single good_text in_range signs is_minus decimal digits past blanks is_blank letter_of digit among same well_formed octets step due_after due_by within
cases_read = refl
