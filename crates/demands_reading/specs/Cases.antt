-- Document 01's messages P1 to P11, and faults, Doubles, dates and keys by document 02's rules: one table of cases, with what each must give; and what
-- it gives by the definitions, read and written again. That the two are equal is proofs/Cases. Assumes nothing.
use Rattle.std.specs.Prelude.{List, [], ◌∷◌, ◌++◌, map, ℕ, ◌-◌, ◌*◌, length, replicate}
use Prim.Native.String.{String}
use Rattle.draft.specs.declared.Row.{Row}
use Rattle.draft.specs.Bytes.{bytes}
use Rattle.draft.specs.Rows.{row}
use Rattle.draft.specs.Table.{room_of}
use Rattle.draft.specs.Read.{Reading, got, refused as unread}
use Rattle.draft.specs.Written.{written, rows_of}
use Rattle.read_answer.specs.Answers.{reading, answer_of, table_of, Report, report_of}

-- a message, a table's number of words, and what reading the one into the other gives: the report, and the table's rows;
-- and the written form of that table with the message as text bytes, if it was accepted, with its length
pub record Case : Type 0 where
  pub sent : List ℕ
  pub words : ℕ
  pub report : Report
  pub rows : List Row
  pub again : List ℕ
  pub long : ℕ

abbrev rewritten : String → ℕ → ℕ → List Row → String → ℕ → Case
rewritten s words used rows again long =
    record {
      sent = bytes s;
      words = words;
      report = record { number = 0; rows = length rows; used = used; place = 0 };
      rows = rows;
      again = bytes again;
      long = long;
    }

-- one that is its own written form
abbrev accepted : String → ℕ → ℕ → List Row → Case
accepted s words used rows = rewritten s words used rows s used

abbrev refused : String → ℕ → ℕ → ℕ → Case
refused s words number place =
    record { sent = bytes s; words = words; report = record { number = number; rows = 0; used = 0; place = place }; rows = []; again = []; long = 0 }

-- a Response with a Double or a DateTime of this text, refused at its tag
abbrev bad : String → ℕ → String → Case
bad tag number text =
    record {
      sent = bytes "binmode-rpc:R" ++ (bytes tag ++ (length (bytes text) ∷ bytes text));
      words = 64;
      report = record { number = number; rows = 0; used = 0; place = 13 };
      rows = [];
      again = [];
      long = 0;
    }

-- each character of a text here stands for the byte of its number: `©` for 169, `ÿ` for 255
unfoldable pub cases : List Case
cases =
    -- P1
    refused "" 64 1 0
    -- P2
    ∷ refused "binmode-rpc2:RI\u{4}\0\0\0" 64 2 0
    -- P3
    ∷ accepted "binmode-rpc:RI\u{4}\0\0\0" 64 18 (row 2 0 1 2 ∷ row 4 4 0 2 ∷ [])
    -- P4
    ∷ accepted "binmode-rpc:CU\u{3}\0\0\0addA\u{2}\0\0\0I\u{2}\0\0\0I\u{2}\0\0\0" 64 36
    (row 1 0 2 5 ∷ row 11 18 3 2 ∷ row 9 0 2 5 ∷ row 4 2 0 4 ∷ row 4 2 0 5 ∷ [])
    -- P5: written again it is 51 bytes too, baz at position 2
    ∷ rewritten "binmode-rpc:RA\u{6}\0\0\0>\0\u{3}\0\0\0foo>\u{1}\u{3}\0\0\0bar<\0>\0\u{3}\0\0\0baz<\0<\u{1}" 64 51
    (row 2 0 1 8 ∷ row 9 0 6 8 ∷ row 11 24 3 3 ∷ row 11 33 3 4 ∷ row 11 24 3 5 ∷ row 11 44 3 6 ∷ row 11 44 3 7 ∷ row 11 33 3 8 ∷ [])
    "binmode-rpc:RA\u{6}\0\0\0>\0\u{3}\0\0\0foo>\u{1}\u{3}\0\0\0bar<\0>\u{2}\u{3}\0\0\0baz<\u{2}<\u{1}" 51
    -- P6
    ∷ accepted "binmode-rpc:RA\u{2}\0\0\0>\0\0\0\0\0<\0" 64 26 (row 2 0 1 4 ∷ row 9 0 2 4 ∷ row 11 24 0 3 ∷ row 11 24 0 4 ∷ [])
    -- P7
    ∷ refused "binmode-rpc:R<\u{2}" 64 6 13
    -- P8
    ∷ refused "binmode-rpc:ROU\u{6}\0\0\0stringB\u{3}\0\0\0xyz" 64 7 13
    -- P9
    ∷ refused "binmode-rpc:RU!\0\0\0Copyright © 1995 J. Random Hacker" 64 5 13
    -- P10
    ∷ refused "binmode-rpc:RU!\0\0\0Bad linefeed: À\u{8a} (too many bytes)" 64 5 13
    -- P11
    ∷ refused "binmode-rpc:RAÿÿÿÿ" 64 1 18
    ∷ refused "binmode-rpc:RAÿÿÿÿt" 8 9 18
    -- 02: 002's fault; and the message before the code, whose key is recalled
    ∷ accepted "binmode-rpc:RFS\u{2}\0\0\0U\t\0\0\0faultCodeI\u{1}\0\0\0U\u{b}\0\0\0faultStringU\u{11}\0\0\0An error occurred" 64 76
    (row 3 0 1 6 ∷ row 10 0 2 6 ∷ row 11 24 9 3 ∷ row 4 1 0 4 ∷ row 11 43 11 5 ∷ row 11 59 17 6 ∷ [])
    ∷ rewritten "binmode-rpc:RFS\u{2}\0\0\0U\u{b}\0\0\0faultString>\u{7}\t\0\0\0faultCode<\u{7}I\u{1}\0\0\0" 64 57
    (row 3 0 1 6 ∷ row 10 0 2 6 ∷ row 11 24 11 3 ∷ row 11 41 9 4 ∷ row 11 41 9 5 ∷ row 4 1 0 6 ∷ [])
    "binmode-rpc:RFS\u{2}\0\0\0U\u{b}\0\0\0faultString>\0\t\0\0\0faultCode<\0I\u{1}\0\0\0" 57
    -- one member, three, another kind, another key; the same key twice is 20 at the second
    ∷ refused "binmode-rpc:RFS\u{1}\0\0\0U\t\0\0\0faultCodeI\u{1}\0\0\0" 64 14 14
    ∷ refused "binmode-rpc:RFS\u{3}\0\0\0U\t\0\0\0faultCodeI\u{1}\0\0\0U\u{b}\0\0\0faultStringU\u{1}\0\0\0xU\0\0\0\0t" 64 14 14
    ∷ refused "binmode-rpc:RFS\u{2}\0\0\0>\0\t\0\0\0faultCodeI\u{1}\0\0\0<\0I\u{1}\0\0\0" 64 20 39
    ∷ refused "binmode-rpc:RFS\u{2}\0\0\0U\t\0\0\0faultCodetU\u{b}\0\0\0faultStringU\0\0\0\0" 64 14 14
    ∷ refused "binmode-rpc:RFS\u{2}\0\0\0U\t\0\0\0faultCodeI\u{1}\0\0\0U\u{b}\0\0\0faultstringU\0\0\0\0" 64 14 14
    -- a third member that is cut short, or that a small table has no row for: what fails inside the Struct comes first
    ∷ refused "binmode-rpc:RFS\u{3}\0\0\0U\t\0\0\0faultCodeI\u{1}\0\0\0U\u{b}\0\0\0faultStringU\u{1}\0\0\0xU\0\0\0\0" 64 1 65
    ∷ refused "binmode-rpc:RFS\u{3}\0\0\0U\t\0\0\0faultCodeI\u{1}\0\0\0U\u{b}\0\0\0faultStringU\u{1}\0\0\0xU\0\0\0\0t" 24 9 60
    -- 02: Doubles with a sign and without, and dates: document 02's, the last day of February in a leap year and in others, the year 0000
    ∷ accepted "binmode-rpc:RA\u{3}\0\0\0D\u{4}2.75D\u{4}-0.0D\u{7}+007.50" 64 39
    (row 2 0 1 5 ∷ row 9 0 3 5 ∷ row 6 20 4 3 ∷ row 6 26 4 4 ∷ row 6 32 7 5 ∷ [])
    ∷ accepted "binmode-rpc:RA\u{3}\0\0\08\u{11}19980717T14:08:558\u{11}20000229T23:59:598\u{11}00000229T00:00:00" 64 75
    (row 2 0 1 5 ∷ row 9 0 3 5 ∷ row 7 20 17 3 ∷ row 7 39 17 4 ∷ row 7 58 17 5 ∷ [])
    -- no byte; no digit; a sign alone; no point; no digit before the point, none after it; a second sign, a second point, another byte at the end
    ∷ bad "D" 17 ""
    ∷ bad "D" 17 "."
    ∷ bad "D" 17 "-"
    ∷ bad "D" 17 "5"
    ∷ bad "D" 17 ".5"
    ∷ bad "D" 17 "5."
    ∷ bad "D" 17 "+-2.75"
    ∷ bad "D" 17 "2.7.5"
    ∷ bad "D" 17 "2.75e0"
    -- a byte too few and one too many; no digit, another byte for the `T` and for each `:`
    ∷ bad "8" 17 "19980717T14:08:5"
    ∷ bad "8" 17 "19980717T14:08:555"
    ∷ bad "8" 17 "1998 717T14:08:55"
    ∷ bad "8" 17 "19980717 14:08:55"
    ∷ bad "8" 17 "19980717T14-08:55"
    ∷ bad "8" 17 "19980717T14:08-55"
    -- no such month, or the month has no such day; 1900 is no leap year
    ∷ bad "8" 17 "19980017T14:08:55"
    ∷ bad "8" 17 "19981317T14:08:55"
    ∷ bad "8" 17 "19980700T14:08:55"
    ∷ bad "8" 17 "19980732T14:08:55"
    ∷ bad "8" 17 "19980431T14:08:55"
    ∷ bad "8" 17 "19980229T14:08:55"
    ∷ bad "8" 17 "19000229T14:08:55"
    ∷ bad "8" 17 "20000230T14:08:55"
    -- hour, minute, second
    ∷ bad "8" 17 "19980717T24:08:55"
    ∷ bad "8" 17 "19980717T14:60:55"
    ∷ bad "8" 17 "19980717T14:08:60"
    -- 5 comes before 17, and 17 at the item's place before what follows it
    ∷ bad "D" 5 "5.ÿ"
    ∷ bad "8" 5 "19980230T14:08:5ÿ"
    ∷ refused "binmode-rpc:RA\u{2}\0\0\0tD\u{2}5.<\0" 64 17 19
    -- 02: a key that its Struct has already, at its own place: the empty one, one recalled, one recorded, one that is not the last before it
    ∷ refused "binmode-rpc:RS\u{2}\0\0\0U\0\0\0\0tU\0\0\0\0f" 64 20 24
    ∷ refused "binmode-rpc:RS\u{2}\0\0\0>\0\u{1}\0\0\0at<\0f" 64 20 26
    ∷ refused "binmode-rpc:RS\u{2}\0\0\0U\u{1}\0\0\0at>\u{7}\u{1}\0\0\0af" 64 20 25
    ∷ refused "binmode-rpc:RS\u{3}\0\0\0U\u{1}\0\0\0atU\u{1}\0\0\0btU\u{1}\0\0\0at" 64 20 32
    -- keys of different Structs do not meet, nor do a key and a value: a Struct in a Struct, before a key and behind it, Structs side by side
    ∷ accepted "binmode-rpc:RS\u{1}\0\0\0>\0\u{1}\0\0\0aS\u{1}\0\0\0<\0t" 64 33
    (row 2 0 1 6 ∷ row 10 0 1 6 ∷ row 11 24 1 3 ∷ row 10 0 1 6 ∷ row 11 24 1 5 ∷ row 5 1 0 6 ∷ [])
    ∷ accepted "binmode-rpc:RS\u{2}\0\0\0U\u{1}\0\0\0aS\u{1}\0\0\0>\0\u{1}\0\0\0bt<\0f" 64 40
    (row 2 0 1 8 ∷ row 10 0 2 8 ∷ row 11 23 1 3 ∷ row 10 0 1 6 ∷ row 11 35 1 5 ∷ row 5 1 0 6 ∷ row 11 35 1 7 ∷ row 5 0 0 8 ∷ [])
    ∷ accepted "binmode-rpc:RA\u{2}\0\0\0S\u{1}\0\0\0>\0\u{1}\0\0\0atS\u{1}\0\0\0<\0f" 64 39
    (row 2 0 1 8 ∷ row 9 0 2 8 ∷ row 10 0 1 5 ∷ row 11 29 1 4 ∷ row 5 1 0 5 ∷ row 10 0 1 8 ∷ row 11 29 1 7 ∷ row 5 0 0 8 ∷ [])
    ∷ accepted "binmode-rpc:RS\u{1}\0\0\0>\0\u{1}\0\0\0a<\0" 64 27 (row 2 0 1 4 ∷ row 10 0 1 4 ∷ row 11 24 1 3 ∷ row 11 24 1 4 ∷ [])
    -- behind a Struct inside, its Struct's keys are still known
    ∷ refused "binmode-rpc:RS\u{2}\0\0\0U\u{1}\0\0\0aS\u{1}\0\0\0U\u{1}\0\0\0btU\u{1}\0\0\0af" 64 20 36
    -- 20 comes before what the value would give, and before its row is asked for; a key cut short, bad text, an unset position and a row for the
    -- key come before it
    ∷ refused "binmode-rpc:RS\u{2}\0\0\0U\u{1}\0\0\0atU\u{1}\0\0\0a" 64 20 25
    ∷ refused "binmode-rpc:RS\u{2}\0\0\0U\u{1}\0\0\0atU\u{1}\0\0\0a<\0" 20 20 25
    ∷ refused "binmode-rpc:RS\u{2}\0\0\0U\u{1}\0\0\0atU\u{1}\0\0\0" 64 1 25
    ∷ refused "binmode-rpc:RS\u{2}\0\0\0U\u{1}\0\0\0atU\u{2}\0\0\0aÿf" 64 5 25
    ∷ refused "binmode-rpc:RS\u{2}\0\0\0U\0\0\0\0t<\0f" 64 6 24
    ∷ refused "binmode-rpc:RS\u{2}\0\0\0U\u{1}\0\0\0atU\u{1}\0\0\0at" 16 9 25
    ∷ []

-- a column of c words: one of each row, and zeros behind them
abbrev column : (Row → ℕ) → ℕ → List Row → List ℕ
column word c rows = map word rows ++ replicate (c - length rows) 0

-- with room for c rows: c kinds, then c a's, then c b's, then c ends
abbrev columns : ℕ → List Row → List ℕ
columns c rows = column (λ x. x.kind) c rows ++ (column (λ x. x.a) c rows ++ (column (λ x. x.b) c rows ++ column (λ x. x.end) c rows))

-- a table of so many words that has these rows, and zeros in all other words
abbrev words_of : ℕ → List Row → List ℕ
words_of words rows = columns (room_of 4096 words) rows ++ replicate (words - 4 * room_of 4096 words) 0

-- the written form of the table after a reading of s, if it was accepted
abbrev written_again : List ℕ → ℕ → Reading → List ℕ
written_again s words (got rows used book) = written s (rows_of 4096 (table_of words (got rows used book)) (length rows))
written_again s words (unread refusal place) = []

-- the report, the whole table, and the written form with its length
pub data Outcome : Type 0 where
  outcome : Report → List ℕ → List ℕ → ℕ → Outcome

-- what documents 01 and 02 say
abbrev pub expected : List Case → List Outcome
expected [] = []
expected (c ∷ cs) = outcome c.report (words_of c.words c.rows) c.again c.long ∷ expected cs

abbrev outcome_of : List ℕ → ℕ → Reading → Outcome
outcome_of s words o = outcome (report_of (answer_of o)) (table_of words o) (written_again s words o) (length (written_again s words o))

-- what reading with the limit 32, and the written form, give
abbrev pub given : List Case → List Outcome
given [] = []
given (c ∷ cs) = outcome_of c.sent c.words (reading 32 c.sent c.words) ∷ given cs
