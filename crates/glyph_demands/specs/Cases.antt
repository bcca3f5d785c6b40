-- Messages of both editions, read: the examples of documents 003 and 000 in the letters that document 02 names, and what the decisions on it
-- say. One table of cases, and what is to be shown of it. Assumes nothing.
use Rattle.std.specs.Prelude.{List, [], ◌∷◌, ℕ, Ok, Err, length}
use Prim.Native.String.{String}
use Rattle.draft.specs.declared.Row.{Row}
use Rattle.draft.specs.Bytes.{bytes}
use Rattle.draft.specs.Rows.{row}
use Rattle.glyph.specs.declared.Edition.{Edition}
use Rattle.glyph.specs.declared.Edition.TheVariants.{New, Old}
use Rattle.glyph.specs.Read.{Reading}
use Rattle.glyph.specs.Refusals.{number_of}
use Rattle.glyph.specs.Answers.{reading, answer_of, Answer}
use Rattle.glyph_demands.specs.Answered.{rows_in}

-- an answer by its numbers: how many rows and bytes were read, or a refusal's number and its place
pub data Told : Type 0 where
  Accepted : ℕ → ℕ → Told
  Refused : ℕ → ℕ → Told

abbrev told : Answer → Told
told (Ok x) = Accepted x.rows x.used
told (Err x) = Refused (number_of x.refusal) x.place

-- an edition, a limit of nesting, a message, a table's number of words, and what reading gives: the answer and the rows
pub record Case : Type 0 where
  pub edition : Edition
  pub limit : ℕ
  pub sent : List ℕ
  pub words : ℕ
  pub answer : Told
  pub rows : List Row

abbrev accepted : Edition → String → ℕ → List Row → Case
accepted e s used rows = record { edition = e; limit = 8; sent = bytes s; words = 64; answer = Accepted (length rows) used; rows = rows }

abbrev refused : Edition → String → ℕ → ℕ → Case
refused e s number place = record { edition = e; limit = 8; sent = bytes s; words = 64; answer = Refused number place; rows = [] }

-- with another limit and another table
abbrev refused_with : ℕ → ℕ → String → ℕ → ℕ → Case
refused_with limit words s number place = record { edition = Old; limit = limit; sent = bytes s; words = words; answer = Refused number place; rows = [] }

abbrev accepted_with : ℕ → ℕ → String → ℕ → List Row → Case
accepted_with limit words s used rows = record { edition = Old; limit = limit; sent = bytes s; words = words; answer = Accepted (length rows) used; rows = rows }

-- each character of a text here stands for the byte of its number: `ð` for 240, `ÿ` for 255
unfoldable pub cases : List Case
cases =
    -- the documents' data types, alike in both editions but for their dicts' keys, which are no unicode; `set`, `float` and others are 3
    accepted New "i1;" 3 (row 4 1 0 1 ∷ [])
    ∷ accepted Old "u5:hello;" 9 (row 11 3 5 1 ∷ [])
    ∷ accepted New "b3:123;" 7 (row 8 3 3 1 ∷ [])
    ∷ accepted Old "Li1;i2;i3;;" 11 (row 9 0 3 4 ∷ row 4 1 0 2 ∷ row 4 2 0 3 ∷ row 4 3 0 4 ∷ [])
    ∷ refused New "Si1;i2;i3;;" 3 0
    ∷ refused New "Di1;i2;i3;i4;;" 3 1
    ∷ refused Old "Oi1;i2;i3;i4;;" 3 1
    ∷ accepted New "N;" 2 (row 13 0 0 1 ∷ [])
    ∷ accepted Old "T;" 2 (row 5 1 0 1 ∷ [])
    ∷ accepted New "F;" 2 (row 5 0 0 1 ∷ [])
    ∷ refused New "f0x1.0p-1;" 3 0
    ∷ refused Old "d1970-01-01T00:00:00.000Z;" 3 0
    ∷ refused New "pP0Y0M3DT0H0M0S;" 3 0
    -- integers
    ∷ accepted New "i123;" 5 (row 4 123 0 1 ∷ [])
    ∷ accepted Old "i+000123;" 9 (row 4 123 0 1 ∷ [])
    ∷ accepted New "i-123;" 6 (row 4 4294967173 0 1 ∷ [])
    ∷ accepted Old "i0;" 3 (row 4 0 0 1 ∷ [])
    ∷ accepted New "i-0;" 4 (row 4 0 0 1 ∷ [])
    ∷ accepted Old "i+0;" 4 (row 4 0 0 1 ∷ [])
    ∷ accepted New "i2147483647;" 12 (row 4 2147483647 0 1 ∷ [])
    ∷ refused New "Li2147483648;;" 25 1
    ∷ accepted New "i-2147483648;" 13 (row 4 2147483648 0 1 ∷ [])
    ∷ refused New "i-2147483649;" 25 0
    ∷ refused New "Li99999999999" 1 1
    ∷ refused New "i99999999999x" 3 0
    ∷ refused New "i99999999999;" 25 0
    ∷ refused New "i;" 3 0
    ∷ refused New "i-;" 3 0
    ∷ refused New "i+-1;" 3 0
    ∷ refused New "i 1;" 3 0
    ∷ refused New "Li1" 1 1
    ∷ refused New "Li" 1 1
    ∷ refused New "i-" 1 0
    -- texts: `u4:bar;` of the documents has a length past the end
    ∷ accepted New "u;" 2 (row 11 1 0 1 ∷ [])
    ∷ accepted Old "b;" 2 (row 8 1 0 1 ∷ [])
    ∷ accepted New "u3:foo;" 7 (row 11 3 3 1 ∷ [])
    ∷ refused New "u4:bar;" 1 0
    ∷ accepted Old "u4:ð\u{9f}\u{92}©;" 8 (row 11 3 4 1 ∷ [])
    ∷ accepted New "u0:;" 4 (row 11 3 0 1 ∷ [])
    ∷ accepted New "u003:foo;" 9 (row 11 5 3 1 ∷ [])
    ∷ refused New "u2:abc;" 3 0
    ∷ refused New "u3:abc" 1 0
    ∷ refused New "u99999999999999999999:abc;" 1 0
    ∷ refused New "u:;" 3 0
    ∷ refused New "u3;" 3 0
    ∷ refused New "u-1:a;" 3 0
    ∷ refused New "u 1:a;" 3 0
    ∷ refused New "u" 1 0
    ∷ refused New "u1:ÿ;" 5 0
    ∷ refused New "u1:ÿx" 3 0
    ∷ refused New "u1:ÿ" 1 0
    ∷ accepted New "b1:ÿ;" 5 (row 8 3 1 1 ∷ [])
    -- T, F and N
    ∷ refused New "T" 1 0
    ∷ refused New "Tx" 3 0
    ∷ refused New "T ;" 3 0
    -- blanks: before and after the root, behind the letters of objects with children, behind each child; form feed and 0 are none
    ∷ refused New "" 1 0
    ∷ refused New "  " 1 2
    ∷ accepted New " \t\u{b}\r\nT; \t\u{b}\r\n" 7 (row 5 1 0 1 ∷ [])
    ∷ refused New "\u{c}T;" 3 0
    ∷ refused New "T;\0" 3 2
    ∷ refused New "T; x" 3 3
    ∷ refused New "T;T;" 3 2
    ∷ refused New "T;c1;" 3 2
    ∷ accepted New "L T; L;i7; ; " 12 (row 9 0 3 4 ∷ row 5 1 0 2 ∷ row 9 0 0 3 ∷ row 4 7 0 4 ∷ [])
    ∷ accepted New "D u1:a; T; ; " 12 (row 10 0 1 3 ∷ row 11 5 1 2 ∷ row 5 1 0 3 ∷ [])
    ∷ accepted New "X u; D; N; ;" 12 (row 15 0 3 4 ∷ row 11 3 0 2 ∷ row 10 0 0 3 ∷ row 13 0 0 4 ∷ [])
    -- lists
    ∷ accepted New "L;" 2 (row 9 0 0 1 ∷ [])
    ∷ refused New "LT; " 1 4
    ∷ refused New "LT; x" 3 4
    -- dicts: rows in message order; keys are unicode and distinct, compared as bytes; 20 at the key, before its value
    ∷ accepted New "Du1:b;T;u1:a;F;;" 16 (row 10 0 2 5 ∷ row 11 4 1 2 ∷ row 5 1 0 3 ∷ row 11 11 1 4 ∷ row 5 0 0 5 ∷ [])
    ∷ accepted Old "Ou1:b;T;u1:a;F;;" 16 (row 14 0 2 5 ∷ row 11 4 1 2 ∷ row 5 1 0 3 ∷ row 11 11 1 4 ∷ row 5 0 0 5 ∷ [])
    ∷ refused New "Du1:a;T;u1:a;F;;" 20 8
    ∷ refused New "Ou1:a;T; u01:a;" 20 9
    ∷ refused New "Du;T;u0:;F;;" 20 5
    ∷ refused New "Du1:a;T;u1:a;x" 20 8
    ∷ refused New "Du1:a;T;u1:ÿ;" 5 8
    ∷ accepted New "Du1:a;Du1:a;T;;u1:b;u1:a;;" 26
    (row 10 0 2 7 ∷ row 11 4 1 2 ∷ row 10 0 1 5 ∷ row 11 10 1 4 ∷ row 5 1 0 5 ∷ row 11 18 1 6 ∷ row 11 23 1 7 ∷ [])
    ∷ refused New "Du1:a;Du1:b;T;;u1:a;F;;" 20 15
    ∷ refused New "Du1:a;;" 3 6
    ∷ refused New "Du1:a;" 1 6
    ∷ refused New "DT;" 3 1
    ∷ refused New "D" 1 1
    -- extensions and nodes by edition: document 003's form, its link with `n;`, documents 000's node and link
    ∷ accepted New "Xu4:form;Du6:method;u4:POST;u3:url;u4:/foo;u6:values;Lu1:a;;;N;;" 64
    (row 15 0 3 11 ∷ row 11 4 4 2 ∷ row 10 0 3 10 ∷ row 11 13 6 4 ∷ row 11 23 4 5 ∷ row 11 31 3 6 ∷ row 11 38 4 7 ∷ row 11 46 6 8 ∷ row 9 0 1 10 ∷ row 11 57 1 10 ∷ row 13 0 0 11 ∷ [])
    ∷ refused New "Xu4:link;Du6:method;u3:GET;u3:url;u4:/foo;;n;;" 3 43
    ∷ refused Old "Xu3:xmlDu1:ai1;;" 3 1
    ∷ refused Old "Hu4:link;du6:method;u3:GET;u3:url;u4:/foo;;n;;" 3 9
    ∷ refused New "Hu;D;N;;" 3 0
    ∷ accepted Old "Hu;O;N;;" 8 (row 15 0 3 4 ∷ row 11 2 0 2 ∷ row 14 0 0 3 ∷ row 13 0 0 4 ∷ [])
    ∷ accepted Old "XT;i1;N;;" 9 (row 16 0 3 4 ∷ row 5 1 0 2 ∷ row 4 1 0 3 ∷ row 13 0 0 4 ∷ [])
    ∷ refused New "XT;D;N;;" 3 1
    ∷ refused New "Xu;L;N;;" 3 3
    ∷ refused New "Xu;D;;" 3 5
    ∷ refused New "Xu;D;N;" 1 7
    ∷ refused New "Xu;D;N;N;;" 3 7
    ∷ refused New "X" 1 1
    -- 3 for the byte, then 8, then 9, then what is inside; nesting counts containers, extensions and nodes
    ∷ refused_with 2 64 "LLL;;;" 8 2
    ∷ accepted_with 3 64 "LLL;;;" 6 (row 9 0 1 3 ∷ row 9 0 1 3 ∷ row 9 0 0 3 ∷ [])
    ∷ refused_with 1 64 "Hu1:a;D;N;;" 8 6
    ∷ refused_with 1 64 "XT;X" 8 3
    ∷ refused_with 1 64 "Hu1:a;L;N;;" 3 6
    ∷ refused_with 1 4 "LL" 8 1
    ∷ refused_with 2 4 "LL" 9 1
    ∷ refused_with 1 4 "LTx" 9 1
    ∷ refused_with 1 4 "Lx" 3 1
    ∷ refused_with 1 3 "T;" 9 0
    ∷ refused_with 1 3 "" 1 0
    ∷ refused_with 32 160 "LLLLLLLLLLLLLLLLLLLLLLLLLLLLLLLLL" 8 32
    ∷ refused_with 32 160 "LLLLLLLLLLLLLLLLLLLLLLLLLLLLLLLL" 1 32
    -- 23 before all
    ∷ refused_with 0 64 "T;" 23 0
    ∷ refused_with 33 64 "" 23 0
    ∷ []

-- the answer and the rows
pub data Outcome : Type 0 where
  outcome : Told → List Row → Outcome

-- what a table of cases says
abbrev pub expected : List Case → List Outcome
expected [] = []
expected (c ∷ cs) = outcome c.answer c.rows ∷ expected cs

abbrev outcome_of : Reading → Outcome
outcome_of o = outcome (told (answer_of o)) (rows_in o)

-- and what reading gives
abbrev pub given : List Case → List Outcome
given [] = []
given (c ∷ cs) = outcome_of (reading c.edition c.limit c.sent c.words) ∷ given cs
