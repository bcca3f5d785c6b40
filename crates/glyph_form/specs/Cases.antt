-- Tables of both editions, written: what reading makes of the documents' examples and of others, and tables that are not writable. One table of
-- cases, and what is to be shown of it. Assumes nothing.
use Rattle.std.specs.Prelude.{List, [], ◌∷◌, ◌++◌, ℕ, ◌-◌, length, replicate, Ok, Err}
use Prim.Native.String.{String}
use Rattle.draft.specs.declared.Row.{Row}
use Rattle.draft.specs.declared.Refusal.{Refusal}
use Rattle.draft.specs.declared.Refusal.TheVariants.{NotWritable, OutputTooShort, NoLimit}
use Rattle.draft.specs.Bytes.{bytes}
use Rattle.draft.specs.Rows.{row}
use Rattle.draft.specs.Table.{put_rows}
use Rattle.glyph.specs.declared.Edition.{Edition}
use Rattle.glyph.specs.declared.Edition.TheVariants.{New, Old}
use Rattle.glyph.specs.Read.{Reading, got, refused}
use Rattle.glyph.specs.Answers.{reading}
use Rattle.glyph_form.specs.Form.{form_of}
use Rattle.glyph_form.specs.Answers.{answer_of, output_of, Answer}

-- rows and the bytes that their texts lie in, an edition, a limit of nesting and an output's length; the answer and the form, none if refused
pub record Case : Type 0 where
  pub rows : List Row
  pub texts : List ℕ
  pub edition : Edition
  pub limit : ℕ
  pub room : ℕ
  pub answer : Answer
  pub form : List ℕ

abbrev rows_of : Reading → List Row
rows_of (got rows used) = rows
rows_of (refused refusal place) = []

-- what reading a message in an edition gives
abbrev read_in : Edition → String → List Row
read_in e s = rows_of (reading e 8 (bytes s) 64)

-- a message of one edition, read, and its form in another
abbrev across : Edition → Edition → String → String → Case
across e f s form =
    record { rows = read_in e s; texts = bytes s; edition = f; limit = 8; room = 66; answer = Ok (length (bytes form)); form = bytes form }

abbrev again : Edition → String → String → Case
again e s form = across e e s form

-- a message of 1.0 that has a form by this limit, into an output that it fills
abbrev filling : ℕ → String → Case
filling n s =
    record { rows = read_in New s; texts = bytes s; edition = New; limit = n; room = length (bytes s); answer = Ok (length (bytes s)); form = bytes s }

-- a message of 0.5 that is refused in an edition, by a limit and an output's length
abbrev refused_with : Edition → ℕ → ℕ → String → Refusal → Case
refused_with e n room s refusal =
    record { rows = read_in Old s; texts = bytes s; edition = e; limit = n; room = room; answer = Err refusal; form = [] }

-- rows over the text `key`, in 0.5
abbrev rewritten : List Row → String → Case
rewritten rows form =
    record { rows = rows; texts = bytes "key"; edition = Old; limit = 8; room = 20; answer = Ok (length (bytes form)); form = bytes form }

abbrev unwritable : List Row → Case
unwritable rows = record { rows = rows; texts = bytes "key"; edition = Old; limit = 8; room = 20; answer = Err NotWritable; form = [] }

unfoldable pub cases : List Case
cases =
    -- the documents' data types
    again New "i1;" "i1;"
    ∷ again Old "u5:hello;" "u5:hello;"
    ∷ again New "b3:123;" "b3:123;"
    ∷ again Old "Li1;i2;i3;;" "Li1;i2;i3;;"
    ∷ again New "N;" "N;"
    ∷ again Old "T;" "T;"
    ∷ again New "F;" "F;"
    -- integers and lengths: no plus, no leading zeros
    ∷ again New "i+000123;" "i123;"
    ∷ again New "i-0123;" "i-123;"
    ∷ again New "i-0;" "i0;"
    ∷ again Old "i+0;" "i0;"
    ∷ again Old "i10;" "i10;"
    ∷ again New "i2147483647;" "i2147483647;"
    ∷ again New "i-2147483648;" "i-2147483648;"
    ∷ again New "u003:foo;" "u3:foo;"
    ∷ again New "b0010:0123456789;" "b10:0123456789;"
    ∷ again Old "u4:ð\u{9f}\u{92}©;" "u4:ð\u{9f}\u{92}©;"
    -- empty texts
    ∷ again New "u0:;" "u;"
    ∷ again Old "b;" "b;"
    -- no blanks
    ∷ again New " L T; L;i7; ; " "LT;L;i7;;"
    ∷ again New "D u1:a; T; ; " "Du1:a;T;;"
    -- a plain dict in byte order of keys, the shorter first where it begins the longer, at every depth; an ordered_dict as it stands
    ∷ again New "Du1:b;T;u1:a;F;;" "Du1:a;F;u1:b;T;;"
    ∷ again Old "Ou1:b;T;u1:a;F;;" "Ou1:b;T;u1:a;F;;"
    ∷ again New "Du2:ab;N;u1:b;N;u1:a;N;u;N;;" "Du;N;u1:a;N;u2:ab;N;u1:b;N;;"
    ∷ again New "Ou1:z;Du1:b;LT;;u1:a;F;;;" "Ou1:z;Du1:a;F;u1:b;LT;;;;"
    ∷ again New "Du1:b;Du1:d;T;u1:c;F;;u1:a;N;;" "Du1:a;N;u1:b;Du1:c;F;u1:d;T;;;"
    -- extensions and nodes: document 003's form; across editions; a node is 11 in 1.0
    ∷ again New "Xu4:form;Du6:method;u4:POST;u3:url;u4:/foo;u6:values;Lu1:a;;;N;;" "Xu4:form;Du6:method;u4:POST;u3:url;u4:/foo;u6:values;Lu1:a;;;N;;"
    ∷ again New "X u; O; N; ;" "Xu;O;N;;"
    ∷ across New Old "X u; O; N; ;" "Hu;O;N;;"
    ∷ across Old New "Hu;D;N;;" "Xu;D;N;;"
    ∷ again Old "XT;i1;X N;N;N;; ;" "XT;i1;XN;N;N;;;"
    ∷ refused_with New 8 20 "XT;i1;N;;" NotWritable
    -- the limit of nesting: an extension's attributes are one more
    ∷ refused_with Old 2 20 "LLL;;;" NotWritable
    ∷ filling 3 "LLL;;;"
    ∷ refused_with Old 1 20 "Hu1:a;D;N;;" NotWritable
    ∷ filling 2 "Xu1:a;D;N;;"
    -- 23, then 11, then 13
    ∷ refused_with New 0 0 "XT;i1;N;;" NoLimit
    ∷ refused_with New 33 0 "XT;i1;N;;" NoLimit
    ∷ refused_with New 1 0 "XT;i1;N;;" NotWritable
    ∷ refused_with Old 1 8 "XT;i1;N;;" OutputTooShort
    ∷ refused_with Old 32 0 "T;" OutputTooShort
    -- every word of every row: kind, a, b and end
    ∷ rewritten (row 11 0 3 1 ∷ []) "u3:key;"
    ∷ rewritten (row 11 3 0 1 ∷ []) "u;"
    ∷ unwritable []
    ∷ unwritable (row 11 1 3 1 ∷ [])
    ∷ unwritable (row 11 4 0 1 ∷ [])
    ∷ unwritable (row 4 7 1 1 ∷ [])
    ∷ unwritable (row 4 7 0 2 ∷ [])
    ∷ unwritable (row 5 2 0 1 ∷ [])
    ∷ unwritable (row 13 1 0 1 ∷ [])
    ∷ unwritable (row 13 0 1 1 ∷ [])
    ∷ unwritable (row 9 1 0 1 ∷ [])
    ∷ unwritable (row 9 0 1 1 ∷ [])
    ∷ unwritable (row 13 0 0 1 ∷ row 13 0 0 2 ∷ [])
    ∷ unwritable (row 16 0 2 3 ∷ row 13 0 0 2 ∷ row 13 0 0 3 ∷ [])
    ∷ unwritable (row 15 0 3 4 ∷ row 8 0 3 2 ∷ row 10 0 0 3 ∷ row 13 0 0 4 ∷ [])
    ∷ unwritable (row 15 0 3 4 ∷ row 11 0 3 2 ∷ row 9 0 0 3 ∷ row 13 0 0 4 ∷ [])
    ∷ rewritten (row 16 0 3 4 ∷ row 8 0 3 2 ∷ row 9 0 0 3 ∷ row 13 0 0 4 ∷ []) "Xb3:key;L;N;;"
    ∷ unwritable (row 10 0 1 3 ∷ row 8 0 3 2 ∷ row 13 0 0 3 ∷ [])
    ∷ unwritable (row 14 0 2 5 ∷ row 11 0 1 2 ∷ row 13 0 0 3 ∷ row 11 0 1 4 ∷ row 13 0 0 5 ∷ [])
    ∷ rewritten (row 10 0 2 5 ∷ row 11 2 1 2 ∷ row 13 0 0 3 ∷ row 11 1 1 4 ∷ row 13 0 0 5 ∷ []) "Du1:e;N;u1:y;N;;"
    -- kinds of Binmode alone
    ∷ unwritable (row 2 0 1 2 ∷ row 4 7 0 2 ∷ [])
    ∷ unwritable (row 9 0 1 2 ∷ row 6 0 3 2 ∷ [])
    ∷ []

-- a table of sixteen rows that begins with these
abbrev table_of : List Row → List ℕ
table_of rows = put_rows 16 (replicate 64 0) 0 rows

-- the answer and the whole output
pub data Outcome : Type 0 where
  outcome : Answer → List ℕ → Outcome

-- what a table of cases says
abbrev pub expected : List Case → List Outcome
expected [] = []
expected (c ∷ cs) = outcome c.answer (c.form ++ replicate (c.room - length c.form) 0) ∷ expected cs

abbrev outcome_of : Case → Answer → Outcome
outcome_of c answer = outcome answer (output_of answer (form_of c.edition c.limit (table_of c.rows) c.texts) c.room)

-- and what writing gives
abbrev pub written : List Case → List Outcome
written [] = []
written (c ∷ cs) =
    outcome_of c (answer_of c.edition c.limit (table_of c.rows) (length c.rows) c.texts c.room) ∷ written cs
