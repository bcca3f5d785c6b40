-- The tests within an item, in their order: what is said of an item of a tag, where a Value is looked for. Assumes nothing.
use Rattle.std.specs.Prelude.{◌≡◌, ◌↔◌, List, ℕ, ◌+◌, ◌≤◌, ◌<◌, length}
use Rattle.draft.specs.declared.Refusal.{Refusal}
use Rattle.draft.specs.declared.Tag.{Tag}
use Rattle.draft.specs.declared.Tag.TheVariants as tag
use Rattle.draft.specs.declared.Form.TheVariants.{Recalled}
use Rattle.std.specs.Prelude.{None}
use Rattle.draft.specs.Bytes.{byte_at}
use Rattle.draft.specs.Refusals.{number_of}
use Rattle.draft.specs.Codebook.{Book}
use Rattle.draft.specs.Read.{Reading, refused, value}
use Rattle.wanting.specs.Want.{fields_of, announced}

-- a reading is refused with this number at this place
pub record Refuses (o : Reading) (number at : ℕ) : Type 0 where
  pub why : Refusal
  pub is : o ≡ refused why at
  pub numbered : number_of why ≡ number

-- an item of this tag is an Array or a Struct
abbrev pub Nesting : Tag → Type 0
Nesting tag.Array = Unit {0}
Nesting tag.Struct = Unit {0}
Nesting (tag.Plain x) = ⊥
Nesting (tag.String form) = ⊥
Nesting tag.Unknown = ⊥

-- it may stand where Arrays and Structs nest to so many: neither 3 nor 8 is said of it
abbrev pub Allowed : Tag → ℕ → Type 0
Allowed tag.Array deep = 0 < deep
Allowed tag.Struct deep = 0 < deep
Allowed (tag.Plain x) deep = Unit {0}
Allowed (tag.String form) deep = Unit {0}
Allowed tag.Unknown deep = ⊥

-- 1 if no byte is there; 3; 8; 9; 1 for its fixed fields; 1 for its content: each if none before it is said
pub record Ordered (s : List ℕ) (room deep at r : ℕ) (book : Book) (t : Tag) : Type 0 where
  pub absent : length s ≤ at → Refuses (value s room deep at r book) 1 at
  pub three : at < length s → t ≡ tag.Unknown → Refuses (value s room deep at r book) 3 at
  pub eight : at < length s → Nesting t → deep ≡ 0 → Refuses (value s room deep at r book) 8 at
  pub nine : at < length s → Allowed t deep → room ≤ r → Refuses (value s room deep at r book) 9 at
  pub fields : at < length s → Allowed t deep → r < room → length s < at + fields_of t → Refuses (value s room deep at r book) 1 at
  pub content :
      at < length s → Allowed t deep → r < room → at + fields_of t ≤ length s → length s < at + fields_of t + announced s at t
      → Refuses (value s room deep at r book) 1 at
  -- 6 of a recall exactly if its position holds nothing in the codebook there
  pub six : t ≡ tag.String Recalled → r < room → at + 2 ≤ length s → Refuses (value s room deep at r book) 6 at ↔ (book (byte_at s (at + 1)) ≡ None)
