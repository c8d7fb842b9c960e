-- What the fields of a head say of its body.
use Rattle.std.specs.Prelude.{◌≡◌, ℕ, Bool, if◌then◌else◌, List, [], ◌∷◌, map, codes}
use Rattle.std.specs.Char.{to_ascii_lowercase}
use Rattle.std.specs.Str.{bytes_eq}
use Rattle.nsq_base.specs.Decimal.{IsDecimal}

-- the name of the field that says how long the body is
abbrev pub content_length : List ℕ
content_length = codes "content-length"

-- the name of the field that says that the body comes in another form than so many bytes
abbrev pub transfer_encoding : List ℕ
transfer_encoding = codes "transfer-encoding"

-- the two names are one: the case of ASCII letters doesn't matter
abbrev pub is_named : List ℕ → List ℕ → Bool
is_named name other = bytes_eq (map to_ascii_lowercase other) (map to_ascii_lowercase name)

-- the values of the fields of this name, in their order. A field is a name and a value
unfoldable pub values_of : List ℕ → List (List ℕ × List ℕ) → List (List ℕ)
values_of name [] = []
values_of name (field ∷ fields) = if is_named name field.0 then field.1 ∷ values_of name fields else values_of name fields

-- the length that the values of Content-Length give: 0 where there are none, and where there is one, the number that it spells
-- with 1 to 18 digits. All else gives none: two values, a sign, a list, more digits
abbrev pub IsLength : List (List ℕ) → ℕ → Type 0
IsLength [] size = size ≡ 0
IsLength (value ∷ []) size = IsDecimal 18 value size
IsLength (value ∷ other ∷ values) size = ⊥

-- the fields say that the body has so many bytes
abbrev pub IsBodySize : List (List ℕ × List ℕ) → ℕ → Type 0
IsBodySize fields size = IsLength (values_of content_length fields) size

-- no field has this name
abbrev pub HasNone : List ℕ → List (List ℕ × List ℕ) → Type 0
HasNone name fields = values_of name fields ≡ []
