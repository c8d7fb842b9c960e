-- The grammar of topic and channel names, over whole byte lists.
use Rattle.std.specs.Prelude.{ℕ, ◌-◌, ◌<◌, ◌≤◌, Bool, ◌||◌, ◌&&◌, ◌==◌, nat_le, nat_eq, if◌then◌else◌, IsTrue, List, length, take, codes}
use Rattle.std.specs.List.{ends_with, AllPass}

-- one of the bytes `.`, `_`, `-`, `0` to `9`, `A` to `Z`, `a` to `z`
abbrev pub is_name_byte : ℕ → Bool
is_name_byte b = b == 46 || b == 95 || b == 45 || (nat_le 48 b && nat_le b 57) || (nat_le 65 b && nat_le b 90) || (nat_le 97 b && nat_le b 122)

-- the ending of a name whose topic or channel is never written to disk
abbrev pub ephemeral_suffix : List ℕ
ephemeral_suffix = codes "#ephemeral"

-- whether the bytes end with the ephemeral suffix
abbrev pub is_ephemeral : List ℕ → Bool
is_ephemeral name = ends_with nat_eq name ephemeral_suffix

-- the bytes end with the ephemeral suffix
abbrev pub IsEphemeral : List ℕ → Type 0
IsEphemeral name = IsTrue (is_ephemeral name)

-- the bytes before the ephemeral suffix, or all of them where there is none
abbrev pub stem : List ℕ → List ℕ
stem name = if is_ephemeral name then take (length name - length ephemeral_suffix) name else name

-- the bytes are a name: one or more name bytes, then perhaps the ephemeral suffix, together at most 64
pub record IsName (name : List ℕ) : Type 0 where
  pub not_empty : 0 < length (stem name)
  pub allowed : AllPass is_name_byte (stem name)
  pub short : length name ≤ 64
