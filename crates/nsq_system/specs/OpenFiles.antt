-- Which files are open.
use Rattle.std.specs.Prelude.{ℕ, ◌≡◌, List, None, String, string_bytes}
use Rattle.std.specs.declared.alloc.Global.{Global}
use Rattle.std.specs.Map.{lookup}
use Rattle.std.specs.Str.{bytes_eq}

-- no file of this name is among the open ones
abbrev pub IsClosed : {F : Type 0} → List (String Global × F) → List ℕ → Type 0
IsClosed opened name = lookup (λ key. bytes_eq name (string_bytes key)) opened ≡ None
