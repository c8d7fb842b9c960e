use Rattle.std.proofs.Common.{◌≡◌, ℕ, ◌++◌, List, Bool, false, nat_lt, take}
use Rattle.names_file.specs.Texts.{items_text}
use Rattle.names_file.proofs.names.write_list.Given as goal

-- the items so far stand behind the bracket; something stands before the next one if it isn't the first
pub record Listed {X : Type 0} (text : X → List ℕ) (items : List X) (before now : List ℕ) (i : ℕ) (later : Bool) : Type 0 where
  pub appended : now ≡ before ++ items_text text false (take i items)
  pub commas : later ≡ nat_lt 0 i

abbrev pub invariant-items : goal.invariant-items
invariant-items g l = Listed g.T.Item.text l.items l.initial.out.items l.out.items l.item-index l.later
