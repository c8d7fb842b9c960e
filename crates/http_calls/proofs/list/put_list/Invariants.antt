use Rattle.std.proofs.Common.{◌≡◌, ℕ, ◌++◌, List, flat_map, take}
use Rattle.json.specs.Token.{Token}
use Rattle.http_calls.proofs.list.put_list.Given as goal

-- the items so far are written; what stood before the text stays
pub record Listed {X : Type 0} (tokens : X → List Token) (items : List X) (i : ℕ) (old new : List Token) (old_text new_text : List ℕ) : Type 0 where
  pub written : new ≡ old ++ flat_map tokens (take i items)
  pub before : new_text ≡ old_text

abbrev pub invariant-items : goal.invariant-items
invariant-items g l = Listed g.T.Item.tokens l.items l.item-index l.initial.page.tokens l.page.tokens l.initial.page.before l.page.before
