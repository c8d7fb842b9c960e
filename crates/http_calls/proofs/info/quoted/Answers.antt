use Rattle.std.proofs.Common.{◌≡◌, ℕ, List, [], ◌∷◌, ◌++◌, ap, ap₂, ◌∙◌}
use Rattle.json.specs.Token.{Token, string}
use Rattle.json.specs.Print.{quoted}
use Rattle.http_calls.proofs.InfoLemmas.{string_alone}
use Rattle.http_calls.proofs.info.quoted.Goals as goal

pub returns : goal.returns
returns c =
    let text = c.in-Ok.text.now in
    let before : c.string.new.self.before ≡ [] = c.in_ok-string.ensures.room.0 ∙ c.new-page.ensures.before ∙ c.new.ensures.items in
    let tokens : c.string.new.self.tokens ≡ string text ∷ [] = c.in_ok-string.ensures.ok ∙ ap (λ (ts : List Token). ts ++ string text ∷ []) c.new-page.ensures.tokens in
    c.into_inner.ensures.items ∙ ap₂ (λ (x y : List ℕ). x ++ y) before (string_alone text c.string.new.self.tokens tokens) ∙ ap quoted c.in-Ok.ensures.cases.0
