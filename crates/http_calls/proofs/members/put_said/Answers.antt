use Rattle.std.proofs.Common.{◌≡◌, ℕ, [], ◌∷◌, ◌++◌, List, OnOk, subst}
use Rattle.json.specs.Token.{key, string}
use Rattle.http_calls.proofs.Appending.{said_is}
use Rattle.http_calls.proofs.members.put_said.Goals as goal

pub returns-in-Ok-clause-ok : goal.returns-in-Ok-clause-ok
returns-in-Ok-clause-ok c =
    subst (λ (text : List ℕ). OnOk c.put_name.result (c.put_name.new.page.tokens ≡ c.args.page.now.tokens ++ key c.args.name.now ∷ string text ∷ []))
    (said_is c.in-Ok.text.now c.args.said.now c.in-Ok.ensures.cases.0 c.in-Ok.ensures.cases.1)
    c.put_name.ensures.ok
