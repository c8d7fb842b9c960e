use Rattle.std.proofs.Common.{◌≡◌, ◌++◌, [], ◌∷◌, List, OnOk, arith, refl, subst, ◌∙◌}
use Rattle.json.specs.Token.{Token, end_array}
use Rattle.http_calls.specs.Tokens.{list_tokens}
use Rattle.http_calls.proofs.Appending.{none_yet, one_written, list_whole}
use Rattle.http_calls.proofs.list.put_list.Goals as goal

pub returns-in_err-key-clause-before : goal.returns-in_err-key-clause-before
returns-in_err-key-clause-before g c = c.key.ensures.room.0

pub returns-in_err-begin_array-clause-before : goal.returns-in_err-begin_array-clause-before
returns-in_err-begin_array-clause-before g c = c.begin_array.ensures.room.0 ∙ c.key.ensures.room.0

pub items-init : goal.items-init
items-init g c = record { written = none_yet g.T.Item.tokens c.args.items.now c.begin_array.new.self.tokens; before = refl }

pub items-preserved : goal.items-preserved
items-preserved g c = record {
  written = one_written g.T.Item.tokens c.args.items.now c.items.item-index c.item-item.result c.begin_array.new.self.tokens c.items.page.tokens c.put.new.page.tokens c.item-item.is c.items-test.true c.items.invariant.written c.in_ok-put.ensures.ok;
  before = c.put.ensures.before ∙ c.items.invariant.before;
}

pub returns-in_err-put-clause-before : goal.returns-in_err-put-clause-before
returns-in_err-put-clause-before g c = c.put.ensures.before ∙ c.items.invariant.before ∙ c.begin_array.ensures.room.0 ∙ c.key.ensures.room.0

pub returns-clause-before : goal.returns-clause-before
returns-clause-before g c = c.end_array.ensures.room.0 ∙ c.items.invariant.before ∙ c.begin_array.ensures.room.0 ∙ c.key.ensures.room.0

pub returns-clause-ok : goal.returns-clause-ok
returns-clause-ok g c =
    let old = c.args.page.now.tokens in
    let is : c.items.page.tokens ++ end_array ∷ [] ≡ old ++ list_tokens g.T.Item.tokens c.args.name.now c.args.items.now =
    list_whole g.T.Item.tokens c.args.name.now c.args.items.now c.items.item-index old _ _ _ c.in_ok-key.ensures.ok c.in_ok-begin_array.ensures.ok c.items.invariant.written (omega arith) in
    subst (λ (tokens : List Token). OnOk c.end_array.result (c.end_array.new.self.tokens ≡ tokens)) is c.end_array.ensures.ok
