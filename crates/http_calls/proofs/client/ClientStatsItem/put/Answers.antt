use Rattle.std.proofs.Common.{◌≡◌, ◌++◌, [], ◌∷◌, List, OnOk, codes, subst}
use Rattle.json.specs.Token.{Token, begin_object, end_object}
use Rattle.http_calls.specs.Tokens.{client_tokens, count_tokens, said_tokens}
use Rattle.http_calls.proofs.Appending.{all_appended}
use Rattle.http_calls.proofs.client.ClientStatsItem.put.Goals as goal

pub returns-clause-ok : goal.returns-clause-ok
returns-clause-ok c =
    let self = c.args.self.now in
    let is : c.put_said-3.new.page.tokens ++ end_object ∷ [] ≡ c.args.page.now.tokens ++ client_tokens self =
    rw (
      c.in_ok-put_said-3.ensures.ok,
      c.in_ok-put_count-5.ensures.ok,
      c.in_ok-put_count-4.ensures.ok,
      c.in_ok-put_count-3.ensures.ok,
      c.in_ok-put_count-2.ensures.ok,
      c.in_ok-put_said-2.ensures.ok,
      c.in_ok-put_count.ensures.ok,
      c.in_ok-put_said.ensures.ok,
      c.in_ok-begin_object.ensures.ok,
      c.bytes.ensures,
      c.bytes-2.ensures,
      c.bytes-3.ensures,
    ) (all_appended c.args.page.now.tokens (begin_object ∷ []) (
    said_tokens (codes "client_id") self.client_id
    ∷ count_tokens (codes "finish_count") self.finish_count
    ∷ said_tokens (codes "hostname") self.hostname
    ∷ count_tokens (codes "in_flight_count") self.in_flight_count
    ∷ count_tokens (codes "message_count") self.message_count
    ∷ count_tokens (codes "ready_count") self.ready_count
    ∷ count_tokens (codes "requeue_count") self.requeue_count
    ∷ said_tokens (codes "user_agent") self.user_agent
    ∷ (end_object ∷ []) ∷ [])) in
    subst (λ (tokens : List Token). OnOk c.end_object.result (c.end_object.new.self.tokens ≡ tokens)) is c.end_object.ensures.ok
