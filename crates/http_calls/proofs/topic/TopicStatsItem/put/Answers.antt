use Rattle.std.proofs.Common.{◌≡◌, ◌++◌, [], ◌∷◌, List, OnOk, codes, subst}
use Rattle.json.specs.Token.{Token, begin_object, end_object, key, string, boolean}
use Rattle.http_calls.specs.Tokens.{channel_tokens, topic_tokens, count_tokens, list_tokens}
use Rattle.http_calls.proofs.Appending.{all_appended}
use Rattle.http_calls.proofs.topic.TopicStatsItem.put.Goals as goal

pub returns-clause-ok : goal.returns-clause-ok
returns-clause-ok c =
    let self = c.args.self.now in
    let is : c.put_name.new.page.tokens ++ end_object ∷ [] ≡ c.args.page.now.tokens ++ topic_tokens self =
    rw (
      c.in_ok-put_name.ensures.ok,
      c.in_ok-put_flag.ensures.ok,
      c.in_ok-put_count.ensures.ok,
      c.in_ok-put_depth-2.ensures.ok,
      c.in_ok-put_list.ensures.ok,
      c.in_ok-put_depth.ensures.ok,
      c.in_ok-begin_object.ensures.ok,
      c.as_str.ensures,
      c.as_slice.ensures,
    ) (all_appended c.args.page.now.tokens (begin_object ∷ []) (
    count_tokens (codes "backend_depth") self.backend_depth
    ∷ list_tokens channel_tokens (codes "channels") self.channels
    ∷ count_tokens (codes "depth") self.depth
    ∷ count_tokens (codes "message_count") self.message_count
    ∷ (key (codes "paused") ∷ boolean self.paused ∷ [])
    ∷ (key (codes "topic_name") ∷ string self.topic_name ∷ [])
    ∷ (end_object ∷ []) ∷ [])) in
    subst (λ (tokens : List Token). OnOk c.end_object.result (c.end_object.new.self.tokens ≡ tokens)) is c.end_object.ensures.ok
