use Rattle.std.proofs.Common.{◌≡◌, ◌++◌, [], ◌∷◌, List, OnOk, codes, subst, ◌∙◌}
use Rattle.json.specs.Token.{Token, begin_object, end_object, key, string, boolean}
use Rattle.http_calls.specs.Tokens.{client_tokens, channel_tokens, count_tokens, list_tokens}
use Rattle.http_calls.proofs.Appending.{all_appended}
use Rattle.http_calls.proofs.channel.ChannelStatsItem.put.Goals as goal

pub returns-clause-ok : goal.returns-clause-ok
returns-clause-ok c =
    let self = c.args.self.now in
    let is : c.put_count-5.new.page.tokens ++ end_object ∷ [] ≡ c.args.page.now.tokens ++ channel_tokens self =
    rw (
      c.in_ok-put_count-5.ensures.ok,
      c.in_ok-put_count-4.ensures.ok,
      c.in_ok-put_flag.ensures.ok,
      c.in_ok-put_count-3.ensures.ok,
      c.in_ok-put_count-2.ensures.ok,
      c.in_ok-put_depth-2.ensures.ok,
      c.in_ok-put_count.ensures.ok,
      c.in_ok-put_list.ensures.ok,
      c.in_ok-put_name.ensures.ok,
      c.in_ok-put_depth.ensures.ok,
      c.in_ok-begin_object.ensures.ok,
      c.as_str.ensures,
      c.as_slice.ensures,
    ) (all_appended c.args.page.now.tokens (begin_object ∷ []) (
    count_tokens (codes "backend_depth") self.backend_depth
    ∷ (key (codes "channel_name") ∷ string self.channel_name ∷ [])
    ∷ list_tokens client_tokens (codes "clients") self.clients
    ∷ count_tokens (codes "deferred_count") self.deferred_count
    ∷ count_tokens (codes "depth") self.depth
    ∷ count_tokens (codes "in_flight_count") self.in_flight_count
    ∷ count_tokens (codes "message_count") self.message_count
    ∷ (key (codes "paused") ∷ boolean self.paused ∷ [])
    ∷ count_tokens (codes "requeue_count") self.requeue_count
    ∷ count_tokens (codes "timeout_count") self.timeout_count
    ∷ (end_object ∷ []) ∷ [])) in
    subst (λ (tokens : List Token). OnOk c.end_object.result (c.end_object.new.self.tokens ≡ tokens)) is c.end_object.ensures.ok

pub returns-in_err-begin_object-clause-before : goal.returns-in_err-begin_object-clause-before
returns-in_err-begin_object-clause-before c = c.begin_object.ensures.room.0

pub returns-in_err-put_depth-clause-before : goal.returns-in_err-put_depth-clause-before
returns-in_err-put_depth-clause-before c = c.put_depth.ensures.before ∙ c.begin_object.ensures.room.0

pub returns-in_err-put_name-clause-before : goal.returns-in_err-put_name-clause-before
returns-in_err-put_name-clause-before c = c.put_name.ensures.before ∙ c.put_depth.ensures.before ∙ c.begin_object.ensures.room.0

pub returns-in_err-put_list-clause-before : goal.returns-in_err-put_list-clause-before
returns-in_err-put_list-clause-before c = c.put_list.ensures.before ∙ c.put_name.ensures.before ∙ c.put_depth.ensures.before ∙ c.begin_object.ensures.room.0

pub returns-in_err-put_count-clause-before : goal.returns-in_err-put_count-clause-before
returns-in_err-put_count-clause-before c = c.put_count.ensures.before ∙ c.put_list.ensures.before ∙ c.put_name.ensures.before ∙ c.put_depth.ensures.before ∙ c.begin_object.ensures.room.0

pub returns-in_err-put_depth-2-clause-before : goal.returns-in_err-put_depth-2-clause-before
returns-in_err-put_depth-2-clause-before c = c.put_depth-2.ensures.before ∙ c.put_count.ensures.before ∙ c.put_list.ensures.before ∙ c.put_name.ensures.before ∙ c.put_depth.ensures.before ∙ c.begin_object.ensures.room.0

pub returns-in_err-put_count-2-clause-before : goal.returns-in_err-put_count-2-clause-before
returns-in_err-put_count-2-clause-before c = c.put_count-2.ensures.before ∙ c.put_depth-2.ensures.before ∙ c.put_count.ensures.before ∙ c.put_list.ensures.before ∙ c.put_name.ensures.before ∙ c.put_depth.ensures.before ∙ c.begin_object.ensures.room.0

pub returns-in_err-put_count-3-clause-before : goal.returns-in_err-put_count-3-clause-before
returns-in_err-put_count-3-clause-before c = c.put_count-3.ensures.before ∙ c.put_count-2.ensures.before ∙ c.put_depth-2.ensures.before ∙ c.put_count.ensures.before ∙ c.put_list.ensures.before ∙ c.put_name.ensures.before ∙ c.put_depth.ensures.before ∙ c.begin_object.ensures.room.0

pub returns-in_err-put_flag-clause-before : goal.returns-in_err-put_flag-clause-before
returns-in_err-put_flag-clause-before c = c.put_flag.ensures.before ∙ c.put_count-3.ensures.before ∙ c.put_count-2.ensures.before ∙ c.put_depth-2.ensures.before ∙ c.put_count.ensures.before ∙ c.put_list.ensures.before ∙ c.put_name.ensures.before ∙ c.put_depth.ensures.before ∙ c.begin_object.ensures.room.0

pub returns-in_err-put_count-4-clause-before : goal.returns-in_err-put_count-4-clause-before
returns-in_err-put_count-4-clause-before c = c.put_count-4.ensures.before ∙ c.put_flag.ensures.before ∙ c.put_count-3.ensures.before ∙ c.put_count-2.ensures.before ∙ c.put_depth-2.ensures.before ∙ c.put_count.ensures.before ∙ c.put_list.ensures.before ∙ c.put_name.ensures.before ∙ c.put_depth.ensures.before ∙ c.begin_object.ensures.room.0

pub returns-in_err-put_count-5-clause-before : goal.returns-in_err-put_count-5-clause-before
returns-in_err-put_count-5-clause-before c = c.put_count-5.ensures.before ∙ c.put_count-4.ensures.before ∙ c.put_flag.ensures.before ∙ c.put_count-3.ensures.before ∙ c.put_count-2.ensures.before ∙ c.put_depth-2.ensures.before ∙ c.put_count.ensures.before ∙ c.put_list.ensures.before ∙ c.put_name.ensures.before ∙ c.put_depth.ensures.before ∙ c.begin_object.ensures.room.0

pub returns-clause-before : goal.returns-clause-before
returns-clause-before c = c.end_object.ensures.room.0 ∙ c.put_count-5.ensures.before ∙ c.put_count-4.ensures.before ∙ c.put_flag.ensures.before ∙ c.put_count-3.ensures.before ∙ c.put_count-2.ensures.before ∙ c.put_depth-2.ensures.before ∙ c.put_count.ensures.before ∙ c.put_list.ensures.before ∙ c.put_name.ensures.before ∙ c.put_depth.ensures.before ∙ c.begin_object.ensures.room.0
