use Rattle.std.proofs.Common.{◌≡◌, ◌++◌, [], ◌∷◌, List, OnOk, codes, subst}
use Rattle.json.specs.Token.{Token, begin_object, end_object, key, string}
use Rattle.http_calls.specs.Tokens.{topic_tokens, stats_tokens, count_tokens, list_tokens}
use Rattle.http_calls.proofs.Appending.{all_appended}
use Rattle.http_calls.proofs.text.put_stats.Goals as goal

pub returns-clause-ok : goal.returns-clause-ok
returns-clause-ok c =
    let stats = c.args.stats.now in
    let is : c.put_name-2.new.page.tokens ++ end_object ∷ [] ≡ c.args.page.now.tokens ++ stats_tokens c.args.start stats =
    rw (
      c.in_ok-put_name-2.ensures.ok,
      c.in_ok-put_list.ensures.ok,
      c.in_ok-put_count.ensures.ok,
      c.in_ok-put_name.ensures.ok,
      c.in_ok-begin_object.ensures.ok,
      c.as_slice.ensures,
    ) (all_appended c.args.page.now.tokens (begin_object ∷ []) (
    (key (codes "health") ∷ string (codes "OK") ∷ [])
    ∷ count_tokens (codes "start_time") c.args.start
    ∷ list_tokens topic_tokens (codes "topics") stats.topics
    ∷ (key (codes "version") ∷ string (codes "1.0.0") ∷ [])
    ∷ (end_object ∷ []) ∷ [])) in
    subst (λ (tokens : List Token). OnOk c.end_object.result (c.end_object.new.self.tokens ≡ tokens)) is c.end_object.ensures.ok
