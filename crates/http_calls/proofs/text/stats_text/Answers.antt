use Rattle.std.proofs.Common.{sym, ap, ◌∙◌}
use Rattle.http_calls.proofs.Printing.{not_err, stats_whole}
use Rattle.http_calls.proofs.text.stats_text.Goals as goal

pub returns-clause-ok : goal.returns-clause-ok
returns-clause-ok c =
    let page = c.put_stats-done.new.page in
    stats_whole c.args.began c.args.stats.now c.args.out.now.items page.before c.into_inner.result.items c.new-page.result.tokens page.tokens
    c.into_inner.ensures.items
    (c.put_stats-done.ensures.before ∙ c.new-page.ensures.before ∙ ap (λ bytes. bytes.items) c.replace.ensures.value)
    (not_err c.put_stats-done.result (sym c.is_err.ensures.value ∙ c.if-is_err.false) c.put_stats-done.ensures.ok)
    c.new-page.ensures.tokens
