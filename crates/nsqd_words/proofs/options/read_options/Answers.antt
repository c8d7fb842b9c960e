use Rattle.std.proofs.Common.{subst, sym}
use Rattle.clap.specs.Matches.{found_of}
use Rattle.clap.specs.Walk.{rows_of}
use Rattle.nsq_base.specs.declared.options.Options.{Options}
use Rattle.nsqd_words.specs.Saying.{SaysValues}
use Rattle.nsqd_words.proofs.SayingLemmas.{finds_options, says_all}
use Rattle.nsqd_words.proofs.options.read_options.Goals as goal

pub returns : goal.returns
returns c =
    let rows = rows_of (found_of c.args.matches.now) in
    let said = says_all rows c.in_ok-texts.texts c.in-Some.sizes c.in-Some-read_times.times c.flag-http_stop.result c.in_ok-texts.ensures c.in-Some.ensures c.in-Some-read_times.ensures c.flag-http_stop.ensures in
    finds_options rows c.put_together.result c.in_range.result (subst (λ (o : Options). SaysValues rows o) (sym c.put_together.ensures) said) c.in_range.ensures
