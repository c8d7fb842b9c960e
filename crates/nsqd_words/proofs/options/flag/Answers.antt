use Rattle.std.proofs.Common.{ap, ◌∙◌}
use Rattle.clap.specs.Matches.{found_of}
use Rattle.nsqd_words.specs.Command.{is_from_words}
use Rattle.nsqd_words.proofs.SayingLemmas.{source-rows}
use Rattle.nsqd_words.proofs.options.flag.Goals as goal

pub returns : goal.returns
returns c =
    c.is_from_words.ensures ∙ ap is_from_words (c.value_source.ensures ∙ source-rows (found_of c.args.matches.now) c.args.name.now)
