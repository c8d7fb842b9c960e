use Rattle.std.proofs.Common.{◌∙◌}
use Rattle.std.proofs.lemmas.Result.{IfOk-weaker}
use Rattle.clap.specs.Matches.{found_of}
use Rattle.nsqd_words.specs.Saying.{IsSameText}
use Rattle.nsqd_words.proofs.SayingLemmas.{value_absent, value_given}
use Rattle.nsqd_words.proofs.options.text.Goals as goal

pub returns-in-Some : goal.returns-in-Some
returns-in-Some c =
    IfOk-weaker c.copy.result _ _ (λ body h. value_given IsSameText c.args.default.now (found_of c.args.matches.now) c.args.name.now c.in-Some.text.now body c.in-Some.ensures (h ∙ c.as_bytes.ensures.value)) c.copy.ensures

pub returns-in-None : goal.returns-in-None
returns-in-None c =
    IfOk-weaker c.copy-in-None.result _ _ (λ body h. value_absent IsSameText c.args.default.now (found_of c.args.matches.now) c.args.name.now body c.in-None.ensures (h ∙ c.as_bytes-in-None.ensures.value)) c.copy-in-None.ensures
