use Rattle.std.proofs.Common.{refl}
use Rattle.std.specs.Prelude.{◌^◌}
use Rattle.clap.specs.Matches.{found_of}
use Rattle.nsqd_words.specs.Durations.{IsDuration}
use Rattle.nsqd_words.proofs.SayingLemmas.{finds_value, value_absent}
use Rattle.nsqd_words.proofs.options.duration.Goals as goal

pub returns-in-Some : goal.returns-in-Some
returns-in-Some c =
    finds_value IsDuration c.args.default (found_of c.args.matches.now) c.args.name.now c.in-Some.text.now (2 ^ 64) c.read_duration.result c.in-Some.ensures
    (rw c.as_bytes.ensures.value at c.read_duration.ensures)

pub returns-in-None : goal.returns-in-None
returns-in-None c = value_absent IsDuration c.args.default (found_of c.args.matches.now) c.args.name.now c.args.default c.in-None.ensures refl
