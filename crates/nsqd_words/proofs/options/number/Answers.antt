use Rattle.std.proofs.Common.{refl}
use Rattle.std.specs.Prelude.{◌^◌}
use Rattle.clap.specs.Matches.{found_of}
use Rattle.nsqd_words.specs.Numbers.{IsNumber}
use Rattle.nsqd_words.proofs.SayingLemmas.{finds_number, finds_value, value_absent}
use Rattle.nsqd_words.proofs.options.number.Goals as goal

pub returns-in-Some : goal.returns-in-Some
returns-in-Some c =
    finds_value IsNumber c.args.default (found_of c.args.matches.now) c.args.name.now c.in-Some.text.now (2 ^ 64) c.read_number.result c.in-Some.ensures
    (finds_number c.in-Some.text.now (2 ^ 64) c.read_number.result (rw c.as_bytes.ensures.value at c.read_number.ensures))

pub returns-in-None : goal.returns-in-None
returns-in-None c = value_absent IsNumber c.args.default (found_of c.args.matches.now) c.args.name.now c.args.default c.in-None.ensures refl
