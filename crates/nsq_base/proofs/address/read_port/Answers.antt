use Rattle.std.proofs.Common.{◌+◌, arith}
use Rattle.std.proofs.lemmas.Str.Parse.{digits_value-take-le}
use Rattle.nsq_base.proofs.Addresses.{port_more}
use Rattle.nsq_base.proofs.address.read_port.Goals as goal

pub returns-then-port-gt65535 : goal.returns-then-port-gt65535
returns-then-port-gt65535 c =
    let more = port_more c.args.digits.now c.loop-digit.digit-index c.loop-digit.port c.from.result c.requires c.loop-digit-test.true c.loop-digit.invariant.value c.from.ensures in
    λ port. omega (arith, more, digits_value-take-le 10 c.args.digits.now (c.loop-digit.digit-index + 1) (omega arith), port.at_most)

pub loop-digit-preserved : goal.loop-digit-preserved
loop-digit-preserved c =
    record {
      value = port_more c.args.digits.now c.loop-digit.digit-index c.loop-digit.port c.from.result c.requires c.loop-digit-test.true c.loop-digit.invariant.value c.from.ensures;
      small = omega arith;
    }
