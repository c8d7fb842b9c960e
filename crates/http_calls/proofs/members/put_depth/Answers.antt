use Rattle.std.proofs.Common.{subst, sym, arith}
use Rattle.json.specs.Print.{IsNumber}
use Rattle.http_calls.proofs.Numbers.{IsNumber-decimal_wide}
use Rattle.http_calls.proofs.members.put_depth.Goals as goal

pub number-requires : goal.number-requires
number-requires c = subst IsNumber (sym c.format.ensures.text) (IsNumber-decimal_wide c.args.depth (omega (arith, c.ranges.depth)))
