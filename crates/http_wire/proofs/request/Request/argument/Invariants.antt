use Rattle.std.proofs.Common.{take}
use Rattle.http_wire.specs.Argument.{HasNoArgument}
use Rattle.http_wire.proofs.request.Request.argument.Given as goal

abbrev pub invariant-loop-pair : goal.invariant-loop-pair
invariant-loop-pair l = HasNoArgument (take l.pair-index l.self.query) l.name
