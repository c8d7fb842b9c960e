use Rattle.drill_parts.proofs.Hosting.{host_is}
use Rattle.drill_parts.proofs.host.host_of.Goals as goal

pub returns : goal.returns
returns c =
    host_is c.args.publishes.now c.in_ok-callers.callers.items c.in_ok-kit.kit c.new-2.result c.in_ok-kit.ensures c.in_ok-callers.ensures c.new-2.ensures.content c.new-2.ensures.callers c.new-2.ensures.state
    c.new-2.ensures.fails
