use Rattle.std.proofs.Common.{string_bytes}
use Rattle.daemon_main.proofs.Printing.{drill_printed, drill_wanting, memory_unserved, nothing_printed}
use Rattle.daemon_main.proofs.program.print_drill.Goals as goal

pub drilled_text-requires-clause-seed : goal.drilled_text-requires-clause-seed
drilled_text-requires-clause-seed g c = c.requires.seed

pub drilled_text-requires-clause-count : goal.drilled_text-requires-clause-count
drilled_text-requires-clause-count g c = c.requires.count

pub returns-in-Ok : goal.returns-in-Ok
returns-in-Ok g c = record {
  drills =
      drill_printed g.H.Dialer.tells (g.H.Host.state c.args.host.now) (g.H.Host.state c.print.new.host) (g.H.Host.content c.args.host.now) (g.H.Host.content c.print.new.host) c.args.seed c.args.count (string_bytes c.in-Ok.text) c.as_bytes.result.now c.print.result
      c.as_bytes.ensures.value c.in-Ok.ensures c.print.ensures.prints;
  state = c.print.ensures.prints.state;
  unserved = c.print.ensures.unserved;
}

pub returns-in-Err : goal.returns-in-Err
returns-in-Err g c = record {
  drills = drill_wanting g.H.Dialer.tells (g.H.Host.state c.args.host.now) (g.H.Host.content c.args.host.now) c.args.seed c.args.count;
  state = nothing_printed (g.H.Host.state c.args.host.now);
  unserved = memory_unserved;
}
