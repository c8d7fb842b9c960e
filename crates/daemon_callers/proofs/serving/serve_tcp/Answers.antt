use Rattle.std.proofs.Common.{subst}
use Rattle.daemon_callers.specs.Served.{Talks}
use Rattle.daemon_callers.proofs.Exchanges.{stream_whole}
use Rattle.daemon_callers.proofs.Handing.{cause_allows}
use Rattle.daemon_callers.proofs.serving.serve_tcp.Goals as goal

pub returns-clause-served : goal.returns-clause-served
returns-clause-served g c = λ pieces written tells fresh.
    let done = c.converse-ended in
    record {
      ended = done.result;
      talks = subst (λ n. Talks c.args.limits c.args.number (g.T.Turner.notes done.new.floor) (g.K.Source.pieces done.new.conn) (g.K.Sink.written done.new.conn) n (g.K.Sink.write_faults done.new.conn) done.result) fresh.no_write_fault
          (done.ensures.talks pieces written tells fresh.nothing_read fresh.nothing_written);
      cause = cause_allows done.result _ _ _ _ _ fresh.no_read_fault fresh.no_write_fault done.ensures.cause;
      stream = stream_whole _ (g.K.Source.pieces done.new.conn) (g.K.Source.left c.args.conn.now) (g.K.Source.left done.new.conn) fresh.nothing_read (done.ensures.stream pieces);
    }
