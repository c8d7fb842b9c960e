use Rattle.daemon_callers.proofs.Exchanges.{cause_from_0, stream_whole, warned_from_0}
use Rattle.daemon_callers.proofs.exchanging.serve_http_caller.Goals as goal

pub returns-clause-served : goal.returns-clause-served
returns-clause-served g c = λ pieces written tells fresh.
    let done = c.exchange-ended in
    record {
      ended = done.result;
      exchange = done.ensures.exchange pieces written tells fresh.nothing_read fresh.nothing_written;
      warned = warned_from_0 done.result _ _ _ _ fresh.nothing_written fresh.no_write_fault (done.ensures.warned written);
      cause = cause_from_0 done.result _ _ _ _ _ fresh.no_read_fault fresh.no_write_fault done.ensures.cause;
      stream = stream_whole _ (g.K.Source.pieces done.new.conn) (g.K.Source.left c.args.conn.now) (g.K.Source.left done.new.conn) fresh.nothing_read (done.ensures.stream pieces);
    }
