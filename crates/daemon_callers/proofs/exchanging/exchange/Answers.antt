use Rattle.std.proofs.Common.{refl, rules}
use Rattle.daemon_callers.specs.Exchange.{IsExchangeIn}
use Rattle.daemon_callers.proofs.Moving.{at_same}
use Rattle.daemon_callers.proofs.exchanging.exchange.Goals as goal

pub returns : goal.returns
returns g c =
    let done = c.serve_http.ensures in
    record {
      exchange = λ pieces written tells none nothing.
          at_same c.serve_http.new.desk.desk.floor.now (λ f. IsExchangeIn c.args.options.now c.args.began c.args.number (g.T.Turner.notes f) (g.K.Source.pieces c.serve_http.new.conn) (g.K.Sink.written c.serve_http.new.conn) c.serve_http.result) _ (search rules)
          (done.exchange pieces written tells none nothing);
      warned = done.warned;
      cause = done.cause;
      stream = done.stream;
      leads = at_same c.serve_http.new.desk.desk.floor.now (λ f. g.T.Turner.leads c.args.number c.args.floor.now f) _ (search rules) done.leads.0.1;
    }

pub serve_http-requires-clause-number : goal.serve_http-requires-clause-number
serve_http-requires-clause-number g c κs within = (c.requires.number, refl)

pub serve_http-requires-clause-new : goal.serve_http-requires-clause-new
serve_http-requires-clause-new g c κs within = c.requires.new

pub serve_http-requires-clause-options : goal.serve_http-requires-clause-options
serve_http-requires-clause-options g c κs within = c.requires.options
