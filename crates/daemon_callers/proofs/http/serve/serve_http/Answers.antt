use Rattle.std.proofs.Common.{◌∙◌, refl, sym, subst, arith}
use Rattle.daemon_callers.specs.declared.http.ended.EndedHttp.{EndedHttp}
use Rattle.daemon_callers.specs.Exchange.{HasCause}
use Rattle.daemon_callers.proofs.ComingLemmas.{same_stream, cause_since}
use Rattle.daemon_callers.proofs.ExchangeLemmas.{given_up_reading, refused_exchange, answered_exchange, over_exchange, warned_since, warned_otherwise}
use Rattle.daemon_callers.proofs.http.serve.serve_http.Goals as goal

pub returns-in-Whole : goal.returns-in-Whole
returns-in-Whole g c =
    let read = c.read_request.ensures in
    let wrote = c.finish.ensures in
    record {
      exchange = λ pieces written tells none no_written.
          let came = c.in-Whole.ensures.came c.args.options.now refl pieces tells none (c.requires.new tells) in
          answered_exchange c.args.options.now c.args.began c.args.number (g.K.Source.pieces c.read_request.new.conn) (g.D.Desk.seen c.respond-answer.new.desk) (g.K.Sink.written c.read_request.new.conn) (g.K.Sink.written c.finish.new.conn)
          (read.written ∙ no_written) c.in-Whole.request came.1 (g.K.Source.pieces c.finish.new.conn) c.respond-answer.result c.finish.result wrote.pieces came.0.read
          (c.respond-answer.ensures.responds tells came.0.none) (wrote.told written);
      warned = λ written. warned_since c.finish.result _ _ _ _ _ _ read.written read.write_faults (wrote.warned written);
      cause = cause_since c.finish.result _ _ _ _ _ _ _ read.read_faults read.write_faults wrote.cause;
      stream = λ told. same_stream _ _ _ _ wrote.pieces wrote.left ∙ read.stream told;
      read_faults = omega (arith, read.read_faults, wrote.read_faults);
      write_faults = omega (arith, read.write_faults, wrote.write_faults);
      number = c.respond-answer.ensures.number ∙ read.number;
      wanted = c.respond-answer.ensures.wanted ∙ read.wanted;
      leads = g.met.D.Desk.goes_on _ _ _ read.leads c.respond-answer.ensures.leads;
    }

pub returns-in-Refused : goal.returns-in-Refused
returns-in-Refused g c =
    let read = c.read_request.ensures in
    let wrote = c.finish-in-Refused in
    record {
      exchange = λ pieces written tells none no_written.
          let came = c.in-Refused.ensures.came c.args.options.now refl pieces tells none (c.requires.new tells) in
          refused_exchange c.args.options.now c.args.began c.args.number (g.K.Source.pieces c.read_request.new.conn) (g.D.Desk.seen c.read_request.new.desk) (g.K.Sink.written c.read_request.new.conn) (g.K.Sink.written wrote.new.conn)
          (read.written ∙ no_written) (g.K.Source.pieces wrote.new.conn) c.in-Refused.refusal c.answer.result wrote.result wrote.ensures.pieces came.0 came.1 c.answer.ensures.value (wrote.ensures.told written);
      warned = λ written. warned_since wrote.result _ _ _ _ _ _ read.written read.write_faults (wrote.ensures.warned written);
      cause = cause_since wrote.result _ _ _ _ _ _ _ read.read_faults read.write_faults wrote.ensures.cause;
      stream = λ told. same_stream _ _ _ _ wrote.ensures.pieces wrote.ensures.left ∙ read.stream told;
      read_faults = omega (arith, read.read_faults, wrote.ensures.read_faults);
      write_faults = omega (arith, read.write_faults, wrote.ensures.write_faults);
      number = read.number;
      wanted = read.wanted;
      leads = read.leads;
    }

pub returns-in-Over : goal.returns-in-Over
returns-in-Over g c =
    let read = c.read_request.ensures in
    record {
      exchange = λ pieces written tells none no_written.
          over_exchange c.args.options.now c.args.began c.args.number (g.K.Source.pieces c.read_request.new.conn) (g.D.Desk.seen c.read_request.new.desk) (g.K.Sink.written c.args.conn.now) (g.K.Sink.written c.read_request.new.conn) c.in-Over.ended no_written
          read.written (c.in-Over.ensures.came c.args.options.now refl pieces tells none (c.requires.new tells) c.args.began);
      warned = λ written. warned_otherwise c.in-Over.ended _ _ _ _ c.in-Over.ensures.otherwise;
      cause = c.in-Over.ensures.cause;
      stream = read.stream;
      read_faults = read.read_faults;
      write_faults = read.write_faults;
      number = read.number;
      wanted = read.wanted;
      leads = read.leads;
    }

pub returns-in-Memory : goal.returns-in-Memory
returns-in-Memory g c =
    let read = c.read_request.ensures in
    let up = c.give_up in
    record {
      exchange = λ pieces written tells none no_written.
          let came = c.in-Memory.ensures.came c.args.options.now refl pieces tells none (c.requires.new tells) in
          given_up_reading c.args.options.now c.args.began c.args.number (g.K.Source.pieces c.read_request.new.conn) (g.D.Desk.seen c.read_request.new.desk) (g.K.Sink.written c.read_request.new.conn) (g.K.Sink.written up.new.conn)
          (read.written ∙ no_written) (g.K.Source.pieces up.new.conn) up.result up.ensures.pieces came up.ensures.memory (up.ensures.told written);
      warned = λ written. warned_since up.result _ _ _ _ _ _ read.written read.write_faults (up.ensures.warned written);
      cause = subst (λ (x : EndedHttp).
          HasCause x (g.K.Source.ended up.new.conn) (g.K.Source.read_faults c.args.conn.now) (g.K.Source.read_faults up.new.conn) (g.K.Sink.write_faults c.args.conn.now) (g.K.Sink.write_faults up.new.conn)) (sym up.ensures.memory) tt;
      stream = λ told. same_stream _ _ _ _ up.ensures.pieces up.ensures.left ∙ read.stream told;
      read_faults = omega (arith, read.read_faults, up.ensures.read_faults);
      write_faults = omega (arith, read.write_faults, up.ensures.write_faults);
      number = read.number;
      wanted = read.wanted;
      leads = read.leads;
    }
