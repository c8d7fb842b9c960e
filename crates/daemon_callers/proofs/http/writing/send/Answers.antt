use Rattle.std.proofs.Common.{◌∙◌, sym, subst}
use Rattle.daemon_callers.specs.declared.http.ended.EndedHttp.{EndedHttp}
use Rattle.daemon_callers.specs.Exchange.{HasCause}
use Rattle.daemon_callers.specs.Written.{Sends}
use Rattle.daemon_callers.proofs.WriteLemmas.{made_whole, sends_whole, sends_part}
use Rattle.daemon_callers.proofs.http.writing.send.Goals as goal

pub returns-then-is_err : goal.returns-then-is_err
returns-then-is_err g c =
    let up = c.give_up in
    record {
      told = λ told. subst (λ (x : EndedHttp). Sends c.args.answer.now (g.K.Sink.written c.args.conn.now) (g.K.Sink.written up.new.conn) x) (sym up.ensures.memory) (up.ensures.told told);
      warned = up.ensures.warned;
      cause = subst (λ (x : EndedHttp).
          HasCause x (g.K.Source.ended up.new.conn) (g.K.Source.read_faults c.args.conn.now) (g.K.Source.read_faults up.new.conn) (g.K.Sink.write_faults c.args.conn.now) (g.K.Sink.write_faults up.new.conn)) (sym up.ensures.memory) tt;
      write_faults = up.ensures.write_faults;
      read_faults = up.ensures.read_faults;
      pieces = up.ensures.pieces;
      left = up.ensures.left;
    }

pub returns-then-not-write_all : goal.returns-then-not-write_all
returns-then-not-write_all g c =
    let made = made_whole c.write_answer.result c.args.answer.now c.bytes.result.now c.new-out.result.items c.write_answer.new.out.items c.bytes.ensures c.new-out.ensures.items c.write_answer.ensures.ok (sym c.is_err.ensures.value ∙ c.if-is_err.false) in
    record {
      told = λ told. sends_part c.args.answer.now _ _ _ c.write_all.result (c.deref.ensures.value ∙ made) (c.write_all.ensures.told told);
      warned = λ told. tt;
      cause = c.write_all.ensures.cause c.if-not-write_all.true;
      write_faults = c.write_all.ensures.write_faults;
      read_faults = c.write_all.ensures.read_faults;
      pieces = c.write_all.ensures.pieces;
      left = c.write_all.ensures.left;
    }

pub returns : goal.returns
returns g c =
    let made = made_whole c.write_answer.result c.args.answer.now c.bytes.result.now c.new-out.result.items c.write_answer.new.out.items c.bytes.ensures c.new-out.ensures.items c.write_answer.ensures.ok (sym c.is_err.ensures.value ∙ c.if-is_err.false) in
    record {
      told = λ told. sends_whole c.args.answer.now _ _ _ c.write_all.result (c.deref.ensures.value ∙ made) (c.write_all.ensures.told told) c.if-not-write_all.false;
      warned = λ told. tt;
      cause = tt;
      write_faults = c.write_all.ensures.write_faults;
      read_faults = c.write_all.ensures.read_faults;
      pieces = c.write_all.ensures.pieces;
      left = c.write_all.ensures.left;
    }
