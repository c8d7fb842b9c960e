use Rattle.std.proofs.Common.{refl, sym, ◌∙◌}
use Rattle.nsq_system.specs.TcpConns.{broken_of, gathered_of, write_faults_of}
use Rattle.nsq_system.proofs.Heard.{rise_breaks, took_breaks, breaks_so, whole_so, failed_breaks, none_waits, tcp_not_http}
use Rattle.nsq_system.proofs.tcp_conn.TcpConnSink.write.Goals as goal

pub returns-in-Tcp : goal.returns-in-Tcp
returns-in-Tcp g c =
    let old = c.args.self.now in
    let new = record old { outbox = c.gather.new.self; writes = c.saturating_add-self.result } in
    record {
      amount = c.gather.ensures.amount;
      ended = refl;
      read_faults = refl;
      faults = c.gather.ensures.faults;
      cause = c.gather.ensures.cause;
      gathered = λ _. c.gather.ensures.gathered;
      at_once = λ http. absurd (tcp_not_http (sym c.in-Tcp.is ∙ http));
      same = (refl, λ broken. (c.gather.ensures.stays broken).0);
      failed = c.gather.ensures.failed;
      took = took_breaks old new c.gather.result (rise_breaks (write_faults_of old) (write_faults_of new) (broken_of new) c.gather.ensures.counted);
      errors = c.gather.ensures.errors;
      room = λ _. c.gather.ensures.room;
      taken = λ _. c.gather.ensures.taken;
      broken = c.gather.ensures.broken;
      counted = c.gather.ensures.counted;
      breaks = breaks_so c.args.from.now new c.gather.result c.gather.ensures.breaks;
    }

pub returns-in-Http : goal.returns-in-Http
returns-in-Http g c =
    let old = c.args.self.now in
    let new = record old { outbox = c.send_through.new.self; writes = c.saturating_add-self.result } in
    record {
      amount = c.send_through.ensures.amount;
      ended = refl;
      read_faults = refl;
      faults = c.send_through.ensures.faults;
      cause = c.send_through.ensures.cause;
      gathered = λ tcp. absurd (tcp_not_http (sym tcp ∙ c.in-Http.is));
      at_once = λ _. c.send_through.ensures.gathered;
      same = (refl, λ broken. (c.send_through.ensures.stays broken).0);
      failed = c.send_through.ensures.failed;
      took = took_breaks old new c.send_through.result (rise_breaks (write_faults_of old) (write_faults_of new) (broken_of new) c.send_through.ensures.counted);
      errors = none_waits c.args.from.now (gathered_of new) c.send_through.result c.send_through.ensures.gathered;
      room = λ tcp. absurd (tcp_not_http (sym tcp ∙ c.in-Http.is));
      taken = λ tcp. absurd (tcp_not_http (sym tcp ∙ c.in-Http.is));
      broken = failed_breaks new.outbox c.send_through.result c.send_through.ensures.breaks;
      counted = c.send_through.ensures.counted;
      breaks = whole_so c.args.from.now new c.send_through.result c.send_through.ensures.breaks;
    }
