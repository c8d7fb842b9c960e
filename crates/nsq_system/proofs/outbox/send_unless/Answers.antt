use Rattle.std.proofs.Common.{refl, sym, ◌∙◌}
use Rattle.std.proofs.lemmas.Bool.{false≢true}
use Rattle.nsq_system.proofs.Deliveries.{keeps_same}
use Rattle.nsq_system.proofs.Outgoing.{any_some}
use Rattle.nsq_system.proofs.outbox.send_unless.Goals as goal

pub returns-then-broken : goal.returns-then-broken
returns-then-broken g c = record {
  some = tt;
  bound = tt;
  sent = tt;
  whole = tt;
  none = keeps_same (g.W.Write.contents c.args.writer.now);
  kept = λ _. refl;
}

pub returns : goal.returns
returns g c = record {
  some = c.send.ensures.some;
  bound = c.send.ensures.bound;
  sent = c.send.ensures.sent;
  whole = any_some c.send.result c.if-broken.false;
  none = c.send.ensures.none;
  kept = λ broken. absurd (false≢true (sym c.if-broken.false ∙ broken));
}
