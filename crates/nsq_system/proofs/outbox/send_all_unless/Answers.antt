use Rattle.std.proofs.Common.{refl, sym, ◌∙◌}
use Rattle.std.proofs.lemmas.Bool.{false≢true}
use Rattle.nsq_system.proofs.outbox.send_all_unless.Goals as goal

pub returns-then-broken : goal.returns-then-broken
returns-then-broken g c = record {
  all = λ yes. absurd (false≢true yes);
  some = λ whole. absurd (false≢true (sym whole ∙ c.if-broken.true));
  kept = λ _. refl;
}

pub returns : goal.returns
returns g c = record {
  all = λ yes. (c.if-broken.false, c.send_all.ensures.all yes);
  some = λ _. c.send_all.ensures.some;
  kept = λ broken. absurd (false≢true (sym c.if-broken.false ∙ broken));
}
