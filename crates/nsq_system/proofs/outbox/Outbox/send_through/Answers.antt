use Rattle.std.proofs.Common.{◌≤◌, ℕ, Bool, take, true, refl, sym, ◌∙◌, subst}
use Rattle.std.proofs.lemmas.Bool.{false≢true}
use Rattle.nsq_outside.specs.Causes.{Rose, CountsFault}
use Rattle.nsq_system.specs.Outboxes.{gathered_in, is_broken, faults_in}
use Rattle.nsq_system.proofs.Deliveries.{none_taken}
use Rattle.nsq_system.proofs.Outgoing.{passed_on, passed_none}
use Rattle.nsq_system.proofs.outbox.Outbox.send_through.Goals as goal

pub returns-in-Failed : goal.returns-in-Failed
returns-in-Failed g c =
    let mid = c.flush.new.self in
    record {
      delivered = λ taken d. none_taken (g.W.Write.contents mid.writer) (gathered_in mid) taken (is_broken mid) (c.flush.ensures.delivered taken d);
      amount = tt;
      gathered = c.flush.ensures.gathered;
      faults = c.flush.ensures.faults;
      cause = c.in-Failed.ensures.cause;
      counted = subst (λ (b : Bool). CountsFault (faults_in c.args.self.now) (faults_in mid) b) (sym (c.in-Failed.ensures.broken refl)) c.in-Failed.ensures.counted;
      stays = c.flush.ensures.stays;
      failed = λ _. refl;
      breaks = c.in-Failed.ensures.broken refl;
    }

pub returns-in-Some : goal.returns-in-Some
returns-in-Some g c =
    let old = c.args.self.now in
    let mid = c.flush.new.self in
    record {
      delivered = λ taken d. passed_on (g.W.Write.contents mid.writer) (g.W.Write.contents c.send_unless.new.writer) (gathered_in mid) taken (take c.in-Some.sent c.args.from.now) (is_broken mid)
          c.in-Some.ensures.whole c.flush.ensures.gathered c.in-Some.ensures.sent (c.flush.ensures.delivered taken d);
      amount = (c.in-Some.ensures.some, c.in-Some.ensures.bound);
      gathered = c.flush.ensures.gathered;
      faults = c.flush.ensures.faults;
      cause = tt;
      counted = subst (λ (b : Bool). CountsFault (faults_in old) (faults_in mid) b) (sym c.in-Some.ensures.whole) c.in-Done.ensures.counted;
      stays = λ broken. absurd (false≢true (sym c.in-Some.ensures.whole ∙ c.in-Done.ensures.done refl ∙ broken));
      failed = λ broken. absurd (false≢true (sym c.in-Some.ensures.whole ∙ c.in-Done.ensures.done refl ∙ broken));
      breaks = c.in-Some.ensures.whole;
    }

pub returns : goal.returns
returns g c =
    let mid = c.flush.new.self in
    record {
      delivered = λ taken d. passed_none (g.W.Write.contents mid.writer) (g.W.Write.contents c.send_unless.new.writer) (gathered_in mid) taken (is_broken mid) c.in_default.ensures.none (c.flush.ensures.delivered taken d);
      amount = tt;
      gathered = c.flush.ensures.gathered;
      faults = subst (λ (n : ℕ). n ≤ c.add.new.self.count) c.in-Done.ensures.counted c.add.ensures.faults;
      cause = subst (λ (n : ℕ). Rose n c.add.new.self.count) c.in-Done.ensures.counted c.add.ensures.rose;
      counted = subst (λ (n : ℕ). CountsFault n c.add.new.self.count true) c.in-Done.ensures.counted c.add.ensures.counted;
      stays = λ broken. (refl, c.send_unless.ensures.kept (c.in-Done.ensures.done refl ∙ broken) ∙ (c.flush.ensures.stays broken).1);
      failed = λ _. refl;
      breaks = refl;
    }
