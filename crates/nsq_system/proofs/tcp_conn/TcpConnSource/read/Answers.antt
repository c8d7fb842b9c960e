use Rattle.std.proofs.Common.{◌≡◌, ◌≤◌, ℕ, true, refl, sym, ◌∙◌, subst}
use Rattle.std.proofs.lemmas.Bool.{false≢true}
use Rattle.std.proofs.Math.Nat.{le_of_eq}
use Rattle.nsq_outside.specs.Causes.{Rose, CountsFault}
use Rattle.nsq_outside.specs.declared.conn.Read.TheVariants.{End, Failed}
use Rattle.nsq_system.specs.TcpConns.{gathered_of, broken_of, write_faults_of}
use Rattle.nsq_system.proofs.Heard.{end_not_failed, sends_first, sends_fails}
use Rattle.nsq_system.proofs.tcp_conn.TcpConnSource.read.Goals as goal

pub returns-then-self : goal.returns-then-self
returns-then-self g c =
    let old = c.args.self.now in
    let mid = c.flush.new.self in
    record {
      amount = tt;
      end = c.if-self.true;
      write_faults = c.flush.ensures.faults;
      faults = le_of_eq (sym c.flush.ensures.read_faults);
      cause = tt;
      gathered = c.flush.ensures.gathered;
      same = c.flush.ensures.same;
      failed = λ _ more. absurd (false≢true (sym more ∙ sym c.flush.ensures.ended ∙ c.if-self.true));
      lost = λ _ more. absurd (false≢true (sym more ∙ sym c.flush.ensures.ended ∙ c.if-self.true));
      broken = λ failed. absurd (end_not_failed failed);
      counted = c.flush.ensures.read_faults;
      breaks = c.flush.ensures.breaks;
      sends = sends_first c.flush.result (gathered_of old) (write_faults_of old) (write_faults_of mid) (broken_of old) (broken_of mid) (End ≡ Failed) c.flush.ensures.counted c.flush.ensures.done c.flush.ensures.broken c.flush.ensures.nothing;
    }

pub returns-in-End : goal.returns-in-End
returns-in-End g c =
    let old = c.args.self.now in
    let mid = c.flush.new.self in
    rw c.in-End.is (record {
      amount = tt;
      end = refl;
      write_faults = c.flush.ensures.faults;
      faults = le_of_eq (sym c.flush.ensures.read_faults);
      cause = tt;
      gathered = c.flush.ensures.gathered;
      same = c.flush.ensures.same;
      failed = λ broken _. sym c.in-End.is ∙ c.receive_or_wait-answer.ensures.failed (c.flush.ensures.same.1 broken);
      lost = λ rose _. sym c.in-End.is ∙ c.receive_or_wait-answer.ensures.failed (c.flush.ensures.breaks rose);
      broken = λ failed. absurd (end_not_failed failed);
      counted = c.flush.ensures.read_faults;
      breaks = c.flush.ensures.breaks;
      sends = sends_first c.flush.result (gathered_of old) (write_faults_of old) (write_faults_of mid) (broken_of old) (broken_of mid) (End ≡ Failed) c.flush.ensures.counted c.flush.ensures.done c.flush.ensures.broken c.flush.ensures.nothing;
    })

pub returns-in-Failed : goal.returns-in-Failed
returns-in-Failed g c =
    let old = c.args.self.now in
    let mid = c.flush.new.self in
    rw (c.in-Failed.is, c.stop.ensures.rest) (record {
      amount = tt;
      end = (sym c.flush.ensures.ended ∙ c.if-self.false, c.if-self.false);
      write_faults = c.flush.ensures.faults;
      faults = subst (λ (n : ℕ). n ≤ c.add.new.self.count) c.flush.ensures.read_faults c.add.ensures.faults;
      cause = subst (λ (n : ℕ). Rose n c.add.new.self.count) c.flush.ensures.read_faults c.add.ensures.rose;
      gathered = c.flush.ensures.gathered;
      same = (c.flush.ensures.same.0, λ _. refl);
      failed = λ _ _. refl;
      lost = λ _ _. refl;
      broken = λ _. refl;
      counted = subst (λ (n : ℕ). CountsFault n c.add.new.self.count true) c.flush.ensures.read_faults c.add.ensures.counted;
      breaks = λ _. refl;
      sends = sends_fails c.flush.result (gathered_of old) (write_faults_of old) (write_faults_of mid) (broken_of old) (Failed ≡ Failed) refl c.flush.ensures.counted c.flush.ensures.nothing;
    })

pub returns-in-Got-clause-amount : goal.returns-in-Got-clause-amount
returns-in-Got-clause-amount g c = c.receive_or_wait-answer.ensures.amount

pub returns-in-Got-clause-write_faults : goal.returns-in-Got-clause-write_faults
returns-in-Got-clause-write_faults g c = c.flush.ensures.faults

pub returns-in-Got-clause-faults : goal.returns-in-Got-clause-faults
returns-in-Got-clause-faults g c = le_of_eq (sym c.flush.ensures.read_faults)

pub returns-in-Got-clause-gathered : goal.returns-in-Got-clause-gathered
returns-in-Got-clause-gathered g c = c.flush.ensures.gathered

pub returns-in-Got-clause-same : goal.returns-in-Got-clause-same
returns-in-Got-clause-same g c = c.flush.ensures.same

pub returns-in-Got-clause-failed : goal.returns-in-Got-clause-failed
returns-in-Got-clause-failed g c = λ broken _. c.receive_or_wait-answer.ensures.failed (c.flush.ensures.same.1 broken)

pub returns-in-Got-clause-lost : goal.returns-in-Got-clause-lost
returns-in-Got-clause-lost g c = λ rose _. c.receive_or_wait-answer.ensures.failed (c.flush.ensures.breaks rose)

pub returns-in-Got-clause-breaks : goal.returns-in-Got-clause-breaks
returns-in-Got-clause-breaks g c = c.flush.ensures.breaks

pub returns-in-Got-clause-sends : goal.returns-in-Got-clause-sends
returns-in-Got-clause-sends g c =
    let old = c.args.self.now in
    let mid = c.flush.new.self in
    sends_first c.flush.result (gathered_of old) (write_faults_of old) (write_faults_of mid) (broken_of old) (broken_of mid) (c.receive_or_wait-answer.result ≡ Failed) c.flush.ensures.counted c.flush.ensures.done c.flush.ensures.broken c.flush.ensures.nothing
