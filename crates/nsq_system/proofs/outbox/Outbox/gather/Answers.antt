use Rattle.std.proofs.Common.{◌≡◌, ◌⊎◌, ◌++◌, ◌<◌, ◌≤◌, ℕ, [], List, Bool, length, true, refl, sym, ◌∙◌, ap, subst, arith, inl, inr, take}
use Rattle.std.proofs.lemmas.Bool.{false≢true}
use Rattle.std.proofs.Math.Nat.{le_of_eq}
use Rattle.nsq_outside.specs.Causes.{Rose, CountsFault}
use Rattle.nsq_system.specs.Outboxes.{gathered_in, is_broken, faults_in}
use Rattle.nsq_system.proofs.Deliveries.{none_taken}
use Rattle.nsq_system.proofs.Heard.{failed_not_done, failed_breaks, none_waits}
use Rattle.nsq_system.proofs.Outgoing.{took_not_failed, kept_back, gathered_more, gathers_none, keeps_long, gathers_there, whole_breaks, counts_did}
use Rattle.nsq_system.proofs.outbox.Outbox.gather.Goals as goal

pub returns-then-from-gt-MOST_GATHERED : goal.returns-then-from-gt-MOST_GATHERED
returns-then-from-gt-MOST_GATHERED g c =
    let before = gathered_in c.args.self.now in
    let now = gathered_in c.send_through.new.self in
    let from = c.args.from.now in
    let answer = c.send_through.result in
    let long : 16384 < length c.args.from.now = omega (arith, c.if-from-gt-MOST_GATHERED.true) in
    record {
      delivered = c.send_through.ensures.delivered;
      amount = c.send_through.ensures.amount;
      gathered = gathers_none before now from answer c.send_through.ensures.gathered long;
      faults = c.send_through.ensures.faults;
      cause = c.send_through.ensures.cause;
      counted = c.send_through.ensures.counted;
      stays = c.send_through.ensures.stays;
      failed = c.send_through.ensures.failed;
      broken = failed_breaks c.send_through.new.self answer c.send_through.ensures.breaks;
      breaks = whole_breaks from c.send_through.new.self answer c.send_through.ensures.breaks;
      errors = none_waits from now answer c.send_through.ensures.gathered;
      room = keeps_long before now from answer long;
      taken = λ _ fits. absurd (omega (arith, c.if-from-gt-MOST_GATHERED.true, fits));
    }

pub returns-in-Failed : goal.returns-in-Failed
returns-in-Failed g c =
    let mid = c.make_room.new.self in
    record {
      delivered = λ taken d. none_taken (g.W.Write.contents mid.writer) (gathered_in mid) taken (is_broken mid) (c.make_room.ensures.delivered taken d);
      amount = tt;
      gathered = c.make_room.ensures.gathered;
      faults = c.make_room.ensures.faults;
      cause = c.in-Failed.ensures.cause;
      counted = subst (λ (b : Bool). CountsFault (faults_in c.args.self.now) (faults_in mid) b) (sym (c.in-Failed.ensures.broken refl)) c.in-Failed.ensures.counted;
      stays = c.make_room.ensures.stays;
      failed = λ _. refl;
      broken = λ _. c.in-Failed.ensures.broken refl;
      breaks = tt;
      errors = tt;
      room = tt;
      taken = λ _ fits. absurd (failed_not_done (c.in-Failed.ensures.there fits));
    }

pub returns-then-not-gather_unless : goal.returns-then-not-gather_unless
returns-then-not-gather_unless g c =
    let old = c.args.self.now in
    let mid = c.make_room.new.self in
    let refuses = c.if-not-gather_unless.ensures.refuses refl in
    record {
      delivered = λ taken d. kept_back (g.W.Write.contents mid.writer) (gathered_in mid) c.gather_unless.new.gathered.items taken (is_broken mid) refuses.0 (c.make_room.ensures.delivered taken d);
      amount = tt;
      gathered = subst (λ (now : List ℕ). (now ≡ gathered_in old) ⊎ (now ≡ [])) (sym refuses.1) c.make_room.ensures.gathered;
      faults = subst (λ (n : ℕ). n ≤ c.add.new.self.count) c.in-Done.ensures.counted c.add.ensures.faults;
      cause = subst (λ (n : ℕ). Rose n c.add.new.self.count) c.in-Done.ensures.counted c.add.ensures.rose;
      counted = subst (λ (b : Bool). CountsFault (faults_in old) c.add.new.self.count b) (sym refuses.0) (subst (λ (n : ℕ). CountsFault n c.add.new.self.count true) c.in-Done.ensures.counted c.add.ensures.counted);
      stays = c.make_room.ensures.stays;
      failed = λ _. refl;
      broken = λ _. refuses.0;
      breaks = tt;
      errors = tt;
      room = tt;
      taken = λ whole _. absurd (false≢true (sym whole ∙ sym (c.in-Done.ensures.done refl) ∙ refuses.0));
    }

pub returns-then-not-ends_with_error_frame : goal.returns-then-not-ends_with_error_frame
returns-then-not-ends_with_error_frame g c =
    let old = c.args.self.now in
    let mid = c.make_room.new.self in
    let now = c.gather_unless.new.gathered.items in
    let from = c.args.from.now in
    let gathers = c.if-not-gather_unless.ensures.gathers refl in
    record {
      delivered = λ taken d. gathered_more (g.W.Write.contents mid.writer) (gathered_in mid) now taken from (is_broken mid) gathers.0 gathers.1 (c.make_room.ensures.delivered taken d);
      amount = (c.requires, le_of_eq refl);
      gathered = gathers_there (gathered_in old) (gathered_in mid) now from gathers.1 c.make_room.ensures.gathered c.make_room.ensures.fits;
      faults = c.make_room.ensures.faults;
      cause = tt;
      counted = subst (λ (b : Bool). CountsFault (faults_in old) (faults_in mid) b) (sym gathers.0) c.in-Done.ensures.counted;
      stays = c.make_room.ensures.stays;
      failed = λ broken. absurd (false≢true (sym gathers.0 ∙ c.in-Done.ensures.done refl ∙ broken));
      broken = λ failed. absurd (took_not_failed (length from) failed);
      breaks = λ broken. absurd (false≢true (sym gathers.0 ∙ broken));
      errors = λ ends. absurd (false≢true (c.if-not-ends_with_error_frame.ensures.ends ends));
      room = λ fits _. gathers.1 ∙ ap (λ (x : List ℕ). x ++ from) (c.make_room.ensures.fits fits);
      taken = λ _ _. refl;
    }

pub returns : goal.returns
returns g c =
    let old = c.args.self.now in
    let mid = c.make_room.new.self in
    let new = c.flush.new.self in
    let now = c.gather_unless.new.gathered.items in
    let from = c.args.from.now in
    let gathers = c.if-not-gather_unless.ensures.gathers refl in
    record {
      delivered = λ taken d. c.flush.ensures.delivered _ (gathered_more (g.W.Write.contents mid.writer) (gathered_in mid) now taken from (is_broken mid) gathers.0 gathers.1 (c.make_room.ensures.delivered taken d));
      amount = (c.requires, le_of_eq refl);
      gathered = inr (c.flush.ensures.gathered, inl (c.if-not-ends_with_error_frame.ensures.only refl));
      faults = subst (λ (n : ℕ). n ≤ faults_in new) c.in-Done.ensures.counted c.flush.ensures.faults;
      cause = tt;
      counted = subst (λ (n : ℕ). CountsFault n (faults_in new) (is_broken new)) c.in-Done.ensures.counted
          (counts_did c.flush.result (faults_in mid) (faults_in new) (is_broken mid) (is_broken new) gathers.0 c.flush.ensures.counted c.flush.ensures.done c.flush.ensures.broken);
      stays = λ broken. absurd (false≢true (sym gathers.0 ∙ c.in-Done.ensures.done refl ∙ broken));
      failed = λ broken. absurd (false≢true (sym gathers.0 ∙ c.in-Done.ensures.done refl ∙ broken));
      broken = λ failed. absurd (took_not_failed (length from) failed);
      breaks = λ _. c.if-not-ends_with_error_frame.ensures.only refl;
      errors = λ _. c.flush.ensures.gathered;
      room = λ _ other. absurd (other (c.if-not-ends_with_error_frame.ensures.only refl));
      taken = λ _ _. refl;
    }
