use Rattle.std.proofs.Common.{ℕ, ◌≤◌, List, true, ap, refl, sym, ◌∙◌, append-nil, subst}
use Rattle.std.proofs.lemmas.Bool.{false≢true}
use Rattle.nsq_outside.specs.Causes.{Rose, CountsFault}
use Rattle.nsq_outside.specs.declared.did.Did.TheVariants.{Done}
use Rattle.nsq_fakes.specs.MemHosts.{content_of}
use Rattle.nsq_fakes.proofs.Outcomes.{done_failed}
use Rattle.nsq_fakes.proofs.Results.{extended, not_extended}
use Rattle.nsq_fakes.proofs.host.MemHostHost.print.Goals as goal

pub returns-then-next_fails : goal.returns-then-next_fails
returns-then-next_fails g c = record {
  content = (0, ap (λ (printed : List ℕ). record (content_of c.args.self.now) { printed = printed }) (sym (append-nil c.args.self.now.printed.items)));
  state = (c.next_fails.ensures.faults, refl);
  cause = c.if-next_fails.ensures.cause refl;
  counted = c.if-next_fails.ensures.fault;
  dials = refl;
  dial_faults = refl;
  callers = refl;
  to_link = refl;
  calls = record { counted = c.next_fails.ensures.counted; failing = λ _. refl; accepts = refl; tells = refl };
  failed = λ _. refl;
}

pub returns-then-is_err : goal.returns-then-is_err
returns-then-is_err g c = record {
  content = (0, ap (λ (printed : List ℕ). record (content_of c.args.self.now) { printed = printed }) (not_extended c.extend_from_slice.result c.args.self.now.printed.items c.args.text.now c.extend_from_slice.new.self.items c.if-is_err.ensures.value c.extend_from_slice.ensures.items ∙ sym (append-nil c.args.self.now.printed.items)));
  state = (subst (λ (n : ℕ). n ≤ c.add.new.self.count) c.if-next_fails.ensures.fault c.add.ensures.faults, refl);
  cause = subst (λ (n : ℕ). Rose n c.add.new.self.count) c.if-next_fails.ensures.fault c.add.ensures.rose;
  counted = subst (λ (n : ℕ). CountsFault n c.add.new.self.count true) c.if-next_fails.ensures.fault c.add.ensures.counted;
  dials = refl;
  dial_faults = refl;
  callers = refl;
  to_link = refl;
  calls = record { counted = c.next_fails.ensures.counted; failing = λ _. refl; accepts = refl; tells = refl };
  failed = λ _. ap (λ (printed : List ℕ). record (content_of c.args.self.now) { printed = printed }) (not_extended c.extend_from_slice.result c.args.self.now.printed.items c.args.text.now c.extend_from_slice.new.self.items c.if-is_err.ensures.value c.extend_from_slice.ensures.items);
}

pub returns : goal.returns
returns g c = record {
  content = ap (λ (printed : List ℕ). record (content_of c.args.self.now) { printed = printed }) (extended c.extend_from_slice.result c.args.self.now.printed.items c.args.text.now c.extend_from_slice.new.self.items c.if-is_err.ensures.value c.extend_from_slice.ensures.items);
  state = (c.next_fails.ensures.faults, refl);
  cause = tt;
  counted = c.if-next_fails.ensures.fault;
  dials = refl;
  dial_faults = refl;
  callers = refl;
  to_link = refl;
  calls = record { counted = c.next_fails.ensures.counted; failing = λ failing. absurd (false≢true (c.if-next_fails.ensures.failing.1 failing)); accepts = refl; tells = refl };
  failed = λ failed. absurd (done_failed Done refl failed);
}
