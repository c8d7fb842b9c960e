use Rattle.std.proofs.Common.{◌≡◌, ℕ, ◌≤◌, List, ◌∷◌, [], ◌++◌, true, inr, ap, refl, subst}
use Rattle.std.proofs.lemmas.Bool.{false≢true}
use Rattle.nsq_outside.specs.Causes.{Rose, CountsFault}
use Rattle.nsq_outside.specs.Hosts.{Start}
use Rattle.nsq_outside.specs.declared.did.Did.TheVariants.{Done}
use Rattle.nsq_fakes.specs.MemHosts.{content_of}
use Rattle.nsq_fakes.proofs.Outcomes.{done_failed}
use Rattle.nsq_fakes.proofs.Results.{from_ok, from_err}
use Rattle.nsq_fakes.proofs.host.MemHostHost.start.Goals as goal

pub returns-then-next_fails : goal.returns-then-next_fails
returns-then-next_fails g c = record {
  content = inr refl;
  state = (c.next_fails.ensures.faults, refl);
  cause = c.if-next_fails.ensures.cause refl;
  counted = c.if-next_fails.ensures.fault;
  dials = refl;
  dial_faults = refl;
  callers = refl;
  to_link = refl;
  calls = record { counted = c.next_fails.ensures.counted; failing = λ _. refl; prints = refl; tells = refl };
  failed = λ _. refl;
}

pub returns-then-is_err : goal.returns-then-is_err
returns-then-is_err g c = record {
  content = inr (ap (λ (starts : List Start). record (content_of c.args.self.now) { starts = starts }) (from_err c.keep_start.result (c.keep_start.new.starts.items ≡ c.args.self.now.starts.items) c.if-is_err.ensures.value c.keep_start.ensures.err));
  state = (subst (λ (n : ℕ). n ≤ c.add.new.self.count) c.if-next_fails.ensures.fault c.add.ensures.faults, refl);
  cause = subst (λ (n : ℕ). Rose n c.add.new.self.count) c.if-next_fails.ensures.fault c.add.ensures.rose;
  counted = subst (λ (n : ℕ). CountsFault n c.add.new.self.count true) c.if-next_fails.ensures.fault c.add.ensures.counted;
  dials = refl;
  dial_faults = refl;
  callers = refl;
  to_link = refl;
  calls = record { counted = c.next_fails.ensures.counted; failing = λ _. refl; prints = refl; tells = refl };
  failed = λ _. ap (λ (starts : List Start). record (content_of c.args.self.now) { starts = starts }) (from_err c.keep_start.result (c.keep_start.new.starts.items ≡ c.args.self.now.starts.items) c.if-is_err.ensures.value c.keep_start.ensures.err);
}

pub returns : goal.returns
returns g c = record {
  content = ap (λ (starts : List Start). record (content_of c.args.self.now) { starts = starts }) (from_ok c.keep_start.result (c.keep_start.new.starts.items ≡ c.args.self.now.starts.items ++ record { tcp = c.args.tcp.now; http = c.args.http.now; path = c.args.path.now } ∷ []) c.if-is_err.ensures.value c.keep_start.ensures.ok);
  state = (c.next_fails.ensures.faults, refl);
  cause = tt;
  counted = c.if-next_fails.ensures.fault;
  dials = refl;
  dial_faults = refl;
  callers = refl;
  to_link = refl;
  calls = record { counted = c.next_fails.ensures.counted; failing = λ failing. absurd (false≢true (c.if-next_fails.ensures.failing.1 failing)); prints = refl; tells = refl };
  failed = λ failed. absurd (done_failed Done refl failed);
}
