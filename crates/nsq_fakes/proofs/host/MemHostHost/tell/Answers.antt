use Rattle.std.proofs.Common.{◌≡◌, ℕ, ◌≤◌, List, ◌∷◌, [], ◌++◌, true, inl, inr, map, Vec, ap, refl, subst}
use Rattle.std.specs.declared.alloc.Global.{Global}
use Rattle.std.proofs.lemmas.Bool.{false≢true}
use Rattle.nsq_outside.specs.Causes.{Rose, CountsFault}
use Rattle.nsq_fakes.specs.MemHosts.{content_of}
use Rattle.nsq_fakes.proofs.Results.{from_ok, from_err}
use Rattle.nsq_fakes.proofs.host.MemHostHost.tell.Goals as goal

pub returns-then-next_fails : goal.returns-then-next_fails
returns-then-next_fails g c = record {
  content = inr (refl, c.if-next_fails.ensures.cause refl);
  state = (c.next_fails.ensures.faults, refl);
  counted = inr (refl, c.if-next_fails.ensures.fault);
  dials = refl;
  dial_faults = refl;
  callers = refl;
  to_link = refl;
  calls = record { counted = c.next_fails.ensures.counted; untold = λ _. refl; failing = λ _. c.if-next_fails.ensures.fault; accepts = refl; prints = refl };
}

pub returns-then-is_err : goal.returns-then-is_err
returns-then-is_err g c = record {
  content = inr (ap (λ (lines : List (List ℕ)). record (content_of c.args.self.now) { lines = lines }) (ap (map (λ (l : Vec ℕ Global). l.items)) (from_err c.keep_line.result (c.keep_line.new.lines.items ≡ c.args.self.now.lines.items) c.if-is_err.ensures.value c.keep_line.ensures.err)), subst (λ (n : ℕ). Rose n c.add.new.self.count) c.if-next_fails.ensures.fault c.add.ensures.rose);
  state = (subst (λ (n : ℕ). n ≤ c.add.new.self.count) c.if-next_fails.ensures.fault c.add.ensures.faults, refl);
  counted = inr (ap (λ (lines : List (List ℕ)). record (content_of c.args.self.now) { lines = lines }) (ap (map (λ (l : Vec ℕ Global). l.items)) (from_err c.keep_line.result (c.keep_line.new.lines.items ≡ c.args.self.now.lines.items) c.if-is_err.ensures.value c.keep_line.ensures.err)), subst (λ (n : ℕ). CountsFault n c.add.new.self.count true) c.if-next_fails.ensures.fault c.add.ensures.counted);
  dials = refl;
  dial_faults = refl;
  callers = refl;
  to_link = refl;
  calls = record { counted = c.next_fails.ensures.counted; untold = λ failing. absurd (false≢true (c.if-next_fails.ensures.failing.1 failing)); failing = λ failing. absurd (false≢true (c.if-next_fails.ensures.failing.1 failing)); accepts = refl; prints = refl };
}

pub returns-else-is_err : goal.returns-else-is_err
returns-else-is_err g c = record {
  content = inl (ap (λ (lines : List (List ℕ)). record (content_of c.args.self.now) { lines = lines }) (from_ok c.keep_line.result (map (λ (l : Vec ℕ Global). l.items) c.keep_line.new.lines.items ≡ map (λ (l : Vec ℕ Global). l.items) c.args.self.now.lines.items ++ c.args.line.now ∷ []) c.if-is_err.ensures.value c.keep_line.ensures.ok));
  state = (c.next_fails.ensures.faults, refl);
  counted = inl (ap (λ (lines : List (List ℕ)). record (content_of c.args.self.now) { lines = lines }) (from_ok c.keep_line.result (map (λ (l : Vec ℕ Global). l.items) c.keep_line.new.lines.items ≡ map (λ (l : Vec ℕ Global). l.items) c.args.self.now.lines.items ++ c.args.line.now ∷ []) c.if-is_err.ensures.value c.keep_line.ensures.ok), c.if-next_fails.ensures.fault);
  dials = refl;
  dial_faults = refl;
  callers = refl;
  to_link = refl;
  calls = record { counted = c.next_fails.ensures.counted; untold = λ failing. absurd (false≢true (c.if-next_fails.ensures.failing.1 failing)); failing = λ failing. absurd (false≢true (c.if-next_fails.ensures.failing.1 failing)); accepts = refl; prints = refl };
}
