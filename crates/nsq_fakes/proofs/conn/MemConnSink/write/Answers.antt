use Rattle.std.proofs.Common.{ℕ, ◌≤◌, ◌++◌, List, length, true, refl, ap, sym, ◌∙◌, subst}
use Rattle.std.proofs.lemmas.Bool.{false≢true}
use Rattle.std.proofs.lemmas.List.{take_all}
use Rattle.std.proofs.Math.Nat.{le_of_eq}
use Rattle.nsq_outside.specs.Causes.{Rose, CountsFault}
use Rattle.nsq_fakes.proofs.Conns.{same_conn}
use Rattle.nsq_fakes.proofs.Results.{extended, not_extended}
use Rattle.nsq_fakes.proofs.conn.MemConnSink.write.Goals as goal

pub returns-then-next_fails : goal.returns-then-next_fails
returns-then-next_fails g c = record {
  amount = tt;
  told = refl;
  pieces = refl;
  left = refl;
  ended = refl;
  read_faults = le_of_eq refl;
  faults = c.next_fails.ensures.faults;
  cause = c.if-next_fails.ensures.cause refl;
  counted = c.if-next_fails.ensures.fault;
  calls = (c.next_fails.ensures.counted, λ _. refl);
  all = tt;
  rest = same_conn c.args.self.now c.args.self.now.written c.next_fails.new.self _;
}

pub returns-then-is_err : goal.returns-then-is_err
returns-then-is_err g c = record {
  amount = tt;
  told = not_extended c.extend_from_slice.result c.args.self.now.written.items c.args.from.now c.extend_from_slice.new.self.items c.if-is_err.ensures.value c.extend_from_slice.ensures.items;
  pieces = refl;
  left = refl;
  ended = refl;
  read_faults = le_of_eq refl;
  faults = subst (λ (n : ℕ). n ≤ c.add.new.self.count) c.if-next_fails.ensures.fault c.add.ensures.faults;
  cause = subst (λ (n : ℕ). Rose n c.add.new.self.count) c.if-next_fails.ensures.fault c.add.ensures.rose;
  counted = subst (λ (n : ℕ). CountsFault n c.add.new.self.count true) c.if-next_fails.ensures.fault c.add.ensures.counted;
  calls = (c.next_fails.ensures.counted, λ _. refl);
  all = tt;
  rest = same_conn c.args.self.now c.extend_from_slice.new.self (record c.next_fails.new.self { faults = c.add.new.self }) _;
}

pub returns : goal.returns
returns g c = record {
  amount = (c.requires, le_of_eq refl);
  told = extended c.extend_from_slice.result c.args.self.now.written.items c.args.from.now c.extend_from_slice.new.self.items c.if-is_err.ensures.value c.extend_from_slice.ensures.items ∙ ap (λ (front : List ℕ). c.args.self.now.written.items ++ front) (sym (take_all (length c.args.from.now) c.args.from.now (le_of_eq refl)));
  pieces = refl;
  left = refl;
  ended = refl;
  read_faults = le_of_eq refl;
  faults = c.next_fails.ensures.faults;
  cause = tt;
  counted = c.if-next_fails.ensures.fault;
  calls = (c.next_fails.ensures.counted, λ failing. absurd (false≢true (c.if-next_fails.ensures.failing.1 failing)));
  all = refl;
  rest = same_conn c.args.self.now c.extend_from_slice.new.self c.next_fails.new.self _;
}

pub invariant_of-self : goal.invariant_of-self
invariant_of-self g c = record { at_end = c.args.self.now.at_end }

pub invariant_of-self-then-is_err : goal.invariant_of-self-then-is_err
invariant_of-self-then-is_err g c = record { at_end = c.args.self.now.at_end }

pub invariant_of-self-else-is_err : goal.invariant_of-self-else-is_err
invariant_of-self-else-is_err g c = record { at_end = c.args.self.now.at_end }
