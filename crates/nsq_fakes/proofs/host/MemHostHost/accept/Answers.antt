use Rattle.std.proofs.Common.{◌≡◌, ◌∷◌, ◌+◌, ◌≤◌, ℕ, List, [], true, drop, length, map, vec_len, vec_capacity, refl, ap, ◌∙◌, subst, arith, length-append}
use Rattle.std.proofs.lemmas.Bool.{false≢true}
use Rattle.std.proofs.Math.Nat.{le_of_eq}
use Rattle.nsq_outside.specs.Causes.{Rose, CountsFault}
use Rattle.nsq_outside.specs.declared.host.Kind.{Kind}
use Rattle.nsq_fakes.specs.MemConns.{left_of}
use Rattle.nsq_fakes.proofs.Callers.{none_there, some_there, not_both, some_coming}
use Rattle.nsq_fakes.proofs.Results.{from_ok}
use Rattle.nsq_fakes.proofs.host.MemHostHost.accept.Goals as goal

pub returns-then-is_empty : goal.returns-then-is_empty
returns-then-is_empty g c = record {
  content = (ap (map (λ caller. (caller.0, left_of caller.1))) (none_there c.args.self.now.callers.items c.args.self.now.callers.len c.args.self.now.callers.ok.0 c.if-is_empty.ensures), refl);
  at_once = ap (map (λ caller. (caller.0, left_of caller.1))) (none_there c.args.self.now.callers.items c.args.self.now.callers.len c.args.self.now.callers.ok.0 c.if-is_empty.ensures);
  fresh = tt;
  state = (le_of_eq refl, refl);
  cause = tt;
  counted = refl;
  dials = refl;
  dial_faults = refl;
  first = refl;
  to_link = refl;
  calls = record { counted = λ some. not_both c.args.self.now.callers.items (none_there c.args.self.now.callers.items c.args.self.now.callers.len c.args.self.now.callers.ok.0 c.if-is_empty.ensures) some; failing = λ some _. not_both c.args.self.now.callers.items (none_there c.args.self.now.callers.items c.args.self.now.callers.len c.args.self.now.callers.ok.0 c.if-is_empty.ensures) some; over = λ _. refl; prints = refl; tells = refl };
}

pub returns-then-next_fails : goal.returns-then-next_fails
returns-then-next_fails g c = record {
  content = refl;
  at_once = some_coming c.args.self.now.callers.items (some_there c.args.self.now.callers.items c.args.self.now.callers.len c.args.self.now.callers.ok.0 c.if-is_empty.ensures);
  fresh = tt;
  state = (c.next_fails.ensures.faults, refl);
  cause = c.if-next_fails.ensures.cause refl;
  counted = c.if-next_fails.ensures.fault;
  dials = refl;
  dial_faults = refl;
  first = refl;
  to_link = refl;
  calls = record { counted = λ _. c.next_fails.ensures.counted; failing = λ _ _. refl; over = λ none. not_both c.args.self.now.callers.items none (some_there c.args.self.now.callers.items c.args.self.now.callers.len c.args.self.now.callers.ok.0 c.if-is_empty.ensures); prints = refl; tells = refl };
}

pub returns-then-is_err : goal.returns-then-is_err
returns-then-is_err g c = record {
  content = rw (c.room_for_caller.ensures.given, c.room_for_caller.ensures.back) refl;
  at_once = some_coming c.args.self.now.callers.items (some_there c.args.self.now.callers.items c.args.self.now.callers.len c.args.self.now.callers.ok.0 c.if-is_empty.ensures);
  fresh = tt;
  state = (subst (λ (n : ℕ). n ≤ c.add.new.self.count) c.if-next_fails.ensures.fault c.add.ensures.faults, refl);
  cause = subst (λ (n : ℕ). Rose n c.add.new.self.count) c.if-next_fails.ensures.fault c.add.ensures.rose;
  counted = subst (λ (n : ℕ). CountsFault n c.add.new.self.count true) c.if-next_fails.ensures.fault c.add.ensures.counted;
  dials = refl;
  dial_faults = refl;
  first = refl;
  to_link = refl;
  calls = record { counted = λ _. c.next_fails.ensures.counted; failing = λ _ _. refl; over = λ none. not_both c.args.self.now.callers.items none (some_there c.args.self.now.callers.items c.args.self.now.callers.len c.args.self.now.callers.ok.0 c.if-is_empty.ensures); prints = refl; tells = refl };
}

pub returns : goal.returns
returns g c = record {
  content = (c.first_caller-kind.ensures.left, rw (c.push_reserved.ensures.items, c.room_for_caller.ensures.given, c.room_for_caller.ensures.back) refl);
  at_once = some_coming c.args.self.now.callers.items (some_there c.args.self.now.callers.items c.args.self.now.callers.len c.args.self.now.callers.ok.0 c.if-is_empty.ensures);
  fresh = c.first_caller-kind.ensures.unused;
  state = (c.next_fails.ensures.faults, refl);
  cause = tt;
  counted = c.if-next_fails.ensures.fault;
  dials = refl;
  dial_faults = refl;
  first = (c.first_caller-kind.ensures.first, c.first_caller-kind.ensures.rest);
  to_link = refl;
  calls = record { counted = λ _. c.next_fails.ensures.counted; failing = λ _ failing. absurd (false≢true (c.if-next_fails.ensures.failing.1 failing)); over = λ none. not_both c.args.self.now.callers.items none (some_there c.args.self.now.callers.items c.args.self.now.callers.len c.args.self.now.callers.ok.0 c.if-is_empty.ensures); prints = refl; tells = refl };
}

pub invariant_of-self : goal.invariant_of-self
invariant_of-self g c = record {
  room = c.args.self.now.room;
  order = c.args.self.now.order;
  at_halt = λ _. none_there c.args.self.now.callers.items c.args.self.now.callers.len c.args.self.now.callers.ok.0 c.if-is_empty.ensures;
}

pub invariant_of-self-then-next_fails : goal.invariant_of-self-then-next_fails
invariant_of-self-then-next_fails g c = record {
  room = c.args.self.now.room;
  order = c.args.self.now.order;
  at_halt = c.args.self.now.at_halt;
}

pub invariant_of-self-then-is_err : goal.invariant_of-self-then-is_err
invariant_of-self-then-is_err g c = record {
  room = omega (arith, c.args.self.now.room, c.room_for_caller.ensures.count, c.room_for_caller.ensures.capacity);
  order = rw (c.room_for_caller.ensures.back, c.room_for_caller.ensures.given) c.args.self.now.order;
  at_halt = c.args.self.now.at_halt;
}

pub invariant_of-self-2 : goal.invariant_of-self-2
invariant_of-self-2 g c =
    let host = c.args.self.now in
    let room : vec_len c.room_for_caller.new.given + vec_len host.dialer.linked + 1 ≤ vec_capacity c.room_for_caller.new.back = from_ok c.room_for_caller.result _ c.if-is_err.ensures.value c.room_for_caller.ensures.room in
    let back : length c.room_for_caller.new.back.items ≡ length host.back.items = ap length c.room_for_caller.ensures.back in
    let given : length c.push_reserved.new.self.items ≡ length host.given.items + 1 = ap length c.push_reserved.ensures.items ∙ length-append c.room_for_caller.new.given.items (c.first_caller-kind.result.0 ∷ []) ∙ ap (λ (given : List Kind). length given + 1) c.room_for_caller.ensures.given in
    record {
      room = omega (arith, room, c.push_reserved.ensures.len);
      order = omega (arith, host.order, back, given);
      at_halt = λ halted. c.first_caller-kind.ensures.rest ∙ ap (drop 1) (host.at_halt halted);
    }
