use Rattle.std.proofs.Common.{ℕ, ◌+◌, ◌≤◌, length, vec_capacity, refl, sym, subst}
use Rattle.std.proofs.lemmas.Bool.{false≢true}
use Rattle.std.proofs.Math.Nat.{le_of_eq}
use Rattle.nsq_system.proofs.Outgoing.{added, has_room}
use Rattle.nsq_system.proofs.outbox.gather_unless.Goals as goal

pub returns-then-broken : goal.returns-then-broken
returns-then-broken c = record {
  gathers = λ yes. absurd (false≢true yes);
  refuses = λ _. (c.if-broken.true, refl);
  capacity = le_of_eq refl;
}

pub returns : goal.returns
returns c = record {
  gathers = λ yes. (c.if-broken.false, added c.extend_from_slice.result c.is_ok.result c.args.gathered.now.items c.args.from.now c.extend_from_slice.new.self.items c.is_ok.ensures.value c.extend_from_slice.ensures.items yes);
  refuses = λ no. has_room c.extend_from_slice.result c.is_ok.result (c.args.gathered.now.len + length c.args.from.now) (vec_capacity c.args.gathered.now) c.is_ok.ensures.value c.extend_from_slice.ensures.full
      (subst (λ (n : ℕ). n + length c.args.from.now ≤ vec_capacity c.args.gathered.now) (sym c.args.gathered.now.ok.0) c.requires) no;
  capacity = c.extend_from_slice.ensures.capacity;
}
