use Rattle.std.proofs.Common.{◌≡◌, ℕ, ◌+◌, ◌-◌, ◌≤◌, min, List, length, unwrap_or, slice_get, ap, arith}
use Rattle.nsq_fakes.specs.Readings.{reading_at}
use Rattle.nsq_fakes.proofs.Clocks.{reads_now}
use Rattle.nsq_fakes.proofs.clock.MemClockClock.now.Goals as goal

moves : (at n : ℕ) → at + 1 + n ≡ at + (n + 1)
moves at n = omega arith

stays : (last at n : ℕ) → last ≤ at → min (at + n) last ≡ min (at + (n + 1)) last
stays last at n h = omega arith

pub returns-then-self-len : goal.returns-then-self-len
returns-then-self-len c = record {
  reading = λ _. reads_now c.args.self.now.readings.items c.deref.result.now c.args.self.now.at c.unwrap_or-reading.result c.get.result c.copied.result c.args.self.now.in_range c.deref.ensures.value c.get.ensures.lookup c.copied.ensures c.unwrap_or-reading.ensures;
  coming = λ _ n. ap (reading_at c.args.self.now.readings.items) (moves c.args.self.now.at n);
}

pub returns-else-self-len : goal.returns-else-self-len
returns-else-self-len c = record {
  reading = λ _. reads_now c.args.self.now.readings.items c.deref.result.now c.args.self.now.at c.unwrap_or-reading.result c.get.result c.copied.result c.args.self.now.in_range c.deref.ensures.value c.get.ensures.lookup c.copied.ensures c.unwrap_or-reading.ensures;
  coming = λ _ n.
      ap (λ (k : ℕ). unwrap_or (slice_get c.args.self.now.readings.items k) 0) (stays (length c.args.self.now.readings.items - 1) c.args.self.now.at n (omega arith));
}

pub invariant_of-self : goal.invariant_of-self
invariant_of-self c = record { in_range = omega (arith, c.if-self-len.true, c.args.self.now.readings.ok.0) }
