-- What a clock in memory has yet to give.
use Rattle.std.specs.Prelude.{ℕ, ◌+◌}
use Rattle.nsq_fakes.specs.Readings.{reading_at}
use Rattle.nsq_fakes.specs.declared.clock.MemClock.{MemClock}

-- the readings from its place on
abbrev pub coming_of : MemClock → ℕ → ℕ
coming_of clock n = reading_at clock.readings.items (clock.at + n)
