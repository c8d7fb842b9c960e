-- Spans of time in nanoseconds.
use Rattle.std.specs.Prelude.{ℕ}

-- a millisecond
abbrev pub millisecond : ℕ
millisecond = 1000000

-- a second
abbrev pub second : ℕ
second = 1000000000

-- a minute
abbrev pub minute : ℕ
minute = 60000000000

-- an hour
abbrev pub hour : ℕ
hour = 3600000000000
