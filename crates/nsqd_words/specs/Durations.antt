-- Durations as words write them.
use Rattle.std.specs.Prelude.{ℕ, ◌≡◌, ◌<◌, ◌+◌, ◌*◌, List, [], ◌∷◌, ◌++◌, length, codes}
use Rattle.std.specs.List.{AllByRecursion}
use Rattle.std.specs.Str.Parse.{digits_value}
use Rattle.nsq_base.specs.Time.{millisecond, second, minute, hour}
use Rattle.nsqd_words.specs.Numbers.{AreDigits}
use Rattle.nsqd_words.specs.declared.durations.TimeUnit.{TimeUnit}
use Rattle.nsqd_words.specs.declared.durations.TimeUnit.TheVariants.{Hour, Minute, Second, Millisecond}

-- how a unit is written
abbrev pub unit_name : TimeUnit → List ℕ
unit_name Hour = codes "h"
unit_name Minute = codes "m"
unit_name Second = codes "s"
unit_name Millisecond = codes "ms"

-- how many nanoseconds a unit has
abbrev pub unit_time : TimeUnit → ℕ
unit_time Hour = hour
unit_time Minute = minute
unit_time Second = second
unit_time Millisecond = millisecond

-- so many of a unit
pub record Pair : Type 0 where
  pub digits : List ℕ
  pub unit : TimeUnit

-- the digits of a pair are 1 to 12
abbrev pub IsPair : Pair → Type 0
IsPair p = AreDigits 12 p.digits

-- how pairs are written: one behind the other
abbrev pub spelled : List Pair → List ℕ
spelled [] = []
spelled (p ∷ ps) = p.digits ++ (unit_name p.unit ++ spelled ps)

-- the nanoseconds of a pair
abbrev pub pair_time : Pair → ℕ
pair_time p = digits_value 10 p.digits * unit_time p.unit

-- the nanoseconds of pairs together
abbrev pub total_time : List Pair → ℕ
total_time [] = 0
total_time (p ∷ ps) = pair_time p + total_time ps

-- the text writes so many nanoseconds in one or more pairs of 1 to 12 digits and a unit: `1m30s` writes 90 seconds
pub record IsDuration (text : List ℕ) (n : ℕ) : Type 0 where
  pub pairs : List Pair
  pub some : 0 < length pairs
  pub are_pairs : AllByRecursion IsPair pairs
  pub text_is : text ≡ spelled pairs
  pub value : n ≡ total_time pairs
