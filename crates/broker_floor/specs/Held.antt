-- What a floor holds of its hall, before and behind its flush.
use Rattle.std.specs.Prelude.{◌≡◌, ◌<◌, ◌^◌, Bool, false}
use Rattle.floor_rooms.specs.declared.hall.Hall.{Hall}
use Rattle.floor_rooms.specs.Sound.{IsSound}

-- a hall, and whether all that it had in memory was written at a stop
pub record Held : Type 0 where
  pub hall : Hall
  pub flushed : Bool

-- until then the hall is sound
pub record IsHeld (h : Hall) (flushed : Bool) : Type 0 where
  pub sound : flushed ≡ false → IsSound h
  pub epoch : h.epoch < 2 ^ 24
