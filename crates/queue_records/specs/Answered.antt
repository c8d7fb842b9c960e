-- What the functions of this crate answer, by the cases of their results.
use Rattle.std.specs.Prelude.{ℕ, List}
use Rattle.queue_image.specs.Records.{IsRow, IsDamaged, HasRecord, IsNoRecord}
use Rattle.queue_records.specs.declared.records.Row.{Row}
use Rattle.queue_records.specs.declared.records.Row.TheVariants.{Whole, Damaged}
use Rattle.queue_records.specs.declared.records.First.{First}
use Rattle.queue_records.specs.declared.records.First.TheVariants.{Record, Damage}

-- the bodies of a row of records, or the place where the bytes are damaged and the size read there
abbrev pub SplitsInto : ℕ → ℕ → List ℕ → Row → Type 0
SplitsInto least limit bytes (Whole bodies) = IsRow least limit bytes bodies
SplitsInto least limit bytes (Damaged place size) = IsDamaged least limit bytes place size

-- the record that stands first, or the size that is read where none does
abbrev pub StandsFirst : ℕ → ℕ → List ℕ → First → Type 0
StandsFirst least limit bytes (Record body) = HasRecord least limit bytes 0 body.now
StandsFirst least limit bytes (Damage size) = IsNoRecord least limit bytes size
