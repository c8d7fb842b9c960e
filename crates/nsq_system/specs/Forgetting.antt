-- What a journal that forgets shows.
use Rattle.std.specs.Prelude.{Bool}
use Rattle.nsq_system.specs.declared.forgetful.Forgetful.{Forgetful}

-- whether an entry is aside
abbrev pub has_aside : {E : Type 0} → Forgetful E → Bool
has_aside journal = journal.is_aside
