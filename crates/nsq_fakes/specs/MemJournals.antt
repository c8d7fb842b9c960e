-- What a journal in memory shows.
use Rattle.std.specs.Prelude.{List, Option}
use Rattle.nsq_outside.specs.declared.journal.End.{End}
use Rattle.nsq_fakes.specs.declared.journal.MemJournal.{MemJournal}

-- what was noted in a journal in memory, in order
abbrev pub notes_of : {E : Type 0} → MemJournal E → List (E × End)
notes_of journal = journal.entries.items

-- the entry that a journal in memory keeps aside, where one is
abbrev pub kept_of : {E : Type 0} → MemJournal E → Option E
kept_of journal = journal.aside
