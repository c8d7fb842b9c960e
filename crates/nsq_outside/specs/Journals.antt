-- What noting an entry does to a journal's list.
use Rattle.std.specs.Prelude.{◌≡◌, List, [], ◌∷◌, ◌++◌}
use Rattle.nsq_outside.specs.declared.journal.End.{End}
use Rattle.nsq_outside.specs.declared.journal.End.TheVariants.{Done, Faulted, Skip}

-- the entry joins the list with its end; what is skipped leaves no trace
abbrev pub Notes : {E : Type 0} → List (E × End) → List (E × End) → E → End → Type 0
Notes old new entry Skip = new ≡ old
Notes old new entry Done = new ≡ old ++ (entry, Done) ∷ []
Notes old new entry (Faulted n) = new ≡ old ++ (entry, Faulted n) ∷ []
