use Rattle.std.proofs.Common.{ℕ, List, ◌≡◌, vec_len}
use Rattle.std.specs.Option.{option_or}
use Rattle.nsq_fakes.specs.MemFiles.{files_of, first_of}
use Rattle.nsq_fakes.proofs.files.made_of.Given as goal

abbrev pub decreases-loop-name : goal.decreases-loop-name
decreases-loop-name l = vec_len l.list

abbrev pub invariant-loop-name : goal.invariant-loop-name
invariant-loop-name l = (name : List ℕ) → option_or (first_of l.list.items name) (files_of l.files name) ≡ first_of l.initial.list.items name
