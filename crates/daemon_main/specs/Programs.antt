-- What the program does, by what its words ask for.
use Rattle.std.specs.Prelude.{◌≡◌, ℕ, Bool, IsTrue, List, [], ◌∷◌, ◌++◌, take, codes}
use Rattle.nsq_base.specs.declared.options.Options.{Options}
use Rattle.nsq_outside.specs.Causes.{Rose}
use Rattle.nsq_outside.specs.Hosts.{HostContent, HostState}
use Rattle.broker_floor.specs.Opening.{HaveBytes}
use Rattle.daemon_callers.specs.Served.{Views}
use Rattle.daemon_main.specs.Asked.{HasAsked}
use Rattle.daemon_endings.specs.Endings.{status_of as serve_status}
use Rattle.daemon_endings.specs.Statuses.{line_of, status_of}
use Rattle.daemon_main.specs.Endings.{IsCaused, IsComplete}
use Rattle.daemon_main.specs.Runs.{NoCaller, Runs}
use Rattle.daemon_main.specs.Sights.{Sight}
use Rattle.daemon_endings.specs.declared.serving.ServeEnd.{ServeEnd}
use Rattle.daemon_main.specs.DrillTexts.{ShowsDrill}
use Rattle.daemon_main.specs.ProgramEndings.{IsTold, IsUnserved}
use Rattle.daemon_endings.specs.declared.ending.Ending.{Ending}
use Rattle.daemon_endings.specs.declared.ending.Ending.TheVariants.{Served}
use Rattle.nsqd_words.specs.Command.{Words}
use Rattle.nsqd_words.specs.Requests.{AsksDrill, AsksHelp, AsksVersion, IsUnknown}

-- a plain run with these options: its status is that of an ending that had its cause and whose line was told; where no count rose the ending is that of what was found,
-- or want of memory; and it did what a run that serves does
pub record IsPlainRun {K : Type 0} (Told : Type 0) (tells tells_files tells_notes : Bool) (seen : Views K) (options : Options) (status : ℕ) (old new : Sight K) : Type 0 where
  pub ended : ServeEnd
  pub is : status ≡ serve_status ended
  pub caused : IsCaused ended tells_files tells_notes old.files old.counts new.counts
  pub complete : IsTrue tells_files → IsTrue tells_notes → HaveBytes old.files → IsComplete ended old.files old.counts new.counts
  pub told : IsTrue tells → IsTold (line_of (Served ended)) old.content.lines new.content.lines old.counts.tell new.counts.tell
  pub asked : IsTrue tells → HasAsked options status old.content new.content
  pub runs : Told → Runs seen options ended old new

-- what is printed for the version
abbrev pub version_text : List ℕ
version_text = codes "nsqd 1.0.0" ++ 10 ∷ []

-- this text was printed, with status 0; or a part of it from its front, with status 6 and where the count of standard output rose; or nothing, for want of memory.
-- What was printed is said where the host tells
pub data IsPrinted (tells : Bool) (text : List ℕ) (status : ℕ) (old new : List ℕ) (print print' : ℕ) : Type 0 where
  whole : status ≡ 0 → (IsTrue tells → new ≡ old ++ text) → IsPrinted tells text status old new print print'
  part : status ≡ 6 → (IsTrue tells → (n : ℕ) × (new ≡ old ++ take n text)) → Rose print print' → IsPrinted tells text status old new print print'
  wants : status ≡ 5 → (IsTrue tells → new ≡ old) → IsPrinted tells text status old new print print'

-- some text was printed so
pub record PrintsSome (tells : Bool) (status : ℕ) (old new : List ℕ) (print print' : ℕ) : Type 0 where
  pub text : List ℕ
  pub printed : IsPrinted tells text status old new print print'

-- the numbers of the drill of this seed with so many publishes were printed so; or nothing, for want of memory
pub data PrintsDrill (tells : Bool) (seed count status : ℕ) (old new : List ℕ) (print print' : ℕ) : Type 0 where
  shown : (text : List ℕ) → ShowsDrill seed count text → IsPrinted tells text status old new print print' → PrintsDrill tells seed count status old new print print'
  unshown : status ≡ 5 → print' ≡ print → (IsTrue tells → new ≡ old) → PrintsDrill tells seed count status old new print print'

-- nothing was served: the status is that of an ending without a run, and its line was told; of what the host shows at most the counts of standard output and standard
-- error changed; it was not started, and no caller came. Where the words aren't right nothing was printed. What the host tells is said where it tells
pub record StaysHome {F C J K : Type 0} (tells : Bool) (words : Words) (status : ℕ) (state state' : HostState F C J) (old new : HostContent K) : Type 0 where
  pub ending : Ending
  pub unserved : IsUnserved ending
  pub is : status ≡ status_of ending
  pub told : IsTrue tells → IsTold (line_of ending) old.lines new.lines state.tell_faults state'.tell_faults
  pub shows : state' ≡ record state { print_faults = state'.print_faults; tell_faults = state'.tell_faults }
  pub starts : IsTrue tells → new.starts ≡ old.starts
  pub callers : IsTrue tells → NoCaller old new
  pub silent : IsUnknown words → (state'.print_faults ≡ state.print_faults) × (IsTrue tells → new.printed ≡ old.printed)

-- what the words ask to be printed
pub record IsAsked (tells : Bool) (words : Words) (status : ℕ) (old new : List ℕ) (print print' : ℕ) : Type 0 where
  pub version : AsksVersion words → IsPrinted tells version_text status old new print print'
  pub help : AsksHelp words → PrintsSome tells status old new print print'
  pub drill : (seed count : ℕ) → AsksDrill words seed count → PrintsDrill tells seed count status old new print print'
