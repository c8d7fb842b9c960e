-- What the system's answers mean.
use Rattle.std.specs.Prelude.{ℕ, ◌≡◌, ◌≢◌, ◌-◌, ◌^◌, ◌==◌, min, List, [], ◌∷◌, ℤ, pos, Bool, if◌then◌else◌, Option, None, Some, Result, Ok, Err}
use Rattle.std.specs.List.{list_any}
use Rattle.std.specs.Ordering.{int_eq}
use Rattle.std.specs.IoError.{error_kind}
use Rattle.std.specs.Duration.{as_nanos}
use Rattle.std.specs.declared.io.Error.{Error}
use Rattle.std.specs.declared.io.ErrorKind.{ErrorKind}
use Rattle.std.specs.declared.io.ErrorKind.TheVariants.{NotFound, Interrupted as IsInterrupted}
use Rattle.std.specs.declared.time.Duration.{Duration}
use Rattle.nsq_outside.specs.declared.folder.Length.{Length}
use Rattle.nsq_outside.specs.declared.folder.Length.TheVariants.{Is, Absent, Failed as NotMeasured}
use Rattle.nsq_outside.specs.declared.folder.ReadAt.{ReadAt}
use Rattle.nsq_outside.specs.declared.folder.ReadAt.TheVariants.{Got as GotAt, Failed as NotRead}
use Rattle.nsq_system.specs.declared.answers.NoCaller.{NoCaller}
use Rattle.nsq_system.specs.declared.answers.NoCaller.TheVariants.{Nobody, Lost, Shortage, Broken}
use Rattle.nsq_system.specs.declared.answers.PartRead.{PartRead}
use Rattle.nsq_system.specs.declared.answers.PartRead.TheVariants.{Got, End, Interrupted, Failed}

-- a number is among these
abbrev pub is_among : List ℤ → ℤ → Bool
is_among codes code = list_any (λ c. int_eq c code) codes

-- Linux's EPERM, EINTR, ENONET, EPROTO, ENOPROTOOPT, EOPNOTSUPP, ENETDOWN, ENETUNREACH, ECONNABORTED, EHOSTDOWN, EHOSTUNREACH
abbrev pub lost_codes : List ℤ
lost_codes = pos 1 ∷ pos 4 ∷ pos 64 ∷ pos 71 ∷ pos 92 ∷ pos 95 ∷ pos 100 ∷ pos 101 ∷ pos 103 ∷ pos 112 ∷ pos 113 ∷ []

-- Linux's ENOMEM, ENFILE, EMFILE, ENOBUFS
abbrev pub shortage_codes : List ℤ
shortage_codes = pos 12 ∷ pos 23 ∷ pos 24 ∷ pos 105 ∷ []

-- what an error of accept means, by its number: EAGAIN, that nobody called yet; a lost caller; a shortage; or the listener failed
abbrev pub no_caller_at : ℤ → NoCaller
no_caller_at code =
    if int_eq code (pos 11) then Nobody else if is_among lost_codes code then Lost else if is_among shortage_codes code then Shortage else Broken

-- the same, of an error that may have no number
abbrev pub no_caller_of : Option ℤ → NoCaller
no_caller_of None = Broken
no_caller_of (Some code) = no_caller_at code

-- the reading of a clock: that of the system, up to the end of its type, or the last one
abbrev pub reading_of : ℕ → Result Duration Error → ℕ
reading_of last (Ok time) = min (as_nanos time) (2 ^ 64 - 1)
reading_of last (Err e) = last

-- one holds of an error of this kind, and the other of any other error
abbrev pub ByKind : ErrorKind → Error → Type 0 → Type 0 → Type 0
ByKind kind e here elsewhere = (error_kind e ≡ kind → here) × (error_kind e ≢ kind → elsewhere)

-- what a read of a part of a file gave
abbrev pub AfterRead : Result ℕ Error → PartRead → Type 0
AfterRead (Ok n) read = (n ≡ 0 → read ≡ End) × (n ≢ 0 → read ≡ Got n)
AfterRead (Err e) read = ByKind IsInterrupted e (read ≡ Interrupted) (read ≡ Failed e)

-- a file that isn't found is absent
abbrev pub IsLengthOf : Result ℕ Error → Length → Type 0
IsLengthOf (Ok n) length = length ≡ Is n
IsLengthOf (Err e) length = ByKind NotFound e (length ≡ Absent) (length ≡ NotMeasured)

-- a file that isn't found has no bytes
abbrev pub IsReadOf : Result ℕ Error → ReadAt → Type 0
IsReadOf (Ok n) read = read ≡ GotAt n
IsReadOf (Err e) read = ByKind NotFound e (read ≡ GotAt 0) (read ≡ NotRead)

-- a file that isn't found is no error
abbrev pub UnlessAbsent : Result (Unit {0}) Error → Result (Unit {0}) Error → Type 0
UnlessAbsent (Ok u) result = result ≡ Ok u
UnlessAbsent (Err e) result = ByKind NotFound e (result ≡ Ok tt) (result ≡ Err e)
