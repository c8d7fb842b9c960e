-- What clauses see of bytes on their way to a writer.
use Rattle.std.specs.Prelude.{ℕ, ◌≡◌, List, [], Bool, true, false}
use Rattle.nsq_system.specs.Frames.{EndsInError}
use Rattle.nsq_outside.specs.declared.conn.Write.{Write}
use Rattle.nsq_outside.specs.declared.conn.Write.TheVariants.{Took, Failed}
use Rattle.nsq_system.specs.declared.outbox.Outbox.{Outbox}

-- the writer
abbrev pub writer_of : {W : Type 0} → Outbox W → W
writer_of outbox = outbox.writer

-- the bytes that were taken and aren't sent yet
abbrev pub gathered_in : {W : Type 0} → Outbox W → List ℕ
gathered_in outbox = outbox.gathered.items

-- whether a send failed, or it was stopped, after which nothing is sent any more
abbrev pub is_broken : {W : Type 0} → Outbox W → Bool
is_broken outbox = outbox.broken

-- how often bytes couldn't be sent
abbrev pub faults_in : {W : Type 0} → Outbox W → ℕ
faults_in outbox = outbox.faults.count

-- nothing is gathered, and nothing failed yet
pub record IsNewOutbox {W : Type 0} (outbox : Outbox W) : Type 0 where
  pub empty : gathered_in outbox ≡ []
  pub whole : is_broken outbox ≡ false
  pub no_fault : faults_in outbox ≡ 0

-- once it is broken it stays so, and its writer as it is
abbrev pub StaysBroken : {W : Type 0} → Outbox W → Outbox W → Type 0
StaysBroken old new = is_broken old ≡ true → (is_broken new ≡ true) × (writer_of new ≡ writer_of old)

-- bytes were taken and it isn't broken, or none were and it is
abbrev pub TakesOrBreaks : {W : Type 0} → Outbox W → Write → Type 0
TakesOrBreaks new (Took n) = is_broken new ≡ false
TakesOrBreaks new Failed = is_broken new ≡ true

-- bytes that were taken leave it broken only where they end in an error frame, which couldn't be sent
abbrev pub BreaksAtError : {W : Type 0} → List ℕ → Outbox W → Write → Type 0
BreaksAtError from new (Took n) = is_broken new ≡ true → EndsInError from
BreaksAtError from new Failed = Unit {0}
