-- A message that a client gives back.
use Rattle.std.proofs.Common.{◌≡◌, ◌≤◌, ℕ, ℤ, min, Bool, List, codes, Option, Some, None, is_some, Ok, Err, refl, sym, ap, subst, ◌∙◌, arith}
use Rattle.std.specs.Prelude.{IfSome, IsTrue}
use Rattle.std.proofs.lemmas.Bool.{false≢true}
use Rattle.nsq_outside.specs.Files.{Files}
use Rattle.v2_frame.specs.declared.command.Command.TheVariants as command
use Rattle.v2_frame.specs.declared.frame.Frame.{Frame}
use Rattle.broker_history.specs.State.{Client}
use Rattle.broker_history.specs.Reply.{disk_fault, span_of}
use Rattle.broker_history.specs.Step.{spoke}
use Rattle.channel_core.specs.Answers.{RequeueFails}
use Rattle.channel_core.specs.declared.answers.Requeue.{Requeue}
use Rattle.channel_core.specs.declared.answers.Requeue.TheVariants as answer
use Rattle.floor_rooms.specs.declared.hall.Hall.{Hall}
use Rattle.floor_rooms.specs.Changes.{KeepsRooms, OnlyQueueFiles}
use Rattle.floor_rooms.specs.Sound.{IsSound}
use Rattle.floor_calls.specs.Replies.{IsShort, IsShortFrame}
use Rattle.floor_calls.specs.Acts.{ChangesAt, RequeuesAt, gave_back}
use Rattle.floor_turns.specs.Acting.{SameClients}
use Rattle.floor_serving.specs.declared.commanded.Commanded.TheVariants as commanded
use Rattle.floor_serving.specs.Carrying.{Around, basis}
use Rattle.floor_serving.specs.Commands.{CarriesCommand, IsAccepted}
use Rattle.floor_serving.proofs.Staying.{around_same, same_changed, same_hall, stays_kept}

pub span_within : (span : ℕ) (delay : ℤ) (most : ℕ) → span ≡ min (span_of delay) most → span ≤ most
span_within span delay most is = omega (arith, is)

-- what is answered to a fault is at hand
pub no_refusal : (span : ℕ) (refusal : Option Frame) (before now : ℕ) → (span ≡ 0 → refusal ≡ Some (disk_fault (codes "E_REQ_FAILED"))) → RequeueFails span before now answer.Fault → refusal ≡ None → ⊥
no_refusal span refusal before now is fails none = false≢true (ap is_some (sym none ∙ is fails.0))

pub requeue_not : (tells : Bool) (k : ℕ) (id : List ℕ) (delay : ℤ) (h : Hall) (f : Files) (n : ℕ) {E : Type 0} (e : E) → IsSound h → CarriesCommand {E = E} tells k (command.Req id delay) (basis h f n) (basis h f n) (Err e)
requeue_not tells k id delay h f n e sound = record { around = around_same tells h f n sound; same = same_hall h; ends = λ told s holds. (s, refl, holds) }

gave_number : (r : Requeue) (c : Client) → (gave_back r c).number ≡ c.number
gave_number answer.Done c = refl
gave_number answer.Fault c = refl

module _ (tells : Bool) (k : ℕ) (id : List ℕ) (delay : ℤ) (span : ℕ) (h h' : Hall) (f f' : Files) (n n' : ℕ) (sound : IsSound h) (a : IsAccepted h k (command.Req id delay)) (is : span ≡ min (span_of delay) h.options.max_req_timeout)
    (rest : h' ≡ record h { clients = h'.clients; rooms = h'.rooms; quiet_until = h'.quiet_until; unsaved_from = min h.unsaved_from h.moment }) (keeps : KeepsRooms h.moment h.rooms.items h'.rooms.items) (sound' : IsSound h') (files : IsTrue tells → OnlyQueueFiles f f') (faults : n ≤ n') where
  around_requeue : Around tells (basis h f n) (basis h' f' n')
  around_requeue = record { stays = stays_kept h h' (record h { clients = h'.clients; rooms = h'.rooms; quiet_until = h'.quiet_until; unsaved_from = min h.unsaved_from h.moment }) rest refl refl refl refl refl refl keeps; sound = sound'; files = files; faults = faults }

  same_requeue : (r : Requeue) → ChangesAt k (λ c. gave_back r (spoke h.moment c)) h.clients.items h'.clients.items → SameClients h h'
  same_requeue r changes =
      same_changed h h' k (λ c. gave_back r (spoke h.moment c)) sound a.within (λ c. gave_number r (spoke h.moment c)) changes (record h { clients = h'.clients; rooms = h'.rooms; quiet_until = h'.quiet_until; unsaved_from = min h.unsaved_from h.moment }) rest refl

  pub requeue_done : {E : Type 0} → ChangesAt k (λ c. gave_back answer.Done (spoke h.moment c)) h.clients.items h'.clients.items → (IsTrue tells → RequeuesAt k id span h f h' f' answer.Done) → CarriesCommand {E = E} tells k (command.Req id delay) (basis h f n) (basis h' f' n') (Ok commanded.Done)
  requeue_done changes told = record { around = around_requeue; same = same_requeue answer.Done changes; ends = λ tell. told tell delay (sym is) }

  pub requeue_fault : {E : Type 0} → ChangesAt k (λ c. gave_back answer.Fault (spoke h.moment c)) h.clients.items h'.clients.items → (IsTrue tells → RequeuesAt k id span h f h' f' answer.Fault) → (refusal : Option Frame) (frame : Frame) → (span ≡ 0 → refusal ≡ Some (disk_fault (codes "E_REQ_FAILED"))) → IsShort refusal → refusal ≡ Some frame
      → RequeueFails span n n' answer.Fault → CarriesCommand {E = E} tells k (command.Req id delay) (basis h f n) (basis h' f' n') (Ok (commanded.Fault frame))
  requeue_fault changes told refusal frame value short some fails = record {
    around = around_requeue;
    same = same_requeue answer.Fault changes;
    ends = record { does = λ tell. told tell delay; says = sym (value fails.0) ∙ some; short = subst (λ (o : Option Frame). IfSome o IsShortFrame) some short; rose = fails.1 };
  }
