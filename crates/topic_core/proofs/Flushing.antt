-- The queue of a durable topic, through a flush.
use Rattle.std.proofs.Common.{ℕ, ◌≡◌, Bool, true, false, not, List, Option, Some, None, refl, sym}
use Rattle.std.specs.Prelude.{IsSome, is_some}
use Rattle.std.proofs.lemmas.Bool.{false≢true}
use Rattle.nsq_base.specs.Name.{is_ephemeral, IsEphemeral}
use Rattle.v2_frame.specs.declared.message.Message.{Message}
use Rattle.backlog.specs.Queues.{Seen as Queue}
use Rattle.backlog.specs.Seen.{Seen as Backlog, SameQueue}
use Rattle.topic_core.specs.Kept.{IsNamed}

is_durable : (queue : Option Queue) (e : Bool) → is_some queue ≡ not e → e ≡ false → IsSome queue
is_durable (Some q) e is not_e = refl
is_durable None true is not_e = absurd (let no : ⊥ = cc in no)
is_durable None false is not_e = absurd (let no : ⊥ = cc in no)

pub durable_queue : (name : List ℕ) (b : Backlog) → IsNamed name b → is_ephemeral name ≡ false → IsSome b.queue
durable_queue name b named durable = is_durable b.queue (is_ephemeral name) named.durable durable

pub still_there : (q r : Option Queue) → SameQueue q r → IsSome q → IsSome r
still_there None r same some = absurd (let no : ⊥ = cc in no)
still_there (Some q) None same some = absurd same
still_there (Some q) (Some r) same some = refl

-- what the calls on the name and on the head say
pub lasting : (name : List ℕ) → (IsEphemeral name → false ≡ true) → is_ephemeral name ≡ false
lasting name passing = either (is_ephemeral name) passing
  where
    either : (e : Bool) → (e ≡ true → false ≡ true) → e ≡ false
    either true f = sym (f refl)
    either false f = refl

pub no_message : (head : Option Message) → is_some head ≡ false → head ≡ None
no_message None e = refl
no_message (Some m) e = absurd (false≢true (sym e))
