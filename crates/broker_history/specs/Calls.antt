-- Who may make which call.
use Rattle.std.specs.Prelude.{◌≡◌, ◌≢◌, ℕ, ◌<◌, ◌≤◌, Bool, true, false, List, [], length}
use Rattle.std.specs.List.{AllByRecursion, list_any}
use Rattle.v2_frame.specs.declared.command.Command.{Command}
use Rattle.v2_frame.specs.declared.fault.Limits.{Limits}
use Rattle.v2_frame.specs.Command.{Spells}
use Rattle.broker_history.specs.declared.ask.Ask.{Ask}
use Rattle.broker_history.specs.declared.ask.Ask.TheVariants.{Publish}
use Rattle.broker_history.specs.Entries.{History, is_began, is_gone}
use Rattle.broker_history.specs.declared.call.Call.{Call}
use Rattle.broker_history.specs.declared.call.Call.TheVariants as call

-- the most bytes of a message that any options allow
abbrev pub longest_message : ℕ
longest_message = 16777216

-- the most bytes behind a command's line that any options allow
abbrev pub longest_body : ℕ
longest_body = 268435456

-- the longest delay that any options allow, 8760 hours in nanoseconds
abbrev pub longest_delay : ℕ
longest_delay = 31536000000000000

-- limits that options allow
pub record AreAllowed (limits : Limits) : Type 0 where
  pub message : limits.msg ≤ longest_message
  pub body : limits.body ≤ longest_body

-- the command is one that a reader gives, under limits that options allow
pub record IsWhole (command : Command) : Type 0 where
  pub limits : Limits
  pub allowed : AreAllowed limits
  pub bytes : List ℕ
  pub spells : Spells limits bytes command

-- no body of a message is longer than any options allow
abbrev pub IsAllowedBody : List ℕ → Type 0
IsAllowedBody body = length body ≤ longest_message

-- what is asked can be asked: a publish has a message, each of a length that options allow, and a delay that they allow
abbrev pub CanAsk : Ask → Type 0
CanAsk (Publish topic delay bodies) = (bodies ≢ []) × AllByRecursion IsAllowedBody bodies × (delay ≤ longest_delay)
CanAsk _ = Unit {0}

-- the call can be made, whoever makes it
abbrev pub CanCall : Call → Type 0
CanCall (call.Command command) = IsWhole command
CanCall (call.Ask a) = CanAsk a
CanCall _ = Unit {0}

-- whether the connection of these entries began
abbrev pub has_began : (own : History) → Bool
has_began own = list_any (λ e. is_began e.0.act) own

-- whether it is gone
abbrev pub is_over : (own : History) → Bool
is_over own = list_any (λ e. is_gone e.0.act) own

-- the connection of these entries began and isn't gone
pub record IsHere (own : History) : Type 0 where
  pub began : has_began own ≡ true
  pub stays : is_over own ≡ false

-- the connection of this number, of which these entries were noted, may make the call: a number above 0 begins, and begins once; what a client
-- sends, what is sent to it, and its going come while it is there; whoever asks, lists, ticks or stops needs no client
abbrev pub MayCall : (number : ℕ) → (own : History) → Call → Type 0
MayCall number own call.Begin = (0 < number) × (has_began own ≡ false)
MayCall number own (call.Command command) = IsHere own
MayCall number own (call.Bad fault) = IsHere own
MayCall number own call.Next = IsHere own
MayCall number own call.Gone = IsHere own
MayCall number own (call.Ask a) = Unit {0}
MayCall number own call.Names = Unit {0}
MayCall number own call.Tick = Unit {0}
MayCall number own call.Stop = Unit {0}
