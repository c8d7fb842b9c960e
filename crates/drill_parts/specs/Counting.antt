-- What is counted of a drill's history.
use Rattle.std.specs.Prelude.{ℕ, Bool, true, false, ◌&&◌, not, count_by, Some, None}
use Rattle.v2_frame.specs.declared.command.Command.TheVariants.{Pub, Fin}
use Rattle.v2_frame.specs.declared.frame.FrameKind.{FrameKind}
use Rattle.v2_frame.specs.declared.frame.FrameKind.TheVariants as kind
use Rattle.broker_history.specs.declared.entry.Act.{Act}
use Rattle.broker_history.specs.declared.entry.Act.TheVariants.{Did, Sent}
use Rattle.broker_history.specs.Entries.{History, is_faulted}

-- whether a frame is of this kind
abbrev pub is_response : FrameKind → Bool
is_response kind.Response = true
is_response _ = false

-- whether an act is a PUB whose reply is no error
abbrev pub is_accepting : Act → Bool
is_accepting (Did (Pub topic body) (Some frame)) = is_response frame.kind
is_accepting act = false

-- whether an act is a message that was sent
abbrev pub is_sending : Act → Bool
is_sending (Sent m) = true
is_sending act = false

-- whether an act is a FIN without a reply: one that fails is answered with an error
abbrev pub is_finishing : Act → Bool
is_finishing (Did (Fin id) None) = true
is_finishing act = false

-- how many messages were accepted, how many were sent, and how many FINs succeeded; a command that a disk fault kept from being carried out doesn't count
abbrev pub published_in : History → ℕ
published_in h = count_by (λ e. is_accepting e.0.act && not (is_faulted e.1)) h

abbrev pub sent_in : History → ℕ
sent_in h = count_by (λ e. is_sending e.0.act) h

abbrev pub finished_in : History → ℕ
finished_in h = count_by (λ e. is_finishing e.0.act && not (is_faulted e.1)) h
