-- What becomes of one channel of a hall as a client does something with a copy that it has.
use Rattle.std.specs.Prelude.{◌≡◌, ℕ, Bool, IsTrue, List}
use Rattle.nsq_outside.specs.Files.{Files}
use Rattle.v2_frame.specs.declared.message.Message.{Message}
use Rattle.backlog.specs.Lists.{OnDisk}
use Rattle.broker_history.specs.State.{Channel}
use Rattle.channel_copies.specs.Clients.{PutsClient, client_of, now_ready}
use Rattle.channel_copies.specs.Putting.{KeepsDisk, around}
use Rattle.channel_core.specs.declared.answers.Requeue.{Requeue}
use Rattle.channel_core.specs.Answers.{RequeueFails}
use Rattle.channel_core.specs.Drawing.{Does}
use Rattle.channel_core.specs.Moves.{Requeues}
use Rattle.floor_rooms.specs.declared.stall.Stall.{Stall}

-- nothing but its copies in flight changed of the channel, by a row
pub record FliesStall (Row : Stall → Channel → Channel → Type 0) (a b : Stall) : Type 0 where
  pub row : Does (Row a) a.channel b.channel
  pub rest : b.channel ≡ record a.channel { flights = b.channel.flights; spare = b.channel.spare }
  pub same : b ≡ record a { channel = b.channel }

-- what one call of `requeue` made of the channel, of the folder's files and of its count of faults
pub record GivesBackStall (tells : Bool) (client : ℕ) (id : List ℕ) (now delay : ℕ) (answer : Requeue) (old new : Files) (before after : ℕ) (a b : Stall) : Type 0 where
  pub row : IsTrue tells → (disk : List Message) → OnDisk a.channel.backlog.queue old disk → Requeues client id now delay a.channel disk b.channel new answer
  pub rest : b.channel ≡ record a.channel { requeue_count = b.channel.requeue_count; backlog = b.channel.backlog; flights = b.channel.flights; deferred = b.channel.deferred; spare = b.channel.spare; deferred_spare = b.channel.deferred_spare }
  pub disk : KeepsDisk tells (around a.channel.backlog old before) (around b.channel.backlog new after)
  pub cause : RequeueFails delay before after answer
  pub same : b ≡ record a { channel = b.channel }

-- a client of the channel may have so many copies in flight
pub record ReadiesStall (client count : ℕ) (a b : Stall) : Type 0 where
  pub clients : PutsClient client (now_ready count (client_of a.channel.clients client)) a.channel.clients b.channel.clients
  pub rest : b.channel ≡ record a.channel { clients = b.channel.clients }
  pub same : b ≡ record a { channel = b.channel }
