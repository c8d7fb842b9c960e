-- Each message is sent within its client's RDY.
use Rattle.std.proofs.Common.{◌≡◌, ℕ, ◌<◌, ◌==◌, Bool, true, false, not, ◌&&◌, nat_lt, Option, Some, None, option_map, unwrap_or, ap, subst, arith}
use Rattle.std.proofs.lemmas.Bool.{false≢true, eqb-true}
use Rattle.std.proofs.lemmas.Bool.Decides.{nat_tests}
use Rattle.nsq_outside.specs.declared.journal.End.{End}
use Rattle.nsq_outside.specs.declared.journal.End.TheVariants.{Done, Faulted, Skip}
use Rattle.v2_frame.specs.declared.message.Message.{Message}
use Rattle.broker_history.specs.declared.entry.Act.TheVariants.{Sent}
use Rattle.broker_history.specs.declared.entry.Entry.{Entry}
use Rattle.broker_history.specs.State.{State, Client, Channel, client_of, client_channel, flying, is_subscribed}
use Rattle.broker_history.specs.Channels.{has_credit}
use Rattle.broker_history.specs.Credit.{rdy, in_flight_with, may_get}
use Rattle.broker_history.specs.Reply.{copies_in}
use Rattle.broker_history.proofs.Lists.{find_passes}
use Rattle.broker_history.specs.Step.{Step, IsAllowedAct}

second : (a b : Bool) → (a && b) ≡ true → b ≡ true
second true b h = h
second false b h = absurd (false≢true h)

below : (m n : ℕ) → nat_lt m n ≡ true → m < n
below m n h = grind (arith, nat_tests)

-- a client that may get a message has credit
credit : (c : Client) (o : Option Channel) → may_get c o ≡ true → flying c.number (copies_in o) < c.ready
credit c None h = absurd (false≢true h)
credit c (Some k) h = below (flying c.number k.copies) c.ready (second (not k.paused) (nat_lt (flying c.number k.copies) c.ready) (second (is_subscribed c.phase) (has_credit c.ready c.number k) h))

within : (s : State) (number : ℕ) (c : Client) → client_of s number ≡ Some c → flying number (copies_in (client_channel s c.route)) < c.ready → in_flight_with s number < rdy s number
within s number c there few =
    let a : in_flight_with s number ≡ flying number (copies_in (client_channel s c.route)) = ap (λ o. unwrap_or (option_map (λ (c : Client). flying number (copies_in (client_channel s c.route))) o) 0) there in
    let b : rdy s number ≡ c.ready = ap (λ o. unwrap_or (option_map (λ (c : Client). c.ready) o) 0) there in
    omega arith

-- the client of a number has it
number_is : (s : State) (number : ℕ) (c : Client) → client_of s number ≡ Some c → c.number ≡ number
number_is s number c there = eqb-true c.number number (find_passes (λ (d : Client). d.number == number) s.clients c there)

sent_act : (s : State) (at number : ℕ) (m : Message) (end : End) → IsAllowedAct s at number (Sent m) end → in_flight_with s number < rdy s number
sent_act s at number m Done a = within s number a.client a.there (subst (λ n. flying n (copies_in (client_channel s a.client.route)) < a.client.ready) (number_is s number a.client a.there) (credit a.client (client_channel s a.client.route) a.is.0.credit))
sent_act s at number m (Faulted n) a = absurd a
sent_act s at number m Skip a = absurd a

pub sent_within : (s t : State) (e : Entry × End) (m : Message) → Step s e t → e.0.act ≡ Sent m → in_flight_with s e.0.conn < rdy s e.0.conn
sent_within s t e m step is = sent_act s e.0.at e.0.conn m e.1 (subst (λ act. IsAllowedAct s e.0.at e.0.conn act e.1) is step.allowed)
