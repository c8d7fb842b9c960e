-- To which act which call leads, and what is so of it in a hall.
use Rattle.std.proofs.Common.{◌≡◌, ◌⊎◌, inl, inr, ◌≤◌, ℕ, Bool, true, false, not, Option, Some, None, is_some, refl, sym, ap, subst, ◌∙◌, arith}
use Rattle.std.specs.Prelude.{MatchBool}
use Rattle.std.proofs.lemmas.Bool.{false≢true}
use Rattle.v2_frame.specs.declared.command.Command.{Command}
use Rattle.v2_frame.specs.declared.frame.Frame.{Frame}
use Rattle.broker_history.specs.declared.ask.Ask.{Ask}
use Rattle.broker_history.specs.declared.ask.Said.{Said}
use Rattle.broker_history.specs.declared.entry.Act.{Act}
use Rattle.broker_history.specs.declared.entry.Act.TheVariants.{Began, Did, Refused, Beat, Idle, Silent, Dropped, Gone, Asked, Listed, Ticked, Stop}
use Rattle.broker_history.specs.State.{Client, is_lost}
use Rattle.broker_history.specs.Calls.{CanAsk, CanCall, IsWhole}
use Rattle.broker_history.specs.declared.call.Call.{Call}
use Rattle.broker_history.specs.declared.call.Call.TheVariants as call
use Rattle.negotiation.specs.declared.identity.Identity.{Identity}
use Rattle.floor_rooms.specs.declared.hall.Hall.{Hall}
use Rattle.floor_rooms.specs.Rooms.{client_in}
use Rattle.floor_calls.specs.Replies.{reply_in}
use Rattle.floor_calls.specs.Plans.{IsCallsAct, IsNextAct, is_strange}
use Rattle.floor_turns.specs.Acting.{IsPlanned}
use Rattle.floor_serving.specs.Carrying.{IsLeft, IsNoCommand}

-- acts by number
abbrev pub kind : Act → ℕ
kind Began = 0
kind (Did command reply) = 1
kind (Refused fault frame) = 2
kind Beat = 3
kind Idle = 4
kind Silent = 5
kind Dropped = 6
kind Gone = 7
kind (Asked a answer) = 8
kind (Listed names) = 9
kind Ticked = 10
kind Stop = 11
kind _ = 12

-- those to which a call may lead
abbrev Kinds : Call → ℕ → Type 0
Kinds call.Begin n = n ≡ 0
Kinds (call.Command command) n = (n ≡ 1) ⊎ (n ≡ 6)
Kinds (call.Bad fault) n = n ≡ 2
Kinds call.Next n = (3 ≤ n) × (n ≤ 6)
Kinds call.Gone n = n ≡ 7
Kinds (call.Ask a) n = n ≡ 8
Kinds call.Names n = n ≡ 9
Kinds call.Tick n = n ≡ 10
Kinds call.Stop n = n ≡ 11

next_kind : (h : Hall) (a : Act) (c : Client) → IsNextAct h a c → (3 ≤ kind a) × (kind a ≤ 6)
next_kind h Dropped c is = (omega arith, omega arith)
next_kind h Silent c is = (omega arith, omega arith)
next_kind h Beat c is = (omega arith, omega arith)
next_kind h Idle c is = (omega arith, omega arith)
next_kind h a c is = absurd is

command_kind : (b : Bool) (a : Act) (command : Command) (reply : Option Frame) → MatchBool b (a ≡ Dropped) (a ≡ Did command reply) → (kind a ≡ 1) ⊎ (kind a ≡ 6)
command_kind true a command reply is = inr (ap kind is)
command_kind false a command reply is = inl (ap kind is)

kinds : (h : Hall) (number : ℕ) (c : Call) (a : Act) → IsCallsAct h number c a → Kinds c (kind a)
kinds h number call.Begin a is = ap kind is
kinds h number (call.Command command) a is = command_kind (is_lost is.client.phase) a command (reply_in h is.client command) is.is
kinds h number (call.Bad fault) a is = ap kind is
kinds h number call.Next a is = next_kind h a is.client is.is
kinds h number call.Gone a is = ap kind is
kinds h number (call.Ask asked) a is = ap kind is.1
kinds h number call.Names a is = ap kind is
kinds h number call.Tick a is = ap kind is
kinds h number call.Stop a is = ap kind is

either : {n m k : ℕ} → (n ≡ m) ⊎ (n ≡ k) → m ≤ 11 → k ≤ 11 → n ≤ 11
either (inl e) m k = omega (arith, e, m)
either (inr e) m k = omega (arith, e, k)

at_most : (c : Call) (n : ℕ) → Kinds c n → n ≤ 11
at_most call.Begin n k = omega (arith, k)
at_most (call.Command command) n k = either k (omega arith) (omega arith)
at_most (call.Bad fault) n k = omega (arith, k)
at_most call.Next n k = let most = k.1 in omega (arith, most)
at_most call.Gone n k = omega (arith, k)
at_most (call.Ask a) n k = omega (arith, k)
at_most call.Names n k = omega (arith, k)
at_most call.Tick n k = omega (arith, k)
at_most call.Stop n k = omega (arith, k)

-- each act to which a call leads is one of them
pub planned_most : (h : Hall) (number : ℕ) (a : Act) (said : Option Identity) → IsPlanned h number a said → kind a ≤ 11
planned_most h number a said p = at_most p.of (kind a) (kinds h number p.of a p.is)

-- the client that begins isn't there
apart : {n m k : ℕ} {P : Type 0} → (n ≡ m) ⊎ (n ≡ k) → (n ≡ m → P) → (n ≡ k → P) → P
apart (inl e) f g = f e
apart (inr e) f g = g e

none_of : {X : Type 0} (o : Option X) → is_some o ≡ false → o ≡ None
none_of None e = refl
none_of (Some x) e = absurd (false≢true (sym e))

not_there : (there : Bool) → not there ≡ false → there ≡ true
not_there true e = refl
not_there false e = absurd (false≢true (sym e))

began : (c : Call) (there : Bool) → Kinds c 0 → is_strange c there ≡ false → there ≡ false
began call.Begin there k e = e
began (call.Command command) there k e = apart k (λ p. absurd (omega (arith, p))) (λ p. absurd (omega (arith, p)))
began (call.Bad fault) there k e = absurd (omega (arith, k))
began call.Next there k e = let least = k.0 in absurd (omega (arith, least))
began call.Gone there k e = absurd (omega (arith, k))
began (call.Ask a) there k e = absurd (omega (arith, k))
began call.Names there k e = absurd (omega (arith, k))
began call.Tick there k e = absurd (omega (arith, k))
began call.Stop there k e = absurd (omega (arith, k))

pub begin_none : (h : Hall) (number : ℕ) (said : Option Identity) → IsPlanned h number Began said → client_in h.clients.items number ≡ None
begin_none h number said p = none_of (client_in h.clients.items number) (began p.of (is_some (client_in h.clients.items number)) (kinds h number p.of Began p.is) p.serves.fits)

-- the client to which a heartbeat is sent, or that goes, is there
beats : (c : Call) (there : Bool) → Kinds c 3 → is_strange c there ≡ false → there ≡ true
beats call.Begin there k e = absurd (omega (arith, k))
beats (call.Command command) there k e = not_there there e
beats (call.Bad fault) there k e = not_there there e
beats call.Next there k e = not_there there e
beats call.Gone there k e = not_there there e
beats (call.Ask a) there k e = absurd (omega (arith, k))
beats call.Names there k e = absurd (omega (arith, k))
beats call.Tick there k e = absurd (omega (arith, k))
beats call.Stop there k e = absurd (omega (arith, k))

goes : (c : Call) (there : Bool) → Kinds c 7 → is_strange c there ≡ false → there ≡ true
goes call.Begin there k e = absurd (omega (arith, k))
goes (call.Command command) there k e = not_there there e
goes (call.Bad fault) there k e = not_there there e
goes call.Next there k e = not_there there e
goes call.Gone there k e = not_there there e
goes (call.Ask a) there k e = absurd (omega (arith, k))
goes call.Names there k e = absurd (omega (arith, k))
goes call.Tick there k e = absurd (omega (arith, k))
goes call.Stop there k e = absurd (omega (arith, k))

pub beat_there : (h : Hall) (number : ℕ) (said : Option Identity) → IsPlanned h number Beat said → is_some (client_in h.clients.items number) ≡ true
beat_there h number said p = beats p.of (is_some (client_in h.clients.items number)) (kinds h number p.of Beat p.is) p.serves.fits

pub gone_there : (h : Hall) (number : ℕ) (said : Option Identity) → IsPlanned h number Gone said → is_some (client_in h.clients.items number) ≡ true
gone_there h number said p = goes p.of (is_some (client_in h.clients.items number)) (kinds h number p.of Gone p.is) p.serves.fits

-- what is asked can be asked
abbrev asked_of : Ask → Act → Ask
asked_of d (Asked a answer) = a
asked_of d _ = d

asks : (h : Hall) (number : ℕ) (c : Call) (a : Ask) (answer : Said) → IsCallsAct h number c (Asked a answer) → Kinds c 8 → CanCall c → CanAsk a
asks h number call.Begin a answer is k can = absurd (omega (arith, k))
asks h number (call.Command command) a answer is k can = apart k (λ p. absurd (omega (arith, p))) (λ p. absurd (omega (arith, p)))
asks h number (call.Bad fault) a answer is k can = absurd (omega (arith, k))
asks h number call.Next a answer is k can = let most = k.1 in absurd (omega (arith, most))
asks h number call.Gone a answer is k can = absurd (omega (arith, k))
asks h number (call.Ask asked) a answer is k can = subst CanAsk (sym (ap (asked_of a) is.1)) can
asks h number call.Names a answer is k can = absurd (omega (arith, k))
asks h number call.Tick a answer is k can = absurd (omega (arith, k))
asks h number call.Stop a answer is k can = absurd (omega (arith, k))

pub asked_can : (h : Hall) (number : ℕ) (a : Ask) (answer : Said) (said : Option Identity) → IsPlanned h number (Asked a answer) said → CanAsk a
asked_can h number a answer said p = asks h number p.of a answer p.is (kinds h number p.of (Asked a answer) p.is) p.can

-- a command is whole, its client is there and its channel wasn't deleted, and its reply is the hall's
pub record IsDid (h : Hall) (number : ℕ) (command : Command) (reply : Option Frame) : Type 0 where
  pub client : Client
  pub there : client_in h.clients.items number ≡ Some client
  pub stays : is_lost client.phase ≡ false
  pub is : reply ≡ reply_in h client command
  pub whole : IsWhole command

abbrev command_of : Command → Act → Command
command_of d (Did command reply) = command
command_of d _ = d

abbrev reply_of : Option Frame → Act → Option Frame
reply_of d (Did command reply) = reply
reply_of d _ = d

dropped_not : {command : Command} {reply : Option Frame} {P : Type 0} → Did command reply ≡ Dropped → P
dropped_not e = let n : 1 ≡ 6 = ap kind e in absurd (omega (arith, n))

did_one : (h : Hall) (number : ℕ) (command given : Command) (reply : Option Frame) (c : Client) (b : Bool) → is_lost c.phase ≡ b → client_in h.clients.items number ≡ Some c → MatchBool b (Did command reply ≡ Dropped) (Did command reply ≡ Did given (reply_in h c given)) → IsWhole given → IsDid h number command reply
did_one h number command given reply c true lost there is whole = dropped_not is
did_one h number command given reply c false lost there is whole =
    let same : command ≡ given = ap (command_of command) is in
    record { client = c; there = there; stays = lost; is = ap (reply_of reply) is ∙ ap (reply_in h c) (sym same); whole = subst IsWhole (sym same) whole }

dids : (h : Hall) (number : ℕ) (c : Call) (command : Command) (reply : Option Frame) → IsCallsAct h number c (Did command reply) → Kinds c 1 → CanCall c → IsDid h number command reply
dids h number call.Begin command reply is k can = absurd (omega (arith, k))
dids h number (call.Command given) command reply is k can = did_one h number command given reply is.client (is_lost is.client.phase) refl is.there is.is can
dids h number (call.Bad fault) command reply is k can = absurd (omega (arith, k))
dids h number call.Next command reply is k can = let least = k.0 in absurd (omega (arith, least))
dids h number call.Gone command reply is k can = absurd (omega (arith, k))
dids h number (call.Ask asked) command reply is k can = absurd (omega (arith, k))
dids h number call.Names command reply is k can = absurd (omega (arith, k))
dids h number call.Tick command reply is k can = absurd (omega (arith, k))
dids h number call.Stop command reply is k can = absurd (omega (arith, k))

pub planned_did : (h : Hall) (number : ℕ) (command : Command) (reply : Option Frame) (said : Option Identity) → IsPlanned h number (Did command reply) said → IsDid h number command reply
planned_did h number command reply said p = dids h number p.of command reply p.is (kinds h number p.of (Did command reply) p.is) p.can

-- the acts that are no commands
pub no_command : (a : Act) → kind a ≤ 11 → ((command : Command) (reply : Option Frame) → a ≡ Did command reply → ⊥) → IsNoCommand a
no_command Began most did = tt
no_command (Did command reply) most did = did command reply refl
no_command (Refused fault frame) most did = tt
no_command Beat most did = tt
no_command Idle most did = tt
no_command Silent most did = tt
no_command Dropped most did = tt
no_command Gone most did = tt
no_command (Asked a answer) most did = tt
no_command (Listed names) most did = tt
no_command Ticked most did = tt
no_command Stop most did = tt
no_command a most did = absurd (omega (arith, most))

-- the acts that change nothing
pub left : (a : Act) → kind a ≤ 11 → (a ≡ Began → ⊥) → ((command : Command) (reply : Option Frame) → a ≡ Did command reply → ⊥) → (a ≡ Beat → ⊥) → (a ≡ Gone → ⊥) → ((asked : Ask) (answer : Said) → a ≡ Asked asked answer → ⊥) → (a ≡ Stop → ⊥) → IsLeft a
left Began most began did beat gone asked stop = absurd (began refl)
left (Did command reply) most began did beat gone asked stop = absurd (did command reply refl)
left (Refused fault frame) most began did beat gone asked stop = tt
left Beat most began did beat gone asked stop = absurd (beat refl)
left Idle most began did beat gone asked stop = tt
left Silent most began did beat gone asked stop = tt
left Dropped most began did beat gone asked stop = tt
left Gone most began did beat gone asked stop = absurd (gone refl)
left (Asked a answer) most began did beat gone asked stop = absurd (asked a answer refl)
left (Listed names) most began did beat gone asked stop = tt
left Ticked most began did beat gone asked stop = tt
left Stop most began did beat gone asked stop = absurd (stop refl)
left a most began did beat gone asked stop = absurd (omega (arith, most))
