use Rattle.std.proofs.Common.{◌∙◌, sym, ap, subst, refl, arith, IsSome}
use Rattle.channel_copies.specs.Clients.{client_of}
use Rattle.channel_core.specs.Seen.{Seen}
use Rattle.channel_core.proofs.Keeping.{still_whole, nothing_lent, costs_flying}
use Rattle.channel_core.proofs.Rows.{asked, as_many, touched_now}
use Rattle.channel_core.proofs.channel.Channel.touch.Goals as goal

pub get-requires : goal.get-requires
get-requires g c = subst (λ (v : Seen). IsSome (client_of v.clients c.args.client)) (sym c.self.view_is) c.requires.client

pub overflow_add-until : goal.overflow_add-until
overflow_add-until g c = omega (arith, c.get.ensures.timeout, c.requires.now)

pub touch-requires-clause-there : goal.touch-requires-clause-there
touch-requires-clause-there g c = asked c.self.view_is c.requires.yours

pub touch-requires-clause-most : goal.touch-requires-clause-most
touch-requires-clause-most g c = c.self.invariant.max_msg_timeout

pub invariant_of-self : goal.invariant_of-self
invariant_of-self g c =
    let nothing = ap (λ (v : Seen). v.drawn) c.self.view_is ∙ c.requires.nothing in
    still_whole _ _ _ _ c.self.invariant c.self.invariant.named nothing (nothing_lent nothing c.self.invariant) (omega (arith, as_many c.self.inside.flights.flights c.touch.new.self.flights c.touch.ensures.prolongs, c.self.invariant.room))

pub returns-clause-row : goal.returns-clause-row
returns-clause-row g c = touched_now c.get.result c.self.view_is c.requires.yours c.get.ensures.value refl c.touch.ensures.prolongs refl

pub returns-clause-steps : goal.returns-clause-steps
returns-clause-steps g c = costs_flying 2 c.args.steps.now c.touch.new.steps c.self.view_is c.touch.ensures.steps
