use Rattle.std.proofs.Common.{sym, subst, option_copied, ap, ◌∙◌}
use Rattle.channel_copies.specs.Flights.{Flying, Finds}
use Rattle.channel_copies.specs.Index.{Shows, items_of}
use Rattle.channel_copies.proofs.Indexing.{found, not_there}
use Rattle.channel_copies.proofs.flights.Flights.get.Goals as goal

pub returns-in_default : goal.returns-in_default
returns-in_default c =
    let es = c.self.inside.heap.entries in
    not_there es c.args.id c.self.view_is (subst (Shows es c.args.id) (sym c.get.ensures.value ∙ ap option_copied c.in_default.is) (c.self.invariant.indexed.shows c.args.id))

pub returns : goal.returns
returns c =
    let es = c.self.inside.heap.entries in
    subst (λ (v : Flying). Finds c.args.id v.flights (option_copied c.get-2.result)) c.self.view_is
    (subst (Finds c.args.id (items_of es)) (sym c.get-2.ensures) (found es c.args.id c.in-Some.key.now (subst (Shows es c.args.id) (sym c.get.ensures.value ∙ ap option_copied c.in-Some.is) (c.self.invariant.indexed.shows c.args.id))))
