use Rattle.std.proofs.Common.{◌≡◌, ◌∙◌, ◌+◌, ◌++◌, ℕ, List, [], ◌∷◌, get_or, suc, take, sym, ap, subst, arith}
use Rattle.std.proofs.Math.Seq.{take-suc}
use Rattle.std.proofs.lemmas.List.{take_all}
use Rattle.floor_rooms.specs.ClientPlaces.{AreInOrder}
use Rattle.floor_topics.specs.Losing.{lost_among, lost_one}
use Rattle.floor_topics.proofs.LostClients.{among_more, among_none, among_order}
use Rattle.floor_topics.proofs.losing.lose_all.Goals as goal

pub members-init : goal.members-init
members-init c = among_none c.args.topic c.args.channel c.args.clients.now.items

pub lose_one-requires : goal.lose_one-requires
lose_one-requires c =
    subst AreInOrder (sym c.members.invariant) (among_order (take c.members.number-index c.args.members.now) c.args.topic c.args.channel c.args.clients.now.items c.requires)

pub members-preserved : goal.members-preserved
members-preserved c =
    let next : suc c.members.number-index ≡ c.members.number-index + 1 = omega arith in
    let more : take c.members.number-index c.args.members.now ++ get_or c.args.members.now c.members.number-index 0 ∷ [] ≡ take (c.members.number-index + 1) c.args.members.now = sym (take-suc c.args.members.now c.members.number-index 0 c.members-test.true) ∙ ap (λ n. take n c.args.members.now) next in
    c.lose_one.ensures ∙ ap (lost_one _ c.args.topic c.args.channel) c.members.invariant ∙ among_more (take c.members.number-index c.args.members.now) _ c.args.topic c.args.channel c.args.clients.now.items
    ∙ ap (λ (ns : List ℕ). lost_among ns c.args.topic c.args.channel c.args.clients.now.items) more

pub returns : goal.returns
returns c = c.members.invariant ∙ ap (λ (ns : List ℕ). lost_among ns c.args.topic c.args.channel c.args.clients.now.items) (take_all c.members.number-index c.args.members.now c.members-test.false)
