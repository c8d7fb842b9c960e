use Rattle.std.proofs.Common.{subst, get_or, List, ℕ, ◌∙◌}
use Rattle.std.proofs.lemmas.List.{take_all, get_or_default}
use Rattle.path_image.specs.Found.{Pairwise}
use Rattle.floor_calls.specs.Stats.{IsToldOfNumber}
use Rattle.floor_calls.proofs.Telling.{clients_told, each_told, member_there}
use Rattle.floor_calls.proofs.told.clients_stats.Goals as goal

pub client_stats-requires-clause-there : goal.client_stats-requires-clause-there
client_stats-requires-clause-there c =
    member_there c.args.hall.now.clients.items c.args.topic c.args.stall.now c.deref-number-items.result.now c.members.number-index c.requires.members c.deref-number-items.ensures.value c.members-test.true

pub members-preserved : goal.members-preserved
members-preserved c =
    rw c.in_ok-push.ensures.ok
    (each_told (IsToldOfNumber c.args.hall.now.clients.items c.args.stall.now) c.deref-number-items.result.now c.members.number-index (get_or c.deref-number-items.result.now c.members.number-index 0) c.members.told c.in_ok-client_stats.field-0
    (get_or_default c.deref-number-items.result.now c.members.number-index 0 (get_or c.deref-number-items.result.now c.members.number-index 0) c.members-test.true) c.members-test.true c.in_ok-client_stats.ensures c.members.invariant)

pub returns : goal.returns
returns c =
    clients_told c.args.hall.now.clients.items c.args.topic c.args.stall.now c.members.told c.requires.sound.client_order c.requires.order c.requires.members
    (subst (λ (ns : List ℕ). Pairwise (IsToldOfNumber c.args.hall.now.clients.items c.args.stall.now) ns c.members.told) (take_all c.members.number-index c.deref-number-items.result.now c.members-test.false ∙ c.deref-number-items.ensures.value) c.members.invariant)
