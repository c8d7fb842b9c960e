use Rattle.std.proofs.Common.{◌<◌, List, ℕ, length, sym, subst}
use Rattle.nsq_core.specs.Name.{IsName}
use Rattle.nsq_base.proofs.names.Names.topic.Goals as goal

pub returns-clause-is_name : goal.returns-clause-is_name
returns-clause-is_name c =
    let within : c.args.i < length c.self.inside.topics.items = rw c.self.view_is c.requires in
    subst (λ (e : List ℕ × List (List ℕ)). IsName e.0) (sym c.index.ensures) (c.self.invariant.named c.args.i c.index.result.now within)
