use Rattle.std.proofs.Common.{ap, subst, sym}
use Rattle.channel_core.specs.Seen.{Seen}
use Rattle.channel_rows.specs.Served.{IsServed}
use Rattle.channel_rows.proofs.Serving.{as_served}
use Rattle.channel_rows.proofs.stage.delete.Goals as goal

pub returns-in-Fault : goal.returns-in-Fault
returns-in-Fault c =
    let rest = c.in-Fault.ensures.seen.rest in
    subst IsServed (sym c.put.ensures) (as_served c.replace-old.result _ (ap (λ (v : Seen). v.drawn) rest) (ap (λ (v : Seen). v.clients) rest) (subst IsServed (sym c.replace-old.ensures.value) c.requires.old))
