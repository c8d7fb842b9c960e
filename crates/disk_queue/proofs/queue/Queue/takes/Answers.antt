use Rattle.std.proofs.Common.{◌≤◌, ◌<◌, ◌⊎◌, ◌↔◌, Bool, IsTrue, inl, inr, subst, sym}
use Rattle.disk_queue.specs.Parts.{IsSound}
use Rattle.disk_queue.proofs.Sound.{Takes, takes_earlier, takes_great, takes_here, takes_low, takes_none, takes_size}
use Rattle.disk_queue.proofs.queue.Queue.takes.Goals.{then-size-self, else-size-self}
use Rattle.disk_queue.proofs.queue.Queue.takes.Goals as goal

pub returns-then-self : goal.returns-then-self
returns-then-self c =
    let options = c.self.inside.options in
    let sized : (options.least ≤ c.args.size) × (c.args.size ≤ options.limit) = elim c.if-size-self.branch [
      | then-size-self w ↦ takes_size options.least options.limit c.args.size c.if-size-self.value w.if-size-self.true w.value-is c.if-size-self-2.true
      | else-size-self w ↦ absurd (takes_low options.least c.args.size c.if-size-self.value w.if-size-self.false w.value-is c.if-size-self-2.true)
    ] in
    record {
      takes = takes_earlier _ c.args.self.now c.args.size c.self.view_is sized c.if-self.true;
      sound = subst IsSound c.self.view_is c.self.invariant;
    }

pub returns-else-self : goal.returns-else-self
returns-else-self c =
    let options = c.self.inside.options in
    let sized : (options.least ≤ c.args.size) × (c.args.size ≤ options.limit) = elim c.if-size-self.branch [
      | then-size-self w ↦ takes_size options.least options.limit c.args.size c.if-size-self.value w.if-size-self.true w.value-is c.if-size-self-2.true
      | else-size-self w ↦ absurd (takes_low options.least c.args.size c.if-size-self.value w.if-size-self.false w.value-is c.if-size-self-2.true)
    ] in
    record {
      takes = takes_here _ c.args.self.now c.args.size c.self.view_is sized c.if-self.false c.self.invariant.ordered;
      sound = subst IsSound c.self.view_is c.self.invariant;
    }

pub returns-else-size-self-2 : goal.returns-else-size-self-2
returns-else-size-self-2 c =
    let options = c.self.inside.options in
    let out : (c.args.size < options.least) ⊎ (options.limit < c.args.size) = elim c.if-size-self.branch [
      | then-size-self w ↦ inr (takes_great options.limit c.args.size c.if-size-self.value w.value-is c.if-size-self-2.false)
      | else-size-self w ↦ inl w.if-size-self.false
    ] in
    record {
      takes = subst (λ (v : Bool). IsTrue v ↔ Takes c.args.self.now c.args.size) (sym c.if-size-self-2.false) (takes_none _ c.args.self.now c.args.size c.self.view_is out);
      sound = subst IsSound c.self.view_is c.self.invariant;
    }
