use Rattle.std.proofs.Common.{rules, ◌≡◌, Bool, true, ◌&&◌, map, string_bytes, refl, ◌∙◌, ap}
use Rattle.std.specs.Cmp.Lexicographic.{slice_cmp}
use Rattle.std.specs.Ordering.{is_le, nat_cmp}
use Rattle.nsq_system.proofs.KnownTexts.{front-range, part-filter, once-filter, walk-step, walk-stop, walk-end}
use Rattle.nsq_system.proofs.known_names.part_of.Goals as goal
use Rattle.nsq_system.proofs.known_names.part_of.Goals.{in-None, in-Some+then-not-starts_with}

and-true : (b : Bool) → (b && true) ≡ b
and-true Bool.true = refl
and-true Bool.false = refl

pub loop-name-init : goal.loop-name-init
loop-name-init c =
    rw c.new-found.ensures.items (rw c.into_iter-name-iterator.ensures.into_iter_gives (rw (c.range-name-items.ensures.between _)
    (front-range c.args.beginning.now _ (λ k. and-true _ ∙ ap (λ b. is_le (slice_cmp nat_cmp b (string_bytes k))) c.in_ok-from.ensures.ok) c.args.names.now.keys c.range-name-items.ensures.ordered)))

pub loop-name-preserved : goal.loop-name-preserved
loop-name-preserved c = walk-step c.args.beginning.now c.loop-name.found.items _ c.loop-name.name-iterator c.next.new.self c.in-Some.name.now c.in_ok-clone.field-0 _ c.loop-name.invariant c.in-Some.ensures.steps (search rules) (search rules) c.in_ok-push.ensures.items

pub returns-clause-part : goal.returns-clause-part
returns-clause-part c = part-filter c.args.names.now c.args.beginning.now (map string_bytes c.loop-name.found.items) (elim c.match-next.branch [
  | in-None w ↦ walk-end c.args.beginning.now c.loop-name.found.items c.loop-name.name-iterator _ c.loop-name.invariant w.in-None.ensures.steps.0
  | in-Some+then-not-starts_with w ↦ walk-stop c.args.beginning.now c.loop-name.found.items c.loop-name.name-iterator c.next.new.self w.in-Some.name.now _ c.loop-name.invariant w.in-Some.ensures.steps (search rules)
])

pub returns-clause-once : goal.returns-clause-once
returns-clause-once c = once-filter c.args.names.now c.args.beginning.now (map string_bytes c.loop-name.found.items) c.range-name-items.ensures.ordered (elim c.match-next.branch [
  | in-None w ↦ walk-end c.args.beginning.now c.loop-name.found.items c.loop-name.name-iterator _ c.loop-name.invariant w.in-None.ensures.steps.0
  | in-Some+then-not-starts_with w ↦ walk-stop c.args.beginning.now c.loop-name.found.items c.loop-name.name-iterator c.next.new.self w.in-Some.name.now _ c.loop-name.invariant w.in-Some.ensures.steps (search rules)
])
