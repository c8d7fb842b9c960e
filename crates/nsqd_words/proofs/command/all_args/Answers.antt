use Rattle.std.proofs.Common.{ℕ, ◌+◌, List, ap, arith, map, subst, take_all, ◌∙◌}
use Rattle.nsqd_words.specs.Command.{AreArgs}
use Rattle.nsqd_words.proofs.Commands.{Row, none_made, one_made, row_made, row_rule}
use Rattle.nsqd_words.proofs.command.all_args.Goals as goal

pub loop-option-init : goal.loop-option-init
loop-option-init c = record {
  made = none_made _ c.in_ok-list.ensures.items;
  within = omega arith;
  long = c.in_ok-list.ensures.len;
  room = c.in_ok-list.ensures.capacity;
}

pub push_reserved-requires : goal.push_reserved-requires
push_reserved-requires c = omega (arith, c.loop-option-test.true, c.loop-option.invariant.long, c.loop-option.invariant.room, c.requires)

pub loop-option-preserved : goal.loop-option-preserved
loop-option-preserved c =
    let before = c.loop-option.invariant in
    let pushed = c.push_reserved.ensures in
    record {
      made = row_made _ _ c.new_arg.result _ _ _ c.loop-option-test.true before.made pushed.items c.new_arg.ensures.rule c.new_arg.ensures.own;
      within = omega (arith, c.loop-option-test.true);
      long = pushed.len ∙ ap (λ (n : ℕ). n + 1) before.long;
      room = omega (arith, before.room, pushed.capacity);
    }

pub push_reserved-requires-2 : goal.push_reserved-requires-2
push_reserved-requires-2 c = omega (arith, c.loop-option.invariant.within, c.loop-option.invariant.long, c.loop-option.invariant.room, c.requires)

pub returns : goal.returns
returns c =
    let rows = c.args.options.now in
    let all : AreArgs c.loop-option.list.items (map row_rule rows)
    = subst (λ (rs : List Row). AreArgs c.loop-option.list.items (map row_rule rs)) (take_all c.loop-option.option-index rows c.loop-option-test.false) c.loop-option.invariant.made in
    one_made _ _ c.new_arg-stop.result _ _ all c.push_reserved-2.ensures.items c.new_arg-stop.ensures.rule c.new_arg-stop.ensures.own
