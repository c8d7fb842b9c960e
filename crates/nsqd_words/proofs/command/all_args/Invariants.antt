use Rattle.std.proofs.Common.{◌≡◌, ◌≤◌, length, map, take, vec_len, vec_capacity}
use Rattle.nsqd_words.specs.Command.{AreArgs}
use Rattle.nsqd_words.proofs.Commands.{row_rule}
use Rattle.nsqd_words.proofs.command.all_args.Given as goal

-- the options so far, in room for all
abbrev pub invariant-loop-option : goal.invariant-loop-option
invariant-loop-option l = record {
  made : AreArgs l.list.items (map row_rule (take l.option-index l.options));
  within : l.option-index ≤ length l.options;
  long : vec_len l.list ≡ l.option-index;
  room : 16 ≤ vec_capacity l.list;
}
