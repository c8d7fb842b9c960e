use Rattle.std.proofs.Common.{rules}
use Rattle.nsq_system.proofs.Noted.{on_good, on_bad, still_gone, moves, moves_one}
use Rattle.nsq_system.proofs.known_names.KnownNames.note_renamed.Goals as goal

pub returns-then-is_ok : goal.returns-then-is_ok
returns-then-is_ok c = record {
  gone = still_gone c.note_removed.new.self.names c.add.new.self.names c.args.from.now c.args.to.now c.note_removed.ensures.gone c.add.ensures.others;
  here = on_good c.args.outcome.now c.add.ensures.here;
  stays = search rules;
  unknown = search rules;
  others = moves c.args.self.now.names c.note_removed.new.self.names c.add.new.self.names c.args.from.now c.args.to.now c.note_removed.ensures.others c.add.ensures.others;
}

pub returns-else-is_ok : goal.returns-else-is_ok
returns-else-is_ok c = record {
  gone = λ _. c.note_removed.ensures.gone;
  here = search rules;
  stays = on_bad c.args.outcome.now c.note_removed.ensures.others;
  unknown = c.note_removed.ensures.unknown;
  others = moves_one c.args.self.now.names c.note_removed.new.self.names c.args.from.now c.args.to.now c.note_removed.ensures.others;
}
