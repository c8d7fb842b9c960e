use Rattle.std.proofs.Common.{refl, ◌∙◌}
use Rattle.nsq_system.proofs.Noted.{on_good, changes_nothing, changes_then}
use Rattle.nsq_system.proofs.open_files.OpenFiles.cut_or_create.Goals as goal

pub returns-then-to-gt-LIMIT : goal.returns-then-to-gt-LIMIT
returns-then-to-gt-LIMIT g c = record {
  limit = tt;
  folder = refl;
  others = changes_nothing c.args.self.now.known.names c.args.name.now;
}

pub returns-in_default : goal.returns-in_default
returns-in_default g c = record {
  limit = tt;
  folder = c.set_len.ensures.folder;
  others = c.set_len.ensures.others;
}

pub returns-in_default-2 : goal.returns-in_default-2
returns-in_default-2 g c = record {
  limit = on_good c.set_len.result c.if-to-gt-LIMIT.false;
  folder = c.set_len.ensures.folder;
  others = c.set_len.ensures.others;
}

pub returns-then-is_err : goal.returns-then-is_err
returns-then-is_err g c = record {
  limit = on_good c.set_len-made.result c.if-to-gt-LIMIT.false;
  folder = c.remove.ensures.folder ∙ c.set_len-made.ensures.folder ∙ c.set_len.ensures.folder;
  others = changes_then c.args.self.now.known.names c.set_len-made.new.self.known.names c.remove.new.self.known.names c.args.name.now
      (changes_then c.args.self.now.known.names c.set_len.new.self.known.names c.set_len-made.new.self.known.names c.args.name.now c.set_len.ensures.others c.set_len-made.ensures.others) c.remove.ensures.others;
}

pub returns-else-is_err : goal.returns-else-is_err
returns-else-is_err g c = record {
  limit = on_good c.set_len-made.result c.if-to-gt-LIMIT.false;
  folder = c.set_len-made.ensures.folder ∙ c.set_len.ensures.folder;
  others = changes_then c.args.self.now.known.names c.set_len.new.self.known.names c.set_len-made.new.self.known.names c.args.name.now c.set_len.ensures.others c.set_len-made.ensures.others;
}
