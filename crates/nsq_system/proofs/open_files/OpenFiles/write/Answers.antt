use Rattle.std.proofs.Common.{rules, refl}
use Rattle.nsq_system.proofs.Noted.{on_good, changes_nothing}
use Rattle.nsq_system.proofs.open_files.OpenFiles.write.Goals as goal

pub returns-then-at-gt-LIMIT : goal.returns-then-at-gt-LIMIT
returns-then-at-gt-LIMIT g c = record {
  limit = tt;
  folder = refl;
  others = changes_nothing c.args.self.now.known.names c.args.name.now;
}

pub returns-then-is_empty : goal.returns-then-is_empty
returns-then-is_empty g c = record {
  limit = on_good c.lengthen.result (search rules);
  folder = c.lengthen.ensures.folder;
  others = c.lengthen.ensures.others;
}

pub returns : goal.returns
returns g c = record {
  limit = on_good c.write_if.result (search rules);
  folder = c.open-ready.ensures.folder;
  others = c.open-ready.ensures.others;
}
