use Rattle.disk_queue.proofs.Kept.{based_here, based_rolled, placed_here, placed_rolled, rolls_on}
use Rattle.disk_queue.proofs.queue.Queue.place.Goals as goal

pub roll-requires : goal.roll-requires
roll-requires g c = rolls_on c.args.self.now.options.max_bytes c.args.self.now.staged.file c.args.self.now.staged.at c.args.size c.if-rolls.ensures

pub returns-then-rolls : goal.returns-then-rolls
returns-then-rolls g c =
    let old = g.F.Folder.files c.args.folder.now in
    let new = g.F.Folder.files c.roll.new.folder in
    record {
      seen = c.roll.ensures.seen;
      end = placed_rolled c.args.self.now c.args.size c.roll.result c.if-rolls.ensures c.roll.ensures.end;
      list = c.roll.ensures.list;
      ready = c.roll.ensures.ready;
      base = λ told. based_rolled c.args.self.now old new c.args.size c.roll.result c.if-rolls.ensures (c.roll.ensures.base told);
      files = c.roll.ensures.files;
      faults = c.roll.ensures.faults;
      cause = c.roll.ensures.cause;
      exact = c.roll.ensures.exact;
    }

pub returns : goal.returns
returns g c =
    let old = g.F.Folder.files c.args.folder.now in
    let new = g.F.Folder.files c.begin.new.folder in
    record {
      seen = c.begin.ensures.seen;
      end = placed_here c.args.self.now c.args.size c.begin.result c.if-rolls.ensures c.begin.ensures.end;
      list = c.begin.ensures.list;
      ready = c.begin.ensures.ready;
      base = λ told. based_here c.args.self.now old new c.args.size c.begin.result c.if-rolls.ensures (c.begin.ensures.base told);
      files = c.begin.ensures.files;
      faults = c.begin.ensures.faults;
      cause = c.begin.ensures.cause;
      exact = c.begin.ensures.exact;
    }
