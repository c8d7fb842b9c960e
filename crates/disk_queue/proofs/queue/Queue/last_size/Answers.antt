use Rattle.std.proofs.Common.{◌-◌, ap, arith, refl, subst}
use Rattle.queue_image.specs.Between.{content}
use Rattle.disk_queue.specs.Seen.{Seen}
use Rattle.disk_queue.specs.Parts.{IsSound}
use Rattle.disk_queue.proofs.Peeks.{finds_end, finds_little, finds_head}
use Rattle.disk_queue.proofs.queue.Queue.last_size.Goals as goal

pub returns-then-left-eq0 : goal.returns-then-left-eq0
returns-then-left-eq0 g c =
    let sound : IsSound c.args.self.now = subst IsSound c.self.view_is c.self.invariant in
    record {
      seen = rw (← c.self.view_is) refl;
      sound = sound;
      finds = λ told. finds_end c.args.self.now.positions sound.ordered c.requires (omega (arith, c.if-left-eq0.true, ap (λ (q : Seen). q.positions.write_at - q.positions.read_at) c.self.view_is));
      ends = tt;
      same = λ told name. refl;
      faults = omega arith;
      cause = tt;
      exact = λ counts. refl;
    }

pub returns-then-left-lt4 : goal.returns-then-left-lt4
returns-then-left-lt4 g c =
    let sound : IsSound c.args.self.now = subst IsSound c.self.view_is c.self.invariant in
    record {
      seen = rw (← c.self.view_is) refl;
      sound = sound;
      finds = λ told.
          finds_little (content (g.F.Folder.files c.args.folder.now) c.args.self.now.name) c.args.self.now.positions sound.ordered c.requires
          (omega (arith, c.if-left-eq0.false, ap (λ (q : Seen). q.positions.write_at - q.positions.read_at) c.self.view_is))
          (omega (arith, c.if-left-lt4.true, ap (λ (q : Seen). q.positions.write_at - q.positions.read_at) c.self.view_is));
      ends = tt;
      same = λ told name. refl;
      faults = omega arith;
      cause = tt;
      exact = λ counts. refl;
    }

pub returns : goal.returns
returns g c =
    let sound : IsSound c.args.self.now = subst IsSound c.self.view_is c.self.invariant in
    record {
      seen = c.size_here.ensures.seen;
      sound = sound;
      finds = λ told.
          finds_head (content (g.F.Folder.files c.args.folder.now) c.args.self.now.name) c.args.self.now.positions c.size_here.result sound.ordered c.requires
          (omega (arith, c.if-left-lt4.false, ap (λ (q : Seen). q.positions.write_at - q.positions.read_at) c.self.view_is)) (c.size_here.ensures.is told);
      ends = c.size_here.ensures.ends;
      same = c.size_here.ensures.same;
      faults = c.size_here.ensures.faults;
      cause = c.size_here.ensures.cause;
      exact = c.size_here.ensures.exact;
    }
