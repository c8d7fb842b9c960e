use Rattle.std.proofs.Common.{◌≡◌, arith, refl, sym, subst, ◌∙◌, Some, IfSome}
use Rattle.queue_image.specs.Between.{content}
use Rattle.disk_queue.specs.Seen.{Seen, reading_at}
use Rattle.disk_queue.specs.Parts.{IsSound}
use Rattle.disk_queue.specs.Peeking.{HeadFinds, HeadEnds, FindCounts}
use Rattle.disk_queue.specs.Reading.{Turns}
use Rattle.disk_queue.specs.Reading.Turns.{stays}
use Rattle.disk_queue.proofs.Sound.{head_later}
use Rattle.disk_queue.proofs.Turning.{turn_more, turn_seen, finds_known, some_known}
use Rattle.disk_queue.proofs.queue.Queue.find.Goals as goal

pub loop-self-init : goal.loop-self-init
loop-self-init g c = record { seen = refl; moves = λ told. stays refl; same = λ told name. refl; exact = λ counts. refl; faults = omega arith }

pub loop-self-preserved : goal.loop-self-preserved
loop-self-preserved g c =
    let q = c.args.self.now in
    let known = c.loop-self.invariant in
    let old = g.F.Folder.files c.args.folder.now in
    let mid = g.F.Folder.files c.loop-self.folder in
    let more = known.faults in
    record {
      seen = turn_seen q c.loop-self.self c.size_or_turn.new.self known.seen c.in-None.ensures.seen;
      moves = λ told. turn_more q c.loop-self.self c.size_or_turn.new.self old mid known.seen c.in-None.ensures.seen (known.same told) (known.moves told) (c.in-None.ensures.finds told);
      same = λ told name. c.in-None.ensures.same told name ∙ known.same told name;
      exact = λ counts. c.in-None.ensures.exact counts ∙ known.exact counts;
      faults = omega (arith, more, c.in-None.ensures.faults);
    }

pub returns-in-Some : goal.returns-in-Some
returns-in-Some g c =
    let q = c.args.self.now in
    let known = c.loop-self.invariant in
    let found = c.in-Some.ensures in
    let old = g.F.Folder.files c.args.folder.now in
    let first = g.F.Folder.folder_faults c.args.folder.now in
    let last = g.F.Folder.folder_faults c.size_or_turn.new.folder in
    record {
      seen = subst (λ (x : Seen). x ≡ reading_at q x.positions.read_file x.positions.read_at) (sym found.seen) known.seen;
      sound = subst IsSound (sym found.seen) found.sound;
      moves = λ told. subst (λ (x : Seen). Turns (content old q.name) q.positions x.positions) (sym found.seen) (known.moves told);
      finds = λ told. some_known q c.loop-self.self c.size_or_turn.new.self old (g.F.Folder.files c.loop-self.folder) _ known.seen found.seen (known.same told) (found.finds told);
      ends = subst (λ (x : Seen). HeadEnds x.positions.read_at c.in-Some.head) (sym found.seen) found.ends;
      same = λ told name. found.same told name ∙ known.same told name;
      faults = omega (arith, known.faults, found.faults);
      cause = head_later first (g.F.Folder.folder_faults c.loop-self.folder) last (Some c.in-Some.head) known.faults found.cause;
      exact = λ counts. subst (λ n. FindCounts n last (Some c.in-Some.head)) (known.exact counts) (found.exact counts);
    }

pub returns : goal.returns
returns g c =
    let q = c.args.self.now in
    let known = c.loop-self.invariant in
    let found = c.last_size.ensures in
    let head = c.last_size.result in
    let old = g.F.Folder.files c.args.folder.now in
    let first = g.F.Folder.folder_faults c.args.folder.now in
    let last = g.F.Folder.folder_faults c.last_size.new.folder in
    record {
      seen = subst (λ (x : Seen). x ≡ reading_at q x.positions.read_file x.positions.read_at) (sym found.seen) known.seen;
      sound = subst IsSound (sym found.seen) found.sound;
      moves = λ told. subst (λ (x : Seen). Turns (content old q.name) q.positions x.positions) (sym found.seen) (known.moves told);
      finds = λ told.
          subst (λ (x : Seen). HeadFinds (content old q.name) x.positions head) (sym found.seen)
          (finds_known q c.loop-self.self old (g.F.Folder.files c.loop-self.folder) head known.seen (known.same told) (found.finds told));
      ends = subst (λ (x : Seen). IfSome head (HeadEnds x.positions.read_at)) (sym found.seen) found.ends;
      same = λ told name. found.same told name ∙ known.same told name;
      faults = omega (arith, known.faults, found.faults);
      cause = head_later first (g.F.Folder.folder_faults c.loop-self.folder) last head known.faults found.cause;
      exact = λ counts. subst (λ n. FindCounts n last head) (known.exact counts) (found.exact counts);
    }
