use Rattle.std.proofs.Common.{ℕ, ◌≡◌, ◌∙◌, Option, Some, None, ap, refl, subst, sym}
use Rattle.std.proofs.Math.Nat.{le_of_eq}
use Rattle.queue_image.specs.Between.{content}
use Rattle.disk_queue.specs.Peeking.{FindCounts, HeadFinds, PeekMakes}
use Rattle.disk_queue.specs.Reading.{PeekCounts, PeekFails, PeekReads, PeekSize}
use Rattle.disk_queue.specs.declared.queue.reading.Head.{Head}
use Rattle.disk_queue.specs.declared.queue.reading.Head.TheVariants.{Size, Short, Fault}
use Rattle.disk_queue.proofs.Peeked.{head_counts, head_ends, head_fails, head_finds, peek_since}
use Rattle.disk_queue.proofs.Peeks.{short_is_damage}
use Rattle.disk_queue.proofs.Sound.{passed_makes}
use Rattle.disk_queue.proofs.queue.Queue.answer.Goals as goal

pub read-requires : goal.read-requires
read-requires g c =
    let inner = rw c.in-Some-Size.is at c.in-Some-Size.field-0-is in
    record { room = c.requires.room; place = head_ends c.args.head (Size c.in-Some-Size.size) c.args.self.now.positions.read_at (c.in-Some-Size.is ∙ ap (λ (h : Head). Some h) inner) c.requires.place }

pub returns-in-Some-Size : goal.returns-in-Some-Size
returns-in-Some-Size g c =
    let inner = rw c.in-Some-Size.is at c.in-Some-Size.field-0-is in
    let found_is = c.in-Some-Size.is ∙ ap (λ (h : Head). Some h) inner in
    let bytes = content (g.F.Folder.files c.args.folder.now) c.args.self.now.name in
    let mid = g.F.Folder.folder_faults c.args.folder.now in
    let now = g.F.Folder.folder_faults c.read.new.folder in
    record {
      seen = c.read.ensures.seen;
      size = c.read.ensures.size;
      reads = λ told finds. c.read.ensures.reads told (head_finds c.args.head (Size c.in-Some-Size.size) bytes c.args.self.now.positions found_is finds);
      same = c.read.ensures.same;
      faults = c.read.ensures.faults;
      cause = λ before low fails. peek_since before mid now c.read.result low c.read.ensures.cause;
      exact = λ counts before found. subst (λ (n : ℕ). PeekCounts n now c.read.result) (head_counts c.args.head (Size c.in-Some-Size.size) before mid found_is found) (c.read.ensures.exact counts);
    }

pub returns-in-Some-Short : goal.returns-in-Some-Short
returns-in-Some-Short g c =
    let q = c.args.self.now in
    let bytes = content (g.F.Folder.files c.args.folder.now) q.name in
    let inner = rw c.in-Some-Short.is at c.in-Some-Short.field-0-is in
    let found_is = c.in-Some-Short.is ∙ ap (λ (h : Head). Some h) inner in
    let now = g.F.Folder.folder_faults c.args.folder.now in
    let is = c.pass_over.ensures.answer in
    record {
      seen = passed_makes q q c.pass_over.new.self c.pass_over.result 0 refl c.pass_over.ensures.seen is;
      size = subst (PeekSize q.options.least q.options.limit) (sym is) tt;
      reads = λ told finds. subst (PeekReads q.options.least q.options.limit bytes q.positions c.args.into.now) (sym is) (short_is_damage q.options.least q.options.limit bytes q.positions (head_finds c.args.head Short bytes q.positions found_is finds));
      same = λ told name. refl;
      faults = le_of_eq refl;
      cause = λ before low fails. subst (PeekFails before now) (sym is) tt;
      exact = λ counts before found. subst (PeekCounts before now) (sym is) (head_counts c.args.head Short before now found_is found);
    }

pub returns-in-Some-Fault : goal.returns-in-Some-Fault
returns-in-Some-Fault g c =
    let inner = rw c.in-Some-Fault.is at c.in-Some-Fault.field-0-is in
    let found_is = c.in-Some-Fault.is ∙ ap (λ (h : Head). Some h) inner in
    let now = g.F.Folder.folder_faults c.args.folder.now in
    record {
      seen = refl;
      size = tt;
      reads = λ told finds. tt;
      same = λ told name. refl;
      faults = le_of_eq refl;
      cause = λ before low fails. head_fails c.args.head Fault before now found_is fails;
      exact = λ counts before found. head_counts c.args.head Fault before now found_is found;
    }

pub returns-in-None : goal.returns-in-None
returns-in-None g c =
    let q = c.args.self.now in
    let bytes = content (g.F.Folder.files c.args.folder.now) q.name in
    let now = g.F.Folder.folder_faults c.args.folder.now in
    let is = c.end.ensures.answer in
    record {
      seen = subst (PeekMakes q c.end.new.self) (sym is) c.end.ensures.seen;
      size = subst (PeekSize q.options.least q.options.limit) (sym is) tt;
      reads = λ told finds. subst (PeekReads q.options.least q.options.limit bytes q.positions c.args.into.now) (sym is) (subst (HeadFinds bytes q.positions) c.in-None.is finds);
      same = λ told name. refl;
      faults = le_of_eq refl;
      cause = λ before low fails. subst (PeekFails before now) (sym is) tt;
      exact = λ counts before found. subst (PeekCounts before now) (sym is) (subst (FindCounts before now) c.in-None.is found);
    }
