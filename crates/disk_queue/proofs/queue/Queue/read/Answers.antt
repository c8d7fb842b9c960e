use Rattle.std.proofs.Common.{◌≡◌, ◌++◌, drop, true, false, arith, refl, ap, subst, sym}
use Rattle.std.proofs.Math.Nat.{le_of_eq}
use Rattle.queue_image.specs.Between.{content}
use Rattle.disk_queue.specs.Seen.{marked}
use Rattle.disk_queue.specs.Reading.{PeekReads, PeekSize, PeekFails, PeekCounts}
use Rattle.disk_queue.proofs.Peeks.{got_reads, refused_is_damage, few_damage}
use Rattle.disk_queue.proofs.Sound.{named_as, sound_named, sound_marked, passed_makes}
use Rattle.disk_queue.proofs.queue.Queue.read.Goals as goal

pub returns : goal.returns
returns g c =
    let q = c.args.self.now in
    let taken = c.if-not-takes.ensures.takes.0 refl in
    record {
      seen = ap (λ q. marked q c.args.size) (named_as _ q c.read_at.new.self c.in-Got.ensures.name c.self.view_is);
      size = taken.0;
      reads = λ told b.
          got_reads _ q (g.F.Folder.files c.args.folder.now) c.args.into.now c.read_at.new.into c.args.size c.in-Got.n c.self.view_is taken c.requires.room
          (c.in-Got.ensures.bytes told) (omega (arith, c.if-n-size.false)) b;
      same = c.in-Got.ensures.same;
      faults = c.in-Got.ensures.faults;
      cause = tt;
      exact = c.in-Got.ensures.exact;
    }

pub returns-then-not-takes : goal.returns-then-not-takes
returns-then-not-takes g c =
    let q = c.args.self.now in
    let bytes = content (g.F.Folder.files c.args.folder.now) q.name in
    let faults = g.F.Folder.folder_faults c.args.folder.now in
    let is = c.pass_over.ensures.answer in
    record {
      seen = passed_makes q q c.pass_over.new.self c.pass_over.result c.args.size refl c.pass_over.ensures.seen is;
      size = subst (PeekSize q.options.least q.options.limit) (sym is) tt;
      reads = λ told b.
          subst (λ answer. PeekReads q.options.least q.options.limit bytes q.positions c.args.into.now answer) (sym is)
          (refused_is_damage q.options.least q.options.limit bytes q.positions c.args.size c.if-not-takes.ensures.sound.ordered b (λ fits. (let f : false ≡ true = c.if-not-takes.ensures.takes.1 fits in cc)));
      same = λ told name. refl;
      faults = le_of_eq refl;
      cause = subst (PeekFails faults faults) (sym is) tt;
      exact = λ counts. subst (PeekCounts faults faults) (sym is) refl;
    }

pub returns-in-Failed : goal.returns-in-Failed
returns-in-Failed g c = record {
  seen = named_as _ c.args.self.now c.read_at.new.self c.in-Failed.ensures.name c.self.view_is;
  size = tt;
  reads = λ told b. tt;
  same = c.in-Failed.ensures.same;
  faults = c.in-Failed.ensures.faults;
  cause = c.in-Failed.ensures.cause;
  exact = c.in-Failed.ensures.exact;
}

pub returns-then-n-size : goal.returns-then-n-size
returns-then-n-size g c =
    let q = c.args.self.now in
    let files = g.F.Folder.files c.args.folder.now in
    let old = g.F.Folder.folder_faults c.args.folder.now in
    let new = g.F.Folder.folder_faults c.read_at.new.folder in
    let is = c.pass_over-then-n-size.ensures.answer in
    record {
      seen = passed_makes q _ c.pass_over-then-n-size.new.self c.pass_over-then-n-size.result c.args.size (named_as _ q c.read_at.new.self c.in-Got.ensures.name c.self.view_is) c.pass_over-then-n-size.ensures.seen is;
      size = subst (PeekSize q.options.least q.options.limit) (sym is) tt;
      reads = λ told b.
          subst (λ answer. PeekReads q.options.least q.options.limit (content files q.name) q.positions (c.read_at.new.into ++ drop c.args.size c.args.into.now) answer) (sym is)
          (few_damage _ q files c.args.into.now c.read_at.new.into c.args.size c.in-Got.n c.self.view_is (c.if-not-takes.ensures.takes.0 refl).0 c.requires.room (c.in-Got.ensures.bytes told) (omega (arith, c.if-n-size.true)) b);
      same = c.in-Got.ensures.same;
      faults = c.in-Got.ensures.faults;
      cause = subst (PeekFails old new) (sym is) tt;
      exact = λ counts. subst (PeekCounts old new) (sym is) (c.in-Got.ensures.exact counts);
    }

pub invariant_of-self : goal.invariant_of-self
invariant_of-self g c = sound_named _ c.read_at.new.self c.self.invariant

pub invariant_of-self-in-Failed : goal.invariant_of-self-in-Failed
invariant_of-self-in-Failed g c = sound_named _ c.read_at.new.self c.self.invariant

pub invariant_of-self-2 : goal.invariant_of-self-2
invariant_of-self-2 g c =
    sound_marked _ c.args.self.now c.read_at.new.self c.args.size c.in-Got.n c.self.view_is (c.if-not-takes.ensures.takes.0 refl).1 c.requires.place c.in-Got.ensures.limit (omega (arith, c.if-n-size.false))
    c.self.invariant
