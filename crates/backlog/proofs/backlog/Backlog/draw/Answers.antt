use Rattle.std.proofs.Common.{◌≡◌, ◌≤◌, ◌++◌, ◌∙◌, List, Some, IsSome, length, rules, ap, refl, sym, subst, arith}
use Rattle.std.proofs.Math.Nat.{le_of_eq}
use Rattle.std.specs.List.{All}
use Rattle.std.proofs.lemmas.List.Elements.{All-head}
use Rattle.v2_frame.specs.Messages.{FitsItsBytes}
use Rattle.v2_frame.specs.declared.message.Message.{Message}
use Rattle.disk_queue.specs.Seen.{Seen as Queue}
use Rattle.disk_queue.specs.declared.answers.Peek.TheVariants.{Got, Empty, Fault, Damaged}
use Rattle.backlog.specs.declared.backlog.Lent.TheVariants.{Nothing, OfRing, OfDisk}
use Rattle.backlog.specs.Seen.{Seen, FitsLimit, SameQueue, no_record, of_disk}
use Rattle.backlog.specs.Kept.{IsLent, IsQueueWhere}
use Rattle.backlog.specs.Lists.{OnDisk, Stands}
use Rattle.backlog.proofs.Drawing.{same_disk, ring_empty, ring_gave, ring_draws, sound_drawn, sound_idle, sound_looked, peeked, no_message, sized, drawn_from_disk}
use Rattle.backlog.proofs.Draws.{never_damaged, some_message, same_queue}
use Rattle.backlog.proofs.Putting.{same_queue as queue_stays}
use Rattle.backlog.proofs.backlog.Backlog.draw.Goals as goal

pub returns-in-Some : goal.returns-in-Some
returns-in-Some g c =
    let was = c.self.inside in
    let files = g.F.Folder.files c.args.folder.now in
    let whole = ring_gave was.ring.items was.ring.capacity c.pop_front.new.self c.pop_front.result c.in-Some.message c.pop_front.ensures.value c.in-Some.is c.pop_front.ensures.items in
    let listed = ap (λ (b : Seen). b.ring) (sym c.self.view_is) ∙ whole in
    record {
      lent = λ e. let contra : OfRing ≡ Nothing = e in cc;
      queue = subst (λ (b : Seen). SameQueue b.queue was.queue) c.self.view_is (queue_stays was.queue);
      seen = ring_draws c.args.self.now was.ring.items was.ring.capacity was.queue was.lent c.pop_front.new.self c.in-Some.message c.self.view_is whole c.pop_front.ensures.items;
      short = All-head FitsLimit c.in-Some.message c.pop_front.new.self.items (subst (All FitsLimit) whole c.self.invariant.short);
      first = λ told disk on.
          (record { rest = c.pop_front.new.self.items ++ disk; whole = ap (λ (xs : List Message). xs ++ disk) listed }, sym (ap (λ (xs : List Message). xs ++ disk) listed));
      list = λ told disk. subst (λ (b : Seen). OnDisk b.queue files disk) (sym c.self.view_is);
      stands = λ told. subst (λ (b : Seen). Stands b.queue files) (sym c.self.view_is);
      same = λ told name. refl;
      faults = le_of_eq refl;
      cause = tt;
      exact = λ counts. refl;
    }

pub returns-in-Empty : goal.returns-in-Empty
returns-in-Empty g c = record {
  lent = ap (λ (b : Seen). b.lent) c.self.view_is ∙ c.requires.nothing;
  queue = rw (← c.self.view_is, c.in-Some-queue.is) (same_queue c.in-Some-queue.queue c.peek.new.self c.peek.ensures.name c.peek.ensures.options);
  seen =
      let was = c.self.inside in
      let empty = ring_empty was.ring.items _ c.pop_front.ensures.value c.in_default.is in
      let lent : was.lent ≡ Nothing = ap (λ (b : Seen). b.lent) c.self.view_is ∙ c.requires.nothing in
      no_record (peeked c.args.self.now was.ring.items was.ring.capacity was.queue was.lent was.lent Nothing c.pop_front.new.self c.in-Some-queue.queue c.peek.new.self Empty
      c.self.view_is empty c.pop_front.ensures.items c.in-Some-queue.is lent c.in-Empty.ensures.seen);
  short = tt;
  first = λ told disk.
      let was = c.self.inside in
      let empty = ring_empty was.ring.items _ c.pop_front.ensures.value c.in_default.is in
      no_message c.args.self.now was.ring.items was.ring.capacity was.queue was.lent c.in-Some-queue.queue (g.F.Folder.files c.args.folder.now) disk c.self.view_is empty c.in-Some-queue.is (c.in-Empty.ensures.first told);
  list = λ told disk. rw (← c.self.view_is, c.in-Some-queue.is) (same_disk c.in-Some-queue.queue c.peek.new.self _ _ disk (c.peek.ensures.list told));
  stands = λ told. rw (← c.self.view_is, c.in-Some-queue.is) (c.peek.ensures.stands told);
  same = c.in-Empty.ensures.same;
  faults = c.in-Empty.ensures.faults;
  cause = tt;
  exact = c.in-Empty.ensures.exact;
}

pub returns-in-Fault : goal.returns-in-Fault
returns-in-Fault g c = record {
  lent = ap (λ (b : Seen). b.lent) c.self.view_is ∙ c.requires.nothing;
  queue = rw (← c.self.view_is, c.in-Some-queue.is) (same_queue c.in-Some-queue.queue c.peek.new.self c.peek.ensures.name c.peek.ensures.options);
  seen =
      let was = c.self.inside in
      let empty = ring_empty was.ring.items _ c.pop_front.ensures.value c.in_default.is in
      let lent : was.lent ≡ Nothing = ap (λ (b : Seen). b.lent) c.self.view_is ∙ c.requires.nothing in
      peeked c.args.self.now was.ring.items was.ring.capacity was.queue was.lent was.lent Nothing c.pop_front.new.self c.in-Some-queue.queue c.peek.new.self Fault
      c.self.view_is empty c.pop_front.ensures.items c.in-Some-queue.is lent c.in-Fault.ensures.seen;
  short = tt;
  first = λ told disk on. tt;
  list = λ told disk. rw (← c.self.view_is, c.in-Some-queue.is) (same_disk c.in-Some-queue.queue c.peek.new.self _ _ disk (c.peek.ensures.list told));
  stands = λ told. rw (← c.self.view_is, c.in-Some-queue.is) (c.peek.ensures.stands told);
  same = c.in-Fault.ensures.same;
  faults = c.in-Fault.ensures.faults;
  cause = c.in-Fault.ensures.cause;
  exact = c.in-Fault.ensures.exact;
}

pub returns-in-Damaged : goal.returns-in-Damaged
returns-in-Damaged g c = record {
  lent = ap (λ (b : Seen). b.lent) c.self.view_is ∙ c.requires.nothing;
  queue = rw (← c.self.view_is, c.in-Some-queue.is) (same_queue c.in-Some-queue.queue c.peek.new.self c.peek.ensures.name c.peek.ensures.options);
  seen =
      let was = c.self.inside in
      let empty = ring_empty was.ring.items _ c.pop_front.ensures.value c.in_default.is in
      let lent : was.lent ≡ Nothing = ap (λ (b : Seen). b.lent) c.self.view_is ∙ c.requires.nothing in
      let at = c.in-Damaged in
      record {
        file = at.field-0;
        place = at.field-1;
        size = at.field-2;
        peeks = peeked c.args.self.now was.ring.items was.ring.capacity was.queue was.lent was.lent Nothing c.pop_front.new.self c.in-Some-queue.queue c.peek.new.self (Damaged at.field-0 at.field-1 at.field-2)
            c.self.view_is empty c.pop_front.ensures.items c.in-Some-queue.is lent at.ensures.seen;
      };
  short = tt;
  first = λ told disk.
      let was = c.self.inside in
      never_damaged c.args.self.now was.ring.items was.ring.capacity was.queue was.lent c.in-Some-queue.queue (g.F.Folder.files c.args.folder.now) disk c.self.view_is c.in-Some-queue.is (c.in-Damaged.ensures.first told);
  list = λ told disk. rw (← c.self.view_is, c.in-Some-queue.is) (same_disk c.in-Some-queue.queue c.peek.new.self _ _ disk (c.peek.ensures.list told));
  stands = λ told. rw (← c.self.view_is, c.in-Some-queue.is) (c.peek.ensures.stands told);
  same = c.in-Damaged.ensures.same;
  faults = c.in-Damaged.ensures.faults;
  cause = tt;
  exact = c.in-Damaged.ensures.exact;
}

pub returns-in-Memory : goal.returns-in-Memory
returns-in-Memory g c = record {
  lent = ap (λ (b : Seen). b.lent) c.self.view_is ∙ c.requires.nothing;
  queue = rw (← c.self.view_is, c.in-Some-queue.is) (same_queue c.in-Some-queue.queue c.peek.new.self c.peek.ensures.name c.peek.ensures.options);
  seen =
      let was = c.self.inside in
      let empty = ring_empty was.ring.items _ c.pop_front.ensures.value c.in_default.is in
      let lent : was.lent ≡ Nothing = ap (λ (b : Seen). b.lent) c.self.view_is ∙ c.requires.nothing in
      record {
        size = c.in-Got.size;
        peeks = peeked c.args.self.now was.ring.items was.ring.capacity was.queue was.lent was.lent Nothing c.pop_front.new.self c.in-Some-queue.queue c.peek.new.self (Got c.in-Got.size)
            c.self.view_is empty c.pop_front.ensures.items c.in-Some-queue.is lent c.in-Got.ensures.seen;
      };
  short = tt;
  first = λ told disk.
      let was = c.self.inside in
      some_message c.args.self.now was.ring.items was.ring.capacity was.queue was.lent c.in-Some-queue.queue (g.F.Folder.files c.args.folder.now) disk _ c.self.view_is c.in-Some-queue.is (c.in-Got.ensures.first told);
  list = λ told disk. rw (← c.self.view_is, c.in-Some-queue.is) (same_disk c.in-Some-queue.queue c.peek.new.self _ _ disk (c.peek.ensures.list told));
  stands = λ told. rw (← c.self.view_is, c.in-Some-queue.is) (c.peek.ensures.stands told);
  same = c.in-Got.ensures.same;
  faults = c.in-Got.ensures.faults;
  cause = tt;
  exact = c.in-Got.ensures.exact;
}

pub returns-in-Whole : goal.returns-in-Whole
returns-in-Whole g c = record {
  lent = λ e. let contra : OfDisk ≡ Nothing = e in cc;
  queue = rw (← c.self.view_is, c.in-Some-queue.is) (same_queue c.in-Some-queue.queue c.peek.new.self c.peek.ensures.name c.peek.ensures.options);
  seen =
      let was = c.self.inside in
      let empty = ring_empty was.ring.items _ c.pop_front.ensures.value c.in_default.is in
      let fits : FitsItsBytes c.in-Whole.message = search rules in
      let within : c.in-Got.size ≤ length c.peek.new.into = search rules in
      of_disk (rw (← sized c.in-Got.size c.peek.new.into c.in-Whole.message fits within c.in-Whole.ensures.0)
      (peeked c.args.self.now was.ring.items was.ring.capacity was.queue was.lent OfDisk OfDisk c.pop_front.new.self c.in-Some-queue.queue c.peek.new.self (Got c.in-Got.size)
      c.self.view_is empty c.pop_front.ensures.items c.in-Some-queue.is refl c.in-Got.ensures.seen));
  short =
      let fits : FitsItsBytes c.in-Whole.message = search rules in
      let within : c.in-Got.size ≤ length c.peek.new.into = search rules in
      let options = (subst IsQueueWhere c.in-Some-queue.is c.self.invariant.queue).options in
      omega (arith, sized c.in-Got.size c.peek.new.into c.in-Whole.message fits within c.in-Whole.ensures.0, c.in-Got.ensures.size.1, options.limit);
  first = λ told disk.
      let was = c.self.inside in
      let empty = ring_empty was.ring.items _ c.pop_front.ensures.value c.in_default.is in
      let fits : FitsItsBytes c.in-Whole.message = search rules in
      drawn_from_disk c.args.self.now was.ring.items was.ring.capacity was.queue was.lent c.pop_front.new.self c.in-Some-queue.queue c.peek.new.self
      (g.F.Folder.files c.args.folder.now) _ c.in-Whole.message disk c.self.view_is empty c.pop_front.ensures.items c.in-Some-queue.is fits c.in-Whole.ensures.1 c.in-Whole.ensures.0 (c.in-Got.ensures.first told);
  list = λ told disk. rw (← c.self.view_is, c.in-Some-queue.is) (same_disk c.in-Some-queue.queue c.peek.new.self _ _ disk (c.peek.ensures.list told));
  stands = λ told. rw (← c.self.view_is, c.in-Some-queue.is) (c.peek.ensures.stands told);
  same = c.in-Got.ensures.same;
  faults = c.in-Got.ensures.faults;
  cause = tt;
  exact = c.in-Got.ensures.exact;
}

pub invariant_of-self-in-Empty : goal.invariant_of-self-in-Empty
invariant_of-self-in-Empty g c =
    let was = c.self.inside in
    let empty = ring_empty was.ring.items _ c.pop_front.ensures.value c.in_default.is in
    let lent : was.lent ≡ Nothing = ap (λ (b : Seen). b.lent) c.self.view_is ∙ c.requires.nothing in
    sound_looked was.ring.items was.ring.capacity was.queue was.lent was.lent c.pop_front.new.self c.in-Some-queue.queue c.peek.new.self empty c.pop_front.ensures.items c.in-Some-queue.is c.peek.ensures.options
    c.peek.ensures.staged (subst (IsLent was.ring.items was.ring.capacity (Some c.peek.new.self)) (sym lent) tt) c.self.invariant

pub invariant_of-self-in-Fault : goal.invariant_of-self-in-Fault
invariant_of-self-in-Fault g c =
    let was = c.self.inside in
    let empty = ring_empty was.ring.items _ c.pop_front.ensures.value c.in_default.is in
    let lent : was.lent ≡ Nothing = ap (λ (b : Seen). b.lent) c.self.view_is ∙ c.requires.nothing in
    sound_looked was.ring.items was.ring.capacity was.queue was.lent was.lent c.pop_front.new.self c.in-Some-queue.queue c.peek.new.self empty c.pop_front.ensures.items c.in-Some-queue.is c.peek.ensures.options
    c.peek.ensures.staged (subst (IsLent was.ring.items was.ring.capacity (Some c.peek.new.self)) (sym lent) tt) c.self.invariant

pub invariant_of-self-in-Damaged : goal.invariant_of-self-in-Damaged
invariant_of-self-in-Damaged g c =
    let was = c.self.inside in
    let empty = ring_empty was.ring.items _ c.pop_front.ensures.value c.in_default.is in
    let lent : was.lent ≡ Nothing = ap (λ (b : Seen). b.lent) c.self.view_is ∙ c.requires.nothing in
    sound_looked was.ring.items was.ring.capacity was.queue was.lent was.lent c.pop_front.new.self c.in-Some-queue.queue c.peek.new.self empty c.pop_front.ensures.items c.in-Some-queue.is c.peek.ensures.options
    c.peek.ensures.staged (subst (IsLent was.ring.items was.ring.capacity (Some c.peek.new.self)) (sym lent) tt) c.self.invariant

pub invariant_of-self-in-Memory : goal.invariant_of-self-in-Memory
invariant_of-self-in-Memory g c =
    let was = c.self.inside in
    let empty = ring_empty was.ring.items _ c.pop_front.ensures.value c.in_default.is in
    let lent : was.lent ≡ Nothing = ap (λ (b : Seen). b.lent) c.self.view_is ∙ c.requires.nothing in
    sound_looked was.ring.items was.ring.capacity was.queue was.lent was.lent c.pop_front.new.self c.in-Some-queue.queue c.peek.new.self empty c.pop_front.ensures.items c.in-Some-queue.is c.peek.ensures.options
    c.peek.ensures.staged (subst (IsLent was.ring.items was.ring.capacity (Some c.peek.new.self)) (sym lent) tt) c.self.invariant

pub invariant_of-self-in-Whole : goal.invariant_of-self-in-Whole
invariant_of-self-in-Whole g c =
    let was = c.self.inside in
    let empty = ring_empty was.ring.items _ c.pop_front.ensures.value c.in_default.is in
    sound_looked was.ring.items was.ring.capacity was.queue was.lent OfDisk c.pop_front.new.self c.in-Some-queue.queue c.peek.new.self empty c.pop_front.ensures.items c.in-Some-queue.is c.peek.ensures.options
    c.peek.ensures.staged (empty, subst (λ (q : Queue). IsSome q.mark) (sym c.in-Got.ensures.seen) refl) c.self.invariant

pub invariant_of-self : goal.invariant_of-self
invariant_of-self g c =
    let was = c.self.inside in
    let whole = ring_gave was.ring.items was.ring.capacity c.pop_front.new.self c.pop_front.result c.in-Some.message c.pop_front.ensures.value c.in-Some.is c.pop_front.ensures.items in
    sound_drawn was.ring.items was.ring.capacity was.queue was.lent c.pop_front.new.self c.in-Some.message whole c.pop_front.ensures.items c.self.invariant

pub invariant_of-self-in_default-queue : goal.invariant_of-self-in_default-queue
invariant_of-self-in_default-queue g c =
    let was = c.self.inside in
    let empty = ring_empty was.ring.items _ c.pop_front.ensures.value c.in_default.is in
    sound_idle was.ring.items was.ring.capacity was.queue was.lent c.pop_front.new.self empty c.pop_front.ensures.items c.self.invariant
