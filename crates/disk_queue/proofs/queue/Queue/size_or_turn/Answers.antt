use Rattle.std.proofs.Common.{ap, ◌∙◌, sym, arith, subst, true}
use Rattle.nsq_outside.specs.Causes.{CountsFault}
use Rattle.queue_image.specs.Between.{content}
use Rattle.disk_queue.specs.Seen.{Seen, next_file}
use Rattle.disk_queue.proofs.Peeks.{finds_size, finds_short, known_length}
use Rattle.disk_queue.proofs.Sound.{named_as, sound_named, sound_turned}
use Rattle.disk_queue.proofs.queue.Queue.size_or_turn.Goals as goal

pub returns-in-Size : goal.returns-in-Size
returns-in-Size g c = record {
  seen = c.in-Size.ensures.seen;
  sound = c.in-Size.ensures.sound;
  finds = λ told. finds_size (content (g.F.Folder.files c.args.folder.now) c.args.self.now.name) c.args.self.now.positions c.in-Size.size c.requires.earlier (c.in-Size.ensures.is told);
  ends = c.in-Size.ensures.ends;
  same = c.in-Size.ensures.same;
  faults = c.in-Size.ensures.faults;
  cause = tt;
  exact = c.in-Size.ensures.exact;
}

pub returns-in-Fault : goal.returns-in-Fault
returns-in-Fault g c = record {
  seen = c.in-Fault.ensures.seen;
  sound = c.in-Fault.ensures.sound;
  finds = λ told. tt;
  ends = tt;
  same = c.in-Fault.ensures.same;
  faults = c.in-Fault.ensures.faults;
  cause = c.in-Fault.ensures.cause;
  exact = c.in-Fault.ensures.exact;
}

pub returns-in_default : goal.returns-in_default
returns-in_default g c = record {
  seen = named_as _ c.args.self.now c.len.new.self c.in_default.ensures.name (c.self.view_is ∙ c.in-Short.ensures.seen);
  sound = c.in-Short.ensures.sound;
  finds = λ told. tt;
  ends = tt;
  same = λ told name. c.in_default.ensures.same told name ∙ c.in-Short.ensures.same told name;
  faults = omega (arith, c.in-Short.ensures.faults, c.in_default.ensures.faults);
  cause = omega (arith, c.in-Short.ensures.faults, c.in_default.ensures.cause);
  exact = λ counts. subst (λ n. CountsFault n (g.F.Folder.folder_faults c.len.new.folder) true) (c.in-Short.ensures.exact counts) (c.in_default.ensures.exact counts);
}

pub returns-then-len-self : goal.returns-then-len-self
returns-then-len-self g c =
    let now = c.args.self.now in
    let is = c.self.view_is ∙ c.in-Short.ensures.seen in
    record {
      seen = named_as _ now c.len.new.self c.in-Some.ensures.name is;
      sound = c.in-Short.ensures.sound;
      finds = λ told.
          let len = known_length _ now (g.F.Folder.files c.args.folder.now) (g.F.Folder.files c.size_here.new.folder) c.in-Some.len is (c.in-Short.ensures.same told) (c.in-Some.ensures.length told) in
          finds_short (content (g.F.Folder.files c.args.folder.now) now.name) now.positions c.requires.earlier (c.in-Short.ensures.is told)
          (λ e. c.if-len-self.true (len ∙ e ∙ ap (λ q. q.positions.read_at) (sym is)));
      ends = tt;
      same = λ told name. c.in-Some.ensures.same told name ∙ c.in-Short.ensures.same told name;
      faults = omega (arith, c.in-Short.ensures.faults, c.in-Some.ensures.faults);
      cause = tt;
      exact = λ counts. c.in-Some.ensures.exact counts ∙ c.in-Short.ensures.exact counts;
    }

pub returns : goal.returns
returns g c =
    let now = c.args.self.now in
    let is = c.self.view_is ∙ c.in-Short.ensures.seen in
    record {
      seen = ap (λ (q : Seen). record q { positions = next_file q.positions }) (named_as _ now c.len.new.self c.in-Some.ensures.name is);
      sound = c.in-Short.ensures.sound;
      finds = λ told.
          let len = known_length _ now (g.F.Folder.files c.args.folder.now) (g.F.Folder.files c.size_here.new.folder) c.in-Some.len is (c.in-Short.ensures.same told) (c.in-Some.ensures.length told) in
          record { earlier = c.requires.earlier; out = ap (λ q. q.positions.read_at) (sym is) ∙ sym c.if-len-self.false ∙ len };
      ends = tt;
      same = λ told name. c.in-Some.ensures.same told name ∙ c.in-Short.ensures.same told name;
      faults = omega (arith, c.in-Short.ensures.faults, c.in-Some.ensures.faults);
      cause = tt;
      exact = λ counts. c.in-Some.ensures.exact counts ∙ c.in-Short.ensures.exact counts;
    }

pub invariant_of-self-then-len-self : goal.invariant_of-self-then-len-self
invariant_of-self-then-len-self g c = sound_named _ c.len.new.self c.self.invariant

pub invariant_of-self : goal.invariant_of-self
invariant_of-self g c = sound_named _ c.len.new.self c.self.invariant

pub invariant_of-self-2 : goal.invariant_of-self-2
invariant_of-self-2 g c = sound_turned _ c.args.self.now _ (c.self.view_is ∙ c.in-Short.ensures.seen) c.requires.unmarked c.requires.earlier c.self.invariant
