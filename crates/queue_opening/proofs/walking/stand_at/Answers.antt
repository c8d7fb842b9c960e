use Rattle.std.proofs.Common.{ℕ, sym, subst, arith, length-drop}
use Rattle.queue_image.specs.Between.{content}
use Rattle.queue_opening.specs.Walked.{StandCounts}
use Rattle.queue_opening.proofs.walking.stand_at.Goals as goal

pub returns-in-Is : goal.returns-in-Is
returns-in-Is g c =
    let sized = c.in-Is.ensures in
    record {
      name = sized.name;
      stand = λ told inside. c.judge.ensures.stand (content (g.F.Folder.files c.args.folder.now) c.args.files.now c.args.number) (sized.size told) inside;
      within = c.judge.ensures.within;
      same = sized.same;
      faults = sized.faults;
      cause = c.judge.ensures.cause _ _;
      exact = λ counts. subst (λ (n : ℕ). StandCounts (g.F.Folder.folder_faults c.args.folder.now) n c.judge.result) (sym (sized.exact counts)) (c.judge.ensures.exact _);
    }

pub returns-in-Short : goal.returns-in-Short
returns-in-Short g c =
    let sized = c.in-Short.ensures in
    record {
      name = sized.name;
      stand = λ told inside.
          let few = sized.size told in
          absurd (omega (arith, few, inside, length-drop c.args.at (content (g.F.Folder.files c.args.folder.now) c.args.files.now c.args.number), c.if-end-at-lt4.false));
      within = tt;
      same = sized.same;
      faults = sized.faults;
      cause = tt;
      exact = sized.exact;
    }

pub returns-in-Fault : goal.returns-in-Fault
returns-in-Fault g c =
    let sized = c.in-Fault.ensures in
    record {
      name = sized.name;
      stand = λ told inside. tt;
      within = tt;
      same = sized.same;
      faults = sized.faults;
      cause = sized.cause;
      exact = sized.exact;
    }
