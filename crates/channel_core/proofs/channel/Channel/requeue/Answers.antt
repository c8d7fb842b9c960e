use Rattle.std.proofs.Common.{◌∙◌, sym, ap, subst, refl, arith}
use Rattle.std.proofs.lemmas.Bool.{ne_eqb}
use Rattle.backlog.specs.Lists.{OnDisk}
use Rattle.channel_copies.specs.Putting.{around}
use Rattle.channel_copies.proofs.Counts.{shorter, as_long}
use Rattle.channel_core.specs.Seen.{Seen}
use Rattle.channel_core.proofs.Keeping.{costs_both, costs_flying, keeps_of, nothing_lent, put_named, still_whole}
use Rattle.channel_core.proofs.Moving.{gave_back, was_deferred, flies_again}
use Rattle.channel_core.proofs.Rows.{asked}
use Rattle.channel_copies.proofs.Wrote.{keeps_none, keeps_put}
use Rattle.channel_core.proofs.channel.Channel.requeue.Goals as goal

pub take-flight-requires : goal.take-flight-requires
take-flight-requires g c = asked c.self.view_is c.requires.yours

pub put-requires-clause-room : goal.put-requires-clause-room
put-requires-clause-room g c = omega (arith, shorter c.take-flight.result c.self.inside.flights.flights c.take-flight.new.self.flights c.take-flight.ensures.leaves, c.self.invariant.room)

pub invariant_of-self : goal.invariant_of-self
invariant_of-self g c =
    let nothing = ap (λ (v : Seen). v.drawn) c.self.view_is ∙ c.requires.nothing in
    still_whole _ _ _ _ c.self.invariant c.self.invariant.named nothing (nothing_lent nothing c.self.invariant)
    (omega (arith, shorter c.take-flight.result c.self.inside.flights.flights c.take-flight.new.self.flights c.take-flight.ensures.leaves, c.self.invariant.room, c.put.ensures.spare))

pub returns-then-delay-ne0 : goal.returns-then-delay-ne0
returns-then-delay-ne0 g c = record {
  row =
      λ told disk on.
      let files = g.F.Folder.files in
      was_deferred (files c.args.folder.now) disk c.take-flight.result c.self.view_is (ne_eqb c.args.delay 0 c.if-delay-ne0.true) c.requires.yours c.take-flight.ensures.id c.take-flight.ensures.leaves c.take-flight.ensures.none c.put.ensures.joins
      (subst (λ (v : Seen). OnDisk v.backlog.queue (files c.args.folder.now) disk) (sym c.self.view_is) on) c.saturating_add-self-inside.ensures refl;
  rest = ap (λ (v : Seen). record v { requeue_count = c.saturating_add-self-inside.result; backlog = c.self.inside.backlog; flights = c.take-flight.new.self.flights; deferred = c.put.new.self.waiting; spare = c.take-flight.new.self.spare; deferred_spare = c.put.new.self.spare }) c.self.view_is;
  disk =
      let files = g.F.Folder.files c.args.folder.now in
      let count = g.F.Folder.folder_faults c.args.folder.now in
      let same = around c.self.inside.backlog files count in
      keeps_of files count same c.self.view_is (keeps_none g.F.Folder.tells_files same);
  cause = tt;
  steps =
      record {
        at_once = λ none. absurd (c.if-delay-ne0.true none);
        later = λ some. costs_both 1 1 c.args.steps.now c.take-flight.new.steps c.put.new.steps c.self.view_is c.take-flight.ensures.steps c.put.ensures.steps;
      };
}

pub move_back-requires-clause-there : goal.move_back-requires-clause-there
move_back-requires-clause-there g c = asked c.self.view_is c.requires.yours

pub move_back-requires-clause-nothing : goal.move_back-requires-clause-nothing
move_back-requires-clause-nothing g c = nothing_lent (ap (λ (v : Seen). v.drawn) c.self.view_is ∙ c.requires.nothing) c.self.invariant

pub invariant_of-self-in-Done : goal.invariant_of-self-in-Done
invariant_of-self-in-Done g c =
    let nothing = ap (λ (v : Seen). v.drawn) c.self.view_is ∙ c.requires.nothing in
    let back = c.in-Done.ensures.moves in
    still_whole _ _ _ _ c.self.invariant (put_named _ _ c.self.invariant.named back.puts) nothing back.puts.nothing (omega (arith, shorter back.flight c.self.inside.flights.flights c.move_back.new.self.flights back.leaves, c.self.invariant.room))

pub invariant_of-self-in-Fault : goal.invariant_of-self-in-Fault
invariant_of-self-in-Fault g c =
    let nothing = ap (λ (v : Seen). v.drawn) c.self.view_is ∙ c.requires.nothing in
    let back = c.in-Fault.ensures.moves in
    still_whole _ _ _ _ c.self.invariant (put_named _ _ c.self.invariant.named back.puts) nothing back.puts.nothing (omega (arith, as_long c.self.inside.flights.flights c.move_back.new.self.flights back.often, c.self.invariant.room))

pub returns-in-Done : goal.returns-in-Done
returns-in-Done g c = record {
  row =
      λ told disk on.
      let files = g.F.Folder.files in
      let count = g.F.Folder.folder_faults in
      gave_back (files c.args.folder.now) (files c.move_back.new.folder) (count c.args.folder.now) (count c.move_back.new.folder) disk c.self.view_is c.self.invariant.named told c.if-delay-ne0.false c.requires.yours c.in-Done.ensures.moves
      (subst (λ (v : Seen). OnDisk v.backlog.queue (files c.args.folder.now) disk) (sym c.self.view_is) on) c.saturating_add-self-inside-in-Done.ensures refl;
  rest = ap (λ (v : Seen). record v { requeue_count = c.saturating_add-self-inside-in-Done.result; backlog = c.move_back.new.backlog; flights = c.move_back.new.self.flights; deferred = c.self.inside.deferred.waiting; spare = c.move_back.new.self.spare; deferred_spare = c.self.inside.deferred.spare }) c.self.view_is;
  disk =
      let files = g.F.Folder.files in
      let count = g.F.Folder.folder_faults in
      let after = around c.move_back.new.backlog (files c.move_back.new.folder) (count c.move_back.new.folder) in
      keeps_of (files c.args.folder.now) (count c.args.folder.now) after c.self.view_is (keeps_put c.in-Done.ensures.moves.answer (around c.self.inside.backlog (files c.args.folder.now) (count c.args.folder.now)) after c.in-Done.ensures.moves.puts);
  cause = tt;
  steps =
      record {
        at_once = λ none. costs_flying 2 c.args.steps.now c.move_back.new.steps c.self.view_is c.move_back.ensures.steps;
        later = λ some. absurd (some c.if-delay-ne0.false);
      };
}

pub returns-in-Fault : goal.returns-in-Fault
returns-in-Fault g c = record {
  row =
      λ told disk on.
      let files = g.F.Folder.files in
      let count = g.F.Folder.folder_faults in
      flies_again (files c.args.folder.now) (files c.move_back.new.folder) (count c.args.folder.now) (count c.move_back.new.folder) disk c.self.view_is told c.in-Fault.ensures.moves
      (subst (λ (v : Seen). OnDisk v.backlog.queue (files c.args.folder.now) disk) (sym c.self.view_is) on) refl;
  rest = ap (λ (v : Seen). record v { requeue_count = c.self.inside.requeue_count; backlog = c.move_back.new.backlog; flights = c.move_back.new.self.flights; deferred = c.self.inside.deferred.waiting; spare = c.move_back.new.self.spare; deferred_spare = c.self.inside.deferred.spare }) c.self.view_is;
  disk =
      let files = g.F.Folder.files in
      let count = g.F.Folder.folder_faults in
      let after = around c.move_back.new.backlog (files c.move_back.new.folder) (count c.move_back.new.folder) in
      keeps_of (files c.args.folder.now) (count c.args.folder.now) after c.self.view_is (keeps_put _ (around c.self.inside.backlog (files c.args.folder.now) (count c.args.folder.now)) after c.in-Fault.ensures.moves.puts);
  cause = (c.if-delay-ne0.false, c.in-Fault.ensures.moves.puts.cause);
  steps =
      record {
        at_once = λ none. costs_flying 2 c.args.steps.now c.move_back.new.steps c.self.view_is c.move_back.ensures.steps;
        later = λ some. absurd (some c.if-delay-ne0.false);
      };
}

pub put-requires-clause-short : goal.put-requires-clause-short
put-requires-clause-short g c = c.take-flight.ensures.short
