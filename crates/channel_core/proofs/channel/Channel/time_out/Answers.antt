use Rattle.std.proofs.Common.{true, ◌∙◌, ◌<◌, refl, sym, ap, subst, arith}
use Rattle.backlog.specs.Lists.{OnDisk}
use Rattle.channel_copies.specs.Flights.{flights_of_id}
use Rattle.channel_copies.specs.Putting.{around}
use Rattle.channel_copies.proofs.Counts.{as_long, shorter}
use Rattle.channel_core.specs.Seen.{Seen, queued_in}
use Rattle.channel_core.proofs.Dues.{flight_is_due, flight_told, timed_out_due}
use Rattle.channel_core.proofs.Keeping.{costs_flying, keeps_of, nothing_lent, put_named, still_whole}
use Rattle.channel_core.proofs.Moving.{flies_again, timed_out}
use Rattle.channel_copies.proofs.Wrote.{keeps_put}
use Rattle.channel_core.proofs.channel.Channel.time_out.Goals as goal

pub move_back-requires-clause-there : goal.move_back-requires-clause-there
move_back-requires-clause-there g c = subst (λ (v : Seen). 0 < flights_of_id c.args.id v.flights) (sym c.self.view_is) c.requires.there

pub move_back-requires-clause-nothing : goal.move_back-requires-clause-nothing
move_back-requires-clause-nothing g c = nothing_lent (ap (λ (v : Seen). v.drawn) c.self.view_is ∙ c.requires.nothing) c.self.invariant

pub invariant_of-self : goal.invariant_of-self
invariant_of-self g c =
    let nothing = ap (λ (v : Seen). v.drawn) c.self.view_is ∙ c.requires.nothing in
    let back = c.in-Done.ensures.moves in
    still_whole _ _ _ _ c.self.invariant (put_named _ _ c.self.invariant.named back.puts) nothing back.puts.nothing (omega (arith, shorter back.flight c.self.inside.flights.flights c.move_back.new.self.flights back.leaves, c.self.invariant.room))

pub invariant_of-self-in-Fault : goal.invariant_of-self-in-Fault
invariant_of-self-in-Fault g c =
    let nothing = ap (λ (v : Seen). v.drawn) c.self.view_is ∙ c.requires.nothing in
    let back = c.in-Fault.ensures.moves in
    still_whole _ _ _ _ c.self.invariant (put_named _ _ c.self.invariant.named back.puts) nothing back.puts.nothing (omega (arith, as_long c.self.inside.flights.flights c.move_back.new.self.flights back.often, c.self.invariant.room))

pub returns-in-Done : goal.returns-in-Done
returns-in-Done g c = record {
  told = refl;
  row =
      λ told now due disk on.
      let files = g.F.Folder.files in
      let count = g.F.Folder.folder_faults in
      timed_out (files c.args.folder.now) (files c.move_back.new.folder) (count c.args.folder.now) (count c.move_back.new.folder) disk c.self.view_is c.self.invariant.named told c.in-Done.ensures.moves
      (timed_out_due now c.args.id c.self.view_is due c.in-Done.ensures.moves)
      (subst (λ (v : Seen). OnDisk v.backlog.queue (files c.args.folder.now) disk) (sym c.self.view_is) on) c.saturating_add-self-inside.ensures refl;
  rest = ap (λ (v : Seen). record v { timeout_count = c.saturating_add-self-inside.result; backlog = c.move_back.new.backlog; flights = c.move_back.new.self.flights; deferred = c.self.inside.deferred.waiting; spare = c.move_back.new.self.spare; deferred_spare = c.self.inside.deferred.spare }) c.self.view_is;
  disk =
      let files = g.F.Folder.files in
      let count = g.F.Folder.folder_faults in
      let after = around c.move_back.new.backlog (files c.move_back.new.folder) (count c.move_back.new.folder) in
      keeps_of (files c.args.folder.now) (count c.args.folder.now) after c.self.view_is (keeps_put c.in-Done.ensures.moves.answer (around c.self.inside.backlog (files c.args.folder.now) (count c.args.folder.now)) after c.in-Done.ensures.moves.puts);
  cause = tt;
  steps = costs_flying 2 c.args.steps.now c.move_back.new.steps c.self.view_is c.move_back.ensures.steps;
}

pub returns-in-Fault : goal.returns-in-Fault
returns-in-Fault g c = record {
  told = (true, refl);
  row =
      λ told now due disk on.
      let files = g.F.Folder.files in
      let count = g.F.Folder.folder_faults in (
        flight_is_due now c.args.id c.args.self.now (queued_in c.args.self.now disk) (flight_told now c.args.id c.args.self.now due),
        flies_again (files c.args.folder.now) (files c.move_back.new.folder) (count c.args.folder.now) (count c.move_back.new.folder) disk c.self.view_is told c.in-Fault.ensures.moves
            (subst (λ (v : Seen). OnDisk v.backlog.queue (files c.args.folder.now) disk) (sym c.self.view_is) on) refl,
      );
  rest = ap (λ (v : Seen). record v { timeout_count = c.self.inside.timeout_count; backlog = c.move_back.new.backlog; flights = c.move_back.new.self.flights; deferred = c.self.inside.deferred.waiting; spare = c.move_back.new.self.spare; deferred_spare = c.self.inside.deferred.spare }) c.self.view_is;
  disk =
      let files = g.F.Folder.files in
      let count = g.F.Folder.folder_faults in
      let after = around c.move_back.new.backlog (files c.move_back.new.folder) (count c.move_back.new.folder) in
      keeps_of (files c.args.folder.now) (count c.args.folder.now) after c.self.view_is (keeps_put _ (around c.self.inside.backlog (files c.args.folder.now) (count c.args.folder.now)) after c.in-Fault.ensures.moves.puts);
  cause = c.in-Fault.ensures.moves.puts.cause;
  steps = costs_flying 2 c.args.steps.now c.move_back.new.steps c.self.view_is c.move_back.ensures.steps;
}
