use Rattle.std.proofs.Common.{false, ◌∙◌, ◌<◌, length, refl, sym, ap, subst, arith}
use Rattle.backlog.specs.Lists.{OnDisk}
use Rattle.channel_copies.specs.Putting.{around}
use Rattle.channel_core.specs.Seen.{Seen, queued_in}
use Rattle.channel_core.proofs.Dues.{came_due_is, waiting_is_due, waiting_told}
use Rattle.channel_core.proofs.Keeping.{costs_deferred, keeps_of, nothing_lent, put_named, still_whole}
use Rattle.channel_core.proofs.Moving.{came_due, waits_again}
use Rattle.channel_copies.proofs.Wrote.{keeps_put}
use Rattle.channel_core.proofs.channel.Channel.come_due.Goals as goal

pub move_back-requires-clause-there : goal.move_back-requires-clause-there
move_back-requires-clause-there g c = subst (λ (v : Seen). 0 < length v.deferred) (sym c.self.view_is) c.requires.there

pub move_back-requires-clause-nothing : goal.move_back-requires-clause-nothing
move_back-requires-clause-nothing g c = nothing_lent (ap (λ (v : Seen). v.drawn) c.self.view_is ∙ c.requires.nothing) c.self.invariant

pub invariant_of-self-2 : goal.invariant_of-self-2
invariant_of-self-2 g c =
    let nothing = ap (λ (v : Seen). v.drawn) c.self.view_is ∙ c.requires.nothing in
    let back = c.in-Done.ensures.moves in
    still_whole _ _ _ _ c.self.invariant (put_named _ _ c.self.invariant.named back.puts) nothing back.puts.nothing (omega (arith, c.in-Done.ensures.spare, c.self.invariant.room))

pub invariant_of-self : goal.invariant_of-self
invariant_of-self g c =
    let nothing = ap (λ (v : Seen). v.drawn) c.self.view_is ∙ c.requires.nothing in
    let back = c.in-Fault.ensures.moves in
    still_whole _ _ _ _ c.self.invariant (put_named _ _ c.self.invariant.named back.puts) nothing back.puts.nothing (omega (arith, c.in-Fault.ensures.spare, c.self.invariant.room))

pub returns : goal.returns
returns g c = record {
  told = refl;
  row =
      λ told now due disk on.
      let files = g.F.Folder.files in
      let count = g.F.Folder.folder_faults in
      let first = came_due_is now c.args.id c.self.view_is due c.in-Done.ensures.moves in
      came_due (files c.args.folder.now) (files c.move_back.new.folder) (count c.args.folder.now) (count c.move_back.new.folder) disk c.self.view_is c.self.invariant.named told c.in-Done.ensures.moves first.0 first.1
      (subst (λ (v : Seen). OnDisk v.backlog.queue (files c.args.folder.now) disk) (sym c.self.view_is) on) refl;
  rest = ap (λ (v : Seen). record v { timeout_count = c.self.inside.timeout_count; backlog = c.move_back.new.backlog; flights = c.self.inside.flights.flights; deferred = c.move_back.new.self.waiting; spare = c.self.inside.flights.spare; deferred_spare = c.move_back.new.self.spare }) c.self.view_is;
  disk =
      let files = g.F.Folder.files in
      let count = g.F.Folder.folder_faults in
      let after = around c.move_back.new.backlog (files c.move_back.new.folder) (count c.move_back.new.folder) in
      keeps_of (files c.args.folder.now) (count c.args.folder.now) after c.self.view_is (keeps_put c.in-Done.ensures.moves.answer (around c.self.inside.backlog (files c.args.folder.now) (count c.args.folder.now)) after c.in-Done.ensures.moves.puts);
  cause = tt;
  steps = costs_deferred 2 c.args.steps.now c.move_back.new.steps c.self.view_is c.move_back.ensures.steps;
}

pub returns-in-Fault : goal.returns-in-Fault
returns-in-Fault g c = record {
  told = (false, refl);
  row =
      λ told now due disk on.
      let files = g.F.Folder.files in
      let count = g.F.Folder.folder_faults in (
        waiting_is_due now c.args.id c.args.self.now (queued_in c.args.self.now disk) (waiting_told now c.args.id c.args.self.now due),
        waits_again (files c.args.folder.now) (files c.move_back.new.folder) (count c.args.folder.now) (count c.move_back.new.folder) disk c.self.view_is told c.in-Fault.ensures.moves
            (subst (λ (v : Seen). OnDisk v.backlog.queue (files c.args.folder.now) disk) (sym c.self.view_is) on) refl,
      );
  rest = ap (λ (v : Seen). record v { timeout_count = c.self.inside.timeout_count; backlog = c.move_back.new.backlog; flights = c.self.inside.flights.flights; deferred = c.move_back.new.self.waiting; spare = c.self.inside.flights.spare; deferred_spare = c.move_back.new.self.spare }) c.self.view_is;
  disk =
      let files = g.F.Folder.files in
      let count = g.F.Folder.folder_faults in
      let after = around c.move_back.new.backlog (files c.move_back.new.folder) (count c.move_back.new.folder) in
      keeps_of (files c.args.folder.now) (count c.args.folder.now) after c.self.view_is (keeps_put _ (around c.self.inside.backlog (files c.args.folder.now) (count c.args.folder.now)) after c.in-Fault.ensures.moves.puts);
  cause = c.in-Fault.ensures.moves.puts.cause;
  steps = costs_deferred 2 c.args.steps.now c.move_back.new.steps c.self.view_is c.move_back.ensures.steps;
}
