use Rattle.std.proofs.Common.{rules, ◌≡◌, ap, length, refl, ◌∙◌}
use Rattle.std.proofs.lemmas.List.{with_items_is}
use Rattle.floor_rooms.specs.declared.hall.Hall.{Hall}
use Rattle.broker_floor.specs.Ending.{flushed_at}
use Rattle.broker_floor.specs.Held.{Held}
use Rattle.broker_floor.proofs.Flushing.{fails_flushed, left_flushed, others_flushed}
use Rattle.broker_floor.proofs.Holding.{tied_kept}
use Rattle.broker_floor.proofs.floor.Floor.flush_in.Goals as goal

pub returns-clause-left : goal.returns-clause-left
returns-clause-left g c = λ told s holds. left_flushed c.args.self.now.held.hall.stuck c.flush-flushed.result c.flushed_at.result s (g.F.Folder.files c.flush-flushed.new.folder) (c.flushed_at.ensures ∙ ap (λ (x : Hall). flushed_at x.stuck c.flush-flushed.result) c.get.ensures.same) (c.flush-flushed.ensures.left told s holds)

pub returns-clause-cause : goal.returns-clause-cause
returns-clause-cause g c = fails_flushed c.args.self.now.held.hall.stuck (g.F.Folder.folder_faults c.args.self.now.folder) (g.F.Folder.folder_faults c.flush-flushed.new.folder) c.flush-flushed.result c.flushed_at.result (c.flushed_at.ensures ∙ ap (λ (x : Hall). flushed_at x.stuck c.flush-flushed.result) c.get.ensures.same) c.flush-flushed.ensures.cause

pub returns-clause-others : goal.returns-clause-others
returns-clause-others g c = λ told. others_flushed c.args.self.now.held.hall.stuck c.flush-flushed.result c.flushed_at.result (g.F.Folder.folder_faults c.args.self.now.folder) (g.F.Folder.folder_faults c.flush-flushed.new.folder) c.args.self.now.held.hall (g.F.Folder.files c.args.self.now.folder) (g.F.Folder.files c.flush-flushed.new.folder) (c.flushed_at.ensures ∙ ap (λ (x : Hall). flushed_at x.stuck c.flush-flushed.result) c.get.ensures.same) (c.flush-flushed.ensures.others told)

pub flush-flushed-requires-clause-name : goal.flush-flushed-requires-clause-name
flush-flushed-requires-clause-name g c = c.requires.name

pub flush-flushed-requires-clause-parts : goal.flush-flushed-requires-clause-parts
flush-flushed-requires-clause-parts g c = c.requires.parts

pub flush-flushed-requires-clause-some : goal.flush-flushed-requires-clause-some
flush-flushed-requires-clause-some g c = c.requires.some

pub flush-flushed-requires-clause-unflushed : goal.flush-flushed-requires-clause-unflushed
flush-flushed-requires-clause-unflushed g c = c.requires.unflushed

pub invariant_of-self : goal.invariant_of-self
invariant_of-self g c = record {
  calm = c.args.self.now.calm;
  tied =
      λ told.
      tied_kept c.args.self.now.held.hall c.flush-flushed.new.self.hall (g.J.Journal.notes c.args.self.now.journal) (ap (λ (x : Held). x.hall.clients.items) c.flush-flushed.ensures.rest) (ap (λ (x : Held). x.hall.stopped) c.flush-flushed.ensures.rest)
      (c.args.self.now.tied told);
  room =
      let size : length c.flush-flushed.new.scratch ≡ c.args.self.now.scratch.len = search rules in
      let whole : length c.flush-flushed.new.scratch ≡ 16777242 = search rules in
      ap length (with_items_is c.args.self.now.scratch c.flush-flushed.new.scratch size) ∙ whole;
}

pub returns-clause-kept : goal.returns-clause-kept
returns-clause-kept g c = c.flush-flushed.ensures.kept

pub returns-clause-held : goal.returns-clause-held
returns-clause-held g c = c.flush-flushed.ensures.rest

pub returns-clause-clock : goal.returns-clause-clock
returns-clause-clock g c = refl

pub returns-clause-journal : goal.returns-clause-journal
returns-clause-journal g c = refl

pub returns-clause-files : goal.returns-clause-files
returns-clause-files g c = c.flush-flushed.ensures.files

pub returns-clause-faults : goal.returns-clause-faults
returns-clause-faults g c = c.flush-flushed.ensures.faults
