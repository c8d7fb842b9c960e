use Rattle.std.proofs.Common.{rules, ◌≡◌, ◌∙◌, length, ap}
use Rattle.std.proofs.lemmas.List.{with_items_is}
use Rattle.broker_floor.specs.Held.{Held}
use Rattle.broker_floor.proofs.Holding.{tied_in, turn_in}
use Rattle.broker_floor.proofs.floor.Floor.turn_in.Goals as goal

pub returns : goal.returns
returns g c = record {
  unflushed = c.turn.ensures.unflushed;
  turn =
      turn_in g.J.Journal.tells_notes g.F.Folder.tells_files g.C.Clock.tells_readings c.args.number c.args.call c.turn.result c.args.self.now.held.hall c.pass.new.self.hall c.turn.new.self.hall (g.J.Journal.notes c.args.self.now.journal) (g.J.Journal.notes c.turn.new.journal) (g.F.Folder.files c.args.self.now.folder) (g.F.Folder.files c.turn.new.folder)
      (g.F.Folder.folder_faults c.args.self.now.folder) (g.F.Folder.folder_faults c.turn.new.folder) (g.C.Clock.coming c.args.self.now.clock) (g.C.Clock.coming c.now-reading.new.self) c.now-reading.result (ap (λ (x : Held). x.hall) c.pass.ensures.is) c.pass.ensures.bounded c.now-reading.ensures.reading c.now-reading.ensures.coming c.pass.ensures.stands c.turn.ensures.turn
      c.turn.ensures.files;
}

pub invariant_of-self : goal.invariant_of-self
invariant_of-self g c = record {
  calm = c.turn.ensures.calm;
  tied =
      tied_in g.J.Journal.tells_notes g.F.Folder.tells_files g.C.Clock.tells_readings c.args.number c.args.call c.turn.result c.args.self.now.held.hall c.pass.new.self.hall c.turn.new.self.hall (g.J.Journal.notes c.args.self.now.journal) (g.J.Journal.notes c.turn.new.journal) (g.F.Folder.files c.args.self.now.folder)
      (g.F.Folder.files c.turn.new.folder) (g.F.Folder.folder_faults c.args.self.now.folder) (g.F.Folder.folder_faults c.turn.new.folder) (g.C.Clock.coming c.args.self.now.clock) (g.C.Clock.coming c.now-reading.new.self) c.now-reading.result (ap (λ (x : Held). x.hall) c.pass.ensures.is) c.pass.ensures.bounded c.args.self.now.tied c.requires.may
      c.turn.ensures.turn;
  room =
      let size : length c.turn.new.scratch ≡ c.args.self.now.scratch.len = search rules in
      let whole : length c.turn.new.scratch ≡ 16777242 = search rules in
      ap length (with_items_is c.args.self.now.scratch c.turn.new.scratch size) ∙ whole;
}
