use Rattle.std.proofs.Common.{◌<◌, ◌∙◌, length, arith}
use Rattle.broker_history.specs.declared.entry.Act.TheVariants.{Copied}
use Rattle.floor_moves.proofs.Keeping.{keeps_on}
use Rattle.floor_moves.specs.Taking.{taking}
use Rattle.floor_turns.proofs.Owing.{moved_on, none_next, owes_at, place_within, takes_at}
use Rattle.floor_turns.proofs.paying.next_owed.Goals as goal

pub returns-then-has_taken-clause-moves : goal.returns-then-has_taken-clause-moves
returns-then-has_taken-clause-moves g c =
    moved_on g.J.Journal.tells_notes g.F.Folder.tells_files c.args.hall.now c.find_pending.new.hall (g.J.Journal.notes c.args.journal.now) (g.F.Folder.files c.args.folder.now) (g.F.Folder.folder_faults c.args.folder.now) _ c.find_pending.ensures.unlists.stands
    (Copied c.copy_message.ensures.moves.owed.topic c.copy_message.ensures.moves.owed.channel c.copy_message.ensures.moves.is.taken.message) c.copy_message.result c.ended.result c.ended.ensures c.find_pending.ensures.keeps.moment c.copy_message.ensures.moves.moves

pub returns-then-has_taken-clause-keeps : goal.returns-then-has_taken-clause-keeps
returns-then-has_taken-clause-keeps g c = keeps_on c.args.hall.now c.find_pending.new.hall c.copy_message.new.hall c.find_pending.ensures.keeps c.copy_message.ensures.keeps

pub returns-clause-moves : goal.returns-clause-moves
returns-clause-moves g c =
    moved_on g.J.Journal.tells_notes g.F.Folder.tells_files c.args.hall.now c.find_pending.new.hall (g.J.Journal.notes c.args.journal.now) (g.F.Folder.files c.args.folder.now) (g.F.Folder.folder_faults c.args.folder.now) _ c.find_pending.ensures.unlists.stands
    (taking c.take_message.ensures.moves.room c.take_message.ensures.moves.message c.take_message.result) c.take_message.result c.ended-2.result c.ended-2.ensures c.find_pending.ensures.keeps.moment c.take_message.ensures.moves.moves

pub returns-clause-keeps : goal.returns-clause-keeps
returns-clause-keeps g c = keeps_on c.args.hall.now c.find_pending.new.hall c.take_message.new.hall c.find_pending.ensures.keeps c.take_message.ensures.keeps

pub copy_message-requires-clause-owes : goal.copy_message-requires-clause-owes
copy_message-requires-clause-owes g c = owes_at c.find_pending.new.hall.rooms.items c.in-Some.i c.index.result.now c.has_taken.result c.in-Some.ensures.found c.index.ensures c.has_taken.ensures c.if-has_taken.true

pub take_message-requires-clause-takes : goal.take_message-requires-clause-takes
take_message-requires-clause-takes g c = takes_at c.find_pending.new.hall.rooms.items c.in-Some.i c.index.result.now c.has_taken.result c.in-Some.ensures.found c.index.ensures c.has_taken.ensures c.if-has_taken.false

pub returns-in_default-clause-moves : goal.returns-in_default-clause-moves
returns-in_default-clause-moves g c =
    none_next g.J.Journal.tells_notes g.F.Folder.tells_files c.args.hall.now c.find_pending.new.hall (g.J.Journal.notes c.args.journal.now) (g.F.Folder.files c.args.folder.now) (g.F.Folder.folder_faults c.args.folder.now) c.find_pending.ensures.unlists.stands c.find_pending.ensures.unlists.rest c.requires.quiet c.in_default.ensures.found

pub returns-in_default-clause-keeps : goal.returns-in_default-clause-keeps
returns-in_default-clause-keeps g c = c.find_pending.ensures.keeps

pub returns-in_default-clause-sound : goal.returns-in_default-clause-sound
returns-in_default-clause-sound g c = c.find_pending.ensures.unlists.sound

pub copy_message-requires-clause-sound : goal.copy_message-requires-clause-sound
copy_message-requires-clause-sound g c = c.find_pending.ensures.unlists.sound

pub copy_message-requires-clause-running : goal.copy_message-requires-clause-running
copy_message-requires-clause-running g c = c.find_pending.ensures.keeps.stopped ∙ c.requires.running

pub take_message-requires-clause-sound : goal.take_message-requires-clause-sound
take_message-requires-clause-sound g c = c.find_pending.ensures.unlists.sound

pub take_message-requires-clause-running : goal.take_message-requires-clause-running
take_message-requires-clause-running g c = c.find_pending.ensures.keeps.stopped ∙ c.requires.running

pub index-requires : goal.index-requires
index-requires g c =
    let busy = c.in-Some.ensures.found in
    let within : c.in-Some.i < length c.find_pending.new.hall.rooms.items = place_within c.find_pending.new.hall.rooms.items c.in-Some.i busy.room busy.there in
    omega (arith, within, c.find_pending.new.hall.rooms.ok.0)
