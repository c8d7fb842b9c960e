use Rattle.std.proofs.Common.{◌≡◌, refl}
use Rattle.floor_rooms.specs.Standing.{Carries}
use Rattle.floor_rooms.proofs.Marked.{same_sound}
use Rattle.floor_topics.proofs.Frames.{same_since}
use Rattle.floor_topics.proofs.SeatPlaces.{on_err}
use Rattle.floor_calls.proofs.Leaving.{reserved_holds}
use Rattle.floor_calls.proofs.going.gone.Goals as goal

pub returns : goal.returns
returns g c = record {
  told = λ told d s holds. c.leave.ensures.told told d s (reserved_holds c.args.hall.now _ (g.F.Folder.files c.args.folder.now) s refl holds);
  stays = λ files. tt;
  none = tt;
  clients = c.leave.ensures.clients;
  unchanged = tt;
  listed = tt;
  rest = c.leave.ensures.rest;
  sound = c.leave.ensures.sound;
  names = record { before = c.leave.ensures.names.before; same = c.leave.ensures.names.same };
  since = c.leave.ensures.since;
  files = c.leave.ensures.files;
  faults = c.leave.ensures.faults;
}

pub leave-requires-clause-client : goal.leave-requires-clause-client
leave-requires-clause-client g c = c.requires.client

pub returns-in_err-reserve-clause-none : goal.returns-in_err-reserve-clause-none
returns-in_err-reserve-clause-none g c = on_err c.from_residual.result (c.args.folder.now ≡ c.args.folder.now) refl

pub returns-in_err-reserve-clause-unchanged : goal.returns-in_err-reserve-clause-unchanged
returns-in_err-reserve-clause-unchanged g c = on_err c.from_residual.result (record (c.args.hall.now) { pending = c.reserve.new.self } ≡ record (c.args.hall.now) { pending = c.reserve.new.self }) refl

pub returns-in_err-reserve-clause-listed : goal.returns-in_err-reserve-clause-listed
returns-in_err-reserve-clause-listed g c = on_err c.from_residual.result (c.reserve.new.self.items ≡ c.args.hall.now.pending.items) c.reserve.ensures.items

pub leave-requires-clause-sound : goal.leave-requires-clause-sound
leave-requires-clause-sound g c = same_sound c.args.hall.now (record (c.args.hall.now) { pending = c.reserve.new.self }) c.requires.sound refl refl refl c.reserve.ensures.items refl

pub returns-in_err-reserve-clause-sound : goal.returns-in_err-reserve-clause-sound
returns-in_err-reserve-clause-sound g c = same_sound c.args.hall.now (record (c.args.hall.now) { pending = c.reserve.new.self }) c.requires.sound refl refl refl c.reserve.ensures.items refl

pub returns-in_err-reserve-clause-stays : goal.returns-in_err-reserve-clause-stays
returns-in_err-reserve-clause-stays g c = λ files. on_err c.from_residual.result (Carries c.args.hall.now files (record (c.args.hall.now) { pending = c.reserve.new.self }) files (λ s t. t ≡ s)) (λ s holds. (s, refl, reserved_holds c.args.hall.now (record (c.args.hall.now) { pending = c.reserve.new.self }) files s refl holds))

pub returns-in_err-reserve-clause-rest : goal.returns-in_err-reserve-clause-rest
returns-in_err-reserve-clause-rest g c = refl

pub returns-in_err-reserve-clause-names : goal.returns-in_err-reserve-clause-names
returns-in_err-reserve-clause-names g c = record { before = λ e. e; same = λ e. refl }

pub returns-in_err-reserve-clause-since : goal.returns-in_err-reserve-clause-since
returns-in_err-reserve-clause-since g c = same_since c.args.hall.now

pub returns-in_err-reserve-clause-files : goal.returns-in_err-reserve-clause-files
returns-in_err-reserve-clause-files g c = λ told file others. refl
