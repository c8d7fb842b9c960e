use Rattle.std.proofs.Common.{ℕ, List, refl, subst}
use Rattle.std.specs.Prelude.{IfOk}
use Rattle.floor_rooms.specs.Standing.{Carries}
use Rattle.floor_rooms.proofs.Forming.{some_at}
use Rattle.floor_topics.specs.Publishing.{PutsInto}
use Rattle.floor_topics.proofs.Frames.{publish_rest, same_names, same_since}
use Rattle.floor_topics.proofs.Publishes.{made_delay, made_ids, made_short, publish_ids, publish_told}
use Rattle.floor_topics.proofs.publishing.publish.Goals as goal

pub put_there-requires-clause-ids : goal.put_there-requires-clause-ids
put_there-requires-clause-ids g c = made_ids c.args.hall.now c.args.delay c.args.bodies.items c.in_ok-messages.messages.items c.in_ok-messages.ensures c.requires.ids

pub put_there-requires-clause-short : goal.put_there-requires-clause-short
put_there-requires-clause-short g c = made_short c.args.hall.now c.args.delay c.args.bodies.items c.in_ok-messages.messages.items c.in_ok-messages.ensures c.requires.short

pub put_there-requires-clause-delays : goal.put_there-requires-clause-delays
put_there-requires-clause-delays g c = made_delay c.args.hall.now c.args.delay c.args.bodies.items c.in_ok-messages.messages.items c.in_ok-messages.ensures c.requires.delay

pub put_new-requires-clause-ids : goal.put_new-requires-clause-ids
put_new-requires-clause-ids g c = made_ids c.args.hall.now c.args.delay c.args.bodies.items c.in_ok-messages.messages.items c.in_ok-messages.ensures c.requires.ids

pub put_new-requires-clause-short : goal.put_new-requires-clause-short
put_new-requires-clause-short g c = made_short c.args.hall.now c.args.delay c.args.bodies.items c.in_ok-messages.messages.items c.in_ok-messages.ensures c.requires.short

pub put_new-requires-clause-delays : goal.put_new-requires-clause-delays
put_new-requires-clause-delays g c = made_delay c.args.hall.now c.args.delay c.args.bodies.items c.in_ok-messages.messages.items c.in_ok-messages.ensures c.requires.delay

pub returns-in-Ok : goal.returns-in-Ok
returns-in-Ok g c = record {
  told =
      λ told.
      let d = (some_at c.args.hall.now.rooms.items c.in-Ok.i c.in-Ok.ensures.in_range).0 in
      publish_told c.args.hall.now c.args.delay c.args.bodies.items c.in_ok-messages.messages.items c.in_ok-messages.ensures c.put_there.result c.put_there.new.hall (g.F.Folder.files c.args.folder.now) (g.F.Folder.files c.put_there.new.folder) c.args.topic
      (subst (λ (n : List ℕ). IfOk c.put_there.result (λ p. Carries c.args.hall.now (g.F.Folder.files c.args.folder.now) c.put_there.new.hall (g.F.Folder.files c.put_there.new.folder) (PutsInto n c.in_ok-messages.messages.items p))) (c.in-Ok.ensures.is_key d) (c.put_there.ensures.told told d));
  stays = c.put_there.ensures.stays;
  ids = publish_ids c.args.hall.now c.args.delay c.args.bodies.items c.in_ok-messages.messages.items c.in_ok-messages.ensures c.put_there.result c.put_there.new.hall.ids_used c.put_there.ensures.ids;
  none = c.put_there.ensures.none;
  rest = publish_rest c.args.hall.now c.put_there.new.hall c.put_there.ensures.rest;
  sound = c.put_there.ensures.sound;
  names = c.put_there.ensures.names;
  since = c.put_there.ensures.since;
  files = c.put_there.ensures.files;
  faults = c.put_there.ensures.faults;
  cause = c.put_there.ensures.cause;
}

pub returns : goal.returns
returns g c = record {
  told =
      λ told.
      publish_told c.args.hall.now c.args.delay c.args.bodies.items c.in_ok-messages.messages.items c.in_ok-messages.ensures c.put_new.result c.put_new.new.hall (g.F.Folder.files c.args.folder.now) (g.F.Folder.files c.put_new.new.folder) c.args.topic (c.put_new.ensures.told told);
  stays = c.put_new.ensures.stays;
  ids = publish_ids c.args.hall.now c.args.delay c.args.bodies.items c.in_ok-messages.messages.items c.in_ok-messages.ensures c.put_new.result c.put_new.new.hall.ids_used c.put_new.ensures.ids;
  none = c.put_new.ensures.none;
  rest = c.put_new.ensures.rest;
  sound = c.put_new.ensures.sound;
  names = c.put_new.ensures.names;
  since = c.put_new.ensures.since;
  files = c.put_new.ensures.files;
  faults = c.put_new.ensures.faults;
  cause = c.put_new.ensures.cause;
}

pub returns-in_err-messages-clause-rest : goal.returns-in_err-messages-clause-rest
returns-in_err-messages-clause-rest g c = refl

pub returns-in_err-messages-clause-sound : goal.returns-in_err-messages-clause-sound
returns-in_err-messages-clause-sound g c = c.requires.sound

pub returns-in_err-messages-clause-names : goal.returns-in_err-messages-clause-names
returns-in_err-messages-clause-names g c = same_names c.args.hall.now

pub returns-in_err-messages-clause-since : goal.returns-in_err-messages-clause-since
returns-in_err-messages-clause-since g c = same_since c.args.hall.now

pub returns-in_err-messages-clause-files : goal.returns-in_err-messages-clause-files
returns-in_err-messages-clause-files g c = λ told file others. refl

pub messages_of-requires-clause-epoch : goal.messages_of-requires-clause-epoch
messages_of-requires-clause-epoch g c = c.requires.sound.epoch

pub messages_of-requires-clause-ids : goal.messages_of-requires-clause-ids
messages_of-requires-clause-ids g c = c.requires.ids

pub place_of-requires : goal.place_of-requires
place_of-requires g c = c.requires.sound

pub put_there-requires-clause-sound : goal.put_there-requires-clause-sound
put_there-requires-clause-sound g c = c.requires.sound

pub put_there-requires-clause-room : goal.put_there-requires-clause-room
put_there-requires-clause-room g c = c.in-Ok.ensures.in_range

pub put_there-requires-clause-scratch : goal.put_there-requires-clause-scratch
put_there-requires-clause-scratch g c = c.requires.scratch

pub put_new-requires-clause-sound : goal.put_new-requires-clause-sound
put_new-requires-clause-sound g c = c.requires.sound

pub put_new-requires-clause-place : goal.put_new-requires-clause-place
put_new-requires-clause-place g c = c.in-Err.ensures

pub put_new-requires-clause-scratch : goal.put_new-requires-clause-scratch
put_new-requires-clause-scratch g c = c.requires.scratch
