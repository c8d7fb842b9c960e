use Rattle.std.proofs.Common.{ℕ, List, get_or, refl, arith, subst}
use Rattle.floor_rooms.specs.Rooms.{topic_name}
use Rattle.floor_rooms.specs.Standing.{Carries}
use Rattle.floor_rooms.proofs.Forming.{some_at}
use Rattle.floor_topics.specs.Deleting.{DeletesChannel}
use Rattle.floor_topics.proofs.Frames.{same_names, same_since}
use Rattle.floor_topics.proofs.LosingChannels.{no_channel_deleted, no_topic_deleted}
use Rattle.floor_topics.proofs.deleting.delete_channel.Goals as goal

pub returns-in_default : goal.returns-in_default
returns-in_default g c = record {
  told = λ told s holds. (s, no_topic_deleted c.args.hall.now (g.F.Folder.files c.args.folder.now) s c.args.topic c.args.channel holds c.in_default.ensures, holds);
  rest = refl;
  sound = c.requires;
  names = same_names c.args.hall.now;
  since = same_since c.args.hall.now;
  files = λ told file others. refl;
  faults = omega arith;
  cause = tt;
  numbers = λ m. refl;
}

pub returns-in_default-stall_place : goal.returns-in_default-stall_place
returns-in_default-stall_place g c = record {
  told =
      λ told s holds.
      let rooms = c.args.hall.now.rooms.items in
      let d = (some_at rooms c.in-Some.i c.in-Some.ensures.stands.in_range).0 in
      (s, no_channel_deleted c.args.hall.now (g.F.Folder.files c.args.folder.now) s c.args.topic c.args.channel (get_or rooms c.in-Some.i d) holds (c.in-Some.ensures.found d) (c.in_default-stall_place.ensures d), holds);
  rest = refl;
  sound = c.requires;
  names = same_names c.args.hall.now;
  since = same_since c.args.hall.now;
  files = λ told file others. refl;
  faults = omega arith;
  cause = tt;
  numbers = λ m. refl;
}

pub returns : goal.returns
returns g c = record {
  told =
      λ told.
      let rooms = c.args.hall.now.rooms.items in
      let i = c.in-Some.i in
      let j = c.in-Some-stall_place.j in
      let old = g.F.Folder.files c.args.folder.now in
      let new = g.F.Folder.files c.lose_at.new.folder in
      let d = (some_at rooms i c.in-Some.ensures.stands.in_range).0 in
      let place = c.in-Some-stall_place.ensures d in
      let x = (some_at (get_or rooms i d).stalls.items j place.stands.in_range).0 in
      subst (λ (n : List ℕ). Carries c.args.hall.now old c.lose_at.new.hall new (DeletesChannel c.lose_at.result n c.args.channel)) (c.in-Some.ensures.stands.is_key d)
      (subst (λ (k : List ℕ). Carries c.args.hall.now old c.lose_at.new.hall new (DeletesChannel c.lose_at.result (topic_name (get_or rooms i d)) k)) (place.stands.is_key x) (c.lose_at.ensures.told told d x));
  rest = c.lose_at.ensures.rest;
  sound = c.lose_at.ensures.sound;
  names = c.lose_at.ensures.names;
  since = c.lose_at.ensures.since;
  files = c.lose_at.ensures.files;
  faults = c.lose_at.ensures.faults;
  cause = c.lose_at.ensures.cause;
  numbers = c.lose_at.ensures.numbers;
}

pub room_place-requires : goal.room_place-requires
room_place-requires g c = c.requires

pub stall_place-requires-clause-sound : goal.stall_place-requires-clause-sound
stall_place-requires-clause-sound g c = c.requires

pub stall_place-requires-clause-room : goal.stall_place-requires-clause-room
stall_place-requires-clause-room g c = c.in-Some.ensures.stands.in_range

pub lose_at-requires-clause-sound : goal.lose_at-requires-clause-sound
lose_at-requires-clause-sound g c = c.requires

pub lose_at-requires-clause-room : goal.lose_at-requires-clause-room
lose_at-requires-clause-room g c = c.in-Some.ensures.stands.in_range

pub lose_at-requires-clause-stall : goal.lose_at-requires-clause-stall
lose_at-requires-clause-stall g c = λ d. (c.in-Some-stall_place.ensures d).stands.in_range
