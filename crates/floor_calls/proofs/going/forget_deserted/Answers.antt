use Rattle.std.proofs.Common.{◌<◌, length, get_or, refl, sym, subst, ◌∙◌, arith}
use Rattle.floor_rooms.specs.declared.room.Room.{Room}
use Rattle.floor_rooms.proofs.Forming.{some_at}
use Rattle.floor_topics.proofs.Frames.{same_names, same_since}
use Rattle.floor_topics.proofs.LosingChannels.{no_channel_deleted, no_topic_deleted}
use Rattle.floor_calls.proofs.Deserted.{absent_left}
use Rattle.floor_calls.proofs.Leaving.{goes_left, none_same, stays_left, tested}
use Rattle.floor_calls.proofs.going.forget_deserted.Goals as goal

pub returns-in_default : goal.returns-in_default
returns-in_default g c = record {
  told = λ told s holds. (s, absent_left s c.args.topic c.args.channel (no_topic_deleted c.args.hall.now (g.F.Folder.files c.args.folder.now) s c.args.topic c.args.channel holds c.in_default.ensures), holds);
  clients = refl;
  rest = refl;
  sound = c.requires;
  names = same_names c.args.hall.now;
  comes = none_same c.args.hall.now.rooms.items;
  since = same_since c.args.hall.now;
  files = λ told file others. refl;
  faults = omega arith;
}

pub returns-in_default-stall_place : goal.returns-in_default-stall_place
returns-in_default-stall_place g c = record {
  told =
      λ told s holds.
      let rooms = c.args.hall.now.rooms.items in
      let d = (some_at rooms c.in-Some.i c.in-Some.ensures.stands.in_range).0 in
      (s, absent_left s c.args.topic c.args.channel (no_channel_deleted c.args.hall.now (g.F.Folder.files c.args.folder.now) s c.args.topic c.args.channel (get_or rooms c.in-Some.i d) holds (c.in-Some.ensures.found d) (c.in_default-stall_place.ensures d)), holds);
  clients = refl;
  rest = refl;
  sound = c.requires;
  names = same_names c.args.hall.now;
  comes = none_same c.args.hall.now.rooms.items;
  since = same_since c.args.hall.now;
  files = λ told file others. refl;
  faults = omega arith;
}

pub is_deserted-requires : goal.is_deserted-requires
is_deserted-requires g c =
    let room = c.index.result.now in
    subst (λ (r : Room). c.in-Some-stall_place.j < length r.stalls.items) (sym c.index.ensures) (c.in-Some-stall_place.ensures room).stands.in_range

pub returns-then-not-is_deserted : goal.returns-then-not-is_deserted
returns-then-not-is_deserted g c = record {
  told =
      λ told s holds.
      let h = c.args.hall.now in
      let rooms = h.rooms.items in
      let i = c.in-Some.i in
      let j = c.in-Some-stall_place.j in
      let room = c.index.result.now in
      let d = (some_at rooms i c.in-Some.ensures.stands.in_range).0 in
      let place = c.in-Some-stall_place.ensures d in
      let x = (some_at (get_or rooms i d).stalls.items j place.stands.in_range).0 in (
        s,
        stays_left h i j d x c.requires c.in-Some.ensures.stands.in_range place.stands.in_range c.args.topic c.args.channel (c.in-Some.ensures.stands.is_key d) (place.stands.is_key x) (g.F.Folder.files c.args.folder.now) s holds
            (tested rooms i j room c.is_deserted.result c.in-Some.ensures.stands.in_range c.index.ensures c.is_deserted.ensures d x ∙ c.if-not-is_deserted.true),
        holds,
      );
  clients = refl;
  rest = refl;
  sound = c.requires;
  names = same_names c.args.hall.now;
  comes = none_same c.args.hall.now.rooms.items;
  since = same_since c.args.hall.now;
  files = λ told file others. refl;
  faults = omega arith;
}

pub forget_channel-requires-clause-stall : goal.forget_channel-requires-clause-stall
forget_channel-requires-clause-stall g c = λ d. (c.in-Some-stall_place.ensures d).stands.in_range

pub forget_channel-requires-clause-deserted : goal.forget_channel-requires-clause-deserted
forget_channel-requires-clause-deserted g c = λ d x.
    tested c.args.hall.now.rooms.items c.in-Some.i c.in-Some-stall_place.j c.index.result.now c.is_deserted.result c.in-Some.ensures.stands.in_range c.index.ensures c.is_deserted.ensures d x ∙ c.if-not-is_deserted.false

pub returns : goal.returns
returns g c = record {
  told =
      λ told s holds.
      let h = c.args.hall.now in
      let rooms = h.rooms.items in
      let i = c.in-Some.i in
      let j = c.in-Some-stall_place.j in
      let room = c.index.result.now in
      let d = (some_at rooms i c.in-Some.ensures.stands.in_range).0 in
      let place = c.in-Some-stall_place.ensures d in
      let x = (some_at (get_or rooms i d).stalls.items j place.stands.in_range).0 in
      let t = c.forget_channel.ensures.told told d x s holds in (
        t.0,
        goes_left h i j d x c.requires c.in-Some.ensures.stands.in_range place.stands.in_range c.args.topic c.args.channel (c.in-Some.ensures.stands.is_key d) (place.stands.is_key x) (g.F.Folder.files c.args.folder.now) s holds t.0
            (tested rooms i j room c.is_deserted.result c.in-Some.ensures.stands.in_range c.index.ensures c.is_deserted.ensures d x ∙ c.if-not-is_deserted.false) t.1,
        t.2,
      );
  clients = c.forget_channel.ensures.clients;
  rest = c.forget_channel.ensures.rest;
  sound = c.forget_channel.ensures.sound;
  names = c.forget_channel.ensures.names;
  comes = c.forget_channel.ensures.comes;
  since = c.forget_channel.ensures.since;
  files = c.forget_channel.ensures.files;
  faults = c.forget_channel.ensures.faults;
}
