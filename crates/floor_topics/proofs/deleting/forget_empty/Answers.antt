use Rattle.std.proofs.Common.{inl, inr, refl, sym, ◌∙◌}
use Rattle.floor_topics.proofs.Frames.{same_names, same_since}
use Rattle.floor_topics.proofs.LosingChannels.{left_ephemeral, left_goes, left_none, left_stays}
use Rattle.floor_topics.proofs.deleting.forget_empty.Goals as goal

pub forget_room-requires-clause-none : goal.forget_room-requires-clause-none
forget_room-requires-clause-none c = left_none c.args.hall.now.rooms.items c.args.i c.index.result.now c.requires.room c.index.ensures (sym c.is_left_empty.ensures ∙ c.if-not-is_left_empty.false)

pub returns : goal.returns
returns c = record {
  rest = c.forget_room.ensures.rest;
  stands =
      λ d files s holds.
      let r = c.forget_room.ensures.stands d files s holds in
      left_goes c.args.hall.now.rooms.items c.args.i c.index.result.now c.requires.room c.index.ensures (sym c.is_left_empty.ensures ∙ c.if-not-is_left_empty.false) c.forget_room.new.hall files d s r.0 r.1 r.2;
  rooms = λ d. inl (c.forget_room.ensures.rooms d);
  sound = c.forget_room.ensures.sound;
  names = c.forget_room.ensures.names;
  since = c.forget_room.ensures.since;
}

pub forget_room-requires-clause-sound : goal.forget_room-requires-clause-sound
forget_room-requires-clause-sound c = c.requires.sound

pub forget_room-requires-clause-room : goal.forget_room-requires-clause-room
forget_room-requires-clause-room c = c.requires.room

pub forget_room-requires-clause-ephemeral : goal.forget_room-requires-clause-ephemeral
forget_room-requires-clause-ephemeral c = left_ephemeral c.args.hall.now.rooms.items c.args.i c.index.result.now c.requires.room c.index.ensures (sym c.is_left_empty.ensures ∙ c.if-not-is_left_empty.false)

pub returns-then-not-is_left_empty : goal.returns-then-not-is_left_empty
returns-then-not-is_left_empty c = record {
  rest = refl;
  stands = λ d files s holds. left_stays c.args.hall.now.rooms.items c.args.i c.index.result.now c.requires.room c.index.ensures (sym c.is_left_empty.ensures ∙ c.if-not-is_left_empty.true) c.args.hall.now files d s holds;
  rooms = λ d. inr refl;
  sound = c.requires.sound;
  names = same_names c.args.hall.now;
  since = same_since c.args.hall.now;
}
