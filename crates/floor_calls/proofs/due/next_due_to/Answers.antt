use Rattle.std.proofs.Common.{ap, inl, inr, sym, ◌∙◌}
use Rattle.floor_acts.specs.Replies.{stall_on}
use Rattle.floor_acts.proofs.Found.{none_at}
use Rattle.floor_calls.proofs.Sending.{quiet, gets_from, none_of, no_room}
use Rattle.floor_calls.proofs.due.next_due_to.Goals as goal

pub is_silent-requires : goal.is_silent-requires
is_silent-requires c = c.requires.moment

pub is_beat_due-requires : goal.is_beat_due-requires
is_beat_due-requires c = c.requires.moment

pub room_place-requires : goal.room_place-requires
room_place-requires c = c.requires

pub stall_place-requires : goal.stall_place-requires
stall_place-requires c = record { sound = c.requires; room = c.in-Some-room_place.ensures.stands.in_range }

pub returns-then-is_lost : goal.returns-then-is_lost
returns-then-is_lost c = sym c.is_lost.ensures ∙ c.if-is_lost.true

pub returns-then-is_silent : goal.returns-then-is_silent
returns-then-is_silent c = (sym c.is_lost.ensures ∙ c.if-is_lost.false, sym c.is_silent.ensures ∙ c.if-is_silent.true)

pub returns-then-is_beat_due : goal.returns-then-is_beat_due
returns-then-is_beat_due c = (sym c.is_lost.ensures ∙ c.if-is_lost.false, sym c.is_silent.ensures ∙ c.if-is_silent.false, sym c.is_beat_due.ensures ∙ c.if-is_beat_due.true)

pub returns-then-not-is_subscribed : goal.returns-then-not-is_subscribed
returns-then-not-is_subscribed c = (
  quiet c.args.hall.now.moment c.args.client.now (sym c.is_lost.ensures ∙ c.if-is_lost.false) (sym c.is_silent.ensures ∙ c.if-is_silent.false) (sym c.is_beat_due.ensures ∙ c.if-is_beat_due.false),
  inl (sym c.is_subscribed.ensures ∙ c.if-not-is_subscribed.true),
)

pub returns-in_default : goal.returns-in_default
returns-in_default c = (
  quiet c.args.hall.now.moment c.args.client.now (sym c.is_lost.ensures ∙ c.if-is_lost.false) (sym c.is_silent.ensures ∙ c.if-is_silent.false) (sym c.is_beat_due.ensures ∙ c.if-is_beat_due.false),
  inr (ap (stall_on c.args.hall.now.rooms.items) (sym c.in_default.ensures)),
)

pub returns-in_default-room_place : goal.returns-in_default-room_place
returns-in_default-room_place c = (
  quiet c.args.hall.now.moment c.args.client.now (sym c.is_lost.ensures ∙ c.if-is_lost.false) (sym c.is_silent.ensures ∙ c.if-is_silent.false) (sym c.is_beat_due.ensures ∙ c.if-is_beat_due.false),
  inr (none_of c.args.hall.now c.args.client.now c.in-Some.names.0 c.in-Some.names.1 c.in-Some.ensures
      (no_room c.args.hall.now.rooms.items c.in-Some.names.0 c.in-Some.names.1 c.in_default-room_place.ensures)),
)

pub returns-in_default-stall_place : goal.returns-in_default-stall_place
returns-in_default-stall_place c = (
  quiet c.args.hall.now.moment c.args.client.now (sym c.is_lost.ensures ∙ c.if-is_lost.false) (sym c.is_silent.ensures ∙ c.if-is_silent.false) (sym c.is_beat_due.ensures ∙ c.if-is_beat_due.false),
  inr (none_of c.args.hall.now c.args.client.now c.in-Some.names.0 c.in-Some.names.1 c.in-Some.ensures
      (none_at c.args.hall.now.rooms.items c.in-Some.names.0 c.in-Some.names.1 c.in-Some-room_place.i c.in-Some-room_place.ensures c.in_default-stall_place.ensures)),
)

pub returns : goal.returns
returns c = (
  quiet c.args.hall.now.moment c.args.client.now (sym c.is_lost.ensures ∙ c.if-is_lost.false) (sym c.is_silent.ensures ∙ c.if-is_silent.false) (sym c.is_beat_due.ensures ∙ c.if-is_beat_due.false),
  gets_from c.args.hall.now c.args.client.now c.in-Some.names.0 c.in-Some.names.1 c.in-Some-room_place.i c.in-Some-stall_place.j (sym c.is_lost.ensures ∙ c.if-is_lost.false) (sym c.is_subscribed.ensures ∙ c.if-not-is_subscribed.false) c.in-Some.ensures c.in-Some-room_place.ensures
      c.in-Some-stall_place.ensures,
)
