use Rattle.std.proofs.Common.{◌≡◌, ℕ, List, Option, sym, subst}
use Rattle.std.specs.Prelude.{OnOk}
use Rattle.broker_history.specs.Changes.{made}
use Rattle.floor_rooms.specs.Standing.{Carries}
use Rattle.floor_topics.proofs.creating.create.Goals as goal

pub returns-in-Some : goal.returns-in-Some
returns-in-Some c = record {
  made =
      λ files.
      subst (λ (o : Option (List ℕ)). OnOk c.make_stall.result (Carries c.args.hall.now files c.make_stall.new.self files (λ s t. t ≡ made s c.args.topic o))) (sym c.in-Some.is) (c.make_stall.ensures.stands files);
  stays = c.make_stall.ensures.stays;
  rest = c.make_stall.ensures.rest;
  sound = c.make_stall.ensures.sound;
  names = c.make_stall.ensures.names;
  since = c.make_stall.ensures.since;
}

pub make_stall-requires : goal.make_stall-requires
make_stall-requires c = c.requires

pub make_room-requires : goal.make_room-requires
make_room-requires c = c.requires

pub returns-in_ok-make_room-in-None : goal.returns-in_ok-make_room-in-None
returns-in_ok-make_room-in-None c = record {
  made = λ files. subst (λ (o : Option (List ℕ)). Carries c.args.hall.now files c.make_room.new.self files (λ s t. t ≡ made s c.args.topic o)) (sym c.in-None.is) (c.in_ok-make_room-in-None.ensures.stands files);
  stays = λ files. tt;
  rest = c.make_room.ensures.rest;
  sound = c.make_room.ensures.sound;
  names = c.make_room.ensures.names;
  since = c.make_room.ensures.since;
}

pub returns-in_err-make_room-in-None-clause-rest : goal.returns-in_err-make_room-in-None-clause-rest
returns-in_err-make_room-in-None-clause-rest c = c.make_room.ensures.rest

pub returns-in_err-make_room-in-None-clause-sound : goal.returns-in_err-make_room-in-None-clause-sound
returns-in_err-make_room-in-None-clause-sound c = c.make_room.ensures.sound

pub returns-in_err-make_room-in-None-clause-names : goal.returns-in_err-make_room-in-None-clause-names
returns-in_err-make_room-in-None-clause-names c = c.make_room.ensures.names

pub returns-in_err-make_room-in-None-clause-since : goal.returns-in_err-make_room-in-None-clause-since
returns-in_err-make_room-in-None-clause-since c = c.make_room.ensures.since
