use Rattle.std.proofs.Common.{◌≡◌, ◌<◌, ◌∙◌, true, MatchBool, sym, ap, refl, subst, arith}
use Rattle.std.proofs.lemmas.Bool.{false≢true}
use Rattle.nsq_base.specs.Name.{is_ephemeral}
use Rattle.floor_rooms.specs.declared.hall.Hall.{Hall}
use Rattle.floor_topics.specs.Going.{UnsavedBy}
use Rattle.floor_topics.specs.declared.lost.Lost.TheVariants.{Done}
use Rattle.floor_topics.proofs.LostPlaces.{same_truth, told_of}
use Rattle.floor_topics.proofs.going.drop_room.Goals as goal

pub returns-then-ephemeral : goal.returns-then-ephemeral
returns-then-ephemeral g c = record {
  rest =
      let new = c.forget_room.new.hall in
      ap (λ (x : Hall). record x { unsaved_names = new.unsaved_names; unsaved_from = new.unsaved_from }) c.forget_room.ensures.rest;
  sound = c.forget_room.ensures.sound;
  stands = λ told d. c.forget_room.ensures.stands d (g.F.Folder.files c.args.folder.now);
  others = λ told d name apart file own. refl;
  faults = omega arith;
  cause = tt;
  rooms = c.forget_room.ensures.rooms;
  files = λ told file no. refl;
  names = c.forget_room.ensures.names;
  since = c.forget_room.ensures.since;
  ephemeral = λ d ephemeral. refl;
  unsaved =
      let old = c.args.hall.now.unsaved_names in
      let new = c.forget_room.new.hall.unsaved_names in
      told_of (λ topic. MatchBool (is_ephemeral topic) (new ≡ old) (UnsavedBy Done old new)) c.args.hall.now.rooms.items c.args.i c.index.result.now c.requires.room c.index.ensures
      (subst (λ b. MatchBool b (new ≡ old) (UnsavedBy Done old new)) (sym (ap is_ephemeral (sym c.name.ensures) ∙ sym (same_truth c.ephemeral.result _ c.ephemeral.ensures) ∙ c.if-ephemeral.true)) (ap (λ (x : Hall). x.unsaved_names) c.forget_room.ensures.rest));
}

pub returns : goal.returns
returns g c = record {
  rest = c.delete_room.ensures.rest;
  sound = c.delete_room.ensures.sound;
  stands = λ told. c.delete_room.ensures.stands told;
  others = λ told. c.delete_room.ensures.others told;
  faults = c.delete_room.ensures.faults;
  cause = c.delete_room.ensures.cause;
  rooms = c.delete_room.ensures.rooms;
  files = λ told. c.delete_room.ensures.files told;
  names = c.delete_room.ensures.names;
  since = c.delete_room.ensures.since;
  ephemeral = told_of (λ topic. is_ephemeral topic ≡ true → c.delete_room.result ≡ Done) c.args.hall.now.rooms.items c.args.i c.index.result.now c.requires.room c.index.ensures (λ ephemeral. absurd (false≢true (sym (ap is_ephemeral (sym c.name.ensures) ∙ sym (same_truth c.ephemeral.result _ c.ephemeral.ensures) ∙ c.if-ephemeral.false) ∙ ephemeral)));
  unsaved =
      let old = c.args.hall.now.unsaved_names in
      let new = c.delete_room.new.hall.unsaved_names in
      told_of (λ topic. MatchBool (is_ephemeral topic) (new ≡ old) (UnsavedBy c.delete_room.result old new)) c.args.hall.now.rooms.items c.args.i c.index.result.now c.requires.room c.index.ensures
      (subst (λ b. MatchBool b (new ≡ old) (UnsavedBy c.delete_room.result old new)) (sym (ap is_ephemeral (sym c.name.ensures) ∙ sym (same_truth c.ephemeral.result _ c.ephemeral.ensures) ∙ c.if-ephemeral.false)) c.delete_room.ensures.unsaved);
}

pub index-requires : goal.index-requires
index-requires g c = subst (λ n. c.args.i < n) (sym c.args.hall.now.rooms.ok.0) c.requires.room

pub forget_room-requires-clause-ephemeral : goal.forget_room-requires-clause-ephemeral
forget_room-requires-clause-ephemeral g c = told_of (λ topic. is_ephemeral topic ≡ true) c.args.hall.now.rooms.items c.args.i c.index.result.now c.requires.room c.index.ensures (ap is_ephemeral (sym c.name.ensures) ∙ sym (same_truth c.ephemeral.result _ c.ephemeral.ensures) ∙ c.if-ephemeral.true)
