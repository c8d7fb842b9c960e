use Rattle.std.proofs.Common.{◌≡◌, ◌<◌, ◌∙◌, true, MatchBool, sym, ap, refl, subst, arith}
use Rattle.std.proofs.lemmas.Bool.{false≢true}
use Rattle.broker_history.specs.State.{is_ephemeral_channel}
use Rattle.floor_rooms.specs.declared.hall.Hall.{Hall}
use Rattle.floor_rooms.proofs.Marked.{range_of}
use Rattle.floor_topics.specs.Going.{UnsavedBy}
use Rattle.floor_topics.specs.declared.lost.Lost.TheVariants.{Done}
use Rattle.floor_topics.proofs.LostPlaces.{told_at}
use Rattle.floor_topics.proofs.losing.lose_stall.Goals as goal

pub returns-then-is_ephemeral_at : goal.returns-then-is_ephemeral_at
returns-then-is_ephemeral_at g c = record {
  rest =
      let new = c.forget_stall.new.hall in
      ap (λ (x : Hall). record x { unsaved_names = new.unsaved_names; unsaved_from = new.unsaved_from }) c.forget_stall.ensures.rest;
  rooms = c.forget_stall.ensures.rooms;
  clients = c.forget_stall.ensures.clients;
  sound = c.forget_stall.ensures.sound;
  stands = λ told. c.forget_stall.ensures.stands (g.F.Folder.files c.args.folder.now);
  others = λ told d e name apart file own. refl;
  files = λ told file no. refl;
  names = c.forget_stall.ensures.names;
  since = c.forget_stall.ensures.since;
  faults = omega arith;
  cause = tt;
  ephemeral = λ d e ephemeral. refl;
  unsaved =
      let old = c.args.hall.now.unsaved_names in
      let new = c.forget_stall.new.hall.unsaved_names in
      told_at (λ topic channel. MatchBool (is_ephemeral_channel topic channel) (new ≡ old) (UnsavedBy Done old new)) c.args.hall.now.rooms.items c.args.i c.args.j c.index.result.now c.requires.room c.index.ensures
      (λ e. subst (λ b. MatchBool b (new ≡ old) (UnsavedBy Done old new)) (sym (sym (c.is_ephemeral_at.ensures e) ∙ c.if-is_ephemeral_at.true)) (ap (λ (x : Hall). x.unsaved_names) c.forget_stall.ensures.rest));
}

pub returns : goal.returns
returns g c = record {
  rest = c.delete_stall.ensures.rest;
  rooms = c.delete_stall.ensures.rooms;
  clients = c.delete_stall.ensures.clients;
  sound = c.delete_stall.ensures.sound;
  stands = λ told. c.delete_stall.ensures.stands told;
  others = λ told. c.delete_stall.ensures.others told;
  files = λ told. c.delete_stall.ensures.files told;
  names = c.delete_stall.ensures.names;
  since = c.delete_stall.ensures.since;
  faults = c.delete_stall.ensures.faults;
  cause = c.delete_stall.ensures.cause;
  ephemeral =
      told_at (λ topic channel. is_ephemeral_channel topic channel ≡ true → c.delete_stall.result ≡ Done) c.args.hall.now.rooms.items c.args.i c.args.j c.index.result.now c.requires.room c.index.ensures
      (λ e ephemeral. absurd (false≢true (sym (sym (c.is_ephemeral_at.ensures e) ∙ c.if-is_ephemeral_at.false) ∙ ephemeral)));
  unsaved =
      let old = c.args.hall.now.unsaved_names in
      let new = c.delete_stall.new.hall.unsaved_names in
      told_at (λ topic channel. MatchBool (is_ephemeral_channel topic channel) (new ≡ old) (UnsavedBy c.delete_stall.result old new)) c.args.hall.now.rooms.items c.args.i c.args.j c.index.result.now c.requires.room c.index.ensures
      (λ e. subst (λ b. MatchBool b (new ≡ old) (UnsavedBy c.delete_stall.result old new)) (sym (sym (c.is_ephemeral_at.ensures e) ∙ c.if-is_ephemeral_at.false)) c.delete_stall.ensures.unsaved);
}

pub index-requires : goal.index-requires
index-requires g c = subst (λ n. c.args.i < n) (sym c.args.hall.now.rooms.ok.0) c.requires.room

pub is_ephemeral_at-requires : goal.is_ephemeral_at-requires
is_ephemeral_at-requires g c = range_of c.args.j c.args.hall.now.rooms.items c.args.i c.index.result.now c.index.ensures c.requires.stall

pub forget_stall-requires-clause-ephemeral : goal.forget_stall-requires-clause-ephemeral
forget_stall-requires-clause-ephemeral g c = told_at (λ topic channel. is_ephemeral_channel topic channel ≡ true) c.args.hall.now.rooms.items c.args.i c.args.j c.index.result.now c.requires.room c.index.ensures (λ e. sym (c.is_ephemeral_at.ensures e) ∙ c.if-is_ephemeral_at.true)
