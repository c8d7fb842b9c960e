use Rattle.std.proofs.Common.{refl, sym, ap, ◌∙◌}
use Rattle.floor_rooms.specs.Seen.{route_named}
use Rattle.floor_rooms.specs.declared.hall.Hall.{Hall}
use Rattle.floor_rooms.proofs.Naming.{names_then}
use Rattle.floor_calls.proofs.Leaving.{gone_alone, gone_from, left_moment, left_rest, since_then_none}
use Rattle.floor_calls.proofs.going.leave.Goals as goal

pub returns-in-None-clause-told : goal.returns-in-None-clause-told
returns-in-None-clause-told g c = λ told d s holds.
    let files = g.F.Folder.files c.args.folder.now in
    let t = c.part.ensures.stands files d s holds in
    (t.0, gone_alone c.args.hall.now c.args.k c.index.result.now c.requires.sound c.requires.client c.index.ensures files s holds d t.0 (sym c.in-None.ensures) t.1, t.2)

pub returns-in-Some-clause-told : goal.returns-in-Some-clause-told
returns-in-Some-clause-told g c = λ told d s holds.
    let files = g.F.Folder.files c.args.folder.now in
    let u = c.part-in-Some.ensures.stands files d s holds in
    let t = c.forget_deserted.ensures.told told u.0 u.2 in
    (t.0, gone_from c.args.hall.now c.args.k c.index.result.now c.requires.sound c.requires.client c.index.ensures files s holds d u.0 t.0 (route_named c.in-Some.names) (sym c.in-Some.ensures) u.1 t.1, t.2)

pub returns-in-Some-clause-clients : goal.returns-in-Some-clause-clients
returns-in-Some-clause-clients g c = λ d. c.forget_deserted.ensures.clients ∙ c.part-in-Some.ensures.clients d

pub returns-in-Some-clause-rest : goal.returns-in-Some-clause-rest
returns-in-Some-clause-rest g c = left_rest c.args.hall.now c.part-in-Some.new.hall c.forget_deserted.new.hall c.part-in-Some.ensures.rest c.forget_deserted.ensures.rest

pub returns-in-Some-clause-names : goal.returns-in-Some-clause-names
returns-in-Some-clause-names g c = names_then c.args.hall.now c.part-in-Some.new.hall c.forget_deserted.new.hall c.part-in-Some.ensures.names c.forget_deserted.ensures.names

pub returns-in-Some-clause-since : goal.returns-in-Some-clause-since
returns-in-Some-clause-since g c =
    since_then_none c.args.hall.now.moment c.part-in-Some.new.hall.moment c.args.hall.now.rooms.items c.part-in-Some.new.hall.rooms.items c.forget_deserted.new.hall.rooms.items (left_moment c.args.hall.now c.part-in-Some.new.hall c.part-in-Some.ensures.rest) c.forget_deserted.ensures.comes c.part-in-Some.ensures.since c.forget_deserted.ensures.since

pub returns-in-None-clause-rest : goal.returns-in-None-clause-rest
returns-in-None-clause-rest g c =
    let h = c.part.new.hall in
    ap (λ (x : Hall). record x { clients = h.clients; rooms = h.rooms; pending = h.pending; unsaved_from = h.unsaved_from }) c.part.ensures.rest

pub returns-in-None-clause-sound : goal.returns-in-None-clause-sound
returns-in-None-clause-sound g c = c.part.ensures.sound

pub returns-in-None-clause-names : goal.returns-in-None-clause-names
returns-in-None-clause-names g c = c.part.ensures.names

pub returns-in-None-clause-since : goal.returns-in-None-clause-since
returns-in-None-clause-since g c = c.part.ensures.since

pub returns-in-None-clause-files : goal.returns-in-None-clause-files
returns-in-None-clause-files g c = λ told file others. refl

pub returns-in-Some-clause-sound : goal.returns-in-Some-clause-sound
returns-in-Some-clause-sound g c = c.forget_deserted.ensures.sound

pub returns-in-Some-clause-files : goal.returns-in-Some-clause-files
returns-in-Some-clause-files g c = c.forget_deserted.ensures.files

pub forget_deserted-requires : goal.forget_deserted-requires
forget_deserted-requires g c = c.part-in-Some.ensures.sound
