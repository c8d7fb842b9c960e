use Rattle.std.proofs.Common.{None, refl, ap, subst, ◌∙◌}
use Rattle.nsq_base.specs.Name.{IsName, is_ephemeral}
use Rattle.channel_core.specs.Seen.{Seen as ChannelSeen, queue_name}
use Rattle.topic_core.proofs.Saving.{was_found}
use Rattle.floor_rooms.proofs.Growing.{fits_run}
use Rattle.floor_files.proofs.Starting.{opened_stall_is, opened_stall_of}
use Rattle.floor_files.proofs.Parting.{or_false}
use Rattle.floor_files.proofs.channels.open_stall.Goals as goal

pub returns-clause-told : goal.returns-clause-told
returns-clause-told g c = λ told messages has.
    let durable = or_false (is_ephemeral c.args.topic) (is_ephemeral c.args.channel) c.requires.durable c.requires.also in
    opened_stall_of (g.F.Folder.files c.open.new.folder) c.args.topic c.args.channel c.args.paused c.args.hall.now.options c.in_ok-opened.opened (record { channel = c.pause.new.self; since = None; members = c.new.result }) messages c.pause.ensures c.in_ok-opened.ensures.seen durable
    (c.in_ok-opened.ensures.list told durable messages (was_found (g.F.Folder.files c.args.folder.now) (queue_name c.args.topic c.args.channel) messages has)) (c.in_ok-opened.ensures.stands told)

pub returns-clause-again : goal.returns-clause-again
returns-clause-again g c = λ told. c.in_ok-opened.ensures.again told (or_false (is_ephemeral c.args.topic) (is_ephemeral c.args.channel) c.requires.durable c.requires.also)

pub returns-clause-stall : goal.returns-clause-stall
returns-clause-stall g c =
    opened_stall_is c.args.topic c.args.channel c.args.paused c.args.hall.now.options c.in_ok-opened.opened (record { channel = c.pause.new.self; since = None; members = c.new.result }) (subst IsName c.bytes.ensures.value c.bytes.ensures.is_name) c.pause.ensures refl c.new.ensures.items c.in_ok-opened.ensures.seen
    (or_false (is_ephemeral c.args.topic) (is_ephemeral c.args.channel) c.requires.durable c.requires.also)

pub returns-clause-named : goal.returns-clause-named
returns-clause-named g c = ap (λ (v : ChannelSeen). v.about.name) c.pause.ensures ∙ ap (λ (v : ChannelSeen). v.about.name) c.in_ok-opened.ensures.seen.made.is

pub open-requires : goal.open-requires
open-requires g c = fits_run c.args.hall.now.options c.requires.options
