use Rattle.std.proofs.Common.{◌∙◌, ap}
use Rattle.floor_rooms.specs.declared.hall.Hall.{Hall}
use Rattle.floor_topics.proofs.Channels.{silent_frame, silent_names, silent_since, silent_sound, silent_told}
use Rattle.floor_topics.proofs.pausing.pause_channel.Goals as goal

pub returns-clause-paused : goal.returns-clause-paused
returns-clause-paused c = λ files d x s holds. silent_told c.args.hall.now c.pause_stall.new.hall c.args.i c.args.j c.args.on c.also_durable_at-hall.result c.requires.sound (silent_frame c.args.hall.now c.pause_stall.new.hall c.also_durable_at-hall.result c.pause_stall.ensures.rest) c.pause_stall.ensures.stall files d x s holds

pub returns-clause-unsaved : goal.returns-clause-unsaved
returns-clause-unsaved c = λ d x. ap (λ (h : Hall). h.unsaved_names) c.pause_stall.ensures.rest ∙ c.also_durable_at-hall.ensures d x

pub returns-clause-sound : goal.returns-clause-sound
returns-clause-sound c = silent_sound c.args.hall.now c.pause_stall.new.hall c.args.i c.args.j c.args.on c.also_durable_at-hall.result c.requires.sound (silent_frame c.args.hall.now c.pause_stall.new.hall c.also_durable_at-hall.result c.pause_stall.ensures.rest) c.pause_stall.ensures.stall

pub returns-clause-names : goal.returns-clause-names
returns-clause-names c = silent_names c.args.hall.now c.pause_stall.new.hall c.args.i c.args.j c.args.on c.also_durable_at-hall.result c.requires.sound (silent_frame c.args.hall.now c.pause_stall.new.hall c.also_durable_at-hall.result c.pause_stall.ensures.rest) c.pause_stall.ensures.stall c.also_durable_at-hall.ensures

pub returns-clause-since : goal.returns-clause-since
returns-clause-since c = silent_since c.args.hall.now c.pause_stall.new.hall c.args.i c.args.j c.args.on c.also_durable_at-hall.result c.requires.sound (silent_frame c.args.hall.now c.pause_stall.new.hall c.also_durable_at-hall.result c.pause_stall.ensures.rest) c.pause_stall.ensures.stall
