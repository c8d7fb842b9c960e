use Rattle.std.proofs.Common.{◌≡◌, ◌≢◌, ◌∙◌, length, map, take, ap, refl, subst, arith}
use Rattle.std.proofs.Math.Nat.{le_of_eq}
use Rattle.std.proofs.lemmas.List.{take_all}
use Rattle.v2_frame.specs.Written.{message_bytes}
use Rattle.disk_queue.specs.Seen.{Seen as Queue, committed, after_save, IsEarly}
use Rattle.disk_queue.specs.Answers.{NotDueWhere}
use Rattle.disk_queue.specs.declared.answers.Stage.TheVariants as stage
use Rattle.backlog.specs.Seen.{ForMessages, FitsLimit, size_of}
use Rattle.backlog.proofs.Putting.{Spilling, spilling_none, spilling_more, next_front, holds_spilled, unstaged_seen, not_staged, stage_rose, options_kept, short_at, written_long, own_more}
use Rattle.backlog.proofs.backlog.putting.spill.Goals as goal

pub stage-requires : goal.stage-requires
stage-requires g c =
    let options : ForMessages c.loop-message.queue.options = options_kept c.args.queue.now c.loop-message.queue (map size_of (take c.loop-message.message-index c.args.messages.now)) c.requires.options c.loop-message.invariant.spilling.queue in
    let long = written_long c.write_record-size.new.scratch c.write_record-size.result c.message-item.result c.write_record-size.ensures.size c.write_record-size.ensures.within in
    omega (arith, options.least, long)

pub loop-message-preserved : goal.loop-message-preserved
loop-message-preserved g c =
    let files = g.F.Folder.files in
    let tells = g.F.Folder.tells_files in
    let i = c.loop-message.message-index in
    let m = c.message-item.result in
    let messages = c.args.messages.now in
    let now = c.write_record-size.new.scratch in
    let long = written_long now c.write_record-size.result m c.write_record-size.ensures.size c.write_record-size.ensures.within in
    record {
      spilling = subst (Spilling tells c.args.queue.now c.stage.new.self (files c.args.folder.now) (files c.stage.new.folder)) (next_front messages i m c.loop-message-test.true c.message-item.is)
          (spilling_more tells c.args.queue.now c.loop-message.queue c.stage.new.self (files c.args.folder.now) (files c.loop-message.folder) (files c.stage.new.folder) (take i messages) m
          (take c.write_record-size.result now) (length (take c.write_record-size.result now)) c.loop-message.invariant.spilling
          c.write_record-size.ensures.fits c.write_record-size.ensures.bytes long c.in-Staged.ensures.seen c.in-Staged.ensures.list c.in-Staged.ensures.stands c.in-Staged.ensures.others);
      scratch = omega (arith, c.write_record-size.ensures.same, c.loop-message.invariant.scratch);
      faults = omega (arith, c.loop-message.invariant.faults, c.in-Staged.ensures.faults);
    }

pub returns-in-Fault : goal.returns-in-Fault
returns-in-Fault g c =
    let files = g.F.Folder.files in
    let count = g.F.Folder.folder_faults in
    let i = c.loop-message.message-index in
    let m = c.message-item.result in
    let messages = c.args.messages.now in
    let now = c.write_record-size.new.scratch in
    let before = c.loop-message.invariant in
    let long = written_long now c.write_record-size.result m c.write_record-size.ensures.size c.write_record-size.ensures.within in
    let short : FitsLimit m = short_at messages i m c.requires.short c.loop-message-test.true c.message-item.is in
    let options : ForMessages c.loop-message.queue.options = options_kept c.args.queue.now c.loop-message.queue (map size_of (take c.loop-message.message-index c.args.messages.now)) c.requires.options before.spilling.queue in
    let refused : c.stage.result ≢ stage.Staged = not_staged c.stage.result c.in-Fault.is in
    record {
      seen = unstaged_seen c.args.queue.now c.loop-message.queue c.stage.new.self c.forget.new.self (map size_of (take c.loop-message.message-index c.args.messages.now)) (length (take c.write_record-size.result now)) c.stage.result before.spilling.queue c.stage.ensures.seen c.forget.ensures.seen;
      none_now = ap (λ (q : Queue). q.staged.count) c.forget.ensures.seen;
      list = λ told disk h. record {
        list = c.forget.ensures.list (files c.stage.new.folder) (map message_bytes disk) _ (c.stage.ensures.list told (map message_bytes disk) (map message_bytes (take i messages)) (before.spilling.list told (map message_bytes disk) h.list));
        stored = h.stored;
      };
      stands = λ told s. c.forget.ensures.stands (files c.stage.new.folder) (c.stage.ensures.stands told (before.spilling.stands told s));
      others = λ told. own_more c.args.queue.now c.loop-message.queue (map size_of (take c.loop-message.message-index c.args.messages.now)) (files c.args.folder.now) (files c.loop-message.folder) (files c.stage.new.folder) before.spilling.queue (before.spilling.others told) (c.stage.ensures.others told);
      faults = omega (arith, before.faults, c.stage.ensures.faults);
      cause = stage_rose (count c.args.folder.now) (count c.loop-message.folder) (count c.stage.new.folder) c.loop-message.queue.options.limit (length (take c.write_record-size.result now)) c.stage.result before.faults (omega (arith, options.limit, short, long)) c.stage.ensures.too_long c.stage.ensures.cause refused;
    }

pub loop-message-init : goal.loop-message-init
loop-message-init g c = record {
  spilling = spilling_none g.F.Folder.tells_files c.args.queue.now (g.F.Folder.files c.args.folder.now);
  scratch = refl;
  faults = le_of_eq refl;
}

pub returns : goal.returns
returns g c =
    let files = g.F.Folder.files in
    let held = c.loop-message.invariant in
    let saved = c.commit-sync.ensures in
    let sync = c.commit-sync.result in
    let messages = c.args.messages.now in
    let done : take c.loop-message.message-index messages ≡ messages = take_all c.loop-message.message-index messages c.loop-message-test.false in
    let all : Spilling g.F.Folder.tells_files c.args.queue.now c.loop-message.queue (files c.args.folder.now) (files c.loop-message.folder) messages
    = subst (Spilling g.F.Folder.tells_files c.args.queue.now c.loop-message.queue (files c.args.folder.now) (files c.loop-message.folder)) done held.spilling in
    record {
      seen = record {
        sync = sync;
        is = saved.seen ∙ ap (λ (q : Queue). after_save (committed q) sync) all.queue;
        due = subst (λ (q : Queue). NotDueWhere (IsEarly (committed q)) sync) all.queue saved.due;
      };
      none_now = ap (λ (q : Queue). q.staged.count) saved.seen;
      list = λ told disk h.
          holds_spilled c.args.queue.now c.commit-sync.new.self (files c.args.folder.now) (files c.commit-sync.new.folder) disk messages all.fits
          (λ bodies held. saved.list told bodies (map message_bytes messages) (all.list told bodies held)) h;
      stands = λ told s. saved.stands told (all.stands told s);
      others = λ told.
          own_more c.args.queue.now c.loop-message.queue (map size_of messages) (files c.args.folder.now) (files c.loop-message.folder) (files c.commit-sync.new.folder) all.queue (all.others told) (saved.others told);
      faults = omega (arith, held.faults, saved.faults);
      cause = tt;
    }
