use Rattle.std.proofs.Common.{ℕ, ◌≡◌, ◌≤◌, length, take, sym, ap, subst, refl, arith}
use Rattle.std.proofs.Math.Nat.{le_of_eq}
use Rattle.disk_queue.specs.QueueOptions.{QueueOptions}
use Rattle.backlog.specs.Seen.{FitsLimit}
use Rattle.backlog.proofs.Drawing.{ring_empty}
use Rattle.backlog.proofs.Saving.{moved_least, moving_more, moving_none, moving_refused, not_stored, put_rose, moved, first_left, short_left, record_long, left_over, none_left}
use Rattle.backlog.proofs.backlog.saving.write_ring.Goals as goal

pub returns-in-Fault : goal.returns-in-Fault
returns-in-Fault g c =
    let files = g.F.Folder.files in
    let count = g.F.Folder.folder_faults in
    let tells = g.F.Folder.tells_files in
    let items = c.args.ring.now.items in
    let n = c.loop.counter in
    let m = c.in-Some.message.now in
    let before = c.loop.invariant.moving in
    let bytes = take c.write_record-size.result c.write_record-size.new.scratch in
    let long = record_long c.write_record-size.new.scratch c.write_record-size.result m c.write_record-size.ensures.size c.write_record-size.ensures.within in
    let short : FitsLimit m = short_left items n m c.requires.short (first_left items c.args.ring.now.capacity c.loop.ring n m before.left (sym c.in-Some.ensures)) in
    let limit : c.loop.queue.options.limit ≡ c.args.queue.now.options.limit = ap (λ (o : QueueOptions). o.limit) before.longer.same.options in
    let refused = not_stored c.put.result c.in-Fault.is in
    let after = moved tells items c.args.ring.now.capacity c.loop.ring c.args.queue.now c.put.new.self (files c.args.folder.now) (files c.put.new.folder) n
    (moving_refused tells items c.args.ring.now.capacity c.loop.ring c.args.queue.now c.loop.queue c.put.new.self (files c.args.folder.now) (files c.loop.folder) (files c.put.new.folder) n (length bytes) bytes
    c.put.result before refused c.put.ensures.seen c.put.ensures.list c.put.ensures.stands c.put.ensures.others) in
    record {
      within = omega (arith, after.within, c.loop.invariant.moving.within, left_over items c.args.ring.now.capacity c.loop.ring n before.left);
      ring = after.left;
      all = tt;
      queue = after.longer;
      none_now = c.put.ensures.none_now;
      list = after.list;
      stands = after.stands;
      others = after.others;
      faults = omega (arith, c.loop.invariant.faults, c.put.ensures.faults);
      cause = put_rose (count c.args.folder.now) (count c.loop.folder) (count c.put.new.folder) c.loop.queue.options.limit (length bytes) c.put.result c.loop.invariant.faults
          (omega (arith, c.requires.options.limit, limit, short, long)) c.put.ensures.too_long c.put.ensures.cause refused;
    }

pub loop-preserved : goal.loop-preserved
loop-preserved g c =
    let files = g.F.Folder.files in
    let tells = g.F.Folder.tells_files in
    let items = c.args.ring.now.items in
    let n = c.loop.counter in
    let m = c.in-Some.message.now in
    let bytes = take c.write_record-size.result c.write_record-size.new.scratch in
    record {
      moving = moving_more tells items c.args.ring.now.capacity c.loop.ring c.pop_front-written.new.self c.args.queue.now c.loop.queue c.put.new.self (files c.args.folder.now) (files c.loop.folder) (files c.put.new.folder)
          n (length bytes) m bytes c.in-Stored.field-0 c.loop.invariant.moving (sym c.in-Some.ensures) c.pop_front-written.ensures.items c.write_record-size.ensures.fits c.write_record-size.ensures.bytes c.in-Stored.ensures.seen
          c.in-Stored.ensures.none_now c.in-Stored.ensures.list c.in-Stored.ensures.stands c.in-Stored.ensures.others;
      end = c.loop.invariant.end;
      scratch = omega (arith, c.write_record-size.ensures.same, c.loop.invariant.scratch);
      faults = omega (arith, c.loop.invariant.faults, c.put.ensures.faults);
    }

pub returns-after-loop : goal.returns-after-loop
returns-after-loop g c =
    let files = g.F.Folder.files in
    let items = c.args.ring.now.items in
    let held = c.loop.invariant in
    let before = moved g.F.Folder.tells_files items c.args.ring.now.capacity c.loop.ring c.args.queue.now c.loop.queue (files c.args.folder.now) (files c.loop.folder) c.loop.counter held.moving in
    record {
      within = omega (arith, left_over items c.args.ring.now.capacity c.loop.ring c.loop.counter held.moving.left);
      ring = before.left;
      all = none_left items c.args.ring.now.capacity c.loop.ring c.loop.counter held.moving.left (omega (arith, c.loop-test.false, held.end));
      queue = before.longer;
      none_now = before.none;
      list = before.list;
      stands = before.stands;
      others = before.others;
      faults = held.faults;
      cause = tt;
    }

pub returns-in_default : goal.returns-in_default
returns-in_default g c =
    let files = g.F.Folder.files in
    let items = c.args.ring.now.items in
    let held = c.loop.invariant in
    let before = moved g.F.Folder.tells_files items c.args.ring.now.capacity c.loop.ring c.args.queue.now c.loop.queue (files c.args.folder.now) (files c.loop.folder) c.loop.counter held.moving in
    record {
      within = omega (arith, left_over items c.args.ring.now.capacity c.loop.ring c.loop.counter held.moving.left);
      ring = before.left;
      all = ring_empty c.loop.ring.items _ c.in_default.ensures refl;
      queue = before.longer;
      none_now = before.none;
      list = before.list;
      stands = before.stands;
      others = before.others;
      faults = held.faults;
      cause = tt;
    }

pub loop-init : goal.loop-init
loop-init g c = record {
  moving = moving_none g.F.Folder.tells_files c.args.ring.now c.args.queue.now (g.F.Folder.files c.args.folder.now) c.requires.none;
  end = c.len-end.ensures.len;
  scratch = refl;
  faults = le_of_eq refl;
}

pub write_record-size-requires : goal.write_record-size-requires
write_record-size-requires g c = record {
  short = short_left c.args.ring.now.items c.loop.counter c.in-Some.message.now c.requires.short (first_left c.args.ring.now.items c.args.ring.now.capacity c.loop.ring c.loop.counter c.in-Some.message.now c.loop.invariant.moving.left (sym c.in-Some.ensures));
  scratch = subst (λ (n : ℕ). 16777242 ≤ n) (sym c.loop.invariant.scratch) c.requires.scratch;
}

pub put-requires : goal.put-requires
put-requires g c = record {
  size = moved_least c.args.queue.now c.loop.queue c.loop.counter (length (take c.write_record-size.result c.write_record-size.new.scratch)) c.in-Some.message.now c.requires.options c.loop.invariant.moving.longer
      (record_long c.write_record-size.new.scratch c.write_record-size.result c.in-Some.message.now c.write_record-size.ensures.size c.write_record-size.ensures.within);
  none = c.loop.invariant.moving.none;
}
