use Rattle.std.proofs.Common.{◌∙◌, ℕ, inr, take, sym, ap, subst, arith}
use Rattle.std.proofs.lemmas.List.{take_all}
use Rattle.nsq_base.specs.Name.{IsName}
use Rattle.channel_core.specs.Seen.{queue_name}
use Rattle.floor_rooms.specs.Rooms.{stall_in}
use Rattle.floor_files.specs.Opened.{HasOpened, LeavesFound, RefusesChannel}
use Rattle.floor_files.proofs.Parting.{handed_on}
use Rattle.floor_files.proofs.Joining.{next_apart, next_one, next_stays, opened_none, opened_one, taken_next}
use Rattle.floor_files.proofs.Found.{leaves_none, leaves_one, lists_opened, lists_refused, lists_then, only_next, only_some}
use Rattle.floor_files.proofs.channels.open_channels.Goals as goal

pub returns-in_err-stall-clause-refused : goal.returns-in_err-stall-clause-refused
returns-in_err-stall-clause-refused g c = λ told.
    let xs = c.args.channels.now in
    let i : ℕ = c.channels.item-index in
    let apart = next_apart xs i c.item-item.result c.channels-test.true c.item-item.is c.requires.apart in
    handed_on c.from_residual.result c.in_err-stall.field-0.0 (λ e. RefusesChannel c.args.topic xs (g.F.Folder.files c.args.folder.now) (g.F.Folder.files c.open_stall.new.folder) e) c.from_residual.ensures.1 (inr (record {
      channel = c.item-item.result;
      one = next_one xs i c.item-item.result c.channels-test.true c.item-item.is;
      before = g.F.Folder.files c.channels.folder;
      same = next_stays g.F.Folder.tells_files c.args.hall.now.options c.args.topic (take i xs) c.item-item.result (g.F.Folder.files c.args.folder.now) (g.F.Folder.files c.channels.folder) (g.F.Folder.folder_faults c.args.folder.now) (g.F.Folder.folder_faults c.channels.folder) c.args.room.now c.channels.room
          (subst IsName c.bytes.ensures.value c.bytes.ensures.is_name) c.channels.invariant.0 apart told;
      refused = c.in_err-stall.ensures.refused told;
    }))

pub returns-in_err-stall-clause-files : goal.returns-in_err-stall-clause-files
returns-in_err-stall-clause-files g c = λ told file no_topic no_channel. c.open_stall.ensures.others told file (no_channel c.item-item.result.0) ∙ c.channels.invariant.0.only told file no_topic no_channel

pub put_stall-requires-clause-new : goal.put_stall-requires-clause-new
put_stall-requires-clause-new g c =
    let apart = next_apart c.args.channels.now c.channels.item-index c.item-item.result c.channels-test.true c.item-item.is c.requires.apart in
    ap (stall_in c.channels.room.stalls.items) c.in_ok-stall.ensures.named ∙ c.channels.invariant.0.names c.item-item.result.0 apart

pub returns-in_err-put_stall-clause-files : goal.returns-in_err-put_stall-clause-files
returns-in_err-put_stall-clause-files g c = λ told file no_topic no_channel. c.open_stall.ensures.others told file (no_channel c.item-item.result.0) ∙ c.channels.invariant.0.only told file no_topic no_channel

pub channels-preserved : goal.channels-preserved
channels-preserved g c =
    let xs = c.args.channels.now in
    let i : ℕ = c.channels.item-index in
    let apart = next_apart xs i c.item-item.result c.channels-test.true c.item-item.is c.requires.apart in (
      subst
          (λ done. HasOpened g.F.Folder.tells_files c.args.hall.now.options c.args.topic done (g.F.Folder.files c.args.folder.now) (g.F.Folder.files c.open_stall.new.folder) (g.F.Folder.folder_faults c.args.folder.now) (g.F.Folder.folder_faults c.open_stall.new.folder) c.args.room.now c.put_stall.new.room)
          (sym (taken_next xs i c.item-item.result c.channels-test.true c.item-item.is))
          (opened_one g.F.Folder.tells_files c.args.hall.now.options c.args.topic (take i xs) c.item-item.result (g.F.Folder.files c.args.folder.now) (g.F.Folder.files c.channels.folder) (g.F.Folder.files c.open_stall.new.folder) (g.F.Folder.folder_faults c.args.folder.now) (g.F.Folder.folder_faults c.channels.folder)
          (g.F.Folder.folder_faults c.open_stall.new.folder) c.args.room.now c.channels.room c.put_stall.new.room c.in_ok-stall.stall (subst IsName c.bytes.ensures.value c.bytes.ensures.is_name) c.channels.invariant.0 c.requires.named.queue apart c.in_ok-stall.ensures.stall c.in_ok-stall.ensures.named c.in_ok-stall.ensures.told c.open_stall.ensures.others
          c.open_stall.ensures.faults c.put_stall.ensures.rest c.in_ok-put_stall.ensures.ok),
      λ told. subst (λ done. LeavesFound c.args.topic done (g.F.Folder.files c.args.folder.now) (g.F.Folder.files c.open_stall.new.folder)) (sym (taken_next xs i c.item-item.result c.channels-test.true c.item-item.is))
          (leaves_one c.args.topic (take i xs) c.item-item.result (g.F.Folder.files c.args.folder.now) (g.F.Folder.files c.channels.folder) (g.F.Folder.files c.open_stall.new.folder) (c.channels.invariant.1 told) (c.open_stall.ensures.others told) (c.in_ok-stall.ensures.again told)),
    )

pub returns-in_err-stall-clause-again : goal.returns-in_err-stall-clause-again
returns-in_err-stall-clause-again g c = λ told.
    lists_then (g.F.Folder.files c.args.folder.now) (g.F.Folder.files c.channels.folder) (g.F.Folder.files c.open_stall.new.folder) (c.channels.invariant.1 told).again (lists_refused (queue_name c.args.topic c.item-item.result.0) (g.F.Folder.files c.channels.folder) (g.F.Folder.files c.open_stall.new.folder) c.in_err-stall.field-0.0 (c.open_stall.ensures.others told) (c.in_err-stall.ensures.refused told))

pub returns-in_err-put_stall-clause-again : goal.returns-in_err-put_stall-clause-again
returns-in_err-put_stall-clause-again g c = λ told.
    lists_then (g.F.Folder.files c.args.folder.now) (g.F.Folder.files c.channels.folder) (g.F.Folder.files c.open_stall.new.folder) (c.channels.invariant.1 told).again (lists_opened (queue_name c.args.topic c.item-item.result.0) (g.F.Folder.files c.channels.folder) (g.F.Folder.files c.open_stall.new.folder) (c.open_stall.ensures.others told) (c.in_ok-stall.ensures.again told))

pub returns-in_err-stall-clause-theirs : goal.returns-in_err-stall-clause-theirs
returns-in_err-stall-clause-theirs g c = λ told. only_next c.args.topic c.args.channels.now c.channels.item-index c.item-item.result (g.F.Folder.files c.args.folder.now) (g.F.Folder.files c.channels.folder) (g.F.Folder.files c.open_stall.new.folder) c.channels-test.true c.item-item.is (c.channels.invariant.1 told).only (c.open_stall.ensures.others told)

pub returns-in_err-put_stall-clause-theirs : goal.returns-in_err-put_stall-clause-theirs
returns-in_err-put_stall-clause-theirs g c = λ told. only_next c.args.topic c.args.channels.now c.channels.item-index c.item-item.result (g.F.Folder.files c.args.folder.now) (g.F.Folder.files c.channels.folder) (g.F.Folder.files c.open_stall.new.folder) c.channels-test.true c.item-item.is (c.channels.invariant.1 told).only (c.open_stall.ensures.others told)

pub channels-init : goal.channels-init
channels-init g c = (opened_none g.F.Folder.tells_files c.args.hall.now.options c.args.topic (g.F.Folder.files c.args.folder.now) (g.F.Folder.folder_faults c.args.folder.now) c.args.room.now c.requires.empty, λ told. leaves_none c.args.topic (g.F.Folder.files c.args.folder.now))

pub returns-clause-theirs : goal.returns-clause-theirs
returns-clause-theirs g c = λ told. only_some c.args.topic c.args.channels.now c.channels.item-index (g.F.Folder.files c.args.folder.now) (g.F.Folder.files c.channels.folder) (c.channels.invariant.1 told).only

pub returns-clause-opened : goal.returns-clause-opened
returns-clause-opened g c =
    subst (λ done. HasOpened g.F.Folder.tells_files c.args.hall.now.options c.args.topic done (g.F.Folder.files c.args.folder.now) (g.F.Folder.files c.channels.folder) (g.F.Folder.folder_faults c.args.folder.now) (g.F.Folder.folder_faults c.channels.folder) c.args.room.now c.channels.room) (take_all c.channels.item-index c.args.channels.now c.channels-test.false) c.channels.invariant.0

pub returns-clause-leaves : goal.returns-clause-leaves
returns-clause-leaves g c = λ told. subst (λ done. LeavesFound c.args.topic done (g.F.Folder.files c.args.folder.now) (g.F.Folder.files c.channels.folder)) (take_all c.channels.item-index c.args.channels.now c.channels-test.false) (c.channels.invariant.1 told)

pub returns-clause-again : goal.returns-clause-again
returns-clause-again g c = λ told. (c.channels.invariant.1 told).again

pub returns-clause-files : goal.returns-clause-files
returns-clause-files g c = c.channels.invariant.0.only

pub returns-in_err-stall-clause-faults : goal.returns-in_err-stall-clause-faults
returns-in_err-stall-clause-faults g c =
    let before = c.channels.invariant.0.faults in
    let after = c.open_stall.ensures.faults in
    omega (arith, before, after)

pub returns-in_err-put_stall-clause-faults : goal.returns-in_err-put_stall-clause-faults
returns-in_err-put_stall-clause-faults g c =
    let before = c.channels.invariant.0.faults in
    let after = c.open_stall.ensures.faults in
    omega (arith, before, after)
