use Rattle.std.proofs.Common.{◌≡◌, ◌-◌, ◌^◌, true, false, None, refl, sym, ap, ◌∙◌}
use Rattle.floor_files.specs.Saving.{is_failed}
use Rattle.floor_files.specs.Timely.{mark_or_last}
use Rattle.floor_files.proofs.Marking.{mark_failed, mark_saved, stall_synced}
use Rattle.floor_files.proofs.marks.save_stall.Goals as goal

pub returns-then-is_failed : goal.returns-then-is_failed
returns-then-is_failed g c =
    let stall = c.args.stall.now in
    let sync = c.sync.ensures in
    let failed : is_failed c.sync.result ≡ true = sym c.is_failed.ensures ∙ c.if-is_failed.true in
    stall_synced g.F.Folder.tells_files c.args.at c.args.timeout c.in-Some.since (g.F.Folder.files c.args.folder.now) (g.F.Folder.files c.sync.new.folder) (g.F.Folder.folder_faults c.args.folder.now) (g.F.Folder.folder_faults c.sync.new.folder) stall c.sync.new.self stall.since
    sync.rest sync.list sync.disk
    (mark_failed c.args.at c.args.timeout (g.F.Folder.folder_faults c.args.folder.now) (g.F.Folder.folder_faults c.sync.new.folder) c.in-Some.since stall.since stall.channel.backlog.queue c.sync.new.self.backlog.queue c.sync.result c.in-Some.is (c.is_lately.ensures.past c.if-is_lately.false) sync.seen sync.cause failed)
    (sym (ap mark_or_last c.in-Some.is))

pub returns : goal.returns
returns g c =
    let stall = c.args.stall.now in
    let sync = c.sync.ensures in
    let well : is_failed c.sync.result ≡ false = sym c.is_failed.ensures ∙ c.if-is_failed.false in
    stall_synced g.F.Folder.tells_files c.args.at c.args.timeout (2 ^ 64 - 1) (g.F.Folder.files c.args.folder.now) (g.F.Folder.files c.sync.new.folder) (g.F.Folder.folder_faults c.args.folder.now) (g.F.Folder.folder_faults c.sync.new.folder) stall c.sync.new.self None
    sync.rest sync.list sync.disk
    (mark_saved c.args.at c.args.timeout (g.F.Folder.folder_faults c.args.folder.now) (g.F.Folder.folder_faults c.sync.new.folder) c.in-Some.since stall.since stall.channel.backlog.queue c.sync.new.self.backlog.queue c.sync.result c.in-Some.is (c.is_lately.ensures.past c.if-is_lately.false) sync.seen well)
    refl
