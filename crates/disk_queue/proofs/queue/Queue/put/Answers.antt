use Rattle.std.proofs.Common.{◌≡◌, ap, sym, ◌∙◌, arith, subst, [], ◌∷◌, length}
use Rattle.queue_image.specs.FileNames.{meta_file}
use Rattle.disk_queue.specs.Holding.{OwnChange}
use Rattle.disk_queue.specs.Seen.{committed, after_save, IsEarly}
use Rattle.disk_queue.specs.Answers.{SyncCounts, NotDueWhere}
use Rattle.disk_queue.specs.Parts.{OnlySaveChanges}
use Rattle.disk_queue.proofs.Kept.{own_join}
use Rattle.disk_queue.proofs.Saves.{put_changes, put_saves, put_writes}
use Rattle.disk_queue.proofs.Joined.{sync_later}
use Rattle.disk_queue.proofs.queue.Queue.put.Goals as goal

pub returns-in-Fault-clause-list : goal.returns-in-Fault-clause-list
returns-in-Fault-clause-list g c = λ told bodies. c.in-Fault.ensures.list told bodies []

pub returns-clause-list : goal.returns-clause-list
returns-clause-list g c = λ told bodies h. c.commit.ensures.list told bodies (c.args.bytes.now ∷ []) (c.in-Staged.ensures.list told bodies [] h)

pub returns-clause-kept : goal.returns-clause-kept
returns-clause-kept g c = λ told bodies h. c.commit.ensures.kept told bodies (c.args.bytes.now ∷ []) (c.in-Staged.ensures.list told bodies [] h)

pub returns-clause-others : goal.returns-clause-others
returns-clause-others g c = λ told.
    let old = g.F.Folder.files c.args.folder.now in
    let mid = g.F.Folder.files c.stage.new.folder in
    let new = g.F.Folder.files c.commit.new.folder in
    own_join c.args.self.now.name old mid new (c.in-Staged.ensures.others told) (subst (λ q. OwnChange q.name mid new) c.in-Staged.ensures.seen (c.commit.ensures.others told))

pub returns-clause-files : goal.returns-clause-files
returns-clause-files g c = λ told.
    let old = g.F.Folder.files c.args.folder.now in
    let mid = g.F.Folder.files c.stage.new.folder in
    let new = g.F.Folder.files c.commit.new.folder in
    put_changes c.args.self.now (length c.args.bytes.now) c.commit.result old mid new (c.in-Staged.ensures.files told)
    (subst (λ q. OnlySaveChanges q mid new) c.in-Staged.ensures.seen (c.commit.ensures.files told))

pub returns-clause-metadata : goal.returns-clause-metadata
returns-clause-metadata g c = λ told.
    let old = g.F.Folder.files c.args.folder.now in
    let mid = g.F.Folder.files c.stage.new.folder in
    let new = g.F.Folder.files c.commit.new.folder in
    put_saves c.args.self.now c.stage.new.self c.commit.new.self old mid new (length c.args.bytes.now) c.commit.result c.in-Staged.ensures.seen c.commit.ensures.seen (c.in-Staged.ensures.metadata told) (c.commit.ensures.metadata told)

pub returns-clause-written : goal.returns-clause-written
returns-clause-written g c = λ told.
    put_writes c.args.self.now c.stage.new.self (g.F.Folder.files c.args.folder.now) (g.F.Folder.files c.stage.new.folder) (g.F.Folder.files c.commit.new.folder) c.args.bytes.now c.in-Staged.ensures.seen
    (c.in-Staged.ensures.written told) (c.commit.ensures.written told)

pub returns-clause-exact : goal.returns-clause-exact
returns-clause-exact g c = λ counts.
    subst (λ n. SyncCounts n (g.F.Folder.folder_faults c.commit.new.folder) c.commit.result) (c.in-Staged.ensures.exact counts) (c.commit.ensures.exact counts)

pub returns-in-Fault-clause-seen : goal.returns-in-Fault-clause-seen
returns-in-Fault-clause-seen g c = c.in-Fault.ensures.seen

pub returns-in-Fault-clause-too_long : goal.returns-in-Fault-clause-too_long
returns-in-Fault-clause-too_long g c = c.in-Fault.ensures.too_long

pub returns-in-Fault-clause-stands : goal.returns-in-Fault-clause-stands
returns-in-Fault-clause-stands g c = c.in-Fault.ensures.stands

pub returns-in-Fault-clause-files : goal.returns-in-Fault-clause-files
returns-in-Fault-clause-files g c = c.in-Fault.ensures.files

pub returns-in-Fault-clause-others : goal.returns-in-Fault-clause-others
returns-in-Fault-clause-others g c = c.in-Fault.ensures.others

pub returns-in-Fault-clause-faults : goal.returns-in-Fault-clause-faults
returns-in-Fault-clause-faults g c = c.in-Fault.ensures.faults

pub returns-in-Fault-clause-cause : goal.returns-in-Fault-clause-cause
returns-in-Fault-clause-cause g c = c.in-Fault.ensures.cause

pub returns-in-Fault-clause-exact : goal.returns-in-Fault-clause-exact
returns-in-Fault-clause-exact g c = c.in-Fault.ensures.exact

pub returns-in-Fault-clause-name : goal.returns-in-Fault-clause-name
returns-in-Fault-clause-name g c = ap (λ q. q.name) c.in-Fault.ensures.seen

pub returns-in-Fault-clause-options : goal.returns-in-Fault-clause-options
returns-in-Fault-clause-options g c = ap (λ q. q.options) c.in-Fault.ensures.seen

pub returns-in-Fault-clause-none_now : goal.returns-in-Fault-clause-none_now
returns-in-Fault-clause-none_now g c = ap (λ q. q.staged.count) c.in-Fault.ensures.seen ∙ c.requires.none

pub returns-in-Fault-clause-due : goal.returns-in-Fault-clause-due
returns-in-Fault-clause-due g c = tt

pub returns-in-Fault-clause-kept : goal.returns-in-Fault-clause-kept
returns-in-Fault-clause-kept g c = λ told bodies h. tt

pub returns-in-Fault-clause-written : goal.returns-in-Fault-clause-written
returns-in-Fault-clause-written g c = λ told. tt

pub returns-in-TooLong-clause-seen : goal.returns-in-TooLong-clause-seen
returns-in-TooLong-clause-seen g c = c.in-TooLong.ensures.seen

pub returns-in-TooLong-clause-too_long : goal.returns-in-TooLong-clause-too_long
returns-in-TooLong-clause-too_long g c = c.in-TooLong.ensures.too_long

pub returns-in-TooLong-clause-stands : goal.returns-in-TooLong-clause-stands
returns-in-TooLong-clause-stands g c = c.in-TooLong.ensures.stands

pub returns-in-TooLong-clause-files : goal.returns-in-TooLong-clause-files
returns-in-TooLong-clause-files g c = c.in-TooLong.ensures.files

pub returns-in-TooLong-clause-others : goal.returns-in-TooLong-clause-others
returns-in-TooLong-clause-others g c = c.in-TooLong.ensures.others

pub returns-in-TooLong-clause-faults : goal.returns-in-TooLong-clause-faults
returns-in-TooLong-clause-faults g c = c.in-TooLong.ensures.faults

pub returns-in-TooLong-clause-cause : goal.returns-in-TooLong-clause-cause
returns-in-TooLong-clause-cause g c = c.in-TooLong.ensures.cause

pub returns-in-TooLong-clause-exact : goal.returns-in-TooLong-clause-exact
returns-in-TooLong-clause-exact g c = c.in-TooLong.ensures.exact

pub returns-in-TooLong-clause-name : goal.returns-in-TooLong-clause-name
returns-in-TooLong-clause-name g c = ap (λ q. q.name) c.in-TooLong.ensures.seen

pub returns-in-TooLong-clause-options : goal.returns-in-TooLong-clause-options
returns-in-TooLong-clause-options g c = ap (λ q. q.options) c.in-TooLong.ensures.seen

pub returns-in-TooLong-clause-none_now : goal.returns-in-TooLong-clause-none_now
returns-in-TooLong-clause-none_now g c = ap (λ q. q.staged.count) c.in-TooLong.ensures.seen ∙ c.requires.none

pub returns-in-TooLong-clause-due : goal.returns-in-TooLong-clause-due
returns-in-TooLong-clause-due g c = tt

pub returns-in-TooLong-clause-kept : goal.returns-in-TooLong-clause-kept
returns-in-TooLong-clause-kept g c = λ told bodies h. tt

pub returns-in-TooLong-clause-written : goal.returns-in-TooLong-clause-written
returns-in-TooLong-clause-written g c = λ told. tt

pub returns-in-Fault-clause-metadata : goal.returns-in-Fault-clause-metadata
returns-in-Fault-clause-metadata g c = λ told.
    let old = g.F.Folder.files c.args.folder.now in
    let new = g.F.Folder.files c.stage.new.folder in
    subst (λ name. new (meta_file name) ≡ old (meta_file name)) (ap (λ q. q.name) (sym c.in-Fault.ensures.seen)) (c.in-Fault.ensures.metadata told)

pub returns-in-TooLong-clause-metadata : goal.returns-in-TooLong-clause-metadata
returns-in-TooLong-clause-metadata g c = c.in-TooLong.ensures.refused

pub returns-in-TooLong-clause-list : goal.returns-in-TooLong-clause-list
returns-in-TooLong-clause-list g c = λ told bodies. c.in-TooLong.ensures.list told bodies []

pub returns-clause-seen : goal.returns-clause-seen
returns-clause-seen g c = c.commit.ensures.seen ∙ ap (λ q. after_save (committed q) c.commit.result) c.in-Staged.ensures.seen

pub returns-clause-name : goal.returns-clause-name
returns-clause-name g c = ap (λ q. q.name) c.commit.ensures.seen ∙ ap (λ q. q.name) c.in-Staged.ensures.seen

pub returns-clause-options : goal.returns-clause-options
returns-clause-options g c = ap (λ q. q.options) c.commit.ensures.seen ∙ ap (λ q. q.options) c.in-Staged.ensures.seen

pub returns-clause-none_now : goal.returns-clause-none_now
returns-clause-none_now g c = ap (λ q. q.staged.count) c.commit.ensures.seen

pub returns-clause-too_long : goal.returns-clause-too_long
returns-clause-too_long g c = c.in-Staged.ensures.too_long

pub returns-clause-due : goal.returns-clause-due
returns-clause-due g c = subst (λ q. NotDueWhere (IsEarly (committed q)) c.commit.result) c.in-Staged.ensures.seen c.commit.ensures.due

pub returns-clause-stands : goal.returns-clause-stands
returns-clause-stands g c = λ told s. c.commit.ensures.stands told (c.in-Staged.ensures.stands told s)

pub returns-clause-faults : goal.returns-clause-faults
returns-clause-faults g c = omega (arith, c.in-Staged.ensures.faults, c.commit.ensures.faults)

pub returns-clause-cause : goal.returns-clause-cause
returns-clause-cause g c = sync_later (g.F.Folder.folder_faults c.args.folder.now) (g.F.Folder.folder_faults c.stage.new.folder) (g.F.Folder.folder_faults c.commit.new.folder) c.commit.result c.in-Staged.ensures.faults c.commit.ensures.cause
