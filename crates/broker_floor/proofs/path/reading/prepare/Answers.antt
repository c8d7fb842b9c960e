use Rattle.std.proofs.Common.{◌≡◌, ◌≤◌, ◌<◌, ◌∙◌, ap, le_trans, sym, subst}
use Rattle.path_image.specs.Data.{Kept}
use Rattle.names_file.specs.Kept.{CanKeepAll}
use Rattle.queue_sweep.specs.Swept.{HasOnlyListed, IsSweptTo}
use Rattle.broker_floor.specs.Opening.{IsRefusal}
use Rattle.broker_floor.proofs.PathEnding.{refused_reading, refused_spent, refused_sweeping, swept_from}
use Rattle.broker_floor.proofs.path.reading.prepare.Goals as goal

pub set_aside_unlisted-requires : goal.set_aside_unlisted-requires
set_aside_unlisted-requires g c = record { kept = subst (λ ts. CanKeepAll ts) (sym (c.deref.ensures.value ∙ ap (λ (x : Kept). x.topics) c.names.view_is)) c.in-Ok.ensures.can }

pub returns-in-Err : goal.returns-in-Err
returns-in-Err g c = record {
  ready = λ told. tt;
  below = tt;
  can = tt;
  durable = tt;
  refused = refused_reading c.in-Err.why g.F.Folder.tells_files (g.F.Folder.files c.args.folder.now) (g.F.Folder.files c.read_listed.new.folder) (g.F.Folder.folder_faults c.args.folder.now) (g.F.Folder.folder_faults c.read_listed.new.folder) c.in-Err.ensures.why c.read_listed.ensures.same;
  faults = c.read_listed.ensures.faults;
}

pub returns-then-names-ge-LAST_EPOCH : goal.returns-then-names-ge-LAST_EPOCH
returns-then-names-ge-LAST_EPOCH g c = record {
  ready = λ told. tt;
  below = tt;
  can = tt;
  durable = tt;
  refused =
      refused_spent g.F.Folder.tells_files c.in-Ok.names (g.F.Folder.files c.args.folder.now) (g.F.Folder.files c.read_listed.new.folder) (g.F.Folder.folder_faults c.args.folder.now) (g.F.Folder.folder_faults c.read_listed.new.folder) (subst (λ (k : Kept). 16777215 ≤ k.epoch) c.names.view_is c.if-names-ge-LAST_EPOCH.true) c.in-Ok.ensures.keeps
      c.read_listed.ensures.same;
  faults = c.read_listed.ensures.faults;
}

pub returns-in-Ok-set_aside_unlisted : goal.returns-in-Ok-set_aside_unlisted
returns-in-Ok-set_aside_unlisted g c =
    let topics : c.deref.result.now ≡ c.in-Ok.names.topics = c.deref.ensures.value ∙ ap (λ (x : Kept). x.topics) c.names.view_is in
    record {
      ready = λ told. record {
        keeps = c.in-Ok.ensures.keeps told;
        swept = swept_from c.in-Ok.names.topics (g.F.Folder.files c.args.folder.now) (g.F.Folder.files c.read_listed.new.folder) (g.F.Folder.files c.set_aside_unlisted.new.folder) (c.read_listed.ensures.same told)
            (subst (λ ts. IsSweptTo ts (g.F.Folder.files c.read_listed.new.folder) (g.F.Folder.files c.set_aside_unlisted.new.folder)) topics (c.set_aside_unlisted.ensures.swept told));
        only = subst (λ ts. HasOnlyListed ts (g.F.Folder.files c.set_aside_unlisted.new.folder)) topics (c.in-Ok-set_aside_unlisted.ensures.only told);
      };
      below = subst (λ (k : Kept). k.epoch < 16777215) c.names.view_is c.if-names-ge-LAST_EPOCH.false;
      can = c.in-Ok.ensures.can;
      durable = c.in-Ok.ensures.durable;
      refused = tt;
      faults = le_trans c.read_listed.ensures.faults c.set_aside_unlisted.ensures.faults;
    }

pub returns-in-Err-set_aside_unlisted : goal.returns-in-Err-set_aside_unlisted
returns-in-Err-set_aside_unlisted g c =
    let topics : c.deref.result.now ≡ c.in-Ok.names.topics = c.deref.ensures.value ∙ ap (λ (x : Kept). x.topics) c.names.view_is in
    record {
      ready = λ told. tt;
      below = tt;
      can = tt;
      durable = tt;
      refused =
          subst (λ why. IsRefusal why g.F.Folder.tells_files (g.F.Folder.files c.args.folder.now) (g.F.Folder.files c.set_aside_unlisted.new.folder) (g.F.Folder.folder_faults c.args.folder.now) (g.F.Folder.folder_faults c.set_aside_unlisted.new.folder)) (sym c.why_unswept.ensures)
          (refused_sweeping c.in-Err-set_aside_unlisted.unswept g.F.Folder.tells_files c.in-Ok.names c.in-Ok.ensures.can (subst (λ (k : Kept). k.epoch < 16777215) c.names.view_is c.if-names-ge-LAST_EPOCH.false) (g.F.Folder.files c.args.folder.now) (g.F.Folder.files c.read_listed.new.folder)
          (g.F.Folder.files c.set_aside_unlisted.new.folder) (g.F.Folder.folder_faults c.args.folder.now) (g.F.Folder.folder_faults c.read_listed.new.folder) (g.F.Folder.folder_faults c.set_aside_unlisted.new.folder) c.read_listed.ensures.faults c.in-Ok.ensures.keeps c.read_listed.ensures.same
          (λ told. subst (λ ts. IsSweptTo ts (g.F.Folder.files c.read_listed.new.folder) (g.F.Folder.files c.set_aside_unlisted.new.folder)) topics (c.set_aside_unlisted.ensures.swept told)) c.in-Err-set_aside_unlisted.ensures.cause);
      faults = le_trans c.read_listed.ensures.faults c.set_aside_unlisted.ensures.faults;
    }
