use Rattle.std.proofs.Common.{Some, ◌∙◌, ap, sym, ℕ, Vec}
use Rattle.std.specs.declared.alloc.Global.{Global}
use Rattle.path_image.specs.Data.{data_name}
use Rattle.broker_floor.proofs.Texts.{kept_read, kept_unread, text_found}
use Rattle.broker_floor.proofs.path.reading.read_listed.Goals as goal

pub returns-in-Some-clause-keeps : goal.returns-in-Some-clause-keeps
returns-in-Some-clause-keeps g c = λ told.
    kept_read c.read_kept.result (g.F.Folder.files c.args.folder.now) c.deref.result.now (text_found (λ (v : Vec ℕ Global). v.items) (g.F.Folder.files c.args.folder.now data_name) c.in-Ok.found c.in-Some.text (c.in-Ok.ensures.text told) c.in-Some.is ∙ ap Some (sym c.deref.ensures.value)) c.read_kept.ensures.names

pub returns-in-Some-clause-why : goal.returns-in-Some-clause-why
returns-in-Some-clause-why g c =
    kept_unread c.read_kept.result g.F.Folder.tells_files (g.F.Folder.files c.args.folder.now) c.deref.result.now (g.F.Folder.folder_faults c.args.folder.now) _
    (λ told. text_found (λ (v : Vec ℕ Global). v.items) (g.F.Folder.files c.args.folder.now data_name) c.in-Ok.found c.in-Some.text (c.in-Ok.ensures.text told) c.in-Some.is ∙ ap Some (sym c.deref.ensures.value)) c.read_kept.ensures.why
