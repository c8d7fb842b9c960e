use Rattle.std.proofs.Common.{refl}
use Rattle.std.proofs.lemmas.Result.{err_from_is_err_and}
use Rattle.nsq_system.proofs.Noted.{on_good, changes_nothing, asked_nothing, forgotten}
use Rattle.nsq_system.proofs.open_files.OpenFiles.remove.Goals as goal

pub returns-in_err-set_path : goal.returns-in_err-set_path
returns-in_err-set_path g c =
    let p = err_from_is_err_and c.from_residual.result c.from_residual.ensures.1 in
    rw (p.1, p.2) (record {
      closed = c.forget.ensures.closed;
      folder = refl;
      gone = tt;
      unknown = asked_nothing c.args.self.now.known.names c.in_err-set_path.field-0.0 c.in_err-set_path.ensures.kind;
      others = changes_nothing c.args.self.now.known.names c.args.name.now;
    })

pub returns : goal.returns
returns g c = record {
  closed = c.forget.ensures.closed;
  folder = refl;
  gone = on_good c.remove_file-removed.result c.note_removed.ensures.gone;
  unknown = forgotten c.note_removed.new.self.names c.remove_file-removed.result c.note_removed.ensures.unknown;
  others = c.note_removed.ensures.others;
}
