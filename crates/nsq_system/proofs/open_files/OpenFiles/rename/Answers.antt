use Rattle.std.proofs.Common.{refl}
use Rattle.std.proofs.lemmas.Result.{err_from_is_err_and}
use Rattle.nsq_system.proofs.Noted.{on_good, moves_nothing, asked_nothing, forgotten}
use Rattle.nsq_system.proofs.open_files.OpenFiles.rename.Goals as goal

pub returns-in_err-set_path : goal.returns-in_err-set_path
returns-in_err-set_path g c =
    let p = err_from_is_err_and c.from_residual.result c.from_residual.ensures.1 in
    rw (p.1, p.2) (record {
      closed = c.forget-2.ensures.others c.args.from.now c.forget.ensures.closed;
      replaced = c.forget-2.ensures.closed;
      folder = refl;
      gone = tt;
      here = tt;
      unknown = asked_nothing c.args.self.now.known.names c.in_err-set_path.field-0.0 c.in_err-set_path.ensures.kind;
      others = moves_nothing c.args.self.now.known.names c.args.from.now c.args.to.now;
    })

pub returns-in_err-set_path-2 : goal.returns-in_err-set_path-2
returns-in_err-set_path-2 g c =
    let p = err_from_is_err_and c.from_residual-in_err-set_path-2.result c.from_residual-in_err-set_path-2.ensures.1 in
    rw (p.1, p.2) (record {
      closed = c.forget-2.ensures.others c.args.from.now c.forget.ensures.closed;
      replaced = c.forget-2.ensures.closed;
      folder = refl;
      gone = tt;
      here = tt;
      unknown = asked_nothing c.args.self.now.known.names c.in_err-set_path-2.field-0.0 c.in_err-set_path-2.ensures.kind;
      others = moves_nothing c.args.self.now.known.names c.args.from.now c.args.to.now;
    })

pub returns : goal.returns
returns g c = record {
  closed = c.forget-2.ensures.others c.args.from.now c.forget.ensures.closed;
  replaced = c.forget-2.ensures.closed;
  folder = refl;
  gone = on_good c.rename-renamed.result c.note_renamed.ensures.gone;
  here = c.note_renamed.ensures.here;
  unknown = forgotten c.note_renamed.new.self.names c.rename-renamed.result c.note_renamed.ensures.unknown;
  others = c.note_renamed.ensures.others;
}
