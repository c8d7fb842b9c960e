use Rattle.std.proofs.Common.{refl, ap}
use Rattle.std.proofs.lemmas.Result.{err_from_is_err_and}
use Rattle.nsq_system.proofs.open_files.OpenFiles.move_to.Goals as goal

pub returns-in_err-folder : goal.returns-in_err-folder
returns-in_err-folder g c =
    let p = err_from_is_err_and c.from_residual.result c.from_residual.ensures.1 in
    rw (p.1) (record { path = tt; closed = tt; unknown = tt; err = refl })

pub returns : goal.returns
returns g c = record {
  path = c.in_ok-folder.ensures;
  closed = ap (λ opened. opened.entries) c.clear.ensures;
  unknown = c.forget.ensures;
  err = tt;
}
