use Rattle.std.proofs.Common.{refl, sym, ◌∙◌, ap, is_some}
use Rattle.std.proofs.lemmas.Bool.{false≢true}
use Rattle.std.proofs.lemmas.Result.{err_from_is_err_and, on_ok_weaker}
use Rattle.nsq_system.proofs.Noted.{changes_nothing, asked_nothing}
use Rattle.nsq_system.proofs.open_files.OpenFiles.open.Goals as goal

pub returns-then-contains : goal.returns-then-contains
returns-then-contains g c = record {
  folder = refl;
  known = λ _. refl;
  here = λ _ closed. absurd (false≢true (sym (c.if-contains.ensures ∙ ap is_some closed)));
  unknown = λ _. tt;
  others = changes_nothing c.args.self.now.known.names c.args.name.now;
}

pub returns-in_err-set_path : goal.returns-in_err-set_path
returns-in_err-set_path g c =
    let p = err_from_is_err_and c.from_residual.result c.from_residual.ensures.1 in
    rw (p.1, p.2) (record {
      folder = refl;
      known = λ _. refl;
      here = tt;
      unknown = λ _. asked_nothing c.args.self.now.known.names c.in_err-set_path.field-0.0 c.in_err-set_path.ensures.kind;
      others = changes_nothing c.args.self.now.known.names c.args.name.now;
    })

pub returns : goal.returns
returns g c = record {
  folder = refl;
  known = c.keep_made.ensures.known;
  here = on_ok_weaker c.keep_made.result (λ here creates _. here creates) c.keep_made.ensures.here;
  unknown = c.keep_made.ensures.unknown;
  others = c.keep_made.ensures.others;
}
