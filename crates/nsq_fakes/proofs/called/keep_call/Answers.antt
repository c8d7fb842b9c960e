use Rattle.std.proofs.Common.{◌++◌, ◌∷◌, [], List, ap, ◌∙◌}
use Rattle.std.proofs.lemmas.Result.{IfOk-from_err}
use Rattle.nsq_fakes.specs.Made.{Made}
use Rattle.nsq_fakes.proofs.Results.{on_err}
use Rattle.nsq_fakes.proofs.called.keep_call.Goals as goal

pub returns-in_err-reserve : goal.returns-in_err-reserve
returns-in_err-reserve c = record {
  ok = IfOk-from_err c.from_residual.result _ c.from_residual.ensures.0;
  err = on_err c.from_residual.result c.reserve.ensures.items;
}

pub returns-in_err-call_of : goal.returns-in_err-call_of
returns-in_err-call_of c = record {
  ok = IfOk-from_err c.from_residual-in_err-call_of.result _ c.from_residual-in_err-call_of.ensures.0;
  err = on_err c.from_residual-in_err-call_of.result c.reserve.ensures.items;
}

pub returns : goal.returns
returns c = record {
  ok = c.push_reserved.ensures.items ∙ ap (λ (calls : List Made). calls ++ c.in_ok-call_of.field-0 ∷ []) c.reserve.ensures.items ∙ ap (λ (call : Made). c.args.list.now.items ++ call ∷ []) c.in_ok-call_of.ensures;
  err = tt;
}
