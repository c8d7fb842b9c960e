use Rattle.std.proofs.Common.{◌+◌, ◌-◌, ◌^◌, min, ap, sym, ◌∙◌}
use Rattle.nsq_fakes.specs.declared.folder_calls.FolderCall.TheVariants.{Any}
use Rattle.nsq_fakes.proofs.folder_calls.Counts.count.Goals as goal

pub returns-clause-counted : goal.returns-clause-counted
returns-clause-counted c =
    record {
      of_one = c.requires;
      here = c.raise-2.ensures.others c.args.call c.requires ∙ c.raise.ensures.here;
      all = c.raise-2.ensures.here ∙ ap (λ n. min (n + 1) (2 ^ 64 - 1)) (c.raise.ensures.others Any (λ same. c.requires (sym same)));
      others = λ other not_call not_any. c.raise-2.ensures.others other not_any ∙ c.raise.ensures.others other not_call;
    }
