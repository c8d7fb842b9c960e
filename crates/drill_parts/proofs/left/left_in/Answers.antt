use Rattle.std.proofs.Common.{◌≡◌, Some, ap, sym, subst, ◌∙◌}
use Rattle.std.proofs.lemmas.Result.{IfOk-weaker}
use Rattle.nsq_fakes.specs.MemFolders.{files_in}
use Rattle.path_image.specs.Data.{Kept, data_name}
use Rattle.path_image.specs.Found.{FindsTopic, Pairwise}
use Rattle.drill_parts.proofs.Lefts.{all_counted, bad_names_none, option_weaker, topics_none}
use Rattle.drill_parts.proofs.left.left_in.Goals as goal

pub returns-in-Ok : goal.returns-in-Ok
returns-in-Ok c =
    let files = files_in c.args.folder.now in
    let text : files data_name ≡ Some c.in-Some.text.now = sym c.in-Some.ensures in
    let topics : c.in-Ok.names.topics ≡ c.deref.result.now = sym (c.deref.ensures.value ∙ ap (λ (k : Kept). k.topics) c.names.view_is) in
    IfOk-weaker c.in_topics.result _ _
    (λ o m. option_weaker o _ _ _ _ (λ none. topics_none files c.in-Some.text.now c.in-Ok.names text c.in-Ok.ensures.names (λ ts p. none ts (subst (λ ks. Pairwise (FindsTopic files) ks ts) topics p)))
    (λ n counts. all_counted files n c.in-Some.text.now c.in-Ok.names text c.in-Ok.ensures.names (λ ts p. counts ts (subst (λ ks. Pairwise (FindsTopic files) ks ts) topics p))) m) c.in_topics.ensures

pub returns-in-Err-Bad : goal.returns-in-Err-Bad
returns-in-Err-Bad c = bad_names_none (files_in c.args.folder.now) c.in-Some.text.now (sym c.in-Some.ensures) (c.in-Err-Bad.ensures.bad c.in-Err-Bad.field-0-is)
