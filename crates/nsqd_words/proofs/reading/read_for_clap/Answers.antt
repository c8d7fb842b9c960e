use Rattle.std.proofs.Common.{map}
use Rattle.std.specs.Prelude.{string_bytes}
use Rattle.std.proofs.lemmas.Result.{IfOk-weaker}
use Rattle.clap.specs.Simple.{app_of}
use Rattle.clap.specs.Values.{kind_of}
use Rattle.nsqd_words.specs.Command.{found_in, refusal_of}
use Rattle.nsqd_words.proofs.Refusals.{one_refusal}
use Rattle.nsqd_words.proofs.SayingLemmas.{asked_by_found, asked_by_kind, free, kinds_of, rows_are}
use Rattle.nsqd_words.proofs.reading.read_for_clap.Goals as goal

pub returns-in-Ok : goal.returns-in-Ok
returns-in-Ok c =
    let words = map string_bytes c.args.words.now in
    let app = app_of c.in_ok-command.command in
    let rows = rows_are app words c.in-Ok.matches c.in_ok-command.ensures c.in-Ok.ensures.matches in
    let none = free app words c.in_ok-command.ensures c.in-Ok.ensures.kinds in
    IfOk-weaker c.by_matches.result _ _ (λ r a. asked_by_found (refusal_of words) (found_in words) _ r none rows a) c.by_matches.ensures

pub returns-in-Err : goal.returns-in-Err
returns-in-Err c =
    let words = map string_bytes c.args.words.now in
    let kinds = kinds_of (app_of c.in_ok-command.command) words c.in-Err.error c.in_ok-command.ensures c.in-Err.ensures.kinds in
    IfOk-weaker c.by_kind.result _ _ (λ r a. asked_by_kind (refusal_of words) (found_in words) (kind_of c.in-Err.error) r (one_refusal words) kinds a) c.by_kind.ensures
