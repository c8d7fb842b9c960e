use Rattle.std.proofs.Common.{◌<◌, sym, ap, subst, ◌∙◌, arith}
use Rattle.path_plain.specs.Folders.{files_of}
use Rattle.path_image.specs.Data.{Kept, IsNames, last_epoch}
use Rattle.path_image.specs.Found.{IsFound, Names}
use Rattle.path_image.specs.Found.IsFound.{fresh, spoilt, spent}
use Rattle.path_plain.proofs.FindingLemmas.{epoch_bound, bad_found, names_found}
use Rattle.path_plain.proofs.findings.found.Goals as goal

pub returns-in_default : goal.returns-in_default
returns-in_default c = subst (λ ts. IsFound (files_of c.args.files.now) (Names (record { epoch = 0; topics = ts }))) (sym c.new.ensures.items) (fresh (sym c.in_default.ensures))

pub returns-in_default-2 : goal.returns-in_default-2
returns-in_default-2 c = spoilt c.in-Some.text.now (sym c.in-Some.ensures) (rw c.in_default-2.is at c.in_ok-kept.ensures)

pub returns-then-from-eq-LAST_EPOCH : goal.returns-then-from-eq-LAST_EPOCH
returns-then-from-eq-LAST_EPOCH c =
    let kept : IsNames c.in-Some.text.now c.in-Some-2.kept = rw c.in-Some-2.is at c.in_ok-kept.ensures in
    spent c.in-Some.text.now c.in-Some-2.kept (sym c.in-Some.ensures) kept (omega (arith, ap (λ (k : Kept). k.epoch) c.kept.view_is, c.from.ensures, c.if-from-eq-LAST_EPOCH.true))

pub returns-in_default-3 : goal.returns-in_default-3
returns-in_default-3 c =
    let kept : IsNames c.in-Some.text.now c.in-Some-2.kept = rw c.in-Some-2.is at c.in_ok-kept.ensures in
    let most = epoch_bound c.in-Some.text.now c.in-Some-2.kept kept in
    let below : c.in-Some-2.kept.epoch < last_epoch = omega (arith, most, ap (λ (k : Kept). k.epoch) c.kept.view_is, c.from.ensures, c.if-from-eq-LAST_EPOCH.false) in
    bad_found (files_of c.args.files.now) c.in-Some.text.now c.in-Some-2.kept c.deref.result.now (sym c.in-Some.ensures) kept below (c.deref.ensures.value ∙ ap (λ (k : Kept). k.topics) c.kept.view_is)
    (rw c.in_default-3.is at c.in_ok-topics.ensures)

pub returns : goal.returns
returns c =
    let kept : IsNames c.in-Some.text.now c.in-Some-2.kept = rw c.in-Some-2.is at c.in_ok-kept.ensures in
    let most = epoch_bound c.in-Some.text.now c.in-Some-2.kept kept in
    let below : c.in-Some-2.kept.epoch < last_epoch = omega (arith, most, ap (λ (k : Kept). k.epoch) c.kept.view_is, c.from.ensures, c.if-from-eq-LAST_EPOCH.false) in
    names_found (files_of c.args.files.now) c.in-Some.text.now c.in-Some-2.kept c.deref.result.now _ (sym c.in-Some.ensures) kept below (c.deref.ensures.value ∙ ap (λ (k : Kept). k.topics) c.kept.view_is)
    (ap (λ (k : Kept). k.epoch) c.kept.view_is) (rw c.in-Some-3.is at c.in_ok-topics.ensures)
