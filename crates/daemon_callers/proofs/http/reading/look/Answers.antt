use Rattle.std.proofs.Common.{◌∙◌, sym, subst}
use Rattle.http_wire.specs.declared.got.GotRequest.{GotRequest}
use Rattle.http_wire.specs.Reading.{Gives}
use Rattle.daemon_callers.proofs.ComingLemmas.{looks_refused}
use Rattle.daemon_callers.proofs.http.reading.look.Goals as goal

pub returns-in-Some : goal.returns-in-Some
returns-in-Some c = record {
  looks = looks_refused c.args.reader.now.limit c.args.reader.now.bytes c.next-got.result c.in-Some.refusal c.next-got.ensures.given (sym c.in-Some.is ∙ c.refusal_of.ensures);
  same = c.next-got.ensures.same;
}

pub returns-in-Whole : goal.returns-in-Whole
returns-in-Whole c = record {
  looks = subst (λ (x : GotRequest). Gives c.args.reader.now.limit c.args.reader.now.bytes x) c.in-Whole.is c.next-got.ensures.given;
  same = c.next-got.ensures.same;
}

pub returns-in-More : goal.returns-in-More
returns-in-More c = record {
  looks = subst (λ (x : GotRequest). Gives c.args.reader.now.limit c.args.reader.now.bytes x) c.in-More.is c.next-got.ensures.given;
  same = c.next-got.ensures.same;
}
