use Rattle.std.proofs.Common.{◌∙◌, refl, sym, subst}
use Rattle.broker_history.specs.Entries.{own}
use Rattle.http_calls.specs.declared.call.HttpCall.{HttpCall}
use Rattle.http_calls.specs.Calls.{CanBeAsked, HasStatus, call_for}
use Rattle.http_calls.specs.Refusals.{refused_answer}
use Rattle.daemon_callers.specs.Responses.{AnswersCall, RespondsTo}
use Rattle.daemon_callers.proofs.ListLemmas.{lists_none}
use Rattle.daemon_callers.proofs.ResponseLemmas.{responds, unanswered, wants, wants_none}
use Rattle.daemon_callers.proofs.http.asking.respond.Goals as goal

pub returns-in_err-call : goal.returns-in_err-call
returns-in_err-call g c = record {
  responds = λ tells none.
      let call = call_for c.args.options.now c.args.began c.args.request in
      wants c.args.began call c.args.number _ c.from_residual.result c.from_residual.ensures.0 (wants_none c.args.began call c.args.number _ none);
  status = unanswered c.from_residual.result c.from_residual.ensures.0;
  number = refl;
  wanted = refl;
  leads = g.met.D.Desk.stays _;
}

pub returns-in-Refused : goal.returns-in-Refused
returns-in-Refused g c = record {
  responds = λ tells none.
      let seen = g.D.Desk.seen c.args.desk.now in
      let answer = refused_answer c.in-Refused.refusal in
      responds c.args.began (call_for c.args.options.now c.args.began c.args.request) c.args.number seen c.answer.result answer c.answer.ensures.value
      (subst (λ (x : HttpCall). AnswersCall c.args.began x (own c.args.number seen) answer) (sym c.in-Refused.is ∙ c.in_ok-call.ensures.value) (none, refl)) (lists_none c.args.number seen none);
  status = c.answer.ensures.status;
  number = refl;
  wanted = refl;
  leads = g.met.D.Desk.stays _;
}

pub returns-in-Answered : goal.returns-in-Answered
returns-in-Answered g c = record {
  responds = λ tells none.
      let seen = g.D.Desk.seen c.args.desk.now in
      (subst (λ (x : HttpCall). AnswersCall c.args.began x (own c.args.number seen) c.in-Answered.answer) (sym c.in-Answered.is ∙ c.in_ok-call.ensures.value) (none, refl), lists_none c.args.number seen none);
  status = subst HasStatus c.in-Answered.is c.in_ok-call.ensures.status;
  number = refl;
  wanted = refl;
  leads = g.met.D.Desk.stays _;
}

pub returns-in-Asks : goal.returns-in-Asks
returns-in-Asks g c =
    let did = c.respond_to_ask.ensures in
    record {
      responds = λ tells none.
          subst (λ (x : HttpCall). RespondsTo c.args.began x c.args.number (g.D.Desk.seen c.respond_to_ask.new.desk) c.respond_to_ask.result) (sym c.in-Asks.is ∙ c.in_ok-call.ensures.value) (did.responds tells none);
      status = did.status;
      number = did.number;
      wanted = did.wanted;
      leads = did.leads;
    }

pub returns-in-Stops : goal.returns-in-Stops
returns-in-Stops g c =
    let did = c.respond_to_stop.ensures in
    record {
      responds = λ tells none.
          subst (λ (x : HttpCall). RespondsTo c.args.began x c.args.number (g.D.Desk.seen c.respond_to_stop.new.desk) c.respond_to_stop.result) (sym c.in-Stops.is ∙ c.in_ok-call.ensures.value)
          (did.responds c.args.began tells none);
      status = did.status;
      number = did.number;
      wanted = did.wanted;
      leads = did.leads;
    }

pub respond_to_ask-requires-clause-number : goal.respond_to_ask-requires-clause-number
respond_to_ask-requires-clause-number g c = c.requires.number

pub respond_to_ask-requires-clause-can : goal.respond_to_ask-requires-clause-can
respond_to_ask-requires-clause-can g c = subst CanBeAsked c.in-Asks.is c.in_ok-call.ensures.can_be_asked
