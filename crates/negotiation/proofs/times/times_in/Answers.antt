use Rattle.std.proofs.Common.{is_some, ap}
use Rattle.serde_json.specs.View.{view}
use Rattle.negotiation.proofs.Joining.{no_heartbeat, no_timeout, no_rate, no_size, no_span, no_level, good_times}
use Rattle.negotiation.proofs.times.times_in.Goals as goal

pub returns-in_default : goal.returns-in_default
returns-in_default c = record {
  value = λ ms is. no_heartbeat c.args.options.now (view c.args.value.now) ms is c.number_in.result c.heartbeat_of.result c.number_in.ensures c.heartbeat_of.ensures.value (ap is_some c.in_default.is);
  heartbeat = tt;
  timeout = tt;
}

pub returns-in_default-timeout_of : goal.returns-in_default-timeout_of
returns-in_default-timeout_of c = record {
  value = λ ms is. no_timeout c.args.options.now (view c.args.value.now) ms is c.number_in-2.result c.timeout_of.result c.number_in-2.ensures c.timeout_of.ensures.value (ap is_some c.in_default-timeout_of.is);
  heartbeat = tt;
  timeout = tt;
}

pub returns-then-not-is_rate : goal.returns-then-not-is_rate
returns-then-not-is_rate c = record {
  value = λ ms is. no_rate c.args.options.now (view c.args.value.now) ms is c.number_in-3.result c.is_rate.result c.number_in-3.ensures c.is_rate.ensures c.if-not-is_rate.true;
  heartbeat = tt;
  timeout = tt;
}

pub returns-then-is_none : goal.returns-then-is_none
returns-then-is_none c = record {
  value = λ ms is. no_size c.args.options.now (view c.args.value.now) ms is c.number_in-4.result c.is_none.result c.number_in-4.ensures c.is_none.ensures c.if-is_none.true;
  heartbeat = tt;
  timeout = tt;
}

pub returns-then-is_none-2 : goal.returns-then-is_none-2
returns-then-is_none-2 c = record {
  value = λ ms is. no_span c.args.options.now (view c.args.value.now) ms is c.number_in-5.result c.is_none-2.result c.number_in-5.ensures c.is_none-2.ensures c.if-is_none-2.true;
  heartbeat = tt;
  timeout = tt;
}

pub returns-then-is_none-3 : goal.returns-then-is_none-3
returns-then-is_none-3 c = record {
  value = λ ms is. no_level c.args.options.now (view c.args.value.now) ms is c.number_in-6.result c.is_none-3.result c.number_in-6.ensures c.is_none-3.ensures c.if-is_none-3.true;
  heartbeat = tt;
  timeout = tt;
}

pub returns : goal.returns
returns c = record {
  value = λ ms is.
      good_times c.args.options.now (view c.args.value.now) ms is c.number_in.result c.number_in-2.result c.number_in-3.result c.number_in-4.result c.number_in-5.result c.number_in-6.result c.in-Some.heartbeat c.in-Some-timeout_of.timeout
      c.is_rate.result c.is_none.result c.is_none-2.result c.is_none-3.result
      c.number_in.ensures c.in-Some.ensures.value c.number_in-2.ensures c.in-Some-timeout_of.ensures.value c.number_in-3.ensures c.is_rate.ensures c.if-not-is_rate.false
      c.number_in-4.ensures c.is_none.ensures c.if-is_none.false c.number_in-5.ensures c.is_none-2.ensures c.if-is_none-2.false c.number_in-6.ensures c.is_none-3.ensures c.if-is_none-3.false;
  heartbeat = c.in-Some.ensures.most;
  timeout = c.in-Some-timeout_of.ensures.most;
}
