use Rattle.std.proofs.Common.{arith}
use Rattle.serde_json.specs.View.{view}
use Rattle.names_reading.proofs.Listing.{all_read, failed, no_value, none_read, on_value, text_bad, text_long}
use Rattle.names_reading.proofs.Keepable.{topics_can, topics_durable, epoch_small}
use Rattle.names_reading.proofs.names.read_names.Goals as goal

pub returns-then-text-gt-LONGEST_DATA : goal.returns-then-text-gt-LONGEST_DATA
returns-then-text-gt-LONGEST_DATA c = record { names = tt; epoch = tt; can = tt; durable = tt; bad = λ b. text_long c.args.text.now (omega (arith, c.if-text-gt-LONGEST_DATA.true)) }

pub returns-in_err-value : goal.returns-in_err-value
returns-in_err-value c =
    let r = c.from_residual.result in
    let is = c.from_residual.ensures.0 in
    record {
      names = no_value r _ is;
      epoch = no_value r _ is;
      can = no_value r _ is;
      durable = no_value r _ is;
      bad = failed r c.in_err-value.field-0.0 c.from_residual.ensures (λ b. text_bad c.args.text.now (c.in_err-value.ensures.bad b));
    }

pub returns : goal.returns
returns c =
    let text = c.args.text.now in
    let d = view c.in_ok-value.value in
    let r = c.names_in.result in
    let keeps = c.names_in.ensures.value in
    record {
      names = all_read text d r (omega (arith, c.if-text-gt-LONGEST_DATA.false)) c.in_ok-value.ensures.value.0 c.in_ok-value.ensures.value.1 keeps;
      epoch = on_value r _ _ (λ kept k. epoch_small _ _ k.epoch) keeps;
      can = on_value r _ _ (λ kept k. topics_can _ _ k.topics) keeps;
      durable = on_value r _ _ (λ kept k. topics_durable _ _ k.topics) keeps;
      bad = none_read text d r c.in_ok-value.ensures.value.1 c.names_in.ensures.bad;
    }
