use Rattle.std.proofs.Common.{◌≡◌, ◌++◌, ◌∷◌, [], inl, inr, map, string_bytes, ap, refl, arith}
use Rattle.std.proofs.Math.Nat.{le_of_eq}
use Rattle.nsq_fakes.proofs.Results.{from_ok, from_err}
use Rattle.nsq_fakes.proofs.dialer.MemDialer.dial.Goals as goal

pub returns-then-is_err : goal.returns-then-is_err
returns-then-is_err c = record {
  told = (refl, inr (ap (map string_bytes) (from_err c.keep.result (c.keep.new.texts.items ≡ c.args.self.now.asked.items) c.if-is_err.ensures.value c.keep.ensures.err)), refl);
  fresh = tt;
  faults = c.add.ensures.faults;
  cause = c.add.ensures.rose;
  counted = c.add.ensures.counted;
  one = omega arith;
  first = refl;
}

pub returns-then-is_empty : goal.returns-then-is_empty
returns-then-is_empty c = record {
  told = (refl, inl (from_ok c.keep.result (map string_bytes c.keep.new.texts.items ≡ map string_bytes c.args.self.now.asked.items ++ c.args.address.now ∷ []) c.if-is_err.ensures.value c.keep.ensures.ok), refl);
  fresh = tt;
  faults = c.add-then-is_empty.ensures.faults;
  cause = c.add-then-is_empty.ensures.rose;
  counted = c.add-then-is_empty.ensures.counted;
  one = omega arith;
  first = refl;
}

pub returns-then-is_err-2 : goal.returns-then-is_err-2
returns-then-is_err-2 c = record {
  told = (refl, inl (from_ok c.keep.result (map string_bytes c.keep.new.texts.items ≡ map string_bytes c.args.self.now.asked.items ++ c.args.address.now ∷ []) c.if-is_err.ensures.value c.keep.ensures.ok), ap (map string_bytes) (from_err c.keep-2.result (c.keep-2.new.texts.items ≡ c.args.self.now.linked.items) c.if-is_err-2.ensures.value c.keep-2.ensures.err));
  fresh = tt;
  faults = c.add-then-is_err-2.ensures.faults;
  cause = c.add-then-is_err-2.ensures.rose;
  counted = c.add-then-is_err-2.ensures.counted;
  one = c.keep-2.ensures.one;
  first = refl;
}

pub returns : goal.returns
returns c = record {
  told = (c.first_of.ensures.left, from_ok c.keep.result (map string_bytes c.keep.new.texts.items ≡ map string_bytes c.args.self.now.asked.items ++ c.args.address.now ∷ []) c.if-is_err.ensures.value c.keep.ensures.ok, from_ok c.keep-2.result (map string_bytes c.keep-2.new.texts.items ≡ map string_bytes c.args.self.now.linked.items ++ c.args.address.now ∷ []) c.if-is_err-2.ensures.value c.keep-2.ensures.ok);
  fresh = c.first_of.ensures.unused;
  faults = le_of_eq refl;
  cause = tt;
  counted = refl;
  one = c.keep-2.ensures.one;
  first = (c.first_of.ensures.first, c.first_of.ensures.rest);
}
