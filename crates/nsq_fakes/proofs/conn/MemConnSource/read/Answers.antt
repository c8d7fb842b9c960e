use Rattle.std.proofs.Common.{◌≡◌, ◌-◌, ◌≤◌, ◌++◌, ◌∷◌, [], ℕ, List, true, length, take, refl, ap, sym, ◌∙◌, subst, inl, inr, rules, arith}
use Rattle.std.proofs.lemmas.Bool.{false≢true, eqb-true}
use Rattle.std.proofs.lemmas.List.{nil_from_length, length-drop}
use Rattle.std.proofs.Math.Nat.{le_of_eq}
use Rattle.nsq_outside.specs.Causes.{Rose, CountsFault}
use Rattle.nsq_fakes.specs.MemConns.{pieces_of}
use Rattle.nsq_fakes.specs.Pieces.{front_bytes}
use Rattle.nsq_fakes.specs.Scripts.{to_come, rest_of}
use Rattle.nsq_fakes.proofs.Callers.{some_there}
use Rattle.nsq_fakes.proofs.PassedBytes.{piece_read, rest_kept}
use Rattle.nsq_fakes.proofs.Results.{from_ok}
use Rattle.nsq_fakes.proofs.conn.MemConnSource.read.Goals as goal

pub returns-then-self : goal.returns-then-self
returns-then-self g c = record {
  amount = tt;
  told = (refl, refl, c.args.self.now.at_end c.if-self.true);
  buffer = refl;
  end = c.if-self.true;
  written = refl;
  write_faults = le_of_eq refl;
  faults = le_of_eq refl;
  cause = tt;
  counted = refl;
  calls = λ more. absurd (false≢true (sym more ∙ c.if-self.true));
  over = λ _. refl;
  script = (refl, inl c.if-self.true);
  writes = refl;
}

pub returns-then-next_fails : goal.returns-then-next_fails
returns-then-next_fails g c = record {
  amount = tt;
  told = (refl, refl);
  buffer = refl;
  end = (c.if-self.false, c.if-self.false);
  written = refl;
  write_faults = le_of_eq refl;
  faults = c.next_fails.ensures.faults;
  cause = c.if-next_fails.ensures.cause refl;
  counted = c.if-next_fails.ensures.fault;
  calls = λ _. (c.next_fails.ensures.counted, λ _. refl);
  over = λ ended. absurd (false≢true (sym c.if-self.false ∙ ended));
  script = (refl, inl (c.if-next_fails.ensures.failing.0 refl));
  writes = refl;
}

pub returns-in_default : goal.returns-in_default
returns-in_default g c = record {
  amount = tt;
  told = (refl, c.pass_mark.ensures.bytes);
  buffer = refl;
  end = (c.if-self.false, c.if-self.false);
  written = refl;
  write_faults = le_of_eq refl;
  faults = c.next_fails.ensures.faults;
  cause = tt;
  counted = c.if-next_fails.ensures.fault;
  calls = λ _. (c.next_fails.ensures.counted, λ failing. absurd (false≢true (c.if-next_fails.ensures.failing.1 failing)));
  over = λ ended. absurd (false≢true (sym c.if-self.false ∙ ended));
  script = (c.in_default.ensures.mark, c.pass_mark.ensures.passed);
  writes = refl;
}

pub returns-then-is_empty : goal.returns-then-is_empty
returns-then-is_empty g c = record {
  amount = tt;
  told = (refl, refl, c.in-Some.ensures.end (eqb-true _ _ (sym c.if-is_empty.ensures)));
  buffer = refl;
  end = refl;
  written = refl;
  write_faults = le_of_eq refl;
  faults = c.next_fails.ensures.faults;
  cause = tt;
  counted = c.if-next_fails.ensures.fault;
  calls = λ _. (c.next_fails.ensures.counted, λ failing. absurd (false≢true (c.if-next_fails.ensures.failing.1 failing)));
  over = λ ended. absurd (false≢true (sym c.if-self.false ∙ ended));
  script = (refl, inr (sym c.in-Some.ensures.rest ∙ nil_from_length c.in-Some.rest.now (eqb-true _ _ (sym c.if-is_empty.ensures)), c.in-Some.ensures.no_mark));
  writes = refl;
}

pub returns-then-is_err : goal.returns-then-is_err
returns-then-is_err g c = record {
  amount = tt;
  told = (search rules, refl);
  buffer = refl;
  end = (c.if-self.false, c.if-self.false);
  written = refl;
  write_faults = le_of_eq refl;
  faults = subst (λ (n : ℕ). n ≤ c.add.new.self.count) c.if-next_fails.ensures.fault c.add.ensures.faults;
  cause = subst (λ (n : ℕ). Rose n c.add.new.self.count) c.if-next_fails.ensures.fault c.add.ensures.rose;
  counted = subst (λ (n : ℕ). CountsFault n c.add.new.self.count true) c.if-next_fails.ensures.fault c.add.ensures.counted;
  calls = λ _. (c.next_fails.ensures.counted, λ _. refl);
  over = λ ended. absurd (false≢true (sym c.if-self.false ∙ ended));
  script = (refl, inr (search rules));
  writes = refl;
}

pub returns : goal.returns
returns g c = record {
  amount = search rules;
  told = (
    from_ok c.keep.result _ c.if-is_err.ensures.value c.keep.ensures.ok ∙ ap (λ (piece : List ℕ). pieces_of c.args.self.now ++ piece ∷ []) (sym (piece_read c.args.into.now c.copy_from_slice.new.self c.in-Some.rest.now c.min-count.result c.copy_from_slice.ensures.after (omega (arith, c.min-count.ensures)))),
    c.pass.ensures.bytes ∙ ap (λ (piece : List ℕ). piece ++ to_come c.pass.new.self) (sym (piece_read c.args.into.now c.copy_from_slice.new.self (rest_of c.args.self.now.script) c.min-count.result (c.copy_from_slice.ensures.after ∙ ap (take c.min-count.result) c.in-Some.ensures.rest) (subst (λ (rest : List ℕ). c.min-count.result ≤ length rest) c.in-Some.ensures.rest (omega (arith, c.min-count.ensures))))),
  );
  buffer = rest_kept c.args.into.now c.copy_from_slice.new.self c.in-Some.rest.now c.min-count.result c.copy_from_slice.ensures.after (omega (arith, c.min-count.ensures));
  end = (c.if-self.false, c.if-self.false);
  written = refl;
  write_faults = le_of_eq refl;
  faults = c.next_fails.ensures.faults;
  cause = tt;
  counted = c.if-next_fails.ensures.fault;
  calls = λ _. (c.next_fails.ensures.counted, λ failing. absurd (false≢true (c.if-next_fails.ensures.failing.1 failing)));
  over = λ ended. absurd (false≢true (sym c.if-self.false ∙ ended));
  script = search rules;
  writes = refl;
}

pub invariant_of-self : goal.invariant_of-self
invariant_of-self g c = record { at_end = c.args.self.now.at_end }

pub invariant_of-self-in_default : goal.invariant_of-self-in_default
invariant_of-self-in_default g c = record { at_end = λ ended. absurd (false≢true (sym c.if-self.false ∙ ended)) }

pub invariant_of-self-then-is_empty : goal.invariant_of-self-then-is_empty
invariant_of-self-then-is_empty g c = record { at_end = λ _. c.in-Some.ensures.end (eqb-true _ _ (sym c.if-is_empty.ensures)) }

pub invariant_of-self-then-is_err : goal.invariant_of-self-then-is_err
invariant_of-self-then-is_err g c = record { at_end = c.args.self.now.at_end }

pub invariant_of-self-2 : goal.invariant_of-self-2
invariant_of-self-2 g c = record { at_end = λ ended. absurd (false≢true (sym c.if-self.false ∙ ended)) }

pub pass-requires-clause-some : goal.pass-requires-clause-some
pass-requires-clause-some g c = omega (arith, c.min-count.ensures, c.requires, some_there c.in-Some.rest.now _ refl c.if-is_empty.ensures)

pub pass-requires-clause-there : goal.pass-requires-clause-there
pass-requires-clause-there g c =
    let script = c.args.self.now.script in
    let behind : length c.in-Some.rest.now ≡ length (front_bytes script.pieces.items) - script.offset = ap length c.in-Some.ensures.rest ∙ length-drop script.offset (front_bytes script.pieces.items) in
    omega (arith, c.min-count.ensures, behind, some_there c.in-Some.rest.now _ refl c.if-is_empty.ensures)
