use Rattle.std.proofs.Common.{◌≡◌, ◌∙◌, false, true, refl, subst, sym}
use Rattle.broker_history.specs.Entries.{own}
use Rattle.broker_history.specs.Calls.{IsHere}
use Rattle.daemon_callers.proofs.Staying.{stays_behind, grows_none, memory_adds, memory_answers}
use Rattle.daemon_callers.proofs.caller_desk.CallerDeskDesk.turn.Goals as goal

pub returns : goal.returns
returns g c =
    let did = c.turn.ensures in
    record {
      number = did.number;
      grows = did.grows;
      adds = did.adds;
      stopping = did.stopping;
      told = did.told;
      answer = did.answer;
      short = did.short;
      wanted = did.wanted;
      leads = (
        did.leads,
        λ there tells some.
            subst (λ n. IsHere (own n (g.T.Turner.notes c.turn.new.self.floor.now))) (c.requires.number ∙ sym did.number)
            (stays_behind c.args.conn _ _ c.args.call c.turn.result _ _ (λ x. absurd (let bad : false ≡ true = c.if-has_wanted.ensures.1 x in cc)) (c.requires.may tells) (did.adds tells) did.wanted some),
      );
    }

pub returns-then-has_wanted : goal.returns-then-has_wanted
returns-then-has_wanted g c = record {
  number = refl;
  grows = λ tells. grows_none _;
  adds = λ tells. memory_adds c.args.conn _ c.args.call;
  stopping = λ tells. tt;
  told = λ tells is. cc;
  answer = memory_answers c.args.call;
  short = tt;
  wanted = c.wanted_again-self.ensures;
  leads = (((refl, refl), g.met.T.Turner.stays _ _), λ there tells some. there tells (c.if-has_wanted.ensures.0 refl));
}

pub turn-requires-clause-number : goal.turn-requires-clause-number
turn-requires-clause-number g c = c.requires.number

pub turn-requires-clause-can : goal.turn-requires-clause-can
turn-requires-clause-can g c = c.requires.can

pub turn-requires-clause-may : goal.turn-requires-clause-may
turn-requires-clause-may g c = c.requires.may
