use Rattle.std.proofs.Common.{◌∙◌, sym}
use Rattle.daemon_callers.proofs.ListLemmas.{lists_behind}
use Rattle.daemon_callers.proofs.TurnLemmas.{names_listed, names_missed}
use Rattle.daemon_callers.proofs.http.turns.list_names.Goals as goal

pub returns-then-not-listing : goal.returns-then-not-listing
returns-then-not-listing g c =
    let did = c.turn-turned.ensures in
    record {
      listed = λ tells. names_missed c.turn-turned.result (did.adds tells) (sym c.is_listing-listing.ensures ∙ c.if-not-listing.true);
      behind = λ tells some lists. let grows = did.grows tells in lists_behind c.args.number _ grows.added _ grows.whole some lists;
      number = did.number;
      wanted = did.wanted;
      leads = did.leads;
    }

pub returns : goal.returns
returns g c =
    let did = c.turn-turned.ensures in
    record {
      listed = λ tells. names_listed c.turn-turned.result (did.adds tells) (sym c.is_listing-listing.ensures ∙ c.if-not-listing.false);
      behind = λ tells some lists. let grows = did.grows tells in lists_behind c.args.number _ grows.added _ grows.whole some lists;
      number = did.number;
      wanted = did.wanted;
      leads = did.leads;
    }
