-- Rounds of the loop over the callers, one step at a time.
use Rattle.std.proofs.Common.{ℕ, ◌≡◌, ◌≤◌, ◌+◌, ◌++◌, ◌∷◌, [], List, Bool, true, refl, sym, ◌∙◌, ap, subst, arith}
use Rattle.std.specs.Prelude.{IsTrue}
use Rattle.nsq_base.specs.declared.options.Options.{Options}
use Rattle.nsq_outside.specs.Hosts.{HostContent, Accepts}
use Rattle.nsq_outside.specs.declared.host.Kind.{Kind}
use Rattle.nsq_outside.specs.declared.host.Accept.TheVariants.{Caller}
use Rattle.broker_history.specs.Entries.{History, own}
use Rattle.broker_history.proofs.Own.{own-append}
use Rattle.floor_laws.proofs.Laying.{turns_of}
use Rattle.broker_floor.specs.Scenes.{Scene}
use Rattle.broker_floor.specs.Leads.{Leads}
use Rattle.daemon_main.specs.Going.{Went}
use Rattle.broker_history.specs.Answers.{ticks_of}
use Rattle.daemon_main.specs.Rounds.{Rounds, Ticks}
use Rattle.daemon_callers.specs.Served.{HasServed, IsServed, OnlyCallersChange, UpTo, Views}
use Rattle.daemon_tick.specs.declared.ticking.Ticked.{Ticked}
use Rattle.daemon_tick.specs.declared.ticking.Ticked.TheVariants as ticked
use Rattle.daemon_tick.specs.Ticks.{IsTicked}
pub use Rattle.floor_laws.proofs.Ticking.{ticks-append}
use Rattle.daemon_main.proofs.Going.{went_by, went_nowhere, went_then}
use Rattle.daemon_callers.proofs.Others.{none_of, nothing_yet, up_to_more}
use Rattle.daemon_callers.proofs.Handing.{at_first, caller_changes, daemon_served, next_served, still_served}

-- a turn of the daemon that ticks, from what a tick tells
pub ticks_so : {tells_notes tells_files tells_readings : Bool} {old new : Scene} {answer : Ticked} → Leads tells_notes tells_files tells_readings 0 old new → (IsTrue tells_notes → own 0 new.notes ≡ own 0 old.notes)
    → (IsTrue tells_notes → IsTicked answer old.notes new.notes) → Ticks tells_notes tells_files tells_readings old new answer
ticks_so leads nothing noted = record { leads = leads; nothing = nothing; noted = noted }

-- a history that grew has no fewer ticks
ticks_grow : (h h' added : History) → h' ≡ h ++ added → ticks_of h ≤ ticks_of h'
ticks_grow h h' added whole = let both : ticks_of h' ≡ ticks_of h + ticks_of added = ap ticks_of whole ∙ ticks-append h added in omega (arith, both)

module _ {K : Type 0} (Told : Type 0) (tells_host tells_notes tells_files tells_readings : Bool) (seen : Views K) (o : Options) (began : ℕ) (host_of : Told → IsTrue tells_host) (notes_of : Told → IsTrue tells_notes) where
  abbrev RoundsTo : ℕ → Scene → Scene → HostContent K → HostContent K → Type 0
  RoundsTo n a b c d = Rounds Told tells_host tells_notes tells_files tells_readings seen o began n a b c d

  -- before the first round
  pub rounds_first : (a : Scene) (content : HostContent K) → (IsTrue tells_notes → a.notes ≡ []) → RoundsTo 0 a a content content
  rounds_first a content empty = record {
    went = went_nowhere tells_notes tells_files tells_readings a;
    up_to = λ told. subst (λ x. UpTo 0 x) (sym (empty told)) tt;
    not_of_daemon = λ told. ap (λ x. own 0 x) (empty told);
    ticks = λ told. omega arith;
    served = λ told. at_first seen o began a.notes content;
    rest = λ told. record { starts = refl; printed = refl; lines = refl };
  }

  -- a round begins with a tick
  pub rounds_tick : (n : ℕ) (a b c : Scene) (x y : HostContent K) (answer : Ticked) → RoundsTo n a b x y → Ticks tells_notes tells_files tells_readings b c answer → RoundsTo n a c x y
  rounds_tick n a b c x y answer r t = record {
    went = went_then tells_notes tells_files tells_readings a b c r.went (went_by tells_notes tells_files tells_readings 0 b c t.leads);
    up_to = λ told. let adds = t.leads.turns told in up_to_more n n 0 b.notes c.notes adds.added adds.whole (omega arith) (omega arith) (r.up_to told) (turns_of adds.turns);
    not_of_daemon = λ told. t.nothing told ∙ r.not_of_daemon told;
    ticks = λ told. let adds = t.leads.turns told in let more = ticks_grow b.notes c.notes adds.added adds.whole in let before = r.ticks told in omega (arith, more, before);
    served = λ told. let adds = t.leads.turns (notes_of told) in daemon_served seen o began n b.notes c.notes adds.added x y (r.served told) adds.whole (turns_of adds.turns);
    rest = r.rest;
  }

  -- the names were saved, or tried
  pub rounds_save : (n : ℕ) (a b c : Scene) (x y : HostContent K) → RoundsTo n a b x y → Went tells_notes tells_files tells_readings b c → c.notes ≡ b.notes → RoundsTo n a c x y
  rounds_save n a b c x y r went same = record {
    went = went_then tells_notes tells_files tells_readings a b c r.went went;
    up_to = λ told. subst (λ h. UpTo n h) (sym same) (r.up_to told);
    not_of_daemon = λ told. ap (λ h. own 0 h) same ∙ r.not_of_daemon told;
    ticks = λ told. subst (λ h. n ≤ ticks_of h) (sym same) (r.ticks told);
    served = λ told. subst (λ h. HasServed seen o began n h x y) (sym same) (r.served told);
    rest = r.rest;
  }

  -- nobody came
  pub rounds_nobody : (n : ℕ) (a b : Scene) (x y z : HostContent K) → RoundsTo n a b x y → (IsTrue tells_host → (z.coming ≡ y.coming) × (z.given ≡ y.given) × (z.back ≡ y.back)) → (IsTrue tells_host → OnlyCallersChange y z) → RoundsTo n a b x z
  rounds_nobody n a b x y z r same rest = record {
    went = r.went;
    up_to = r.up_to;
    not_of_daemon = r.not_of_daemon;
    ticks = r.ticks;
    served = λ told. let s = same (host_of told) in still_served seen o began n b.notes x y z (r.served told) s.0 s.1 s.2;
    rest = λ told. let p = r.rest told in let q = rest told in record { starts = q.starts ∙ p.starts; printed = q.printed ∙ p.printed; lines = q.lines ∙ p.lines };
  }

  -- somebody came, was served and was handed back
  pub rounds_caller : (left : K → List ℕ) (n : ℕ) (a b c : Scene) (x y gave z : HostContent K) (kind : Kind) (fresh conn : K) → RoundsTo n a b x y → (IsTrue tells_notes → n + 1 ≤ ticks_of b.notes) → Leads tells_notes tells_files tells_readings (n + 1) b c
      → (IsTrue tells_host → Accepts left y gave (Caller kind fresh)) → (IsTrue tells_host → z ≡ record gave { back = gave.back ++ (n + 1, conn) ∷ [] }) → (Told → IsServed seen o began c.notes (n + 1) kind (left fresh) conn) → RoundsTo (n + 1) a c x z
  rounds_caller left n a b c x y gave z kind fresh conn r ahead leads accepts returned served = record {
    went = went_then tells_notes tells_files tells_readings a b c r.went (went_by tells_notes tells_files tells_readings (n + 1) b c leads);
    up_to = λ told. let adds = leads.turns told in up_to_more n (n + 1) (n + 1) b.notes c.notes adds.added adds.whole (omega arith) (omega arith) (r.up_to told) (turns_of adds.turns);
    not_of_daemon = λ told.
        let adds = leads.turns told in
        ap (λ h. own 0 h) adds.whole ∙ own-append 0 b.notes adds.added ∙ ap (λ h. h ++ own 0 adds.added) (r.not_of_daemon told) ∙ none_of 0 (n + 1) adds.added (λ e. absurd (omega (arith, e))) (turns_of adds.turns);
    ticks = λ told. let adds = leads.turns told in let more = ticks_grow b.notes c.notes adds.added adds.whole in let before = ahead told in omega (arith, more, before);
    served = λ told. let adds = leads.turns (notes_of told) in
        next_served seen o began left n b.notes c.notes adds.added x y gave z kind fresh conn (r.served told) (accepts (host_of told)) (returned (host_of told)) adds.whole (turns_of adds.turns) (served told);
    rest = λ told. caller_changes left x y gave z kind fresh _ (r.rest told) (accepts told) (returned told);
  }

  -- a whole round: a tick, and behind the accept a saving; then somebody was served
  pub rounds_served : (left : K → List ℕ) (n : ℕ) (a b t s c : Scene) (x y gave z : HostContent K) (kind : Kind) (fresh conn : K) → RoundsTo n a b x y → Ticks tells_notes tells_files tells_readings b t ticked.Quiet → Went tells_notes tells_files tells_readings t s
      → s.notes ≡ t.notes → Leads tells_notes tells_files tells_readings (n + 1) s c → (IsTrue tells_host → Accepts left y gave (Caller kind fresh)) → (IsTrue tells_host → z ≡ record gave { back = gave.back ++ (n + 1, conn) ∷ [] })
      → (Told → IsServed seen o began c.notes (n + 1) kind (left fresh) conn) → RoundsTo (n + 1) a c x z
  rounds_served left n a b t s c x y gave z kind fresh conn r ticks went same leads accepts returned served =
      rounds_caller left n a s c x y gave z kind fresh conn (rounds_save n a t s x y (rounds_tick n a b t x y ticked.Quiet r ticks) went same)
      (λ told. let before = r.ticks told in let more = ticks.noted told in let size : ticks_of s.notes ≡ ticks_of t.notes = ap ticks_of same in omega (arith, before, more, size)) leads accepts returned served

  -- and its number had no entry yet
  pub rounds_new : (n : ℕ) (a b t s : Scene) (x y : HostContent K) → RoundsTo n a b x y → Ticks tells_notes tells_files tells_readings b t ticked.Quiet → Went tells_notes tells_files tells_readings t s → s.notes ≡ t.notes → IsTrue tells_notes → own (n + 1) s.notes ≡ []
  rounds_new n a b t s x y r ticks went same told =
      let now = rounds_save n a t s x y (rounds_tick n a b t x y ticked.Quiet r ticks) went same in nothing_yet n (n + 1) s.notes (now.up_to told) (omega arith)

  -- nobody came in a round
  pub rounds_waited : (n : ℕ) (a b t s : Scene) (x y z : HostContent K) → RoundsTo n a b x y → Ticks tells_notes tells_files tells_readings b t ticked.Quiet → Went tells_notes tells_files tells_readings t s → s.notes ≡ t.notes → (IsTrue tells_host → z ≡ y) → RoundsTo n a s x z
  rounds_waited n a b t s x y z r ticks went same content =
      rounds_nobody n a s x y z (rounds_save n a t s x y (rounds_tick n a b t x y ticked.Quiet r ticks) went same)
      (λ told. (ap (λ (c : HostContent K). c.coming) (content told), ap (λ (c : HostContent K). c.given) (content told), ap (λ (c : HostContent K). c.back) (content told)))
      (λ told. record { starts = ap (λ (c : HostContent K). c.starts) (content told); printed = ap (λ (c : HostContent K). c.printed) (content told); lines = ap (λ (c : HostContent K). c.lines) (content told) })

  -- the listeners failed
  pub rounds_failed : (n : ℕ) (a b t : Scene) (x y z : HostContent K) → RoundsTo n a b x y → Ticks tells_notes tells_files tells_readings b t ticked.Quiet → (IsTrue tells_host → z ≡ y) → RoundsTo n a t x z
  rounds_failed n a b t x y z r ticks content =
      rounds_nobody n a t x y z (rounds_tick n a b t x y ticked.Quiet r ticks)
      (λ told. (ap (λ (c : HostContent K). c.coming) (content told), ap (λ (c : HostContent K). c.given) (content told), ap (λ (c : HostContent K). c.back) (content told)))
      (λ told. record { starts = ap (λ (c : HostContent K). c.starts) (content told); printed = ap (λ (c : HostContent K). c.printed) (content told); lines = ap (λ (c : HostContent K). c.lines) (content told) })

  -- nobody will call any more
  pub rounds_halted : (n : ℕ) (a b t : Scene) (x y z : HostContent K) → RoundsTo n a b x y → Ticks tells_notes tells_files tells_readings b t ticked.Quiet → (IsTrue tells_host → z ≡ record y { halted = true }) → RoundsTo n a t x z
  rounds_halted n a b t x y z r ticks content =
      rounds_nobody n a t x y z (rounds_tick n a b t x y ticked.Quiet r ticks)
      (λ told. (ap (λ (c : HostContent K). c.coming) (content told), ap (λ (c : HostContent K). c.given) (content told), ap (λ (c : HostContent K). c.back) (content told)))
      (λ told. record { starts = ap (λ (c : HostContent K). c.starts) (content told); printed = ap (λ (c : HostContent K). c.printed) (content told); lines = ap (λ (c : HostContent K). c.lines) (content told) })
