-- What the entries of a drill are, and how they are counted.
use Rattle.std.proofs.Common.{◌≡◌, ◌≢◌, ℕ, Bool, true, false, not, ◌&&◌, if◌then◌else◌, List, [], ◌∷◌, codes, Option, Some, None, refl, sym, subst, arith}
use Rattle.std.specs.List.{AllByRecursion}
use Rattle.std.proofs.lemmas.List.Sums.{sum_by-cons}
use Rattle.nsq_base.specs.declared.options.Options.{Options}
use Rattle.nsq_outside.specs.declared.journal.End.{End}
use Rattle.nsq_outside.specs.declared.journal.End.TheVariants.{Done, Faulted, Skip}
use Rattle.v2_frame.specs.declared.command.Command.{Command}
use Rattle.v2_frame.specs.declared.command.Command.TheVariants.{Sub, Pub, Rdy, Fin}
use Rattle.v2_frame.specs.declared.frame.Frame.{Frame}
use Rattle.broker_history.specs.declared.entry.Act.{Act}
use Rattle.broker_history.specs.declared.entry.Act.TheVariants.{Did, Asked}
use Rattle.broker_history.specs.declared.entry.Entry.{Entry}
use Rattle.broker_history.specs.Channels.{one}
use Rattle.broker_history.specs.Entries.{History, is_faulted}
use Rattle.broker_history.specs.Reply.{are_left, ids_spent, not_in_flight, ok_frame, wrong_state}
use Rattle.broker_history.specs.State.{is_fresh}
use Rattle.broker_history.specs.Step.{is_kept_off}
use Rattle.broker_history.proofs.Counting.{count-cons}
use Rattle.drill_parts.specs.Conserving.{IsDurable, IsOnly, KeepAll, KeepsAct}
use Rattle.drill_parts.specs.Counts.{finished, finished_as, finished_by, published, published_as, published_by}
use Rattle.drill_parts.specs.Replying.{HasReply, IsReplied}
use Rattle.drill_parts.specs.Counting.{finished_in, is_accepting, is_finishing, published_in}

-- the one channel of each topic
abbrev pub only_c : List ℕ → List ℕ
only_c topic = codes "c"

-- a command that a caller of the drill sends
abbrev pub Sends : Command → Type 0
Sends (Sub topic channel) = IsOnly only_c topic channel
Sends (Pub topic body) = IsDurable topic
Sends (Rdy count) = Unit {0}
Sends (Fin id) = Unit {0}
Sends command = ⊥

-- an act of the drill: nothing is asked over HTTP
abbrev pub IsActed : Act → Type 0
IsActed (Did command r) = Sends command
IsActed (Asked a answer) = ⊥
IsActed act = Unit {0}

abbrev pub IsEntered : Entry × End → Type 0
IsEntered e = IsActed e.0.act

command_keeps : (command : Command) (r : Option Frame) → Sends command → KeepsAct only_c (Did command r)
command_keeps (Sub topic channel) r s = s
command_keeps (Pub topic body) r s = s
command_keeps (Rdy count) r s = tt
command_keeps (Fin id) r s = tt
command_keeps command r s = absurd s

act_keeps : (act : Act) → IsActed act → KeepsAct only_c act
act_keeps (Did command r) s = command_keeps command r s
act_keeps (Asked a answer) s = absurd s
act_keeps act s = tt

pub entries_keep : (h : History) → AllByRecursion IsEntered h → KeepAll only_c h
entries_keep [] all = tt
entries_keep (e ∷ h) all = (act_keeps e.0.act all.0, entries_keep h all.1)

-- an entry is counted as the laws count it
pub record IsTallied (act : Act) (end : End) : Type 0 where
  pub accepted : published_as act end ≡ one (is_accepting act && not (is_faulted end))
  pub finishes : finished_as act end ≡ one (is_finishing act && not (is_faulted end))

pub_tallied : (topic body : List ℕ) (r : Option Frame) (used : ℕ) (left : Bool) (word : List ℕ) (end : End) → r ≡ Some (if left then ok_frame else ids_spent word) → end ≢ Skip → IsTallied (Did (Pub topic body) r) end
pub_tallied topic body r used true word Done e other = subst (λ x. IsTallied (Did (Pub topic body) x) Done) (sym e) (record { accepted = refl; finishes = refl })
pub_tallied topic body r used false word Done e other = subst (λ x. IsTallied (Did (Pub topic body) x) Done) (sym e) (record { accepted = refl; finishes = refl })
pub_tallied topic body r used left word (Faulted n) e other = subst (λ x. IsTallied (Did (Pub topic body) x) (Faulted n)) (sym e) (record { accepted = faulted left; finishes = refl })
  where
    faulted : (b : Bool) → 0 ≡ one (is_accepting (Did (Pub topic body) (Some (if b then ok_frame else ids_spent word))) && false)
    faulted true = refl
    faulted false = refl
pub_tallied topic body r used left word Skip e other = absurd (other refl)

fin_tallied : (id : List ℕ) (r : Option Frame) (fresh flies : Bool) (word : List ℕ) (end : End) → r ≡ (if fresh then Some wrong_state else (if flies then None else Some (not_in_flight word))) → end ≢ Skip → IsTallied (Did (Fin id) r) end
fin_tallied id r true flies word Done e other = subst (λ x. IsTallied (Did (Fin id) x) Done) (sym e) (record { accepted = refl; finishes = refl })
fin_tallied id r false true word Done e other = subst (λ x. IsTallied (Did (Fin id) x) Done) (sym e) (record { accepted = refl; finishes = refl })
fin_tallied id r false false word Done e other = subst (λ x. IsTallied (Did (Fin id) x) Done) (sym e) (record { accepted = refl; finishes = refl })
fin_tallied id r true flies word (Faulted n) e other = subst (λ x. IsTallied (Did (Fin id) x) (Faulted n)) (sym e) (record { accepted = refl; finishes = refl })
fin_tallied id r false true word (Faulted n) e other = subst (λ x. IsTallied (Did (Fin id) x) (Faulted n)) (sym e) (record { accepted = refl; finishes = refl })
fin_tallied id r false false word (Faulted n) e other = subst (λ x. IsTallied (Did (Fin id) x) (Faulted n)) (sym e) (record { accepted = refl; finishes = refl })
fin_tallied id r fresh flies word Skip e other = absurd (other refl)

-- a command that neither publishes nor finishes
none_tallied : (b : Bool) → ◌≡◌ {A = ℕ} (if b then 0 else 0) 0
none_tallied true = refl
none_tallied false = refl

did_tallied : (o : Options) (most : ℕ) (command : Command) (r : Option Frame) (end : End) → Sends command → IsReplied o most command r end → IsTallied (Did command r) end
did_tallied o most (Sub topic channel) r end s i = record { accepted = none_tallied (is_kept_off r end); finishes = none_tallied (is_kept_off r end) }
did_tallied o most (Pub topic body) r end s i = pub_tallied topic body r i.used (are_left i.used 1) (codes "E_PUB_FAILED") end i.is i.ended
did_tallied o most (Rdy count) r end s i = record { accepted = none_tallied (is_kept_off r end); finishes = none_tallied (is_kept_off r end) }
did_tallied o most (Fin id) r end s i = fin_tallied id r (is_fresh i.phase) (i.flies id) (codes "E_FIN_FAILED") end i.is i.ended
did_tallied o most command r end s i = absurd s

act_tallied : (o : Options) (most : ℕ) (act : Act) (end : End) → IsActed act → HasReply o most act end → IsTallied act end
act_tallied o most (Did command r) end s h = did_tallied o most command r end s h
act_tallied o most (Asked a answer) end s h = absurd s
act_tallied o most act end s h = record { accepted = refl; finishes = refl }

-- so a history is
pub record AreTallied (h : History) : Type 0 where
  pub accepted : published_in h ≡ published h
  pub finishes : finished_in h ≡ finished h

pub tallied : (o : Options) (most : ℕ) (h : History) → AllByRecursion IsEntered h → AllByRecursion (λ (e : Entry × End). HasReply o most e.0.act e.1) h → AreTallied h
tallied o most [] all replies = record { accepted = refl; finishes = refl }
tallied o most (e ∷ h) all replies =
    let rest = tallied o most h all.1 replies.1 in
    let here = act_tallied o most e.0.act e.1 all.0 replies.0 in
    let a = rest.accepted in
    let f = rest.finishes in
    let a1 = here.accepted in
    let f1 = here.finishes in
    let p = count-cons (λ (x : Entry × End). is_accepting x.0.act && not (is_faulted x.1)) e h in
    let q = count-cons (λ (x : Entry × End). is_finishing x.0.act && not (is_faulted x.1)) e h in
    let s = sum_by-cons published_by e h in
    let t = sum_by-cons finished_by e h in
    record { accepted = omega (arith, a, a1, p, s); finishes = omega (arith, f, f1, q, t) }
