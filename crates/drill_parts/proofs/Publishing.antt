-- That one connection's messages are all published.
use Rattle.std.proofs.Common.{◌≡◌, ◌≢◌, ◌⊎◌, inl, inr, ℕ, ◌+◌, ◌<◌, ◌≤◌, Bool, true, false, if◌then◌else◌, List, [], ◌∷◌, ◌++◌, filter, length, Option, Some, refl, sym, ap, subst, ◌∙◌, arith, codes, length-append}
use Rattle.std.specs.List.{AllByRecursion}
use Rattle.std.proofs.lemmas.Bool.{false≢true}
use Rattle.std.proofs.lemmas.Bool.Decides.{nat_tests}
use Rattle.std.proofs.lemmas.List.Sums.{sum_by-cons}
use Rattle.nsq_base.specs.declared.options.Options.{Options}
use Rattle.nsq_outside.specs.declared.journal.End.{End}
use Rattle.nsq_outside.specs.declared.journal.End.TheVariants.{Done, Faulted, Skip}
use Rattle.v2_frame.specs.declared.command.Command.{Command}
use Rattle.v2_frame.specs.declared.command.Command.TheVariants.{Pub}
use Rattle.v2_frame.specs.declared.fault.Limits.{Limits}
use Rattle.v2_frame.specs.declared.frame.Frame.{Frame}
use Rattle.broker_history.specs.declared.ended.Ended.{Ended}
use Rattle.broker_history.specs.declared.ended.Ended.TheVariants.{EndOfInput, Closed, ReadFault, WriteFault, Memory}
use Rattle.broker_history.specs.declared.entry.Act.{Act}
use Rattle.broker_history.specs.declared.entry.Act.TheVariants.{Did, Asked}
use Rattle.broker_history.specs.declared.entry.Entry.{Entry}
use Rattle.broker_history.specs.Entries.{History, faults_of, is_faulted, own}
use Rattle.broker_history.specs.Reply.{act_answered, are_left, closes_answer, did_answered, ids_spent, most_ids, ok_frame}
use Rattle.broker_history.specs.State.{State}
use Rattle.broker_history.specs.Step.{is_done, is_kept_off}
use Rattle.broker_history.specs.Talk.{bytes_of, command_in, commands_of, stops_before_gone}
use Rattle.drill_parts.specs.Counts.{published, published_as, published_by}
use Rattle.drill_parts.specs.Publishing.{IsAccepted, IsPub, IsQuiet, PublishesAlone, PublishesAs, PublishersPublishAll, PubsAreAccepted}
use Rattle.drill_parts.specs.Replying.{HasReply, tried, tried_as}
use Rattle.drill_parts.specs.Staying.{AnswersOpen, LeavesOpen, StaysOpen}
use Rattle.drill_parts.specs.Talking.{Spell}
use Rattle.drill_parts.proofs.Closing.{closed_by}
use Rattle.drill_parts.proofs.Owning.{IsAlone, Takes, all_front, all_own, own_sum, takes_all}
use Rattle.drill_parts.proofs.Replying.{replied}
use Rattle.drill_parts.proofs.Staying.{nobody_closed}
use Rattle.drill_parts.proofs.Talking.{gives_all, gives_commands, talk_talks}

-- no entry of such a history ended with a disk fault
abbrev IsUnfaulted : Entry × End → Type 0
IsUnfaulted e = is_faulted e.1 ≡ false

unfaulted_here : (e : Entry × End) (rest : History) (b : Bool) → length (if b then e ∷ rest else rest) ≡ 0 → b ≡ false
unfaulted_here e rest true none = absurd (omega (arith, none))
unfaulted_here e rest false none = refl

unfaulted_rest : (e : Entry × End) (rest : History) (b : Bool) → length (if b then e ∷ rest else rest) ≡ 0 → length rest ≡ 0
unfaulted_rest e rest true none = absurd (omega (arith, none))
unfaulted_rest e rest false none = none

unfaulted : (h : History) → faults_of h ≡ 0 → AllByRecursion IsUnfaulted h
unfaulted [] none = tt
unfaulted (e ∷ h) none =
    let rest : History = filter (λ x. is_faulted x.1) h in (unfaulted_here e rest (is_faulted e.1) none, unfaulted h (unfaulted_rest e rest (is_faulted e.1) none))

-- ids are left where more are than were used
left_over : (used most : ℕ) → used ≤ most → most < most_ids → are_left used 1 ≡ true
left_over used most few roomy = grind (arith, nat_tests)

done_of : (end : End) → end ≢ Skip → is_faulted end ≡ false → end ≡ Done
done_of Done other none = refl
done_of (Faulted n) other none = absurd (false≢true (sym none))
done_of Skip other none = absurd (other refl)

pub_accepted : (word : List ℕ) (r : Option Frame) (left : Bool) → left ≡ true → r ≡ Some (if left then ok_frame else ids_spent word) → r ≡ Some ok_frame
pub_accepted word r true e is = is
pub_accepted word r false e is = absurd (false≢true e)

act_accepted : (o : Options) (most : ℕ) (act : Act) (end : End) → most < most_ids → is_faulted end ≡ false → HasReply o most act end → IsAccepted act end
act_accepted o most (Did (Pub topic body) r) end roomy none h = (pub_accepted (codes "E_PUB_FAILED") r (are_left h.used 1) (left_over h.used most h.few roomy) h.is, done_of end h.ended none)
act_accepted o most act end roomy none h = tt

all_accepted : (o : Options) (most : ℕ) (h : History) → most < most_ids → AllByRecursion IsUnfaulted h → AllByRecursion (λ (e : Entry × End). HasReply o most e.0.act e.1) h → AllByRecursion (λ (e : Entry × End). IsAccepted e.0.act e.1) h
all_accepted o most [] roomy none all = tt
all_accepted o most (e ∷ h) roomy none all = (act_accepted o most e.0.act e.1 roomy none.0 all.0, all_accepted o most h roomy none.1 all.1)

pub pubs_accepted : PubsAreAccepted
pubs_accepted s u h legal roomy none = all_accepted s.options (s.ids_used + tried h) h roomy (unfaulted h none) (replied s u h legal)

-- of entries that take PUBs alone, each is to publish one
abbrev TakesPubs : Entry × End → Type 0
TakesPubs e = Takes IsPub e.0.act

abbrev Accepted : Entry × End → Type 0
Accepted e = IsAccepted e.0.act e.1

pub_tried : (act : Act) → Takes IsPub act → tried_as act ≡ length (command_in act)
pub_tried (Did (Pub topic body) r) t = refl
pub_tried (Did command r) t = absurd t
pub_tried (Asked a answer) t = absurd t
pub_tried act t = refl

-- and publishes it, where it was accepted
pub_published : (act : Act) (end : End) → Takes IsPub act → IsAccepted act end → published_as act end ≡ length (command_in act)
pub_published (Did (Pub topic body) r) end t a = ap (λ (x : Option Frame). published_as (Did (Pub topic body) x) end) a.0 ∙ ap (λ (x : End). published_as (Did (Pub topic body) (Some ok_frame)) x) a.1
pub_published (Did command r) end t a = absurd t
pub_published (Asked a answer) end t b = absurd t
pub_published act end t a = refl

pubs_tried : (h : History) → AllByRecursion TakesPubs h → tried h ≡ length (commands_of h)
pubs_tried [] all = refl
pubs_tried (e ∷ h) all =
    let rest = pubs_tried h all.1 in
    let here = pub_tried e.0.act all.0 in
    let sum = sum_by-cons (λ (x : Entry × End). tried_as x.0.act) e h in
    let long = length-append (command_in e.0.act) (commands_of h) in
    omega (arith, rest, here, sum, long)

pubs_published : (h : History) → AllByRecursion TakesPubs h → AllByRecursion Accepted h → published h ≡ length (commands_of h)
pubs_published [] all accepted = refl
pubs_published (e ∷ h) all accepted =
    let rest = pubs_published h all.1 accepted.1 in
    let here = pub_published e.0.act e.1 all.0 accepted.0 in
    let sum = sum_by-cons published_by e h in
    let long = length-append (command_in e.0.act) (commands_of h) in
    omega (arith, rest, here, sum, long)

-- what is to publish nothing publishes nothing
if_none : (b : Bool) (n : ℕ) → n ≡ 0 → (if b then 0 else n) ≡ 0
if_none true n none = refl
if_none false n none = none

if_done : (b : Bool) (n : ℕ) → n ≡ 0 → (if b then n else 0) ≡ 0
if_done true n none = none
if_done false n none = refl

none_published : (act : Act) (end : End) → tried_as act ≡ 0 → published_as act end ≡ 0
none_published (Did command r) end none = if_none (is_kept_off r end) (tried_as (Did command r)) none
none_published (Asked a answer) Done none = if_done (is_done answer) (tried_as (Asked a answer)) none
none_published act end none = refl

alone_published : (number : ℕ) (e : Entry × End) → PublishesAs number e → IsAlone published_by number e
alone_published number e (inl none) = inl (none_published e.0.act e.1 none)
alone_published number e (inr mine) = inr mine

all_alone : (number : ℕ) (h : History) → AllByRecursion (PublishesAs number) h → AllByRecursion (IsAlone published_by number) h
all_alone number [] all = tt
all_alone number (e ∷ h) all = (alone_published number e all.0, all_alone number h all.1)

-- an entry that takes a PUB which is accepted leaves its conversation open
answer_open : (act : Act) (end : End) → Takes IsPub act → IsAccepted act end → AnswersOpen act (act_answered act end)
answer_open (Did (Pub topic body) r) end t a =
    ap (λ (x : Option Frame). closes_answer (did_answered (Pub topic body) x end)) a.0 ∙ ap (λ (x : End). closes_answer (did_answered (Pub topic body) (Some ok_frame) x)) a.1
answer_open (Did command r) end t a = absurd t
answer_open (Asked a answer) end t b = absurd t
answer_open act end t a = tt

leave_open : (h : History) → AllByRecursion TakesPubs h → AllByRecursion Accepted h → AllByRecursion (λ (e : Entry × End). StaysOpen e.0.act) h → AllByRecursion LeavesOpen h
leave_open [] takes accepted stay = tt
leave_open (e ∷ h) takes accepted stay = (record { stays = stay.0; answer = answer_open e.0.act e.1 takes.0 accepted.0 }, leave_open h takes.1 accepted.1 stay.1)

module _ (only : List ℕ → List ℕ) (at : ℕ) (s u : State) (h : History) (limits : Limits) (number wanted : ℕ) (pieces : List (List ℕ)) (out : List ℕ) (commands : List Command) (quiet : IsQuiet only at s u h)
    (roomy : s.ids_used + length commands < most_ids) where
  -- the commands that were taken are the first ones
  abbrev taken : List Command
  taken = commands_of (own number h)

  module _ (ended : Ended) (p : PublishesAlone limits number h wanted pieces out ended commands) where
    abbrev front : (behind : List Command) × (commands ≡ taken ++ behind)
    front = gives_commands limits (stops_before_gone number h) wanted pieces (own number h) out ended commands p.left p.talk p.spells

    takes : AllByRecursion TakesPubs (own number h)
    takes =
        takes_all IsPub (own number h) (talk_talks limits (stops_before_gone number h) wanted pieces (own number h) out ended p.talk)
        (all_front IsPub taken front.0 (subst (λ x. AllByRecursion IsPub x) front.1 p.pubs))

    accepted : AllByRecursion Accepted h
    accepted =
        let one = own_sum (λ (e : Entry × End). tried_as e.0.act) number h p.alone in
        let own_ones = pubs_tried (own number h) takes in
        let whole = ap length front.1 in
        let parts = length-append taken front.0 in
        let room = roomy in
        pubs_accepted s u h quiet.legal (omega (arith, one, own_ones, whole, parts, room)) quiet.no_fault

    -- all that were taken are published
    pub taken_published : published h ≡ length taken
    taken_published = own_sum published_by number h (all_alone number h p.alone) ∙ pubs_published (own number h) takes (all_own Accepted number h accepted)

    opened : AllByRecursion LeavesOpen (own number h)
    opened =
        leave_open (own number h) takes (all_own Accepted number h accepted)
        (all_own (λ (e : Entry × End). StaysOpen e.0.act) number h (nobody_closed only at s u h quiet.ones quiet.nobody quiet.beats quiet.calm quiet.legal))

  -- so all are, by how it ended
  all_published : (ended : Ended) → PublishesAlone limits number h wanted pieces out ended commands → (published h ≡ length commands) ⊎ (ended ≡ Memory)
  all_published EndOfInput p =
      let spelled : Spell limits commands (bytes_of pieces) [] = subst (λ x. Spell limits commands (bytes_of pieces) x) p.ends p.spells in
      let all : taken ≡ commands = gives_all limits (stops_before_gone number h) wanted pieces (own number h) out commands p.talk spelled in
      inl (taken_published EndOfInput p ∙ ap length all)
  all_published Closed p =
      let stopped = closed_by limits (stops_before_gone number h) wanted pieces (own number h) out commands p.left p.talk p.spells (opened Closed p) in
      absurd (false≢true (sym p.unstopped ∙ stopped))
  all_published ReadFault p = absurd p.ends
  all_published WriteFault p = absurd p.ends
  all_published Memory p = inr refl

pub publishers_publish : PublishersPublishAll
publishers_publish only at s u h limits number wanted pieces out ended commands quiet p roomy = all_published only at s u h limits number wanted pieces out commands quiet roomy ended p
