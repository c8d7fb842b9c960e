-- What a drill did.
use Rattle.std.proofs.Common.{◌≡◌, ◌⊎◌, ℕ, ◌+◌, ◌≤◌, length, List, IfOk, IfSome, Result, Ok, Err, ap, sym, subst, refl, inl, arith}
use Rattle.std.specs.List.{AllByRecursion}
use Rattle.nsq_outside.specs.Hosts.{HostState}
use Rattle.nsq_fakes.specs.MemFolders.{files_in}
use Rattle.nsq_fakes.specs.MemHosts.{state_of}
use Rattle.nsq_fakes.specs.MemJournals.{notes_of}
use Rattle.nsq_fakes.specs.declared.clock.MemClock.{MemClock}
use Rattle.nsq_fakes.specs.declared.folder.MemFolder.{MemFolder}
use Rattle.nsq_fakes.specs.declared.host.MemHost.{MemHost}
use Rattle.nsq_fakes.specs.declared.journal.MemJournal.{MemJournal}
use Rattle.path_image.specs.Found.{Found, IsFound, Names}
use Rattle.broker_history.specs.declared.entry.Entry.{Entry}
use Rattle.broker_history.specs.Entries.{History}
use Rattle.broker_history.specs.State.{State}
use Rattle.drill_parts.specs.Counts.{left_in, left_of}
use Rattle.drill_parts.proofs.Conserved.{conserved, ones_stay}
use Rattle.drill_parts.proofs.Replying.{stays}
use Rattle.daemon_main.specs.Drills.{AcceptsAll, HasCounted, HasDrilled, HasNames, HasRunDrill, PublisherWants}
use Rattle.drill_parts.specs.Draws.{publishes}
use Rattle.drill_parts.specs.declared.draws.Publish.{Publish}
use Rattle.daemon_main.specs.declared.drill_run.Drilled.{Drilled}
use Rattle.drill_parts.specs.Counting.{finished_in, published_in}
use Rattle.drill_parts.specs.Left.{messages_in}
use Rattle.drill_parts.proofs.Leaving.{all_found}
use Rattle.drill_parts.proofs.Spelling.{IsShort, publishes_short}
use Rattle.drill_parts.proofs.Tallying.{entries_keep, only_c}
use Rattle.daemon_main.proofs.DrillRunning.{begun, found_nothing, no_topics_begun, notes, notes_entered, notes_tallied, ones_begun}
use Rattle.daemon_main.proofs.Counted.{accepts_all, all_accepted, length-publishes, nobody_to_serve}

-- all that a drill left is found, and that is what was published and not finished
pub record FindsLeft {all : List Publish} {host : MemHost Entry} (r : HasRunDrill all host) : Type 0 where
  pub found : Found
  pub is_found : IsFound (files_in r.kit.folder) (Names found)
  pub sum : published_in (notes_of r.kit.journal) ≡ finished_in (notes_of r.kit.journal) + messages_in found

pub finds_left : (all : List Publish) (host : MemHost Entry) (r : HasRunDrill all host) → AllByRecursion IsShort all → FindsLeft r
finds_left all host r short =
    let run = r.run in
    let history = run.history in
    let first : State = begun all host r in
    let list : History = notes all host r in
    let keep = entries_keep list (notes_entered all host r short) in
    let sum = conserved only_c first run.to list (ones_begun all host r) keep history.legal in
    let tally = notes_tallied all host r short in
    let stay = stays first run.to list history.legal in
    let epoch = stay.epoch in
    let zero : history.found.epoch ≡ 0 = ap (λ (f : Found). f.epoch) (found_nothing all host r) in
    let left = (run.left (inl refl)).left (omega (arith, zero, epoch)) in
    let same = all_found only_c run.to left.found (ones_stay only_c first run.to list (ones_begun all host r) keep history.legal) left.is_all in
    let nothing : left_of first ≡ 0 = ap left_in (no_topics_begun all host r) in
    let a = tally.accepted in
    let f = tally.finishes in
    record { found = left.found; is_found = left.is_found; sum = omega (arith, sum, nothing, same, a, f) }

pub finds_names : (all : List Publish) (host : MemHost Entry) (r : HasRunDrill all host) → AllByRecursion IsShort all → HasNames r.kit
finds_names all host r short = let l = finds_left all host r short in (l.found, l.is_found)

-- the same, of the kit that is at home
pub home_names : (all : List Publish) (host : MemHost Entry) → AllByRecursion IsShort all → HasRunDrill all host → IfSome (state_of host).kit HasNames
home_names all host short r = subst (λ (s : HostState MemFolder MemClock (MemJournal Entry)). IfSome s.kit HasNames) (sym r.faultless.state) (finds_names all host r short)

-- a drill that ran and was counted
module _ (seed count : ℕ) (d : Drilled) (r : HasRunDrill (publishes seed count) d.host) (few : count ≤ 100000) (c : HasCounted r.kit d) where
  abbrev ps : List Publish
  ps = publishes seed count

  abbrev list : History
  list = notes ps d.host r

  short : AllByRecursion IsShort ps
  short = publishes_short seed count

  many : length ps ≡ count
  many = length-publishes seed count

  in_range : length ps ≤ 100000
  in_range = let same = many in let most = few in omega (arith, same, most)

  counted : (d.published ≡ count) ⊎ PublisherWants ps d.host list
  counted =
      subst (λ n. (d.published ≡ n) ⊎ PublisherWants ps d.host list) many
      (subst (λ n. (n ≡ length ps) ⊎ PublisherWants ps d.host list) (sym c.published) (all_accepted ps d.host r short in_range))

  accepts : AcceptsAll ps d.host list d.published count
  accepts = subst (λ n. AcceptsAll ps d.host list d.published n) many (subst (λ n. AcceptsAll ps d.host list n (length ps)) (sym c.published) (accepts_all ps d.host r short in_range))

  drilled_of : HasDrilled seed count d
  drilled_of =
      let l = finds_left ps d.host r short in
      let found = c.left l.found l.is_found in
      let p = c.published in
      let f = c.finished in
      let sum = l.sum in
      record {
        ran = r;
        all_served = nobody_to_serve ps d.host r short in_range;
        published = p;
        sent = c.sent;
        finished = f;
        left = record { found = l.found; is_found = l.is_found; count_is = found };
        conserved = omega (arith, p, f, found, sum);
        counted = counted;
        accepts = accepts;
      }

counted_home : (all : List Publish) (host : MemHost Entry) (d : Drilled) (r : HasRunDrill all host) → IfSome (state_of host).kit (λ kit. HasCounted kit d) → HasCounted r.kit d
counted_home all host d r h = subst (λ (s : HostState MemFolder MemClock (MemJournal Entry)). IfSome s.kit (λ kit. HasCounted kit d)) r.faultless.state h

-- and what is answered then
pub has_drilled : {E : Type 0} (seed count : ℕ) (host : MemHost Entry) (made : Result Drilled E) → HasRunDrill (publishes seed count) host → count ≤ 100000 → IfOk made (λ d. d.host ≡ host)
    → IfOk made (λ d. IfSome (state_of host).kit (λ kit. HasCounted kit d)) → IfOk made (HasDrilled seed count)
has_drilled seed count host (Ok d) r few same counts =
    let ran : HasRunDrill (publishes seed count) d.host = subst (λ h. HasRunDrill (publishes seed count) h) (sym same) r in
    drilled_of seed count d ran few (counted_home (publishes seed count) d.host d ran (subst (λ h. IfSome (state_of h).kit (λ kit. HasCounted kit d)) (sym same) counts))
has_drilled seed count host (Err e) r few same counts = tt
