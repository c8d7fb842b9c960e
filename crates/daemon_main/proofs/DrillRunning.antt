-- What a drill's run is, from what is said of any run.
use Rattle.std.proofs.Common.{◌≡◌, ◌⊎◌, ℕ, ◌+◌, Bool, false, List, [], ◌++◌, map, Option, Some, None, IfSome, IsSome, option_map, ap, sym, subst, ◌∙◌, refl, inl, inr, arith}
use Rattle.std.specs.List.{AllByRecursion}
use Rattle.std.proofs.lemmas.Bool.{false≢true}
use Rattle.std.proofs.lemmas.Option.{none-some, same_Some}
use Rattle.nsq_base.specs.declared.options.Options.{Options}
use Rattle.nsq_outside.specs.Files.{Files}
use Rattle.nsq_outside.specs.Hosts.{HostContent, HostState}
use Rattle.nsq_fakes.specs.MemClocks.{coming_of}
use Rattle.nsq_fakes.specs.MemFolders.{faults_of, files_in}
use Rattle.nsq_fakes.specs.MemHosts.{content_of, state_of}
use Rattle.nsq_fakes.specs.MemJournals.{notes_of}
use Rattle.nsq_fakes.specs.declared.clock.MemClock.{MemClock}
use Rattle.nsq_fakes.specs.declared.conn.MemConn.{MemConn}
use Rattle.nsq_fakes.specs.declared.folder.MemFolder.{MemFolder}
use Rattle.nsq_fakes.specs.declared.host.MemHost.{MemHost}
use Rattle.nsq_fakes.specs.declared.journal.MemJournal.{MemJournal}
use Rattle.path_image.specs.Data.{data_name}
use Rattle.path_image.specs.Found.{BadData, EpochSpent, Finding, Found, IsFound, Names}
use Rattle.path_image.specs.Found.IsFound.{bad_queue, fresh, names, spent, spoilt}
use Rattle.broker_history.specs.declared.entry.Entry.{Entry}
use Rattle.broker_history.specs.Entries.{History}
use Rattle.broker_history.specs.Found.{start, started}
use Rattle.broker_history.specs.Moments.{moment_of}
use Rattle.broker_history.specs.State.{State}
use Rattle.daemon_main.specs.Asked.{StartsOnce}
use Rattle.daemon_main.specs.Parts.{KeepsFaults}
use Rattle.daemon_main.specs.Runs.{HasRun, HasWorked, Runs, StayedHome}
use Rattle.daemon_main.specs.Sights.{Both, Sight, sight, sight_of}
use Rattle.daemon_endings.specs.declared.serving.ServeEnd.{ServeEnd}
use Rattle.daemon_endings.specs.declared.serving.ServeEnd.TheVariants as end
use Rattle.drill_parts.specs.Conserving.{HaveOnes}
use Rattle.drill_parts.specs.Replying.{tried}
use Rattle.drill_parts.proofs.Conserved.{no_topics}
use Rattle.drill_parts.proofs.Replying.{replied}
use Rattle.daemon_main.specs.Drills.{HasRunDrill, NeverFailed, seen, seen_with}
use Rattle.drill_parts.specs.Hosts.{IsDrillHost, MemKit, drill_options}
use Rattle.drill_parts.specs.declared.draws.Publish.{Publish}
use Rattle.drill_parts.specs.Callers.{senders}
use Rattle.daemon_main.proofs.Entering.{all_entered, all_send, calls}
use Rattle.drill_parts.proofs.Spelling.{IsShort}
use Rattle.drill_parts.proofs.Tallying.{AreTallied, IsEntered, only_c, tallied}

-- what is seen where both kits are at home
abbrev seen_of : HostState MemFolder MemClock (MemJournal Entry) → HostContent MemConn → Option (Sight MemConn)
seen_of state content = sight_of notes_of files_in coming_of faults_of state content

at_home : {X : Type 0} (o : Option MemKit) (k : MemKit) (f : MemKit → X) (P : X → Type 0) → o ≡ Some k → IfSome (option_map f o) P → P (f k)
at_home None k f P e h = absurd (none-some k e)
at_home (Some x) k f P e h = subst (λ (y : MemKit). P (f y)) (same_Some x k e) h

-- both kits are at home, so this holds of what is seen with them
both_home : (s t : HostState MemFolder MemClock (MemJournal Entry)) (c d : HostContent MemConn) (j k : MemKit) (P : Sight MemConn → Sight MemConn → Type 0) → s.kit ≡ Some j → t.kit ≡ Some k → Both (seen_of s c) (seen_of t d) P
    → P (sight notes_of files_in coming_of faults_of j s c) (sight notes_of files_in coming_of faults_of k t d)
both_home s t c d j k P e f h =
    at_home t.kit k _ (λ b. P _ b) f (at_home s.kit j _ (λ a. IfSome (seen_of t d) (λ b. P a b)) e h)

-- a state with these parts
state_is : (s : HostState MemFolder MemClock (MemJournal Entry)) (kit : MemKit) → s.kit ≡ Some kit → s.beside ≡ false → s.accept_faults ≡ 0 → s.print_faults ≡ 0 → s.tell_faults ≡ 0
    → s ≡ record { kit = Some kit; beside = false; accept_faults = 0; print_faults = 0; tell_faults = 0 }
state_is s kit a b c d e =
    let S : Option MemKit → Bool → ℕ → ℕ → ℕ → HostState MemFolder MemClock (MemJournal Entry)
    = λ v w x y z. record { kit = v; beside = w; accept_faults = x; print_faults = y; tell_faults = z } in
    ap (λ v. S v s.beside s.accept_faults s.print_faults s.tell_faults) a ∙ ap (λ w. S (Some kit) w s.accept_faults s.print_faults s.tell_faults) b
    ∙ ap (λ x. S (Some kit) false x s.print_faults s.tell_faults) c ∙ ap (λ y. S (Some kit) false 0 y s.tell_faults) d ∙ ap (λ z. S (Some kit) false 0 0 z) e

not_failed : {X : Type 0} → end.Clean ≡ end.AcceptFailed → X
not_failed e = cc

not_wanting : {X : Type 0} → end.Clean ≡ end.Memory → X
not_wanting e = cc

-- a clean run started its host and served the callers
clean_run : (a b : Sight MemConn) → StayedHome end.Clean a b ⊎ (StartsOnce drill_options a.content b.content × HasWorked seen drill_options end.Clean a b)
    → StartsOnce drill_options a.content b.content × HasRun seen drill_options end.Clean a b
clean_run a b (inl s) = elim s.ends [ inl e ↦ not_failed e | inr e ↦ not_wanting e ]
clean_run a b (inr (s, inl r)) = elim r.ends [ inl e ↦ absurd (omega (arith, e)) | inr e ↦ not_wanting e ]
clean_run a b (inr (s, inr r)) = (s, r)

no_bytes : (kit : MemKit) → ((name : List ℕ) → files_in kit.folder name ≡ None) → (name bytes : List ℕ) → files_in kit.folder name ≡ Some bytes → ⊥
no_bytes kit none name bytes e = none-some bytes (sym (none name) ∙ e)

-- the run of a drill's host that ended cleanly, with no count that rose
pub has_run : (all : List Publish) (host : MemHost Entry) (f : (first : MemHost Entry) × IsDrillHost all first) (kit : MemKit) (ended : ServeEnd) → ended ≡ end.Clean → KeepsFaults (state_of f.0) (state_of host)
    → (state_of host).kit ≡ Some kit → (state_of host).accept_faults ≡ 0 → faults_of kit.folder ≡ 0 → AllByRecursion NeverFailed (content_of host).back
    → Both (seen_of (state_of f.0) (content_of f.0)) (seen_of (state_of host) (content_of host)) (Runs seen drill_options ended) → HasRunDrill all host
has_run all host f kit ended clean keeps home accept folder back both =
    let first : MemHost Entry = f.0 in
    let is_first : IsDrillHost all first = f.1 in
    let home_first : (state_of first).kit ≡ Some is_first.kit = ap (λ (s : HostState MemFolder MemClock (MemJournal Entry)). s.kit) is_first.state in
    let runs : Runs seen drill_options end.Clean (seen_with is_first.kit first) (seen_with kit host)
    = subst (λ e. Runs seen drill_options e (seen_with is_first.kit first) (seen_with kit host)) clean
    (both_home (state_of first) (state_of host) (content_of first) (content_of host) is_first.kit kit (Runs seen drill_options ended) home_first home both) in
    let done = clean_run (seen_with is_first.kit first) (seen_with kit host) (runs (λ name bytes e. absurd (no_bytes is_first.kit is_first.is_new.files name bytes e))) in
    record {
      first = first;
      is_first = is_first;
      kit = kit;
      faultless = record {
        state = state_is (state_of host) kit home (keeps.beside ∙ ap (λ (s : HostState MemFolder MemClock (MemJournal Entry)). s.beside) is_first.state) accept
            (keeps.print ∙ ap (λ (s : HostState MemFolder MemClock (MemJournal Entry)). s.print_faults) is_first.state) (keeps.tell ∙ ap (λ (s : HostState MemFolder MemClock (MemJournal Entry)). s.tell_faults) is_first.state);
        folder = folder;
        back = back;
      };
      started = done.0;
      run = done.1;
    }

-- the same, where the kit is at home, for options that are a drill's
pub has_run_home : (all : List Publish) (first host : MemHost Entry) (options : Options) (ended : ServeEnd) → IsDrillHost all first → options ≡ drill_options → ended ≡ end.Clean → KeepsFaults (state_of first) (state_of host)
    → IsSome (state_of host).kit → (state_of host).accept_faults ≡ 0 → IfSome (state_of host).kit (λ kit. faults_of kit.folder ≡ 0) → AllByRecursion NeverFailed (content_of host).back
    → Both (seen_of (state_of first) (content_of first)) (seen_of (state_of host) (content_of host)) (Runs seen options ended) → HasRunDrill all host
has_run_home all first host options ended is_first same clean keeps home accept folder back both = go (state_of host).kit refl
  where
    go : (o : Option MemKit) → (state_of host).kit ≡ o → HasRunDrill all host
    go None e = absurd (false≢true (subst (λ (x : Option MemKit). IsSome x) e home))
    go (Some kit) e =
        has_run all host (first, is_first) kit ended clean keeps e accept (subst (λ (x : Option MemKit). IfSome x (λ k. faults_of k.folder ≡ 0)) e folder) back
        (subst (λ (o : Options). Both (seen_of (state_of first) (content_of first)) (seen_of (state_of host) (content_of host)) (Runs seen o ended)) same both)

-- what is found in an empty folder
abbrev nothing_found : Found
nothing_found = record { epoch = 0; topics = [] }

abbrev IsFirst : Finding → Type 0
IsFirst BadData = Unit {0}
IsFirst EpochSpent = Unit {0}
IsFirst (Names found) = found ≡ nothing_found

found_first : (files : Files) (x : Finding) → files data_name ≡ None → IsFound files x → IsFirst x
found_first files x e (fresh f) = refl
found_first files x e (spoilt t f b) = tt
found_first files x e (spent t k f b l) = tt
found_first files x e (bad_queue t k f b l q) = tt
found_first files x e (names t k f b l m p) = absurd (none-some t (sym e ∙ f))

-- what is known of its history: it begins with nothing, from the callers of the drill, and its entries are theirs and the daemon's
module _ (all : List Publish) (host : MemHost Entry) (r : HasRunDrill all host) where
  abbrev pub notes : History
  notes = notes_of r.kit.journal

  abbrev pub moment : ℕ
  moment = moment_of (coming_of r.is_first.kit.clock) 1

  abbrev pub begun : State
  begun = start r.run.history.found drill_options moment

  pub found_nothing : r.run.history.found ≡ nothing_found
  found_nothing = found_first (files_in r.is_first.kit.folder) (Names r.run.history.found) (r.is_first.is_new.files data_name) r.run.history.is_found

  pub no_topics_begun : begun.topics ≡ []
  no_topics_begun = ap (λ (f : Found). map started f.topics) found_nothing

  pub ones_begun : HaveOnes only_c begun.topics
  ones_begun = subst (λ ts. HaveOnes only_c ts) (sym no_topics_begun) (no_topics only_c)

  pub all_came : map calls (senders all) ≡ r.run.callers.callers ++ (content_of host).coming
  all_came = ap (λ (c : HostContent MemConn). c.coming) (sym r.is_first.content) ∙ r.run.callers.came

  pub notes_entered : AllByRecursion IsShort all → AllByRecursion IsEntered notes
  notes_entered short =
      let callers = r.run.callers in
      all_entered seen moment notes callers.callers (content_of host).coming callers.back (senders all) all_came (all_send all short) callers.served callers.no_other r.run.in_turn r.run.stops.last

  pub notes_tallied : AllByRecursion IsShort all → AreTallied notes
  notes_tallied short = tallied begun.options (begun.ids_used + tried notes) notes (notes_entered short) (replied begun r.run.to notes r.run.history.legal)
