-- What a run as a whole did, from what its parts did.
use Rattle.std.proofs.Common.{◌≡◌, ◌≤◌, ◌<◌, inl, inr, ℕ, ◌+◌, ◌++◌, [], Bool, true, false, length, refl, sym, ◌∙◌, ap, subst, arith}
use Rattle.std.specs.Prelude.{◌⊎◌, IsTrue, IsPermutation}
use Rattle.std.specs.List.{AllByRecursion}
use Rattle.std.proofs.lemmas.List.Sorted.{IsPermutation-refl}
use Rattle.nsq_base.specs.declared.options.Options.{Options}
use Rattle.nsq_outside.specs.Causes.{Rose}
use Rattle.nsq_outside.specs.Hosts.{HostContent}
use Rattle.queue_image.specs.FileNames.IsFileOf.{own as own_file}
use Rattle.path_image.specs.Found.{Found, IsFound, Names}
use Rattle.broker_history.specs.Entries.{History, faults_apart, faults_of, has_stop, own, stops_of}
use Rattle.broker_history.specs.Found.{start}
use Rattle.broker_history.specs.Legal.{Legal}
use Rattle.broker_history.specs.Moments.{IsTimed, moment_of}
use Rattle.broker_history.specs.State.{State}
use Rattle.broker_history.proofs.Own.{own-append}
use Rattle.broker_history.proofs.Stops.{stops_once}
use Rattle.broker_history.proofs.Timing.{turns_read}
use Rattle.floor_laws.specs.Laws.{IsOf, RoseBy}
use Rattle.floor_laws.proofs.Faulting.{apart_few}
use Rattle.floor_laws.proofs.Laying.{turns_of}
use Rattle.broker_floor.specs.Leads.{LedTo}
use Rattle.broker_floor.specs.Scenes.{Scene, Stands}
use Rattle.broker_floor.specs.Opening.{HaveBytes, OnlyOpeningFiles}
use Rattle.broker_floor.specs.Closings.{Leaves}
use Rattle.daemon_main.specs.Going.{Went}
use Rattle.daemon_main.specs.Rounds.{IsHalted, WhyOver, ticks_of}
use Rattle.daemon_callers.specs.Served.{HasServed, UpTo, Views}
use Rattle.daemon_endings.specs.declared.ends.LoopEnd.{LoopEnd}
use Rattle.daemon_endings.specs.declared.ends.LoopEnd.TheVariants as loop
use Rattle.daemon_main.proofs.Going.{went_by, went_then}
use Rattle.daemon_callers.proofs.Others.{stops-append, stops_own, up_to_more}
use Rattle.daemon_main.proofs.Rounding.{ticks-append}
use Rattle.daemon_callers.proofs.Handing.{daemon_served}
use Rattle.daemon_main.specs.Callers.{DaemonStops, HasCallersStop, ServesAll, failed, halted, one_to, wants}
use Rattle.daemon_main.specs.Endings.{FindsNames, IsCaused}
use Rattle.daemon_main.specs.Parts.{RunsOn}
use Rattle.daemon_main.specs.Runs.{HasRun, IsShut, TellsHistory}
use Rattle.daemon_main.specs.Sights.{Sight}
use Rattle.daemon_endings.specs.declared.serving.ServeEnd.{ServeEnd}
use Rattle.daemon_endings.specs.declared.serving.ServeEnd.TheVariants as end
use Rattle.daemon_main.proofs.Causes.{EndsWell, at_clean, at_fault, parts, rose_wider, served_ends}
use Rattle.daemon_main.proofs.Numbering.{handed, numbered}
use Rattle.daemon_main.proofs.Stopping.{callers_stop, has_stops, stop_stays, stops_caused, stops_last}

-- rises of counts
by_wider : (n a a0 a1 a2 : ℕ) → a ≤ a0 → a1 ≤ a2 → RoseBy n a0 a1 → RoseBy n a a2
by_wider n a a0 a1 a2 l m r = omega (arith, l, m, r)

by_one_more : (m n a b c : ℕ) → m ≤ n → RoseBy n a b → Rose b c → RoseBy (m + 1) a c
by_one_more m n a b c l r s = omega (arith, l, r, s)

rose_from : (n a b : ℕ) → RoseBy (n + 1) a b → Rose a b
rose_from n a b r = omega (arith, r)

module _ {K : Type 0} (ended : ServeEnd) (number accept accept' : ℕ) (notes : History) (content : HostContent K) where
  -- why the daemon stops: where a Stop stood already, it doesn't
  stop_cause : (l : LoopEnd) → WhyOver l number accept accept' notes content → (l ≡ loop.Memory → ended ≡ end.Memory) → (ended ≡ end.Clean → EndsWell l) → (has_stop notes ≡ true → ⊥) → DaemonStops ended number accept accept' content
  stop_cause loop.Halted why wanting well alone = halted why
  stop_cause loop.Failed why wanting well alone = failed (λ clean. well clean) why
  stop_cause loop.Stopped why wanting well alone = absurd (alone why)
  stop_cause loop.Memory why wanting well alone = wants (wanting refl)

  -- a loop that ended well ended since nobody will call any more, or since a caller stopped the daemon
  well_over : (l : LoopEnd) → WhyOver l number accept accept' notes content → EndsWell l → own 0 notes ≡ [] → IsHalted number content ⊎ HasCallersStop notes
  well_over loop.Halted why well none = inl why
  well_over loop.Failed why well none = absurd well
  well_over loop.Stopped why well none = inr (callers_stop notes why none)
  well_over loop.Memory why well none = absurd well

-- the daemon's own turns brought a Stop only where none stood before, since there is one at most
none_before : (h h' added : History) → h' ≡ h ++ added → own 0 h ≡ [] → AllByRecursion (IsOf 0) added → stops_of h' ≤ 1 → 0 < stops_of (own 0 h') → has_stop h ≡ true → ⊥
none_before h h' added whole none of once some stands =
    let mine : own 0 h' ≡ own 0 added = ap (λ x. own 0 x) whole ∙ own-append 0 h added ∙ ap (λ x. x ++ own 0 added) none in
    let same : stops_of (own 0 h') ≡ stops_of added = ap stops_of mine ∙ sym (stops_own 0 added of) in
    let both : stops_of h' ≡ stops_of h + stops_of added = ap stops_of whole ∙ stops-append h added in
    let first = has_stops h stands in
    absurd (omega (arith, once, some, same, both, first))

-- a floor that stands for some state
pub record Stood (opened : Scene) : Type 0 where
  pub state : State
  pub stands : Stands opened state

-- a floor that was opened in a data path: its scene, and what was found there
pub record Opened {K : Type 0} (options : Options) (old : Sight K) (opened : Scene) : Type 0 where
  pub found : Found
  pub is_found : IsFound old.files (Names found)
  pub stands : Stands opened (start found options (moment_of old.coming 1))
  pub moment : opened.hall.moment ≡ moment_of old.coming 1
  pub ahead : (k : ℕ) → opened.coming k ≡ old.coming (k + 1)
  pub unstuck : opened.hall.stuck ≡ false
  pub empty : opened.notes ≡ []
  pub faults : old.counts.folder ≤ opened.faults
  pub files : OnlyOpeningFiles old.files opened.files

module _ {K : Type 0} (Told : Type 0) (told : Told) (tells_host tells_notes tells_files tells_readings : Bool) (notes_told : IsTrue tells_notes) (files_told : IsTrue tells_files) (readings_told : IsTrue tells_readings) (seen : Views K) (options : Options) (ended : ServeEnd)
    (old new : Sight K) (opened : Scene) (o : Opened options old opened)
    (r : RunsOn Told tells_host tells_notes tells_files tells_readings seen options (moment_of old.coming 1) ended old.counts.accept new.counts.accept opened new.files new.notes new.coming new.counts.folder old.content new.content) where
  abbrev daemons : History
  daemons = let turns = r.leads.turns notes_told in turns.added

  turns_whole : r.last.notes ≡ r.middle.notes ++ daemons
  turns_whole = let turns = r.leads.turns notes_told in turns.whole

  turns_daemons : AllByRecursion (IsOf 0) daemons
  turns_daemons = let turns = r.leads.turns notes_told in turns_of turns.turns

  now_whole : new.notes ≡ r.middle.notes ++ daemons
  now_whole = r.same_notes ∙ turns_whole

  went : Went tells_notes tells_files tells_readings opened r.last
  went = went_then tells_notes tells_files tells_readings opened r.middle r.last r.rounds.went (went_by tells_notes tells_files tells_readings 0 r.middle r.last r.leads)

  abbrev begun : State
  begun = start o.found options (moment_of old.coming 1)

  led : LedTo opened r.last begun
  led = went.legal notes_told files_told begun o.stands

  notes_are : new.notes ≡ led.added
  notes_are = r.same_notes ∙ led.whole ∙ ap (λ h. h ++ led.added) o.empty

  legal : Legal begun new.notes led.to
  legal = subst (λ h. Legal begun h led.to) (sym notes_are) led.legal

  history : TellsHistory options old new led.to
  history =
      let times = went.times notes_told readings_told old.coming 1 (record { ahead = λ k. o.ahead k ∙ ap old.coming (omega arith); moment = o.moment }) in
      let whole : new.notes ≡ times.added = r.same_notes ∙ times.whole ∙ ap (λ h. h ++ times.added) o.empty in
      let timed : IsTimed old.coming 1 new.notes times.later = subst (λ h. IsTimed old.coming 1 h times.later) (sym whole) times.timed in
      record {
        found = o.found;
        is_found = o.is_found;
        legal = legal;
        readings = times.later;
        timed = timed;
        moments = turns_read old.coming 1 times.later new.notes timed;
        ahead = λ k. ap (λ (f : ℕ → ℕ). f k) r.same_coming ∙ times.now.ahead k;
      }

  few_apart : faults_apart new.notes ≤ faults_of new.notes
  few_apart = apart_few new.notes

  counted : RoseBy (faults_of new.notes) opened.faults r.last.faults
  counted = subst (λ h. RoseBy (faults_of h) opened.faults r.last.faults) (sym notes_are) led.counted

  pub stop_rose : Rose r.last.faults new.counts.folder ⊎ (r.last.hall.stuck ≡ true) → RoseBy (faults_apart new.notes + 1) old.counts.folder new.counts.folder
  stop_rose (inl rose) =
      by_wider (faults_apart new.notes + 1) old.counts.folder opened.faults new.counts.folder new.counts.folder o.faults (omega arith)
      (by_one_more (faults_apart new.notes) (faults_of new.notes) opened.faults r.last.faults new.counts.folder few_apart counted rose)
  stop_rose (inr stuck) =
      by_wider (faults_apart new.notes + 1) old.counts.folder opened.faults r.last.faults new.counts.folder o.faults r.later
      (subst (λ h. RoseBy (faults_apart h + 1) opened.faults r.last.faults) (sym notes_are) (led.apart o.unstuck stuck))

  at_stop : ended ≡ end.StopFault → RoseBy (faults_apart new.notes + 1) old.counts.folder new.counts.folder
  at_stop is = let p = parts r.looped r.stopped r.shutting ended r.ended_is in stop_rose (at_fault r.last.hall.stuck r.last.faults new.counts.folder r.shutting (p.shut_fault is) r.shut_fails)

  only_files : OnlyOpeningFiles old.files new.files
  only_files = λ file not_names not_temp none.
      r.changes files_told file not_names not_temp (λ name named its. none name named (own_file its))
      ∙ went.files files_told file not_names not_temp (λ name named its. none name named (own_file its)) ∙ o.files file not_names not_temp none

  abbrev opened_at : ℕ
  opened_at = moment_of old.coming 1

  abbrev served : HasServed seen options opened_at r.number new.notes old.content new.content
  served = daemon_served seen options opened_at r.number r.middle.notes new.notes daemons old.content new.content (r.rounds.served told) now_whole turns_daemons

  count : length served.callers ≡ r.number
  count = served.count

  up_to : UpTo (length served.callers) new.notes
  up_to = up_to_more r.number (length served.callers) 0 r.middle.notes new.notes daemons now_whole (omega (arith, count)) (omega arith) (r.rounds.up_to notes_told) turns_daemons

  abbrev callers : ServesAll seen options opened_at new.notes old.content new.content
  callers =
      let grown : ticks_of new.notes ≡ ticks_of r.middle.notes + ticks_of daemons = ap ticks_of now_whole ∙ ticks-append r.middle.notes daemons in
      let before = r.rounds.ticks notes_told in
      record {
        callers = served.callers;
        back = served.back;
        came = served.came;
        given = served.given;
        returned = served.returned;
        once = subst (λ ns. IsPermutation ns (one_to (length served.callers))) (sym (numbered seen options opened_at new.notes served.callers served.back served.served)) (IsPermutation-refl (one_to (length served.callers)));
        served = handed seen options opened_at new.notes served.callers served.back served.served;
        no_other = up_to;
        ticks = omega (arith, count, grown, before);
      }

  once : stops_of new.notes ≤ 1
  once = stops_once begun led.to new.notes legal

  daemon_cause : 0 < stops_of (own 0 new.notes) → DaemonStops ended (length served.callers) old.counts.accept new.counts.accept new.content
  daemon_cause some =
      let p = parts r.looped r.stopped r.shutting ended r.ended_is in
      subst (λ n. DaemonStops ended n old.counts.accept new.counts.accept new.content) (sym count)
      (stop_cause ended r.number old.counts.accept new.counts.accept r.middle.notes new.content r.looped (r.why told) p.loop_wants p.loop_well
      (none_before r.middle.notes new.notes daemons now_whole (r.rounds.not_of_daemon notes_told) turns_daemons once some))

  clean : ended ≡ end.Clean → IsHalted (length served.callers) new.content ⊎ HasCallersStop new.notes
  clean is = let p = parts r.looped r.stopped r.shutting ended r.ended_is in go (well_over ended r.number old.counts.accept new.counts.accept r.middle.notes new.content r.looped (r.why told) (p.loop_well is) (r.rounds.not_of_daemon notes_told))
    where
      go : IsHalted r.number new.content ⊎ HasCallersStop r.middle.notes → IsHalted (length served.callers) new.content ⊎ HasCallersStop new.notes
      go (inl over) = inl (subst (λ n. IsHalted n new.content) (sym count) over)
      go (inr stop) = inr (stop_stays r.middle.notes new.notes daemons now_whole stop)

  pub ran_at : HasRun seen options ended old new
  ran_at =
      let p = parts r.looped r.stopped r.shutting ended r.ended_is in
      record {
        to = led.to;
        history = history;
        callers = callers;
        in_turn = numbered seen options opened_at new.notes served.callers served.back served.served;
        faults = record { all = by_wider (faults_of new.notes) old.counts.folder opened.faults r.last.faults new.counts.folder o.faults r.later counted; at_stop = at_stop };
        stops = record {
          once = once;
          there = λ other. subst (λ h. has_stop h ≡ true) (sym r.same_notes) (r.noted (p.stop_noted other) notes_told);
          caused = stops_caused seen options opened_at new.notes served.callers served.back ended old.counts.accept new.counts.accept new.content served.served up_to daemon_cause;
          clean = clean;
          last = stops_last r.middle.notes r.last.notes new.notes daemons r.stopped now_whole turns_whole (r.rounds.not_of_daemon notes_told) turns_daemons (r.adds notes_told);
        };
        ends = served_ends r.looped r.stopped r.shutting ended r.ended_is (λ e. IsShut e ⊎ ((e ≡ end.StopFault) ⊎ (e ≡ end.Memory))) (inl (inl refl)) (inr (inl refl)) (inl (inr refl)) (inr (inr refl));
        left = λ shut. at_clean r.shutting (Leaves led.to new.files) (p.shut_clean shut) (r.left files_told led.to led.stands.holds);
        others = only_files;
      }

-- the same, where the moment of the opening is the first reading's
pub has_run : {K : Type 0} (Told : Type 0) (told : Told) (tells_host tells_notes tells_files tells_readings : Bool) → IsTrue tells_notes → IsTrue tells_files → IsTrue tells_readings → (seen : Views K) (options : Options) (ended : ServeEnd)
    (old new : Sight K) (opened : Scene) → Opened options old opened → (began : ℕ) → began ≡ moment_of old.coming 1
    → RunsOn Told tells_host tells_notes tells_files tells_readings seen options began ended old.counts.accept new.counts.accept opened new.files new.notes new.coming new.counts.folder old.content new.content → HasRun seen options ended old new
has_run Told told th tn tf tr notes_told files_told readings_told seen options ended old new opened o began is r =
    ran_at Told told th tn tf tr notes_told files_told readings_told seen options ended old new opened o
    (subst (λ n. RunsOn Told th tn tf tr seen options n ended old.counts.accept new.counts.accept opened new.files new.notes new.coming new.counts.folder old.content new.content) is r)

-- the cause of an ending of a run that served
pub run_caused : {K : Type 0} (Told : Type 0) (tells_host tells_notes tells_files tells_readings : Bool) (seen : Views K) (options : Options) (began : ℕ) (ended : ServeEnd) (old new : Sight K) (opened : Scene) (accept accept' : ℕ)
    → (IsTrue tells_files → FindsNames old.files) → (IsTrue tells_files → IsTrue tells_notes → HaveBytes old.files → Stood opened) → old.counts.folder ≤ opened.faults → opened.hall.stuck ≡ false
    → RunsOn Told tells_host tells_notes tells_files tells_readings seen options began ended old.counts.accept new.counts.accept opened new.files new.notes new.coming new.counts.folder old.content new.content
    → IsCaused ended tells_files tells_notes old.files old.counts new.counts
run_caused Told th tn tf tr seen options began ended old new opened accept accept' found stood low unstuck r =
    let p = parts r.looped r.stopped r.shutting ended r.ended_is in
    served_ends r.looped r.stopped r.shutting ended r.ended_is (λ e. ended ≡ e → IsCaused e tf tn old.files old.counts new.counts) (λ is. found) (λ is told tells bytes. rose told tells bytes (at_fault r.last.hall.stuck r.last.faults new.counts.folder r.shutting (p.shut_fault is) r.shut_fails))
    (λ is. r.failed (p.loop_failed is)) (λ is. tt) refl
  where
    went : Went tn tf tr opened r.last
    went = went_then tn tf tr opened r.middle r.last r.rounds.went (went_by tn tf tr 0 r.middle r.last r.leads)

    rose : IsTrue tf → IsTrue tn → HaveBytes old.files → Rose r.last.faults new.counts.folder ⊎ (r.last.hall.stuck ≡ true) → Rose old.counts.folder new.counts.folder
    rose told tells bytes (inl up) = let later = went.faults in rose_wider old.counts.folder r.last.faults new.counts.folder new.counts.folder (omega (arith, low, later)) (omega arith) up
    rose told tells bytes (inr stuck) =
        let from = stood told tells bytes in
        let led = went.legal tells told from.state from.stands in
        rose_wider old.counts.folder opened.faults r.last.faults new.counts.folder low r.later (rose_from (faults_apart led.added) opened.faults r.last.faults (led.apart unstuck stuck))
