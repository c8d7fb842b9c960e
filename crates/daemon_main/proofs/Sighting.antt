-- What is seen of a host whose kit was lent for some work, and taken back.
use Rattle.std.proofs.Common.{◌≡◌, ◌≤◌, inl, inr, ℕ, zero, suc, ◌+◌, ◌++◌, List, Bool, true, refl, sym, ◌∙◌, ap, subst, arith, length, map, Option, Some, None, option_map}
use Rattle.std.specs.Prelude.{◌⊎◌, IfSome}
use Rattle.std.specs.List.{AllByRecursion}
use Rattle.nsq_base.specs.declared.options.Options.{Options}
use Rattle.nsq_outside.specs.Files.{Files}
use Rattle.nsq_outside.specs.Hosts.{HostContent, HostState, OnlyAcceptFaults}
use Rattle.nsq_outside.specs.declared.host.Kind.{Kind}
use Rattle.nsq_outside.specs.declared.host.Kit.{Kit}
use Rattle.nsq_outside.specs.declared.journal.End.{End}
use Rattle.path_image.specs.Found.{IsFound, Names}
use Rattle.broker_history.specs.declared.entry.Entry.{Entry}
use Rattle.broker_history.specs.Entries.{History, faults_apart, faults_of, has_stop, is_stop, stops_of}
use Rattle.broker_history.specs.Found.{start}
use Rattle.broker_history.specs.Legal.{Legal}
use Rattle.broker_history.specs.Moments.{HasReadings, IsTimed, moment_of}
use Rattle.broker_history.specs.State.{State}
use Rattle.floor_laws.specs.Laws.{RoseBy}
use Rattle.floor_laws.proofs.Laying.{all_so}
use Rattle.broker_floor.specs.Closings.{Leaves}
use Rattle.broker_floor.specs.Opening.{FindsAgain, HaveBytes}
use Rattle.daemon_main.specs.Rounds.{IsHalted, ticks_of}
use Rattle.daemon_callers.specs.Served.{UpTo, Views}
use Rattle.daemon_main.specs.Asked.{StartsOnce}
use Rattle.daemon_main.specs.Callers.{DaemonStops, HasCallersStop, HasStopCause, IsHandedBack, StopsAreCaused, StopsLast, failed, halted, wants}
use Rattle.daemon_main.specs.Endings.{IsCaused}
use Rattle.daemon_main.specs.Parts.{KeepsFaults}
use Rattle.daemon_main.specs.Runs.{CountsFaults, HasRun, HasWorked, NoCaller, Runs, TellsHistory}
use Rattle.daemon_main.specs.Sights.{Both, Sight, counts_of, sight, sight_of}
use Rattle.daemon_endings.specs.declared.serving.ServeEnd.{ServeEnd}
use Rattle.daemon_main.proofs.Asking.{no_caller_then, same_callers}
use Rattle.daemon_main.proofs.Causes.{NoFewer, caused_wider, rose_wider}

-- two moments between which the folder wasn't used and no caller came, at the start of a run
pub record Before {K : Type 0} (a b : Sight K) : Type 0 where
  pub files : b.files ≡ a.files
  pub coming : b.coming ≡ a.coming
  pub counts : NoFewer a.counts b.counts
  pub callers : NoCaller a.content b.content

-- and at its end
pub record After {K : Type 0} (a b : Sight K) : Type 0 where
  pub files : b.files ≡ a.files
  pub coming : b.coming ≡ a.coming
  pub notes : b.notes ≡ a.notes
  pub counts : NoFewer a.counts b.counts
  pub callers : NoCaller a.content b.content

by_wider : (n a a0 a1 a2 : ℕ) → a ≤ a0 → a1 ≤ a2 → RoseBy n a0 a1 → RoseBy n a a2
by_wider n a a0 a1 a2 l m r = omega (arith, l, m, r)

module _ {K : Type 0} (ended : ServeEnd) (number a a0 a1 a2 : ℕ) (c d : HostContent K) (low : a ≤ a0) (high : a1 ≤ a2) (same : d.halted ≡ c.halted) where
  halted_between : IsHalted number c → IsHalted number d
  halted_between (inl h) = inl (same ∙ h)
  halted_between (inr s) = inr s

  stops_between : DaemonStops ended number a0 a1 c → DaemonStops ended number a a2 d
  stops_between (halted h) = halted (halted_between h)
  stops_between (failed unclean r) = failed unclean (rose_wider a a0 a1 a2 low high r)
  stops_between (wants w) = wants w

module _ {K : Type 0} (seen : Views K) (o : Options) (began : ℕ) (callers : List (Kind × List ℕ)) (back : List (ℕ × K)) (ended : ServeEnd) (a a0 a1 a2 : ℕ) (c d : HostContent K) (low : a ≤ a0) (high : a1 ≤ a2) (same : d.halted ≡ c.halted) where
  cause_between : (n : ℕ) → HasStopCause seen o began callers back ended a0 a1 c n → HasStopCause seen o began callers back ended a a2 d n
  cause_between zero s = stops_between ended (length callers) a a0 a1 a2 c d low high same s
  cause_between (suc n) s = s

module _ {K : Type 0} (seen : Views K) (options : Options) (ended : ServeEnd) (a b c d : Sight K) (p : Before a b) (q : After c d) where
  history_between : (to : State) → TellsHistory options b c to → TellsHistory options a d to
  history_between to h = record {
    found = h.found;
    is_found = subst (λ f. IsFound f (Names h.found)) p.files h.is_found;
    legal = subst (λ x. Legal (start h.found options (moment_of a.coming 1)) x to) (sym q.notes) (subst (λ f. Legal (start h.found options (moment_of f 1)) c.notes to) p.coming h.legal);
    readings = h.readings;
    timed = subst (λ x. IsTimed a.coming 1 x h.readings) (sym q.notes) (subst (λ f. IsTimed f 1 c.notes h.readings) p.coming h.timed);
    moments = subst (λ x. (r : ℕ) × HasReadings a.coming 1 x r × (r ≤ h.readings)) (sym q.notes) (subst (λ f. (r : ℕ) × HasReadings f 1 c.notes r × (r ≤ h.readings)) p.coming h.moments);
    ahead = λ k. ap (λ (f : ℕ → ℕ). f k) q.coming ∙ h.ahead k ∙ ap (λ (f : ℕ → ℕ). f (h.readings + k)) p.coming;
  }

  faults_between : CountsFaults ended b c → CountsFaults ended a d
  faults_between f =
      let low = p.counts.folder in
      let high = q.counts.folder in
      record {
        all = subst (λ x. RoseBy (faults_of x) a.counts.folder d.counts.folder) (sym q.notes) (by_wider (faults_of c.notes) a.counts.folder b.counts.folder c.counts.folder d.counts.folder low high f.all);
        at_stop = λ is. subst (λ x. RoseBy (faults_apart x + 1) a.counts.folder d.counts.folder) (sym q.notes) (by_wider (faults_apart c.notes + 1) a.counts.folder b.counts.folder c.counts.folder d.counts.folder low high (f.at_stop is));
      }

  caused_between : (callers : List (Kind × List ℕ)) (back : List (ℕ × K)) → StopsAreCaused seen options (moment_of b.coming 1) callers back ended b.counts.accept c.counts.accept c.content c.notes
      → StopsAreCaused seen options (moment_of a.coming 1) callers back ended a.counts.accept d.counts.accept d.content d.notes
  caused_between callers back s =
      let began : ℕ = moment_of a.coming 1 in
      let P : Entry × End → Type 0 = λ e. is_stop e.0.act ≡ true → HasStopCause seen options began callers back ended b.counts.accept c.counts.accept c.content e.0.conn in
      let Q : Entry × End → Type 0 = λ e. is_stop e.0.act ≡ true → HasStopCause seen options began callers back ended a.counts.accept d.counts.accept d.content e.0.conn in
      subst (λ x. AllByRecursion Q x) (sym q.notes)
      (all_so P Q c.notes (λ e so is. cause_between seen options began callers back ended a.counts.accept b.counts.accept c.counts.accept d.counts.accept c.content d.content p.counts.accept q.counts.accept q.callers.halted e.0.conn (so is))
      (subst (λ f. StopsAreCaused seen options (moment_of f 1) callers back ended b.counts.accept c.counts.accept c.content c.notes) p.coming s))

  clean_between : (number : ℕ) → IsHalted number c.content ⊎ HasCallersStop c.notes → IsHalted number d.content ⊎ HasCallersStop d.notes
  clean_between number (inl over) = inl (halted_between ended number a.counts.accept b.counts.accept c.counts.accept d.counts.accept c.content d.content p.counts.accept q.counts.accept q.callers.halted over)
  clean_between number (inr stop) = inr (subst (λ x. HasCallersStop x) (sym q.notes) stop)

  run_between : HasRun seen options ended b c → HasRun seen options ended a d
  run_between r =
      let s = r.callers in
      record {
        to = r.to;
        history = history_between r.to r.history;
        callers = record {
          callers = s.callers;
          back = s.back;
          came = sym p.callers.coming ∙ s.came ∙ ap (λ x. s.callers ++ x) (sym q.callers.coming);
          given = q.callers.given ∙ s.given ∙ ap (λ x. x ++ map (λ (c : Kind × List ℕ). c.0) s.callers) p.callers.given;
          returned = q.callers.back ∙ s.returned ∙ ap (λ x. x ++ s.back) p.callers.back;
          once = s.once;
          served = subst (λ x. AllByRecursion (IsHandedBack seen options (moment_of a.coming 1) x s.callers) s.back) (sym q.notes) (subst (λ f. AllByRecursion (IsHandedBack seen options (moment_of f 1) c.notes s.callers) s.back) p.coming s.served);
          no_other = subst (λ x. UpTo (length s.callers) x) (sym q.notes) s.no_other;
          ticks = subst (λ x. length s.callers ≤ ticks_of x) (sym q.notes) s.ticks;
        };
        in_turn = r.in_turn;
        faults = faults_between r.faults;
        stops = record {
          once = let t = r.stops in subst (λ x. stops_of x ≤ 1) (sym q.notes) t.once;
          there = λ other. let t = r.stops in subst (λ x. has_stop x ≡ true) (sym q.notes) (t.there other);
          caused = let t = r.stops in caused_between s.callers s.back t.caused;
          clean = λ is. let t = r.stops in clean_between (length s.callers) (t.clean is);
          last = let t = r.stops in subst (λ x. StopsLast x) (sym q.notes) t.last;
        };
        ends = r.ends;
        left = λ shut. subst (λ f. Leaves r.to f) (sym q.files) (r.left shut);
        others = λ file not_names not_temp none. ap (λ (f : Files). f file) q.files ∙ r.others file not_names not_temp none ∙ ap (λ (f : Files). f file) p.files;
      }

  -- what was done between moments at which no caller came
  pub worked_between : HasWorked seen options ended b c → HasWorked seen options ended a d
  worked_between (inl w) = inl (record {
    empty = q.notes ∙ w.empty;
    callers = no_caller_then a.content c.content d.content (no_caller_then a.content b.content c.content p.callers w.callers) q.callers;
    ends = w.ends;
    again = subst (λ f. FindsAgain a.files f) (sym q.files) (subst (λ f. FindsAgain f c.files) p.files w.again);
    others = λ file not_names not_temp none. ap (λ (f : Files). f file) q.files ∙ w.others file not_names not_temp none ∙ ap (λ (f : Files). f file) p.files;
  })
  worked_between (inr r) = inr (run_between r)

-- how a host's kit is lent for some work and taken back
pub record Lends {F C J : Type 0} (s0 s1 s2 s3 s4 : HostState F C J) (lent back : Kit F C J) : Type 0 where
  pub started : OnlyAcceptFaults s0 s1
  pub lend : s2 ≡ record s1 { kit = None }
  pub folder : IfSome s1.kit (λ kit. lent.folder ≡ kit.folder)
  pub clock : IfSome s1.kit (λ kit. lent.clock ≡ kit.clock)
  pub worked : OnlyAcceptFaults s2 s3
  pub restore : s4 ≡ record s3 { kit = Some back }

-- what holds of both moments, from another fact
pub both_then : {K : Type 0} (old new : Option (Sight K)) (P Q : Sight K → Sight K → Type 0) → ((a b : Sight K) → P a b → Q a b) → Both old new P → Both old new Q
both_then None new P Q f h = tt
both_then (Some a) None P Q f h = tt
both_then (Some a) (Some b) P Q f h = f a b h

module _ {F C J : Type 0} where
  same_kit : (o o' : Option (Kit F C J)) (P : Kit F C J → Kit F C J → Type 0) → o' ≡ o → ((x : Kit F C J) → P x x) → IfSome o (λ x. IfSome o' (λ y. P x y))
  same_kit None o' P e f = tt
  same_kit (Some x) o' P e f = subst (λ y. IfSome y (λ z. P x z)) (sym e) (f x)

  lent_kit : (o o' : Option (Kit F C J)) (lent back : Kit F C J) (P : Kit F C J → Kit F C J → Type 0) → IfSome o (λ kit. lent.folder ≡ kit.folder) → IfSome o (λ kit. lent.clock ≡ kit.clock) → o' ≡ Some back
      → ((x : Kit F C J) → lent.folder ≡ x.folder → lent.clock ≡ x.clock → P x back) → IfSome o (λ x. IfSome o' (λ y. P x y))
  lent_kit None o' lent back P folder clock e f = tt
  lent_kit (Some x) o' lent back P folder clock e f = subst (λ y. IfSome y (λ z. P x z)) (sym e) (f x folder clock)

module _ {F C J K : Type 0} (notes : J → History) (files : F → Files) (coming : C → ℕ → ℕ) (faults : F → ℕ) where
  abbrev Seen : Kit F C J → HostState F C J → HostContent K → Sight K
  Seen kit s c = sight notes files coming faults kit s c

  abbrev SeenOf : HostState F C J → HostContent K → Option (Sight K)
  SeenOf s c = sight_of notes files coming faults s c

  both_kits : (o o' : Option (Kit F C J)) (s s' : HostState F C J) (c c' : HostContent K) (P : Sight K → Sight K → Type 0) → IfSome o (λ x. IfSome o' (λ y. P (Seen x s c) (Seen y s' c')))
      → Both (option_map (λ kit. Seen kit s c) o) (option_map (λ kit. Seen kit s' c') o') P
  both_kits None o' s s' c c' P h = tt
  both_kits (Some x) None s s' c c' P h = tt
  both_kits (Some x) (Some y) s s' c c' P h = h

  -- the kit stayed
  pub both_same : (s s' : HostState F C J) (c c' : HostContent K) (P : Sight K → Sight K → Type 0) → s'.kit ≡ s.kit → ((x : Kit F C J) → P (Seen x s c) (Seen x s' c')) → Both (SeenOf s c) (SeenOf s' c') P
  both_same s s' c c' P e f = both_kits s.kit s'.kit s s' c c' P (same_kit s.kit s'.kit (λ x y. P (Seen x s c) (Seen y s' c')) e f)

  module _ (s0 s1 s2 s3 s4 : HostState F C J) (c0 c1 c2 c3 c4 : HostContent K) (lent back : Kit F C J) (l : Lends s0 s1 s2 s3 s4 lent back) where
    lent_then : (P : Sight K → Sight K → Type 0) → ((x : Kit F C J) → lent.folder ≡ x.folder → lent.clock ≡ x.clock → P (Seen x s0 c0) (Seen back s4 c4)) → Both (SeenOf s0 c0) (SeenOf s4 c4) P
    lent_then P f =
        let same : s1.kit ≡ s0.kit = ap (λ (x : HostState F C J). x.kit) l.started.1 in
        both_kits s0.kit s4.kit s0 s4 c0 c4 P
        (lent_kit s0.kit s4.kit lent back (λ x y. P (Seen x s0 c0) (Seen y s4 c4)) (subst (λ o. IfSome o (λ (kit : Kit F C J). lent.folder ≡ kit.folder)) same l.folder) (subst (λ o. IfSome o (λ (kit : Kit F C J). lent.clock ≡ kit.clock)) same l.clock)
        (ap (λ (x : HostState F C J). x.kit) l.restore) f)

    fewer_before : (x : Kit F C J) → lent.folder ≡ x.folder → NoFewer (counts_of faults x.folder s0) (counts_of faults lent.folder s2)
    fewer_before x same =
        let accept : s2.accept_faults ≡ s1.accept_faults = ap (λ (x : HostState F C J). x.accept_faults) l.lend in
        let rose = l.started.0 in
        let folder : faults lent.folder ≡ faults x.folder = ap faults same in
        record { folder = omega (arith, folder); accept = omega (arith, rose, accept) }

    fewer_after : NoFewer (counts_of faults back.folder s3) (counts_of faults back.folder s4)
    fewer_after =
        let accept : s4.accept_faults ≡ s3.accept_faults = ap (λ (x : HostState F C J). x.accept_faults) l.restore in
        record { folder = omega arith; accept = omega (arith, accept) }

    -- the cause of an ending of the work is one of the whole
    pub lent_caused : (tells_files tells_notes : Bool) (e : ServeEnd) → IsCaused e tells_files tells_notes (files lent.folder) (counts_of faults lent.folder s2) (counts_of faults back.folder s3)
        → Both (SeenOf s0 c0) (SeenOf s4 c4) (λ old new. IsCaused e tells_files tells_notes old.files old.counts new.counts)
    lent_caused tells_files tells_notes e cause = lent_then (λ old new. IsCaused e tells_files tells_notes old.files old.counts new.counts) (λ x folder clock.
        subst (λ f. IsCaused e tells_files tells_notes f (counts_of faults x.folder s0) (counts_of faults back.folder s4)) (ap files folder)
        (caused_wider tells_files tells_notes e (files lent.folder) (counts_of faults x.folder s0) (counts_of faults lent.folder s2) (counts_of faults back.folder s3) (counts_of faults back.folder s4) (fewer_before x folder) fewer_after cause))

    -- what the work did, the whole did
    pub lent_runs : (seen : Views K) (options : Options) (ended : ServeEnd) → NoCaller c0 c1 → c2 ≡ c1 → c4 ≡ c3 → (HaveBytes (files lent.folder) → HasWorked seen options ended (Seen lent s2 c2) (Seen back s3 c3)) → StartsOnce options c0 c4
        → Both (SeenOf s0 c0) (SeenOf s4 c4) (Runs seen options ended)
    lent_runs seen options ended none lend restore worked begun = lent_then (Runs seen options ended) (λ x folder clock bytes. inr (
      begun,
      worked_between seen options ended (Seen x s0 c0) (Seen lent s2 c2) (Seen back s3 c3) (Seen back s4 c4)
          (record { files = ap files folder; coming = ap coming clock; counts = fewer_before x folder; callers = no_caller_then c0 c1 c2 none (same_callers c1 c2 lend) })
          (record { files = refl; coming = refl; notes = refl; counts = fewer_after; callers = same_callers c3 c4 restore }) (worked (subst (λ f. HaveBytes f) (sym (ap files folder)) bytes)),
    ))

module _ {F C J : Type 0} where
  -- which counts a host's calls leave
  pub kept_faults : (s s' : HostState F C J) → OnlyAcceptFaults s s' → KeepsFaults s s'
  kept_faults s s' o = record { accept = o.0; beside = ap (λ (x : HostState F C J). x.beside) o.1; print = ap (λ (x : HostState F C J). x.print_faults) o.1; tell = ap (λ (x : HostState F C J). x.tell_faults) o.1 }

  faults_then : (a b c : HostState F C J) → KeepsFaults a b → KeepsFaults b c → KeepsFaults a c
  faults_then a b c p q = let low = p.accept in let high = q.accept in record { accept = omega (arith, low, high); beside = q.beside ∙ p.beside; print = q.print ∙ p.print; tell = q.tell ∙ p.tell }

  moved_faults : (a b : HostState F C J) (kit : Option (Kit F C J)) → b ≡ record a { kit = kit } → KeepsFaults a b
  moved_faults a b kit e =
      let accept : b.accept_faults ≡ a.accept_faults = ap (λ (x : HostState F C J). x.accept_faults) e in
      record { accept = omega (arith, accept); beside = ap (λ (x : HostState F C J). x.beside) e; print = ap (λ (x : HostState F C J). x.print_faults) e; tell = ap (λ (x : HostState F C J). x.tell_faults) e }

  pub lent_faults : (s0 s1 s2 s3 s4 : HostState F C J) (back : Kit F C J) → OnlyAcceptFaults s0 s1 → s2 ≡ record s1 { kit = None } → OnlyAcceptFaults s2 s3 → s4 ≡ record s3 { kit = Some back } → KeepsFaults s0 s4
  lent_faults s0 s1 s2 s3 s4 back started lend worked restore =
      faults_then s0 s3 s4 (faults_then s0 s2 s3 (faults_then s0 s1 s2 (kept_faults s0 s1 started) (moved_faults s1 s2 None lend)) (kept_faults s2 s3 worked)) (moved_faults s3 s4 (Some back) restore)
