-- What the words ask for, by what was done.
use Rattle.std.proofs.Common.{◌≡◌, ◌≢◌, ◌≤◌, inl, inr, ℕ, [], List, Bool, refl, sym, ◌∙◌, ap, subst, arith, Option, string_bytes}
use Rattle.std.specs.Prelude.{◌⊎◌, IsTrue}
use Rattle.nsq_base.specs.Options.{IsInRange}
use Rattle.nsq_base.specs.declared.options.Options.{Options}
use Rattle.nsq_outside.specs.Causes.{Rose}
use Rattle.nsq_outside.specs.Files.{Files}
use Rattle.nsq_outside.specs.Hosts.{HostContent, HostState, OnlyPrintFaults, OnlyTellFaults}
use Rattle.daemon_callers.specs.Served.{Views}
use Rattle.daemon_endings.specs.Endings.{status_of as serve_status}
use Rattle.daemon_endings.specs.Prints.{PrintsSo, PrintsTo, part as to_part, whole as to_whole}
use Rattle.daemon_endings.specs.Statuses.{line_of, status_of}
use Rattle.broker_history.specs.Entries.{History}
use Rattle.daemon_main.specs.Runs.{NoCaller}
use Rattle.daemon_main.specs.Sights.{Both, Sight, sight_of}
use Rattle.daemon_endings.specs.declared.serving.ServeEnd.{ServeEnd}
use Rattle.daemon_endings.specs.declared.serving.ServeEnd.TheVariants as end
use Rattle.daemon_main.proofs.Asking.{no_caller_then}
use Rattle.daemon_main.specs.Doing.{CanDo, Does, DoesNothing, DrillsSo, Obeys, ServesSo}
use Rattle.daemon_main.specs.ProgramEndings.{IsUnserved, TellsLine}
use Rattle.daemon_main.specs.Programs.{IsAsked, IsPlainRun, IsPrinted, PrintsDrill, StaysHome, part, shown, unshown, version_text, wants, whole}
use Rattle.daemon_endings.specs.declared.ending.Ending.{Ending}
use Rattle.daemon_endings.specs.declared.ending.Ending.TheVariants.{Memory}
use Rattle.daemon_main.proofs.Telling.{KeepsAll, plain_served, plain_wanting, tells_keeps, tells_told}
use Rattle.nsqd_words.specs.Command.{Words}
use Rattle.nsqd_words.specs.Requests.{Asks, AsksDrill, AsksHelp, AsksVersion, IsUnknown, SaysOptions}
use Rattle.nsqd_words.specs.declared.request.Request.{Request}
use Rattle.nsqd_words.specs.declared.request.Request.TheVariants as request

-- how the causes of requests exclude each other
pub record Excludes (words : Words) : Type 0 where
  pub one : (o p : Options) → SaysOptions words o → SaysOptions words p → o ≡ p
  pub known : (o : Options) → SaysOptions words o → IsInRange o → IsUnknown words → ⊥
  pub drill_known : (seed count : ℕ) → AsksDrill words seed count → IsUnknown words → ⊥
  pub drills : (seed count seed' count' : ℕ) → AsksDrill words seed count → AsksDrill words seed' count' → (seed ≡ seed') × (count ≡ count')
  pub help_known : AsksHelp words → IsUnknown words → ⊥
  pub version_known : AsksVersion words → IsUnknown words → ⊥
  pub options_drill : (o : Options) (seed count : ℕ) → SaysOptions words o → AsksDrill words seed count → ⊥
  pub options_help : (o : Options) → SaysOptions words o → AsksHelp words → ⊥
  pub options_version : (o : Options) → SaysOptions words o → AsksVersion words → ⊥
  pub drill_help : (seed count : ℕ) → AsksDrill words seed count → AsksHelp words → ⊥
  pub drill_version : (seed count : ℕ) → AsksDrill words seed count → AsksVersion words → ⊥
  pub help_version : AsksHelp words → AsksVersion words → ⊥

-- what is asked for can be done
pub can_do : (words : Words) (r : Request) → Asks words r → CanDo r
can_do words (request.Serve o) asks = asks.1
can_do words (request.Drill seed count) asks = (asks.seed_at_most, asks.count_at_most)
can_do words (request.Help text) asks = tt
can_do words (request.Version text) asks = tt
can_do words request.Unknown asks = tt

not_one : (e : ServeEnd) → serve_status e ≡ 1 → ⊥
not_one end.Clean s = absurd (omega (arith, s))
not_one end.BadData s = absurd (omega (arith, s))
not_one end.EpochSpent s = absurd (omega (arith, s))
not_one end.OpeningFault s = absurd (omega (arith, s))
not_one end.StopFault s = absurd (omega (arith, s))
not_one end.AcceptFailed s = absurd (omega (arith, s))
not_one end.Memory s = absurd (omega (arith, s))

-- a run that served has status 4 only where the listeners failed
pub four_failed : (e : ServeEnd) → serve_status e ≡ 4 → e ≡ end.AcceptFailed
four_failed end.Clean s = absurd (omega (arith, s))
four_failed end.BadData s = absurd (omega (arith, s))
four_failed end.EpochSpent s = absurd (omega (arith, s))
four_failed end.OpeningFault s = absurd (omega (arith, s))
four_failed end.StopFault s = absurd (omega (arith, s))
four_failed end.AcceptFailed s = refl
four_failed end.Memory s = absurd (omega (arith, s))

-- a run that served has a status of 5 at most
most_five : (e : ServeEnd) → serve_status e ≤ 5
most_five end.Clean = omega arith
most_five end.BadData = omega arith
most_five end.EpochSpent = omega arith
most_five end.OpeningFault = omega arith
most_five end.StopFault = omega arith
most_five end.AcceptFailed = omega arith
most_five end.Memory = omega arith

-- what was done where nothing was served, before its line was told
pub record Unserved {F C J K : Type 0} (tells : Bool) (words : Words) (ending : Ending) (s0 s1 : HostState F C J) (c0 c1 : HostContent K) : Type 0 where
  pub unserved : IsUnserved ending
  pub state : OnlyPrintFaults s0 s1
  pub starts : IsTrue tells → c1.starts ≡ c0.starts
  pub lines : IsTrue tells → c1.lines ≡ c0.lines
  pub callers : IsTrue tells → NoCaller c0 c1
  pub silent : IsUnknown words → (s1.print_faults ≡ s0.print_faults) × (IsTrue tells → c1.printed ≡ c0.printed)

printed_callers : {K : Type 0} (old new : HostContent K) (printed : List ℕ) → new ≡ record old { printed = printed } → NoCaller old new
printed_callers {K} old new printed e = record {
  coming = ap (λ (c : HostContent K). c.coming) e;
  given = ap (λ (c : HostContent K). c.given) e;
  back = ap (λ (c : HostContent K). c.back) e;
  halted = ap (λ (c : HostContent K). c.halted) e;
}

module _ {F C J K : Type 0} (Told : Type 0) (tells tells_files tells_notes : Bool) (seen : Views K) (s0 s1 : HostState F C J) (c0 c1 : HostContent K) (before after : Option (Sight K)) where
  abbrev DoesSo : Request → Ending → Type 0
  DoesSo r ending = Does Told tells tells_files tells_notes seen s0 s1 c0 c1 before after r ending

  abbrev ObeysSo : Words → Ending → Type 0
  ObeysSo words ending = Obeys Told tells tells_files tells_notes seen s0 s1 c0 c1 before after (Asks words) ending

  -- what was printed has status 0 or 6
  printed_status : (text : List ℕ) (ending : Ending) → PrintsTo tells s0 s1 c0 c1 text ending → (status_of ending ≡ 0) ⊎ (status_of ending ≡ 6)
  printed_status text ending (to_whole p) = inl refl
  printed_status text ending (to_part p rose) = inr refl

  printed_not : (n : ℕ) (text : List ℕ) (ending : Ending) → n ≢ 0 → n ≢ 6 → PrintsTo tells s0 s1 c0 c1 text ending → status_of ending ≡ n → ⊥
  printed_not n text ending d f p is = go (printed_status text ending p)
    where
      go : (status_of ending ≡ 0) ⊎ (status_of ending ≡ 6) → ⊥
      go (inl z) = d (sym is ∙ z)
      go (inr z) = f (sym is ∙ z)

  pub printed_unserved : (text : List ℕ) (ending : Ending) → PrintsTo tells s0 s1 c0 c1 text ending → status_of ending ≡ 4 → ⊥
  printed_unserved text ending p is = printed_not 4 text ending (λ x. absurd (omega (arith, x))) (λ x. absurd (omega (arith, x))) p is

  abbrev Drills : (seed count : ℕ) → Ending → Type 0
  Drills seed count ending = DrillsSo tells s0 s1 c0 c1 seed count ending

  -- what was done for a drill has status 0, 5 or 6
  drill_not : (n seed count : ℕ) (ending : Ending) → n ≢ 0 → n ≢ 6 → n ≢ 5 → Drills seed count ending → status_of ending ≡ n → ⊥
  drill_not n seed count ending d f w (inl p) is = let done = p.2 in printed_not n p.0 ending d f done.prints is
  drill_not n seed count ending d f w (inr q) is = w (sym is ∙ ap status_of q.0)

  -- status 1 comes only where the words aren't right
  unknown_by : (words : Words) (r : Request) (ending : Ending) → Asks words r → DoesSo r ending → status_of ending ≡ 1 → IsUnknown words
  unknown_by words (request.Serve o) ending asks does is = absurd (not_one does.ended (sym (ap status_of does.is) ∙ is))
  unknown_by words (request.Drill seed count) ending asks does is =
      absurd (drill_not 1 seed count ending (λ x. absurd (omega (arith, x))) (λ x. absurd (omega (arith, x))) (λ x. absurd (omega (arith, x))) does is)
  unknown_by words (request.Help text) ending asks does is = absurd (printed_not 1 (string_bytes text) ending (λ x. absurd (omega (arith, x))) (λ x. absurd (omega (arith, x))) does.prints is)
  unknown_by words (request.Version text) ending asks does is = absurd (printed_not 1 (string_bytes text) ending (λ x. absurd (omega (arith, x))) (λ x. absurd (omega (arith, x))) does.prints is)
  unknown_by words request.Unknown ending asks does is = asks

  pub status_unknown : (words : Words) (ending : Ending) → ObeysSo words ending → status_of ending ≡ 1 → IsUnknown words
  status_unknown words ending (inl d) is = unknown_by words d.0 ending d.1 d.2 is
  status_unknown words ending (inr w) is = absurd (omega (arith, is, ap status_of w.0))

  -- status 6 comes only with a rise of the count of standard output
  printed_rise : (text : List ℕ) (ending : Ending) → PrintsTo tells s0 s1 c0 c1 text ending → status_of ending ≡ 6 → Rose s0.print_faults s1.print_faults
  printed_rise text ending (to_whole p) is = absurd (omega (arith, is))
  printed_rise text ending (to_part p rose) is = rose

  rise_drill : (seed count : ℕ) (ending : Ending) → Drills seed count ending → status_of ending ≡ 6 → Rose s0.print_faults s1.print_faults
  rise_drill seed count ending (inl p) is = let done = p.2 in printed_rise p.0 ending done.prints is
  rise_drill seed count ending (inr q) is = absurd (omega (arith, is, ap status_of q.0))

  rise_by : (r : Request) (ending : Ending) → DoesSo r ending → status_of ending ≡ 6 → Rose s0.print_faults s1.print_faults
  rise_by (request.Serve o) ending does is =
      let most = most_five does.ended in
      let same : serve_status does.ended ≡ 6 = sym (ap status_of does.is) ∙ is in
      absurd (omega (arith, most, same))
  rise_by (request.Drill seed count) ending does is = rise_drill seed count ending does is
  rise_by (request.Help text) ending does is = printed_rise (string_bytes text) ending does.prints is
  rise_by (request.Version text) ending does is = printed_rise (string_bytes text) ending does.prints is
  rise_by request.Unknown ending does is = absurd (omega (arith, is, ap status_of does.0))

  pub status_rose : (words : Words) (ending : Ending) → ObeysSo words ending → status_of ending ≡ 6 → Rose s0.print_faults s1.print_faults
  status_rose words ending (inl d) is = rise_by d.0 ending d.2 is
  status_rose words ending (inr w) is = absurd (omega (arith, is, ap status_of w.0))

  -- and there always, but for want of memory
  known_by : (words : Words) (r : Request) (ending : Ending) → Excludes words → Asks words r → DoesSo r ending → IsUnknown words → status_of ending ≡ 1
  known_by words (request.Serve o) ending x asks does u = absurd (x.known o asks.0 asks.1 u)
  known_by words (request.Drill seed count) ending x asks does u = absurd (x.drill_known seed count asks u)
  known_by words (request.Help text) ending x asks does u = absurd (x.help_known asks u)
  known_by words (request.Version text) ending x asks does u = absurd (x.version_known asks.0 u)
  known_by words request.Unknown ending x asks does u = ap status_of does.0

  pub unknown_status : (words : Words) (ending : Ending) → Excludes words → ObeysSo words ending → IsUnknown words → (status_of ending ≡ 1) ⊎ (status_of ending ≡ 5)
  unknown_status words ending x (inl d) u = inl (known_by words d.0 ending x d.1 d.2 u)
  unknown_status words ending x (inr w) u = inr (ap status_of w.0)

  -- words that say options in their ranges were served with these, or memory was wanting
  serves_by : (words : Words) (o : Options) (r : Request) (ending : Ending) → Excludes words → SaysOptions words o → IsInRange o → Asks words r → DoesSo r ending → ServesSo Told tells tells_files tells_notes seen s0 s1 c0 c1 before after o ending
  serves_by words o (request.Serve p) ending x says range asks does = subst (λ q. ServesSo Told tells tells_files tells_notes seen s0 s1 c0 c1 before after q ending) (x.one p o asks.0 says) does
  serves_by words o (request.Drill seed count) ending x says range asks does = absurd (x.options_drill o seed count says asks)
  serves_by words o (request.Help text) ending x says range asks does = absurd (x.options_help o says asks)
  serves_by words o (request.Version text) ending x says range asks does = absurd (x.options_version o says asks.0)
  serves_by words o request.Unknown ending x says range asks does = absurd (x.known o says range asks)

  pub served_words : (words : Words) (o : Options) (ending : Ending) → Excludes words → SaysOptions words o → IsInRange o → ObeysSo words ending
      → ServesSo Told tells tells_files tells_notes seen s0 s1 c0 c1 before after o ending ⊎ ((ending ≡ Memory) × DoesNothing tells s0 s1 c0 c1)
  served_words words o ending x says range (inl d) = inl (serves_by words o d.0 ending x says range d.1 d.2)
  served_words words o ending x says range (inr w) = inr w

  -- what was printed
  printed_by : (text : List ℕ) (ending : Ending) → PrintsTo tells s0 s1 c0 c1 text ending → IsPrinted tells text (status_of ending) c0.printed c1.printed s0.print_faults s1.print_faults
  printed_by text ending (to_whole p) = whole refl (λ told. ap (λ (c : HostContent K). c.printed) (p told))
  printed_by text ending (to_part p rose) = part refl (λ told. let q = p told in (q.0, ap (λ (c : HostContent K). c.printed) q.1)) rose

  drilled_by : (seed count : ℕ) (ending : Ending) → Drills seed count ending → PrintsDrill tells seed count (status_of ending) c0.printed c1.printed s0.print_faults s1.print_faults
  drilled_by seed count ending (inl p) = let done = p.2 in shown p.0 p.1 (printed_by p.0 ending done.prints)
  drilled_by seed count ending (inr q) =
      let n = q.1 in unshown (ap status_of q.0) (ap (λ (s : HostState F C J). s.print_faults) n.state) (λ told. ap (λ (c : HostContent K). c.printed) n.content)

  same_drill : (seed count seed' count' : ℕ) (ending : Ending) → (seed ≡ seed') × (count ≡ count') → Drills seed count ending → Drills seed' count' ending
  same_drill seed count seed' count' ending e d = subst (λ n. Drills seed' n ending) e.1 (subst (λ n. Drills n count ending) e.0 d)

  asked_by : (words : Words) (r : Request) (ending : Ending) → Excludes words → Asks words r → DoesSo r ending → IsAsked tells words (status_of ending) c0.printed c1.printed s0.print_faults s1.print_faults
  asked_by words (request.Serve o) ending x asks does = record { version = λ v. absurd (x.options_version o asks.0 v); help = λ h. absurd (x.options_help o asks.0 h); drill = λ seed count d. absurd (x.options_drill o seed count asks.0 d) }
  asked_by words (request.Drill seed count) ending x asks does = record {
    version = λ v. absurd (x.drill_version seed count asks v);
    help = λ h. absurd (x.drill_help seed count asks h);
    drill = λ seed' count' d. drilled_by seed' count' ending (same_drill seed count seed' count' ending (x.drills seed count seed' count' asks d) does);
  }
  asked_by words (request.Help text) ending x asks does = record {
    version = λ v. absurd (x.help_version asks v);
    help = λ _. record { text = string_bytes text; printed = printed_by (string_bytes text) ending does.prints };
    drill = λ seed count d. absurd (x.drill_help seed count d asks);
  }
  asked_by words (request.Version text) ending x asks does = record {
    version = λ _. subst (λ t. IsPrinted tells t (status_of ending) c0.printed c1.printed s0.print_faults s1.print_faults) asks.1 (printed_by (string_bytes text) ending does.prints);
    help = λ h. absurd (x.help_version h asks.0);
    drill = λ seed count d. absurd (x.drill_version seed count d asks.0);
  }
  asked_by words request.Unknown ending x asks does = record { version = λ v. absurd (x.version_known v asks); help = λ h. absurd (x.help_known h asks); drill = λ seed count d. absurd (x.drill_known seed count d asks) }

  wanted_by : (words : Words) (ending : Ending) → ending ≡ Memory → DoesNothing tells s0 s1 c0 c1 → IsAsked tells words (status_of ending) c0.printed c1.printed s0.print_faults s1.print_faults
  wanted_by words ending is n =
      let same : c1.printed ≡ c0.printed = ap (λ (c : HostContent K). c.printed) n.content in
      record {
        version = λ _. wants (ap status_of is) (λ told. same);
        help = λ _. record { text = []; printed = wants (ap status_of is) (λ told. same) };
        drill = λ seed count d. unshown (ap status_of is) (ap (λ (s : HostState F C J). s.print_faults) n.state) (λ told. same);
      }

  pub asked_words : (words : Words) (ending : Ending) → Excludes words → ObeysSo words ending → IsAsked tells words (status_of ending) c0.printed c1.printed s0.print_faults s1.print_faults
  asked_words words ending x (inl d) = asked_by words d.0 ending x d.1 d.2
  asked_words words ending x (inr w) = wanted_by words ending w.0 w.1

  -- words that say no options in their ranges lead to no run
  nothing_stays : (words : Words) (ending : Ending) → IsUnserved ending → DoesNothing tells s0 s1 c0 c1 → Unserved tells words ending s0 s1 c0 c1
  nothing_stays words ending unserved n =
      let count : s1.print_faults ≡ s0.print_faults = ap (λ (s : HostState F C J). s.print_faults) n.state in
      let printed : c1.printed ≡ c0.printed = ap (λ (c : HostContent K). c.printed) n.content in
      record {
        unserved = unserved;
        state = (omega (arith, count), subst (λ (s : HostState F C J). s ≡ record s0 { print_faults = s.print_faults }) (sym n.state) refl);
        starts = λ told. ap (λ (c : HostContent K). c.starts) n.content;
        lines = λ told. ap (λ (c : HostContent K). c.lines) n.content;
        callers = λ told. printed_callers c0 c1 c0.printed n.content;
        silent = λ unknown. (count, λ told. printed);
      }

  prints_stay : (words : Words) (text : List ℕ) (ending : Ending) → (IsUnknown words → ⊥) → PrintsSo tells s0 s1 c0 c1 text ending → Unserved tells words ending s0 s1 c0 c1
  prints_stay words text ending known p = go p.prints
    where
      go : {ending : Ending} → PrintsTo tells s0 s1 c0 c1 text ending → Unserved tells words ending s0 s1 c0 c1
      go (to_whole q) = record {
        unserved = tt;
        state = p.state;
        starts = λ told. ap (λ (c : HostContent K). c.starts) (q told);
        lines = λ told. ap (λ (c : HostContent K). c.lines) (q told);
        callers = λ told. printed_callers c0 c1 _ (q told);
        silent = λ unknown. absurd (known unknown);
      }
      go (to_part q rose) = record {
        unserved = tt;
        state = p.state;
        starts = λ told. let r = q told in ap (λ (c : HostContent K). c.starts) r.1;
        lines = λ told. let r = q told in ap (λ (c : HostContent K). c.lines) r.1;
        callers = λ told. let r = q told in printed_callers c0 c1 _ r.1;
        silent = λ unknown. absurd (known unknown);
      }

  drill_stays : (words : Words) (seed count : ℕ) (ending : Ending) → (IsUnknown words → ⊥) → Drills seed count ending → Unserved tells words ending s0 s1 c0 c1
  drill_stays words seed count ending known (inl p) = prints_stay words p.0 ending known p.2
  drill_stays words seed count ending known (inr q) = nothing_stays words ending (subst (λ e. IsUnserved e) (sym q.0) tt) q.1

  stays_by : (words : Words) (r : Request) (ending : Ending) → Excludes words → ((o : Options) → SaysOptions words o → IsInRange o → ⊥) → Asks words r → DoesSo r ending → Unserved tells words ending s0 s1 c0 c1
  stays_by words (request.Serve o) ending x none asks does = absurd (none o asks.0 asks.1)
  stays_by words (request.Drill seed count) ending x none asks does = drill_stays words seed count ending (x.drill_known seed count asks) does
  stays_by words (request.Help text) ending x none asks does = prints_stay words (string_bytes text) ending (x.help_known asks) does
  stays_by words (request.Version text) ending x none asks does = prints_stay words (string_bytes text) ending (x.version_known asks.0) does
  stays_by words request.Unknown ending x none asks does = nothing_stays words ending (subst (λ e. IsUnserved e) (sym does.0) tt) does.1

  pub stays_words : (words : Words) (ending : Ending) → Excludes words → ((o : Options) → SaysOptions words o → IsInRange o → ⊥) → ObeysSo words ending → Unserved tells words ending s0 s1 c0 c1
  stays_words words ending x none (inl d) = stays_by words d.0 ending x none d.1 d.2
  stays_words words ending x none (inr w) = nothing_stays words ending (subst (λ e. IsUnserved e) (sym w.0) tt) w.1

-- a line was told behind
module _ {F C J K : Type 0} (tells : Bool) (s0 s1 s2 : HostState F C J) (c0 c1 c2 : HostContent K) (ending : Ending) (told : OnlyTellFaults s1 s2) (line : IsTrue tells → TellsLine (line_of ending) c1 c2 s1.tell_faults s2.tell_faults) where
  print_same : s2.print_faults ≡ s1.print_faults
  print_same = ap (λ (s : HostState F C J). s.print_faults) told.1

  keeps : IsTrue tells → KeepsAll c1 c2
  keeps t = tells_keeps (line_of ending) c1 c2 s1.tell_faults s2.tell_faults (line t)

  printed_same : IsTrue tells → c2.printed ≡ c1.printed
  printed_same t = let k = keeps t in k.printed

  pub rose_then : Rose s0.print_faults s1.print_faults → Rose s0.print_faults s2.print_faults
  rose_then rose = subst (λ n. Rose s0.print_faults n) (sym print_same) rose

  printed_then : (text : List ℕ) (status status' : ℕ) → status' ≡ status → IsPrinted tells text status c0.printed c1.printed s0.print_faults s1.print_faults → IsPrinted tells text status' c0.printed c2.printed s0.print_faults s2.print_faults
  printed_then text status status' is (whole s p) = whole (is ∙ s) (λ t. printed_same t ∙ p t)
  printed_then text status status' is (part s p rose) = part (is ∙ s) (λ t. let q = p t in (q.0, printed_same t ∙ q.1)) (rose_then rose)
  printed_then text status status' is (wants s p) = wants (is ∙ s) (λ t. printed_same t ∙ p t)

  drilled_then : (seed count status status' : ℕ) → status' ≡ status → PrintsDrill tells seed count status c0.printed c1.printed s0.print_faults s1.print_faults → PrintsDrill tells seed count status' c0.printed c2.printed s0.print_faults s2.print_faults
  drilled_then seed count status status' is (shown text shows p) = shown text shows (printed_then text status status' is p)
  drilled_then seed count status status' is (unshown s same p) = unshown (is ∙ s) (print_same ∙ same) (λ t. printed_same t ∙ p t)

  pub asked_then : (words : Words) (status status' : ℕ) → status' ≡ status → IsAsked tells words status c0.printed c1.printed s0.print_faults s1.print_faults → IsAsked tells words status' c0.printed c2.printed s0.print_faults s2.print_faults
  asked_then words status status' is a = record {
    version = λ v. printed_then version_text status status' is (a.version v);
    help = λ h. let p = a.help h in record { text = p.text; printed = printed_then p.text status status' is p.printed };
    drill = λ seed count d. drilled_then seed count status status' is (a.drill seed count d);
  }

  pub stays_then : (words : Words) (status : ℕ) → status ≡ status_of ending → Unserved tells words ending s0 s1 c0 c1 → StaysHome tells words status s0 s2 c0 c2
  stays_then words status is h =
      let state = h.state in
      let tell : s1.tell_faults ≡ s0.tell_faults = ap (λ (s : HostState F C J). s.tell_faults) state.1 in
      record {
        ending = ending;
        unserved = h.unserved;
        is = is;
        told = λ t. tells_told (line_of ending) c1 c2 c0.lines s0.tell_faults s1.tell_faults s2.tell_faults (h.lines t) (sym tell) (line t);
        shows = told.1 ∙ ap {A = HostState F C J} (λ s. record s { tell_faults = s2.tell_faults }) state.1 ∙ ap (λ n. record s0 { print_faults = n; tell_faults = s2.tell_faults }) (sym print_same);
        starts = λ t. let k = keeps t in k.starts ∙ h.starts t;
        callers = λ t. let k = keeps t in no_caller_then c0 c1 c2 (h.callers t) k.callers;
        silent = λ unknown. let q = h.silent unknown in (print_same ∙ q.0, λ t. printed_same t ∙ q.1 t);
      }

-- a plain run, by what the words ask for
module _ {F C J K : Type 0} (notes : J → History) (files : F → Files) (coming : C → ℕ → ℕ) (faults : F → ℕ) (Told : Type 0) (tells tells_files tells_notes : Bool) (host_of : Told → IsTrue tells) (seen : Views K) (s0 s1 s2 : HostState F C J) (c0 c1 c2 : HostContent K)
    (told : OnlyTellFaults s1 s2) where
  pub plain_words : (words : Words) (o : Options) (ending : Ending) (status : ℕ) → status ≡ status_of ending → Excludes words → SaysOptions words o → IsInRange o → (IsTrue tells → TellsLine (line_of ending) c1 c2 s1.tell_faults s2.tell_faults)
      → Obeys Told tells tells_files tells_notes seen s0 s1 c0 c1 (sight_of notes files coming faults s0 c0) (sight_of notes files coming faults s1 c1) (Asks words) ending
      → Both (sight_of notes files coming faults s0 c0) (sight_of notes files coming faults s2 c2) (IsPlainRun Told tells tells_files tells_notes seen o status)
  plain_words words o ending status is x says range line obeys =
      subst (λ n. Both (sight_of notes files coming faults s0 c0) (sight_of notes files coming faults s2 c2) (IsPlainRun Told tells tells_files tells_notes seen o n)) (sym is)
      (go (served_words Told tells tells_files tells_notes seen s0 s1 c0 c1 (sight_of notes files coming faults s0 c0) (sight_of notes files coming faults s1 c1) words o ending x says range obeys))
    where
      go : ServesSo Told tells tells_files tells_notes seen s0 s1 c0 c1 (sight_of notes files coming faults s0 c0) (sight_of notes files coming faults s1 c1) o ending ⊎ ((ending ≡ Memory) × DoesNothing tells s0 s1 c0 c1)
          → Both (sight_of notes files coming faults s0 c0) (sight_of notes files coming faults s2 c2) (IsPlainRun Told tells tells_files tells_notes seen o (status_of ending))
      go (inl s) = plain_served notes files coming faults Told tells tells_files tells_notes host_of seen o s0 s1 s2 c0 c1 c2 told ending line s
      go (inr w) = plain_wanting notes files coming faults Told tells tells_files tells_notes host_of seen o s0 s1 s2 c0 c1 c2 told ending w.0 line w.1
