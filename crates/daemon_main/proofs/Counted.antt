-- That all that was to be published in a drill was accepted.
use Rattle.std.proofs.Common.{◌≡◌, ◌⊎◌, inl, inr, ℕ, zero, suc, ◌+◌, ◌-◌, ◌^◌, ◌<◌, ◌≤◌, ◌==◌, min, true, List, [], ◌∷◌, ◌++◌, length, map, refl, sym, ap, subst, ◌∙◌, arith, length-append}
use Rattle.std.specs.List.{AllByRecursion, list_any}
use Rattle.std.proofs.lemmas.List.{length-map}
use Rattle.nsq_outside.specs.Hosts.{HostContent}
use Rattle.nsq_fakes.specs.MemClocks.{coming_of}
use Rattle.nsq_fakes.specs.MemConns.{has_ended, left_of, pieces_of, read_faults_of, write_faults_of, written_of}
use Rattle.nsq_fakes.specs.MemFolders as folders
use Rattle.nsq_fakes.specs.MemHosts.{content_of}
use Rattle.nsq_fakes.specs.declared.conn.MemConn.{MemConn}
use Rattle.nsq_fakes.specs.declared.host.MemHost.{MemHost}
use Rattle.nsq_fakes.proofs.Shown.{nobody_to_come, nothing_left}
use Rattle.broker_history.specs.declared.ended.Ended.TheVariants.{Memory}
use Rattle.broker_history.specs.declared.entry.Entry.{Entry}
use Rattle.broker_history.specs.Entries.{History, faults_of}
use Rattle.daemon_callers.specs.Served.{IsServedTcp}
use Rattle.daemon_main.specs.Callers.{IsHandedBack, numbers_of}
use Rattle.daemon_endings.specs.declared.serving.ServeEnd.TheVariants as end
use Rattle.drill_parts.specs.Counts.{published}
use Rattle.drill_parts.specs.Publishing.{IsQuiet, PublishesAlone}
use Rattle.drill_parts.proofs.Closing.{within}
use Rattle.drill_parts.proofs.Publishing.{publishers_publish}
use Rattle.drill_parts.specs.Callers.{publisher}
use Rattle.drill_parts.specs.Counting.{published_in}
use Rattle.drill_parts.specs.Draws.{behind, publish_from, publishes}
use Rattle.daemon_main.specs.Drills.{AcceptsAll, HasRunDrill, NeverFailed, PublisherWants, seen}
use Rattle.drill_parts.specs.Hosts.{drill_options, stream_of}
use Rattle.drill_parts.specs.declared.draws.Publish.{Publish}
use Rattle.daemon_main.proofs.Entering.{among, drill_limits, numbered, publisher_sends, spell_of}
use Rattle.daemon_main.proofs.Publishing.{Stands, all_calm, all_pubs, all_stand, at_zero, ends_well, first_served, no_callers_stop, nobody_left, publishes_alone, some_came, unstopped}
use Rattle.daemon_main.proofs.DrillRunning.{all_came, begun, moment, notes, notes_entered, notes_tallied, ones_begun}
use Rattle.drill_parts.proofs.Spelling.{IsShort, pub_of}
use Rattle.drill_parts.proofs.Tallying.{entries_keep, only_c}

pub length-publishes : (seed count : ℕ) → length (publishes seed count) ≡ count
length-publishes seed zero = refl
length-publishes seed (suc n) = let rest = length-publishes seed n in let more = length-append (publishes seed n) (publish_from (behind seed n) n ∷ []) in omega (arith, rest, more)

-- what holds of all in two lists of facts
both_hold : {X : Type 0} (P Q : X → Type 0) (xs : List X) → AllByRecursion P xs → AllByRecursion Q xs → AllByRecursion (λ x. P x × Q x) xs
both_hold P Q [] all more = tt
both_hold P Q (x ∷ xs) all more = ((all.0, more.0), both_hold P Q xs all.1 more.1)

module _ (all : List Publish) (host : MemHost Entry) (r : HasRunDrill all host) (short : AllByRecursion IsShort all) (few : length all ≤ 100000) where
  abbrev list : History
  list = notes all host r

  -- the folder's count didn't rise, so no entry ended with a disk fault
  no_fault : faults_of list ≡ 0
  no_fault =
      let rose : min (folders.faults_of r.is_first.kit.folder + faults_of list) (2 ^ 64 - 1) ≤ folders.faults_of r.kit.folder = r.run.faults.all in
      let before = r.is_first.is_new.faults in
      let after = r.faultless.folder in
      omega (arith, rose, before, after)

  quiet : IsQuiet only_c 0 (begun all host r) r.run.to list
  quiet =
      let entered = notes_entered all host r short in
      record {
        legal = r.run.history.legal;
        ones = ones_begun all host r;
        nobody = refl;
        beats = omega arith;
        calm = all_calm list entered (entries_keep list entered) (at_zero (coming_of r.is_first.kit.clock) r.is_first.is_new.readings r.run.history.moments.1);
        no_fault = no_fault;
      }

  -- the connection that published, by how it ended
  published_by : (conn : MemConn) (s : IsServedTcp seen drill_limits list 1 (stream_of (publisher all)) conn) → read_faults_of conn ≡ 0 → write_faults_of conn ≡ 0 → (published list ≡ length all) ⊎ (s.ended ≡ Memory)
  published_by conn s no_read no_write =
      let callers = r.run.callers in
      let t = s.talks in
      let came = all_came all host r in
      let many = length-map all pub_of in
      let alone : PublishesAlone drill_limits 1 list t.wanted (pieces_of conn) (written_of conn) s.ended (map pub_of all)
      = record {
        talk = t.talk;
        left = left_of conn;
        spells = spell_of seen list 1 conn (publisher all) (publisher_sends all short) s;
        pubs = all_pubs all;
        alone = publishes_alone seen (moment all host r) list all callers.callers (content_of host).coming callers.back came callers.served callers.no_other r.run.in_turn r.run.stops.last;
        unstopped = unstopped seen (moment all host r) list all callers.callers (content_of host).coming callers.back came end.Clean _ _ (content_of host) r.run.stops.caused 1 r.run.stops.last;
        ends = ends_well s.ended (has_ended conn) (read_faults_of conn) (write_faults_of conn) (left_of conn) (nothing_left conn) no_read no_write s.cause;
      } in
      elim (publishers_publish only_c 0 (begun all host r) r.run.to list drill_limits 1 t.wanted (pieces_of conn) (written_of conn) s.ended (map pub_of all) quiet alone (omega (arith, many, few))) [ inl e ↦ inl (e ∙ many) | inr m ↦ inr m ]

  -- all callers were served, so one was
  pub nobody_to_serve : (content_of host).coming ≡ []
  nobody_to_serve =
      let callers = r.run.callers in
      let came = all_came all host r in
      elim (r.run.stops.clean refl) [
        | inl halted ↦ nobody_left all callers.callers (content_of host) came (nobody_to_come host) halted
        | inr stop ↦ absurd (no_callers_stop seen (moment all host r) list all callers.callers (content_of host).coming callers.back came end.Clean _ _ (content_of host) r.run.stops.caused stop)
      ]

  some_served : 0 < length r.run.callers.callers
  some_served = some_came all r.run.callers.callers (content_of host).coming (all_came all host r) nobody_to_serve

  -- those that were handed back are those that were served
  all_back : (content_of host).back ≡ r.run.callers.back
  all_back = r.run.callers.returned ∙ ap (λ (c : HostContent MemConn). c.back ++ r.run.callers.back) r.is_first.content

  wants_at : (conn : MemConn) → Stands (content_of host).back (1, conn) → IsServedTcp seen drill_limits list 1 (stream_of (publisher all)) conn → NeverFailed (1, conn) → (published list ≡ length all) ⊎ PublisherWants all host list
  wants_at conn at s good =
      elim (published_by conn s good.reads good.writes) [
        | inl e ↦ inl e
        | inr m ↦ inr (record { before = at.before; conn = conn; after = at.after; place = at.place; served = s; memory = m })
      ]

  wants_by : (x : ℕ × MemConn) → x.0 ≡ 1 → Stands (content_of host).back x → IsHandedBack seen drill_options (moment all host r) list r.run.callers.callers x → NeverFailed x → (published list ≡ length all) ⊎ PublisherWants all host list
  wants_by x is at back good =
      let callers = r.run.callers in
      let s = first_served seen (moment all host r) list all callers.callers (content_of host).coming callers.back (all_came all host r) x is back in
      let both : Stands (content_of host).back (1, x.1) × IsServedTcp seen drill_limits list 1 (stream_of (publisher all)) x.1
      = subst (λ n. Stands (content_of host).back (n, x.1) × IsServedTcp seen drill_limits list n (stream_of (publisher all)) x.1) is (at, s) in
      wants_at x.1 both.0 both.1 (record { reads = good.reads; writes = good.writes })

  all_published : (published list ≡ length all) ⊎ PublisherWants all host list
  all_published =
      let callers = r.run.callers in
      let some = some_served in
      let there : list_any (λ m. m == 1) (numbers_of callers.back) ≡ true = ap (list_any (λ m. m == 1)) r.run.in_turn ∙ among 1 (length callers.callers) (omega arith) some in
      let good : AllByRecursion NeverFailed callers.back = subst (λ xs. AllByRecursion NeverFailed xs) all_back r.faultless.back in
      let both = both_hold (IsHandedBack seen drill_options (moment all host r) list callers.callers) NeverFailed callers.back callers.served good in
      let P : ℕ × MemConn → Type 0 = λ x. IsHandedBack seen drill_options (moment all host r) list callers.callers x × NeverFailed x in
      let at = numbered (λ x. P x × Stands callers.back x) 1 callers.back (all_stand P [] callers.back both) there in
      wants_by at.0 at.1 (subst (λ (xs : List (ℕ × MemConn)). Stands xs at.0) (sym all_back) at.2.1) at.2.0.0 at.2.0.1

  pub all_accepted : (published_in list ≡ length all) ⊎ PublisherWants all host list
  all_accepted = let tally = notes_tallied all host r short in elim (all_published) [ inl e ↦ inl (tally.accepted ∙ e) | inr w ↦ inr w ]

  -- whichever way the publisher is said to have been served
  pub accepts_all : AcceptsAll all host list (published_in list) (length all)
  accepts_all before conn after place s =
      let good = within NeverFailed before (1, conn) after (subst (λ xs. AllByRecursion NeverFailed xs) place r.faultless.back) in
      let tally = notes_tallied all host r short in
      elim (published_by conn s good.reads good.writes) [ inl e ↦ inl (tally.accepted ∙ e) | inr m ↦ inr m ]
