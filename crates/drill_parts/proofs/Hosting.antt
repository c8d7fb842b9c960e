-- The callers of a drill, as a host in memory has them.
use Rattle.std.proofs.Common.{◌≡◌, ℕ, false, List, [], ◌∷◌, map, Some, IfOk, Result, Ok, Err, ap, sym, subst, ◌∙◌, refl}
use Rattle.nsq_outside.specs.declared.host.Kind.{Kind}
use Rattle.nsq_outside.specs.declared.host.Kind.TheVariants.{Tcp}
use Rattle.nsq_fakes.specs.MemConns.{left_of}
use Rattle.nsq_fakes.specs.MemHosts.{FailsAtHostCalls, callers_of, content_of, state_of}
use Rattle.nsq_fakes.specs.declared.conn.MemConn.{MemConn}
use Rattle.nsq_fakes.specs.declared.host.MemHost.{MemHost}
use Rattle.nsq_outside.specs.Hosts.{HostContent}
use Rattle.broker_history.specs.declared.entry.Entry.{Entry}
use Rattle.path_image.specs.Found.{Pairwise}
use Rattle.drill_parts.specs.Callers.{senders as senders_of}
use Rattle.drill_parts.specs.Hosts.{IsDrillHost, IsNewKit, MemKit, Sends, stream_of}
use Rattle.drill_parts.specs.declared.draws.Publish.{Publish}

-- what a host tells of the callers to come
pub coming_is : (senders : List (List (List ℕ))) (callers : List (Kind × MemConn)) → Pairwise Sends senders callers
    → map {B = Kind × List ℕ} (λ (c : Kind × MemConn). (c.0, left_of c.1)) callers ≡ map {B = Kind × List ℕ} (λ (pieces : List (List ℕ)). (Tcp, stream_of pieces)) senders
coming_is [] [] p = refl
coming_is [] (c ∷ cs) p = absurd p
coming_is (s ∷ ss) [] p = absurd p
coming_is (s ∷ ss) (c ∷ cs) p = rw (p.0.kind, p.0.stream, coming_is ss cs p.1) refl

-- what a new host tells, with these callers to come
abbrev told_with : List (Kind × List ℕ) → HostContent MemConn
told_with coming = record { starts = []; coming = coming; given = []; halted = false; back = []; printed = []; lines = [] }

-- a host that was made of a new kit and these callers is that of a drill
pub host_is : {E : Type 0} (publishes : List Publish) (callers : List (Kind × MemConn)) (kit : MemKit) (made : Result (MemHost Entry) E) → IsNewKit kit → Pairwise Sends (senders_of publishes) callers
    → IfOk made (λ host. content_of host ≡ told_with (map (λ c. (c.0, left_of c.1)) callers)) → IfOk made (λ host. callers_of host ≡ callers)
    → IfOk made (λ host. state_of host ≡ record { kit = Some kit; beside = false; accept_faults = 0; print_faults = 0; tell_faults = 0 })
    → IfOk made (FailsAtHostCalls [] [] []) → IfOk made (IsDrillHost publishes)
host_is publishes callers kit (Ok host) new sends content same state fails = record {
  kit = kit;
  is_new = new;
  state = state;
  fails = fails;
  callers = subst (λ cs. Pairwise Sends (senders_of publishes) cs) (sym same) sends;
  content = content ∙ ap told_with (coming_is (senders_of publishes) callers sends);
}
host_is publishes callers kit (Err e) new sends content same state fails = tt
