-- What was asked of a host, through the parts of a run.
use Rattle.std.proofs.Common.{◌≡◌, ◌≢◌, ◌≤◌, inl, inr, ℕ, List, ◌∙◌, ap, subst, arith}
use Rattle.nsq_base.specs.declared.options.Options.{Options}
use Rattle.nsq_outside.specs.Hosts.{HostContent, HostState, Start, Starts}
use Rattle.nsq_outside.specs.declared.did.Did.{Did}
use Rattle.nsq_outside.specs.declared.did.Did.TheVariants as did
use Rattle.daemon_callers.specs.Served.{ListenersFailedLast, OnlyCallersChange}
use Rattle.daemon_main.specs.Asked.{HasAsked, StartsOnce}
use Rattle.daemon_main.specs.Runs.{NoCaller}
use Rattle.daemon_main.proofs.Causes.{rose_wider}

-- a start with texts that are these ones
pub starts_with : {K : Type 0} (old new : HostContent K) (tcp tcp' http http' path path' : List ℕ) (d : Did) → tcp ≡ tcp' → http ≡ http' → path ≡ path' → Starts old new tcp http path d → Starts old new tcp' http' path' d
starts_with old new tcp tcp' http http' path path' d e f g s = subst (λ x. Starts old new tcp' http' x d) g (subst (λ x. Starts old new tcp' x path d) f (subst (λ x. Starts old new x http path d) e s))

-- no caller came, and none came
pub no_caller_then : {K : Type 0} (a b c : HostContent K) → NoCaller a b → NoCaller b c → NoCaller a c
no_caller_then a b c p q = record { coming = q.coming ∙ p.coming; given = q.given ∙ p.given; back = q.back ∙ p.back; halted = q.halted ∙ p.halted }

pub same_callers : {K : Type 0} (a b : HostContent K) → b ≡ a → NoCaller a b
same_callers {K} a b e = record {
  coming = ap (λ (x : HostContent K). x.coming) e;
  given = ap (λ (x : HostContent K). x.given) e;
  back = ap (λ (x : HostContent K). x.back) e;
  halted = ap (λ (x : HostContent K). x.halted) e;
}

started_callers : {K : Type 0} (a b : HostContent K) (starts : List Start) → b ≡ record a { starts = starts } → NoCaller a b
started_callers {K} a b starts e = record {
  coming = ap (λ (x : HostContent K). x.coming) e;
  given = ap (λ (x : HostContent K). x.given) e;
  back = ap (λ (x : HostContent K). x.back) e;
  halted = ap (λ (x : HostContent K). x.halted) e;
}

module _ {K : Type 0} (options : Options) where
  -- a start that failed
  pub starts_keep : (old new : HostContent K) → Starts old new options.tcp_address options.http_address options.data_path did.Failed → NoCaller old new
  starts_keep old new (inl s) = started_callers old new _ s
  starts_keep old new (inr s) = same_callers old new s

  pub failed_asked : (status : ℕ) (old new : HostContent K) → status ≢ 0 → Starts old new options.tcp_address options.http_address options.data_path did.Failed → HasAsked options status old new
  failed_asked status old new d (inl s) = record {
    starts = inr (ap (λ (x : HostContent K). x.starts) s);
    where_given = λ given. absurd (given (ap (λ (x : HostContent K). x.given) s));
    where_clean = λ is. absurd (d is);
    printed = ap (λ (x : HostContent K). x.printed) s;
  }
  failed_asked status old new d (inr s) = record {
    starts = inl (ap (λ (x : HostContent K). x.starts) s);
    where_given = λ given. absurd (given (ap (λ (x : HostContent K). x.given) s));
    where_clean = λ is. absurd (d is);
    printed = ap (λ (x : HostContent K). x.printed) s;
  }

  pub failed_lines : (old new : HostContent K) → Starts old new options.tcp_address options.http_address options.data_path did.Failed → new.lines ≡ old.lines
  failed_lines old new (inl s) = ap (λ (x : HostContent K). x.lines) s
  failed_lines old new (inr s) = ap (λ (x : HostContent K). x.lines) s

  -- a start that was done
  pub done_keep : (old new : HostContent K) → Starts old new options.tcp_address options.http_address options.data_path did.Done → NoCaller old new
  done_keep old new s = started_callers old new _ s

  pub done_starts : (c0 c1 c2 c3 c4 : HostContent K) → Starts c0 c1 options.tcp_address options.http_address options.data_path did.Done → c2 ≡ c1 → OnlyCallersChange c2 c3 → c4 ≡ c3 → StartsOnce options c0 c4
  done_starts c0 c1 c2 c3 c4 s lend work restore =
      ap (λ (x : HostContent K). x.starts) restore ∙ work.starts ∙ ap (λ (x : HostContent K). x.starts) lend ∙ ap (λ (x : HostContent K). x.starts) s

  pub done_asked : (status : ℕ) (c0 c1 c2 c3 c4 : HostContent K) → Starts c0 c1 options.tcp_address options.http_address options.data_path did.Done → c2 ≡ c1 → OnlyCallersChange c2 c3 → c4 ≡ c3 → HasAsked options status c0 c4
  done_asked status c0 c1 c2 c3 c4 s lend work restore =
      let starts = done_starts c0 c1 c2 c3 c4 s lend work restore in
      record {
        starts = inr starts;
        where_given = λ given. starts;
        where_clean = λ is. starts;
        printed = ap (λ (x : HostContent K). x.printed) restore ∙ work.printed ∙ ap (λ (x : HostContent K). x.printed) lend ∙ ap (λ (x : HostContent K). x.printed) s;
      }

  pub done_lines : (c0 c1 c2 c3 c4 : HostContent K) → Starts c0 c1 options.tcp_address options.http_address options.data_path did.Done → c2 ≡ c1 → OnlyCallersChange c2 c3 → c4 ≡ c3 → c4.lines ≡ c0.lines
  done_lines c0 c1 c2 c3 c4 s lend work restore = ap (λ (x : HostContent K). x.lines) restore ∙ work.lines ∙ ap (λ (x : HostContent K). x.lines) lend ∙ ap (λ (x : HostContent K). x.lines) s

-- from an earlier value of the host to a later one, between which nobody more was given or handed back
pub failed_wider : {H F C J K : Type 0} (state : H → HostState F C J) (content : H → HostContent K) (a b c d : H) → (state a).accept_faults ≤ (state b).accept_faults → ListenersFailedLast state content b c
    → (state c).accept_faults ≤ (state d).accept_faults → (content d).given ≡ (content c).given → (content d).back ≡ (content c).back → ListenersFailedLast state content a d
failed_wider state content a b c d before f after given back =
    let from = f.from_entry in
    record {
      at = f.at;
      from_entry = omega (arith, before, from);
      rose = rose_wider (state f.at).accept_faults (state f.at).accept_faults (state c).accept_faults (state d).accept_faults (omega arith) after f.rose;
      given = given ∙ f.given;
      back = back ∙ f.back;
    }
