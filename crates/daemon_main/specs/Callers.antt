-- What a run says of its callers, and of its Stop.
use Rattle.std.specs.Prelude.{◌≡◌, ◌≢◌, ◌⊎◌, ℕ, zero, suc, ◌+◌, ◌<◌, ◌≤◌, nat_lt, true, List, [], ◌∷◌, ◌++◌, length, map, filter, IsPermutation, codes}
use Rattle.std.specs.List.{AllByRecursion}
use Rattle.nsq_base.specs.declared.options.Options.{Options}
use Rattle.nsq_outside.specs.Causes.{Rose}
use Rattle.nsq_outside.specs.Hosts.{HostContent}
use Rattle.nsq_outside.specs.declared.host.Kind.{Kind}
use Rattle.nsq_outside.specs.declared.host.Kind.TheVariants.{Http}
use Rattle.nsq_outside.specs.declared.journal.End.{End}
use Rattle.broker_history.specs.declared.entry.Act.TheVariants.{Stop}
use Rattle.broker_history.specs.declared.entry.Entry.{Entry}
use Rattle.broker_history.specs.Entries.{History, is_stop, IsCommon, own}
use Rattle.broker_history.specs.Talk.{bytes_of}
use Rattle.http_wire.specs.declared.request.Request.{Request}
use Rattle.http_wire.specs.Request.{IsRequest, Whole}
use Rattle.http_calls.specs.declared.call.HttpCall.TheVariants as call
use Rattle.http_calls.specs.Calls.{call_for}
use Rattle.daemon_main.specs.Rounds.{IsHalted, ticks_of}
use Rattle.daemon_callers.specs.Served.{IsServed, UpTo, Views}
use Rattle.daemon_endings.specs.declared.serving.ServeEnd.{ServeEnd}
use Rattle.daemon_endings.specs.declared.serving.ServeEnd.TheVariants as end

-- the numbers from 1 on, so many
abbrev pub one_to : ℕ → List ℕ
one_to zero = []
one_to (suc n) = one_to n ++ suc n ∷ []

-- the numbers under which callers were handed back; 0 is that of connections which the daemon dialled
abbrev pub numbers_of : {K : Type 0} → List (ℕ × K) → List ℕ
numbers_of back = filter (λ n. nat_lt 0 n) (map (λ x. x.0) back)

-- a connection that was handed back is that of the caller at its number's place, and it was served
pub record IsCallers {K : Type 0} (seen : Views K) (o : Options) (began : ℕ) (h : History) (callers : List (Kind × List ℕ)) (x : ℕ × K) : Type 0 where
  pub before : List (Kind × List ℕ)
  pub caller : Kind × List ℕ
  pub after : List (Kind × List ℕ)
  pub place : callers ≡ before ++ caller ∷ after
  pub number : x.0 ≡ length before + 1
  pub served : IsServed seen o began h x.0 caller.0 caller.1 x.1

abbrev pub IsHandedBack : {K : Type 0} → Views K → Options → (began : ℕ) → History → List (Kind × List ℕ) → ℕ × K → Type 0
IsHandedBack seen o began h callers x = (x.0 ≡ 0) ⊎ IsCallers seen o began h callers x

-- callers were given, numbered from 1 on, and each one was served and handed back, once, with its number. The history has no entry of another number, and a tick for
-- each of them at least
pub record ServesAll {K : Type 0} (seen : Views K) (o : Options) (began : ℕ) (h : History) (old new : HostContent K) : Type 0 where
  pub callers : List (Kind × List ℕ)
  pub back : List (ℕ × K)
  pub came : old.coming ≡ callers ++ new.coming
  pub given : new.given ≡ old.given ++ map (λ (c : Kind × List ℕ). c.0) callers
  pub returned : new.back ≡ old.back ++ back
  pub once : IsPermutation (numbers_of back) (one_to (length callers))
  pub served : AllByRecursion (IsHandedBack seen o began h callers) back
  pub no_other : UpTo (length callers) h
  pub ticks : length callers ≤ ticks_of h

-- why the daemon stops: nobody will call any more, or as many called as there are numbers; the listeners failed, and the run doesn't end cleanly; memory was wanting
pub data DaemonStops {K : Type 0} (ended : ServeEnd) (number accept accept' : ℕ) (new : HostContent K) : Type 0 where
  halted : IsHalted number new → DaemonStops ended number accept accept' new
  failed : ended ≢ end.Clean → Rose accept accept' → DaemonStops ended number accept accept' new
  wants : ended ≡ end.Memory → DaemonStops ended number accept accept' new

-- the caller of this number asked that the daemon stops: it called over HTTP, and what was read of the connection that was handed back under its number is a whole
-- request `POST /stop`, which the options let the daemon serve
pub record AsksStop {K : Type 0} (seen : Views K) (o : Options) (began : ℕ) (callers : List (Kind × List ℕ)) (back : List (ℕ × K)) (number : ℕ) : Type 0 where
  pub before : List (Kind × List ℕ)
  pub bytes : List ℕ
  pub after : List (Kind × List ℕ)
  pub place : callers ≡ before ++ (Http, bytes) ∷ after
  pub number_is : number ≡ length before + 1
  pub earlier : List (ℕ × K)
  pub conn : K
  pub later : List (ℕ × K)
  pub returned : back ≡ earlier ++ (number, conn) ∷ later
  pub request : Request
  pub whole : IsRequest o.max_body_size (bytes_of (seen.pieces conn)) (Whole request)
  pub stops : call_for o began request ≡ call.Stops
  pub path : request.path ≡ codes "/stop"
  pub method : request.method ≡ codes "POST"
  pub allowed : o.http_stop ≡ true

-- a Stop of this number has its cause: the daemon's own, where it stops; that of a connection, where its caller asked for it
abbrev pub HasStopCause : {K : Type 0} → Views K → Options → (began : ℕ) → List (Kind × List ℕ) → List (ℕ × K) → ServeEnd → (accept accept' : ℕ) → HostContent K → ℕ → Type 0
HasStopCause seen o began callers back ended accept accept' new zero = DaemonStops ended (length callers) accept accept' new
HasStopCause seen o began callers back ended accept accept' new (suc n) = AsksStop seen o began callers back (suc n)

-- each Stop of the history has its cause
abbrev pub StopsAreCaused : {K : Type 0} → Views K → Options → (began : ℕ) → List (Kind × List ℕ) → List (ℕ × K) → ServeEnd → (accept accept' : ℕ) → HostContent K → History → Type 0
StopsAreCaused seen o began callers back ended accept accept' new h = AllByRecursion (λ (e : Entry × End). is_stop e.0.act ≡ true → HasStopCause seen o began callers back ended accept accept' new e.0.conn) h

-- a Stop of a connection stands in the history
pub record HasCallersStop (h : History) : Type 0 where
  pub before : History
  pub stop : Entry × End
  pub after : History
  pub whole : h ≡ before ++ stop ∷ after
  pub is : is_stop stop.0.act ≡ true
  pub of_caller : 0 < stop.0.conn

-- the entry is a common one, or the daemon's own Stop
abbrev pub IsOfStop : Entry × End → Type 0
IsOfStop e = IsCommon e ⊎ ((e.0.conn ≡ 0) × (e.0.act ≡ Stop))

-- of the daemon's own entries none but its Stop stands in the history, and it stands behind those of all callers
pub record StopsLast (h : History) : Type 0 where
  pub served : History
  pub stop : History
  pub whole : h ≡ served ++ stop
  pub none : own 0 served ≡ []
  pub daemons : AllByRecursion IsOfStop stop
