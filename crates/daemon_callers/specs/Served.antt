-- What is said of the callers that a run served.
use Rattle.std.specs.Prelude.{◌≡◌, ◌⊎◌, ℕ, ◌+◌, ◌<◌, ◌≤◌, Bool, IsTrue, List, [], ◌∷◌, ◌++◌, length, map}
use Rattle.std.specs.List.{AllByRecursion}
use Rattle.nsq_base.specs.declared.options.Options.{Options}
use Rattle.nsq_outside.specs.Causes.{Rose}
use Rattle.nsq_outside.specs.Hosts.{HostContent, HostState}
use Rattle.nsq_outside.specs.declared.host.Kind.{Kind}
use Rattle.nsq_outside.specs.declared.host.Kind.TheVariants.{Tcp, Http}
use Rattle.nsq_outside.specs.declared.journal.End.{End}
use Rattle.v2_frame.specs.declared.fault.Limits.{Limits}
use Rattle.broker_history.specs.declared.ended.Ended.{Ended}
use Rattle.broker_history.specs.declared.entry.Entry.{Entry}
use Rattle.broker_history.specs.Entries.{History, IsCommon, own}
use Rattle.broker_history.specs.Talk.{Allows, IsTalkIn, bytes_of}
use Rattle.broker_history.specs.Calls.{IsHere}
use Rattle.daemon_callers.specs.Sessions.{IsWarned}
use Rattle.daemon_callers.specs.declared.http.ended.EndedHttp.{EndedHttp}
use Rattle.daemon_callers.specs.Exchange.{HasCause, IsExchangeIn, IsWarnedHttp}

-- what is seen of a connection: the pieces read, the bytes still to come, whether it ended, the bytes written, and how often a read and a write failed
pub record Views (K : Type 0) : Type 0 where
  pub pieces : K → List (List ℕ)
  pub left : K → List ℕ
  pub ended : K → Bool
  pub written : K → List ℕ
  pub read_faults : K → ℕ
  pub write_faults : K → ℕ

-- these views
abbrev pub views : {K : Type 0} → (K → List (List ℕ)) → (K → List ℕ) → (K → Bool) → (K → List ℕ) → (K → ℕ) → (K → ℕ) → Views K
views pieces left ended written read_faults write_faults =
    record { pieces = pieces; left = left; ended = ended; written = written; read_faults = read_faults; write_faults = write_faults }

-- the limits that the options set
abbrev pub limits_of : Options → Limits
limits_of options = record { msg = options.max_msg_size; body = options.max_body_size }

-- host, connections and journal tell their content
pub record AllTell (tells tells_pieces tells_written tells_notes : Bool) : Type 0 where
  pub host : IsTrue tells
  pub pieces : IsTrue tells_pieces
  pub written : IsTrue tells_written
  pub notes : IsTrue tells_notes

-- what a client sent, its entries and what it got are a conversation that ended so; where it ended by want of memory the client was told, as far as a write
-- didn't fail. `wanted` says whether memory was wanting for the note that it is gone: only then its entries may lack it and it may not have been told, and it
-- began and is still there in the history
pub record Talks (limits : Limits) (number : ℕ) (h : History) (pieces : List (List ℕ)) (written : List ℕ) (write_faults write_faults' : ℕ) (ended : Ended) : Type 0 where
  pub wanted : ℕ
  pub talk : IsTalkIn limits number h wanted pieces written ended
  pub warned : IsWarned ended written write_faults write_faults' wanted
  pub stays : 0 < wanted → IsHere (own number h)

-- a caller of the TCP protocol was served: what it sent, its entries and what it got are a conversation, with an ending that has its cause; what it sent is from
-- the bytes that it had
pub record IsServedTcp {K : Type 0} (seen : Views K) (limits : Limits) (h : History) (number : ℕ) (bytes : List ℕ) (conn : K) : Type 0 where
  pub ended : Ended
  pub talks : Talks limits number h (seen.pieces conn) (seen.written conn) 0 (seen.write_faults conn) ended
  pub cause : Allows ended (seen.ended conn) (seen.read_faults conn) (seen.write_faults conn)
  pub stream : bytes_of (seen.pieces conn) ++ seen.left conn ≡ bytes

-- a caller of HTTP was served: what it sent, its entries and what it got are an exchange, under these options and with this moment of the opening, with an ending
-- that has its cause; where it ended by want of memory the caller got the whole answer that says so, or a write failed; what it sent is from the bytes that it had
pub record IsServedHttp {K : Type 0} (seen : Views K) (o : Options) (began : ℕ) (h : History) (number : ℕ) (bytes : List ℕ) (conn : K) : Type 0 where
  pub ended : EndedHttp
  pub exchange : IsExchangeIn o began number h (seen.pieces conn) (seen.written conn) ended
  pub warned : IsWarnedHttp ended [] (seen.written conn) 0 (seen.write_faults conn)
  pub cause : HasCause ended (seen.ended conn) 0 (seen.read_faults conn) 0 (seen.write_faults conn)
  pub stream : bytes_of (seen.pieces conn) ++ seen.left conn ≡ bytes

-- a caller was served as its kind asks
abbrev pub IsServed : {K : Type 0} → Views K → Options → (began : ℕ) → History → (number : ℕ) → Kind → (bytes : List ℕ) → K → Type 0
IsServed seen o began h number Tcp bytes conn = IsServedTcp seen (limits_of o) h number bytes conn
IsServed seen o began h number Http bytes conn = IsServedHttp seen o began h number bytes conn

-- each of these callers, with the bytes that it had, was served and handed back, once, in their order, under its number, from the first number on
abbrev pub AreServed : {K : Type 0} → Views K → Options → (began : ℕ) → History → (first : ℕ) → List (Kind × List ℕ) → List (ℕ × K) → Type 0
AreServed seen o began h first [] [] = Unit {0}
AreServed seen o began h first [] (x ∷ xs) = ⊥
AreServed seen o began h first (c ∷ cs) [] = ⊥
AreServed seen o began h first (c ∷ cs) (x ∷ xs) = (x.0 ≡ first) × IsServed seen o began h first c.0 c.1 x.1 × AreServed seen o began h (first + 1) cs xs

-- the entry names no number above this one; a common one, which stands in turns of any number, names the daemon in a legal history
abbrev pub NamesUpTo : ℕ → Entry × End → Type 0
NamesUpTo n e = IsCommon e ⊎ (e.0.conn ≤ n)

abbrev pub UpTo : ℕ → History → Type 0
UpTo n h = AllByRecursion (NamesUpTo n) h

-- between two contents of a host so many callers were given, and each was served and handed back
pub record HasServed {K : Type 0} (seen : Views K) (o : Options) (began number : ℕ) (h : History) (old new : HostContent K) : Type 0 where
  pub callers : List (Kind × List ℕ)
  pub back : List (ℕ × K)
  pub count : length callers ≡ number
  pub came : old.coming ≡ callers ++ new.coming
  pub given : new.given ≡ old.given ++ map (λ (c : Kind × List ℕ). c.0) callers
  pub returned : new.back ≡ old.back ++ back
  pub served : AreServed seen o began h 1 callers back

-- the listeners failed last: from some value of the host on their count rose, and nobody was given or handed back meanwhile. So it rose in the start,
-- before all callers, or behind the last of them. What runs a host of any type can name no value of it but those that the host passed
pub record ListenersFailedLast {H F C J K : Type 0} (state : H → HostState F C J) (content : H → HostContent K) (old new : H) : Type 0 where
  pub at : H
  pub from_entry : (state old).accept_faults ≤ (state at).accept_faults
  pub rose : Rose (state at).accept_faults (state new).accept_faults
  pub given : (content new).given ≡ (content at).given
  pub back : (content new).back ≡ (content at).back

-- nothing but the callers changed: what was asked, printed and told is as it was
pub record OnlyCallersChange {K : Type 0} (old new : HostContent K) : Type 0 where
  pub starts : new.starts ≡ old.starts
  pub printed : new.printed ≡ old.printed
  pub lines : new.lines ≡ old.lines
