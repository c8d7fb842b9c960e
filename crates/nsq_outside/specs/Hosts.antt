-- What a host and a dialer tell, and what each call on them does.
use Rattle.std.specs.Prelude.{ℕ, ◌≡◌, ◌-◌, ◌^◌, ◌≤◌, ◌⊎◌, List, [], ◌∷◌, ◌++◌, take, Bool, true, false, Option}
use Rattle.nsq_outside.specs.Causes.{Rose, CountsFault}
use Rattle.nsq_outside.specs.declared.did.Did.{Did}
use Rattle.nsq_outside.specs.declared.did.Did.TheVariants.{Done, Failed}
use Rattle.nsq_outside.specs.declared.host.Kit.{Kit}
use Rattle.nsq_outside.specs.declared.host.Kind.{Kind}
use Rattle.nsq_outside.specs.declared.host.Accept.{Accept}
use Rattle.nsq_outside.specs.declared.host.Accept.TheVariants.{Caller, Nothing, Halt, Failed as NotAccepted}
use Rattle.nsq_outside.specs.declared.host.Dialled.{Dialled}
use Rattle.nsq_outside.specs.declared.host.Dialled.TheVariants.{Linked, Failed as NotLinked}

-- what a dialer tells: the addresses it was asked for, those of the connections it gave, and the bytes that each connection to come will send
pub record DialerContent : Type 0 where
  pub asked : List (List ℕ)
  pub linked : List (List ℕ)
  pub coming : List (List ℕ)

-- the addresses and the folder's path that a host was started with
pub record Start : Type 0 where
  pub tcp : List ℕ
  pub http : List ℕ
  pub path : List ℕ

-- what a host tells, for connections of a type: its starts; the callers to come, each with the bytes that it will send; those that it gave, in order;
-- whether nobody will call any more; the connections that it took back, each with its number; what it printed; the lines that it was told
pub record HostContent (K : Type 0) : Type 0 where
  pub starts : List Start
  pub coming : List (Kind × List ℕ)
  pub given : List Kind
  pub halted : Bool
  pub back : List (ℕ × K)
  pub printed : List ℕ
  pub lines : List (List ℕ)

-- what each host shows: its kit, where it is at home, whether callers get threads, and its counts of faults
pub record HostState (F C J : Type 0) : Type 0 where
  pub kit : Option (Kit F C J)
  pub beside : Bool
  pub accept_faults : ℕ
  pub print_faults : ℕ
  pub tell_faults : ℕ

-- each count of faults is at most 2^64 - 1
pub record FaultsFit {F C J : Type 0} (state : HostState F C J) : Type 0 where
  pub accept : state.accept_faults ≤ 2 ^ 64 - 1
  pub print : state.print_faults ≤ 2 ^ 64 - 1
  pub tell : state.tell_faults ≤ 2 ^ 64 - 1

-- nothing was read or written yet, and nothing failed
pub record IsFresh {K : Type 0} (pieces : K → List (List ℕ)) (ended : K → Bool) (written : K → List ℕ) (read_faults write_faults : K → ℕ) (conn : K) : Type 0 where
  pub nothing_read : pieces conn ≡ []
  pub not_ended : ended conn ≡ false
  pub nothing_written : written conn ≡ []
  pub no_read_fault : read_faults conn ≡ 0
  pub no_write_fault : write_faults conn ≡ 0

-- a connection that a dial gives is fresh
abbrev pub IsFreshLink : {K : Type 0} → (K → List (List ℕ)) → (K → Bool) → (K → List ℕ) → (K → ℕ) → (K → ℕ) → Dialled K → Type 0
IsFreshLink pieces ended written read_faults write_faults (Linked conn) = IsFresh pieces ended written read_faults write_faults conn
IsFreshLink pieces ended written read_faults write_faults NotLinked = Unit {0}

-- the next of the connections to come was given; or none, and the address may be missing among those that were asked for
abbrev pub Dials : {K : Type 0} → (K → List ℕ) → DialerContent → DialerContent → List ℕ → Dialled K → Type 0
Dials left old new address (Linked conn) =
    (old.coming ≡ left conn ∷ new.coming) × (new.asked ≡ old.asked ++ address ∷ []) × (new.linked ≡ old.linked ++ address ∷ [])
Dials left old new address NotLinked =
    (new.coming ≡ old.coming) × ((new.asked ≡ old.asked ++ address ∷ []) ⊎ (new.asked ≡ old.asked)) × (new.linked ≡ old.linked)

-- Failed comes only with a rise
abbrev pub LinkFails : {K : Type 0} → ℕ → ℕ → Dialled K → Type 0
LinkFails before now NotLinked = Rose before now
LinkFails before now (Linked conn) = Unit {0}

-- Failed is counted, and nothing else
abbrev pub LinkCounts : {K : Type 0} → ℕ → ℕ → Dialled K → Type 0
LinkCounts before now NotLinked = CountsFault before now true
LinkCounts before now (Linked conn) = CountsFault before now false

-- the start is noted; where it failed it may be missing
abbrev pub Starts : {K : Type 0} → HostContent K → HostContent K → List ℕ → List ℕ → List ℕ → Did → Type 0
Starts old new tcp http path Done = new ≡ record old { starts = old.starts ++ record { tcp = tcp; http = http; path = path } ∷ [] }
Starts old new tcp http path Failed = (new ≡ record old { starts = old.starts ++ record { tcp = tcp; http = http; path = path } ∷ [] }) ⊎ (new ≡ old)

-- the next of the callers to come was given; nobody will call any more only where none is to come
abbrev pub Accepts : {K : Type 0} → (K → List ℕ) → HostContent K → HostContent K → Accept K → Type 0
Accepts left old new (Caller kind conn) = (old.coming ≡ (kind, left conn) ∷ new.coming) × (new ≡ record old { coming = new.coming; given = old.given ++ kind ∷ [] })
Accepts left old new Nothing = new ≡ old
Accepts left old new Halt = (old.coming ≡ []) × (new ≡ record old { halted = true })
Accepts left old new NotAccepted = new ≡ old

-- a caller's connection is fresh
abbrev pub IsFreshCaller : {K : Type 0} → (K → List (List ℕ)) → (K → Bool) → (K → List ℕ) → (K → ℕ) → (K → ℕ) → Accept K → Type 0
IsFreshCaller pieces ended written read_faults write_faults (Caller kind conn) = IsFresh pieces ended written read_faults write_faults conn
IsFreshCaller pieces ended written read_faults write_faults Nothing = Unit {0}
IsFreshCaller pieces ended written read_faults write_faults Halt = Unit {0}
IsFreshCaller pieces ended written read_faults write_faults NotAccepted = Unit {0}

-- Failed comes only with a rise
abbrev pub AcceptFails : {K : Type 0} → ℕ → ℕ → Accept K → Type 0
AcceptFails before now NotAccepted = Rose before now
AcceptFails before now (Caller kind conn) = Unit {0}
AcceptFails before now Nothing = Unit {0}
AcceptFails before now Halt = Unit {0}

-- Failed is counted, and nothing else
abbrev pub AcceptCounts : {K : Type 0} → ℕ → ℕ → Accept K → Type 0
AcceptCounts before now NotAccepted = CountsFault before now true
AcceptCounts before now (Caller kind conn) = CountsFault before now false
AcceptCounts before now Nothing = CountsFault before now false
AcceptCounts before now Halt = CountsFault before now false

-- the whole text was printed; or that failed, and bytes from its front were
abbrev pub Prints : {K : Type 0} → HostContent K → HostContent K → List ℕ → Did → Type 0
Prints old new text Done = new ≡ record old { printed = old.printed ++ text }
Prints old new text Failed = (n : ℕ) × (new ≡ record old { printed = old.printed ++ take n text })

-- the line was told; or it wasn't, and the count of tell faults rose
abbrev pub Tells : {K : Type 0} → HostContent K → HostContent K → List ℕ → ℕ → ℕ → Type 0
Tells old new line before now = (new ≡ record old { lines = old.lines ++ line ∷ [] }) ⊎ ((new ≡ old) × Rose before now)

-- the line was told, or that failed and was counted
abbrev pub TellCounts : {K : Type 0} → HostContent K → HostContent K → List ℕ → ℕ → ℕ → Type 0
TellCounts old new line before now =
    ((new ≡ record old { lines = old.lines ++ line ∷ [] }) × CountsFault before now false) ⊎ ((new ≡ old) × CountsFault before now true)

-- of what each host shows, at most the count of accept faults changes, and it doesn't fall
abbrev pub OnlyAcceptFaults : {F C J : Type 0} → HostState F C J → HostState F C J → Type 0
OnlyAcceptFaults old new = (old.accept_faults ≤ new.accept_faults) × (new ≡ record old { accept_faults = new.accept_faults })

-- of what each host shows, at most the count of print faults changes, and it doesn't fall
abbrev pub OnlyPrintFaults : {F C J : Type 0} → HostState F C J → HostState F C J → Type 0
OnlyPrintFaults old new = (old.print_faults ≤ new.print_faults) × (new ≡ record old { print_faults = new.print_faults })

-- of what each host shows, at most the count of tell faults changes, and it doesn't fall
abbrev pub OnlyTellFaults : {F C J : Type 0} → HostState F C J → HostState F C J → Type 0
OnlyTellFaults old new = (old.tell_faults ≤ new.tell_faults) × (new ≡ record old { tell_faults = new.tell_faults })
