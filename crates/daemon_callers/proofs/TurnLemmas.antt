-- What a turn adds to the entries of a connection.
use Rattle.std.proofs.Common.{◌≡◌, ◌⊎◌, ℕ, Bool, true, false, [], ◌∷◌, ◌++◌, refl, sym, ap, ◌∙◌, inl, inr, Result, Ok, Err, IsErr}
use Rattle.nsq_core.specs.declared.memory.Memory.{Memory as NoMemory}
use Rattle.nsq_outside.specs.declared.journal.End.{End}
use Rattle.broker_history.specs.declared.ask.Ask.{Ask}
use Rattle.broker_history.specs.declared.ask.Said.{Said}
use Rattle.broker_history.specs.declared.entry.Entry.{Entry}
use Rattle.broker_history.specs.Entries.{History, own, has_stop, is_stop, is_common}
use Rattle.broker_history.specs.Answers.{Answers, Joins, AddsNothing, Adds, StopsSeen}
use Rattle.broker_history.specs.declared.call.Call.{Call}
use Rattle.broker_history.specs.declared.call.Call.TheVariants as call
use Rattle.broker_history.specs.declared.turned.Turned.{Turned}
use Rattle.broker_history.specs.declared.turned.Turned.TheVariants as turned
use Rattle.http_asked.specs.declared.asked.Asked.{Asked}
use Rattle.daemon_callers.specs.Exchange.{is_listed, IsListing, IsStopping, IsAsking, ListsBehindStop}
use Rattle.daemon_callers.specs.Noted.{lists_names, says_stopping, ListsOne, ListsNames, IsStopped, AsksTo, StopsTo}
use Rattle.daemon_callers.proofs.ListLemmas.{lists_none, lists_one, stop_unlisted}

-- where a call can't have been answered so without its entry, one joined
joined : {number : ℕ} {h h' : History} {c : Call} {said : Turned} → Adds number h h' c said → (AddsNothing c said → ⊥) → Joins number h h' c said
joined (inl p) never = absurd (never p.1)
joined (inr j) never = j

-- where no entry is answered so, none joined
unchanged : {number : ℕ} {h h' : History} {c : Call} {said : Turned} → Adds number h h' c said → ((e : Entry × End) → Answers c e said → ⊥) → h' ≡ h
unchanged (inl p) never = p.0
unchanged (inr j) never = absurd (never j.entry j.answers)

-- the names were listed
pub names_listed : {n : ℕ} {h h' : History} (said : Turned) → Adds n h h' call.Names said → lists_names said ≡ true → ListsOne h h'
names_listed (turned.Listed names at) a is = let j = joined a (λ x. x) in record { listed = j.entry; whole = j.whole; lists = ap is_listed j.answers.0 }
names_listed said a is = absurd (let c : false ≡ true = is in cc)

-- or they weren't, and nothing was noted
pub names_missed : {n : ℕ} {h h' : History} (said : Turned) → Adds n h h' call.Names said → lists_names said ≡ false → h' ≡ h
names_missed (turned.Listed names at) a is = absurd (let c : true ≡ false = is in cc)
names_missed said a is = unchanged a (λ e x. x)

ticked_apart : {n : ℕ} {h h' : History} → Adds n h h' call.Tick turned.Quiet → h' ≡ h
ticked_apart (inl p) = p.0
ticked_apart (inr j) = absurd (let common : is_common j.entry.0.act ≡ true = ap is_common j.answers in let c : true ≡ false = sym common ∙ j.apart in cc)

-- a tick notes nothing of a connection
pub tick_same : {n : ℕ} {h h' : History} (said : Turned) → Adds n h h' call.Tick said → h' ≡ h
tick_same turned.Quiet a = ticked_apart a
tick_same said a = unchanged a (λ e x. x)

-- what was asked was noted with what is said
pub ask_said : {n : ℕ} {h h' : History} (a : Ask) (told : Said) → h ≡ [] → Adds n h h' (call.Ask a) (turned.Said told) → IsAsking a told h'
ask_said a told none adds =
    let j = joined adds (λ x. x) in
    record { entry = j.entry; said = j.answers.0; whole = j.whole ∙ ap (λ (x : History). x ++ j.entry ∷ []) none; asked = j.answers.1; is = j.answers.2 }

-- whether something is said
abbrev pub says : Turned → Bool
says (turned.Said told) = true
says said = false

-- or it wasn't noted
pub ask_same : {n : ℕ} {h h' : History} (a : Ask) (said : Turned) → says said ≡ false → Adds n h h' (call.Ask a) said → h' ≡ h
ask_same a (turned.Said told) is adds = absurd (let c : true ≡ false = is in cc)
ask_same a said is adds = unchanged adds (λ e x. x)

-- anything else says nothing
pub says_none : (said : Turned) → ((told : Said) → said ≡ turned.Said told → ⊥) → says said ≡ false
says_none (turned.Said told) never = absurd (never told refl)
says_none said never = refl

-- memory was wanting, and nothing was noted
pub asks_missed : (a : Ask) (number : ℕ) (seen : History) (result : Result Asked NoMemory) → IsErr result → own number seen ≡ [] → AsksTo a number seen result
asks_missed a number seen (Ok came) is none = absurd (let e : false ≡ true = is in cc)
asks_missed a number seen (Err e) is none = none

stop_joined : {n : ℕ} {h h' : History} → h ≡ [] → Adds n h h' call.Stop turned.Stopping → (h' ≡ []) ⊎ IsStopped h'
stop_joined none (inl p) = inl (p.0 ∙ none)
stop_joined none (inr j) = inr (record { stop = j.entry; whole = j.whole ∙ ap (λ (x : History). x ++ j.entry ∷ []) none; stops = ap is_stop j.answers })

-- a Stop was noted, or nothing
pub stop_noted : {n : ℕ} {h h' : History} (said : Turned) → h ≡ [] → Adds n h h' call.Stop said → (h' ≡ []) ⊎ IsStopped h'
stop_noted turned.Stopping none adds = stop_joined none adds
stop_noted said none adds = inl (unchanged adds (λ e x. x) ∙ none)

-- where it is answered that the daemon stops, a Stop stands
pub stop_seen : (seen : History) (said : Turned) → StopsSeen seen said → says_stopping said ≡ true → has_stop seen ≡ true
stop_seen seen turned.Stopping s is = s
stop_seen seen said s is = absurd (let c : false ≡ true = is in cc)

-- one entry that lists the names
pub one_listed : {h h' : History} → h ≡ [] → ListsOne h h' → IsListing h'
one_listed none l = record { listed = l.listed; whole = l.whole ∙ ap (λ (x : History). x ++ l.listed ∷ []) none; lists = l.lists }

-- before the names are listed, a stop noted none that lists them
pub stopped_lists : (n : ℕ) (seen : History) → (own n seen ≡ []) ⊎ IsStopped (own n seen) → ListsBehindStop n seen
stopped_lists n seen (inl none) = lists_none n seen none
stopped_lists n seen (inr s) = lists_one n seen s.stop s.whole (stop_unlisted s.stop.0.act s.stops)

stop_listed : {h h' : History} → (h ≡ []) ⊎ IsStopped h → ListsOne h h' → IsStopping h' ⊎ IsListing h'
stop_listed (inl none) l = inr (one_listed none l)
stop_listed (inr s) l = inl (record { stop = s.stop; listed = l.listed; whole = l.whole ∙ ap (λ (x : History). x ++ l.listed ∷ []) s.whole; stops = s.stops; lists = l.lists })

stop_kept : {h h' : History} → (h ≡ []) ⊎ IsStopped h → h' ≡ h → (h' ≡ []) ⊎ IsStopped h'
stop_kept (inl none) same = inl (same ∙ none)
stop_kept (inr s) same = inr (record { stop = s.stop; whole = same ∙ s.whole; stops = s.stops })

-- a stop, and the names behind it
pub stop_names : (n : ℕ) (seen seen' : History) (result : Result (Unit {0}) NoMemory) → (own n seen ≡ []) ⊎ IsStopped (own n seen) → ListsNames (own n seen) (own n seen') result → (ListsBehindStop n seen → ListsBehindStop n seen') → StopsTo n seen' result
stop_names n seen seen' (Ok done) noted listed behind = (stop_listed noted listed, behind (stopped_lists n seen noted))
stop_names n seen seen' (Err e) noted same behind = stop_kept noted same
