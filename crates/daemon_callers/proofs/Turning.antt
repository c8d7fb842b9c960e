-- What a turn and what is written for it do to a conversation that goes on.
use Rattle.std.proofs.Common.{◌≡◌, ◌≢◌, ◌⊎◌, ℕ, ◌+◌, ◌<◌, Bool, true, false, List, [], ◌∷◌, ◌++◌, refl, sym, ap, subst, ◌∙◌, append_assoc, inl, inr, Option, Some, None, unwrap_or, Result, Ok, Err, is_err, take, length}
use Rattle.std.proofs.lemmas.List.{append-nil}
use Rattle.std.proofs.Math.Seq.{take-append_seam}
use Rattle.nsq_core.specs.declared.memory.Memory.{Memory as NoMemory}
use Rattle.nsq_outside.specs.declared.journal.End.{End}
use Rattle.v2_frame.specs.declared.command.Command.{Command}
use Rattle.v2_frame.specs.declared.fault.Fault.{Fault}
use Rattle.v2_frame.specs.declared.fault.Limits.{Limits}
use Rattle.v2_frame.specs.declared.frame.Frame.{Frame}
use Rattle.v2_frame.specs.Reading.{Reading, fresh, fed, IsFed, Takes, Fails}
use Rattle.v2_frame.proofs.ReadLemmas.{fed_limits}
use Rattle.broker_history.specs.declared.ended.Ended.{Ended}
use Rattle.broker_history.specs.declared.ended.Ended.TheVariants.{EndOfInput, Closed, ReadFault, WriteFault, Memory}
use Rattle.broker_history.specs.declared.entry.Act.{Act}
use Rattle.broker_history.specs.declared.entry.Act.TheVariants as act
use Rattle.broker_history.specs.declared.entry.Entry.{Entry}
use Rattle.broker_history.specs.Entries.{History, has_stop, is_began, is_gone}
use Rattle.broker_history.specs.Reply.{answered, act_answered, answer_bytes, written_by, frames, closes, closes_answer}
use Rattle.broker_history.specs.Talk.{Round, Sending, Reading as ToRead, Doing, sent, rested, most_sent, IsSending, IsRest, ClosesBy, IsOpen, IsClosed, bytes_of, place_of}
use Rattle.broker_history.specs.Calls.{IsHere}
use Rattle.broker_history.specs.Answers.{Takes as Took, Answers, AnswersCommand, AnswersBad, AnswersNext, Joins, AddsNothing, Adds, StopsSeen}
use Rattle.broker_history.specs.declared.call.Call.{Call}
use Rattle.broker_history.specs.declared.call.Call.TheVariants as call
use Rattle.broker_history.specs.declared.turned.Turned.{Turned}
use Rattle.broker_history.specs.declared.turned.Turned.TheVariants as turned
use Rattle.daemon_callers.specs.declared.v2.output.Delivered.{Delivered}
use Rattle.daemon_callers.specs.declared.v2.output.Delivered.TheVariants.{More, Rest, Over}
use Rattle.daemon_callers.specs.Outputs.{memory_bytes, WritesFirst, WritesReply, WritesAnswer, DeliversFrame, Delivers}
use Rattle.daemon_callers.specs.Sessions.{InTalk, IsOver, Goes, Sends}
use Rattle.daemon_callers.proofs.Holding.{bytes_of-next}
use Rattle.daemon_callers.proofs.Owning.{here_next, here_first}
use Rattle.daemon_callers.proofs.Talking.{frames_next, frames_same, rest_answers, moved, began_talk, did_open, did_closed, did_reached, dropped_doing, refused_closed, talk_open, given_up, given_up_last, cut_short}

-- where a call can't have been answered so without its entry, one joined
pub joined : {number : ℕ} {h h' : History} {c : Call} {said : Turned} → Adds number h h' c said → (AddsNothing c said → ⊥) → Joins number h h' c said
joined (inl p) never = absurd (never p.1)
joined (inr j) never = j

-- where no entry is answered so, none joined
pub unchanged : {number : ℕ} {h h' : History} {c : Call} {said : Turned} → Adds number h h' c said → ((e : Entry × End) → Answers c e said → ⊥) → h' ≡ h
unchanged (inl p) never = p.0
unchanged (inr j) never = absurd (never j.entry j.answers)

-- where neither can be, the call wasn't answered so
pub refuted : {A : Type 0} {number : ℕ} {h h' : History} {c : Call} {said : Turned} → Adds number h h' c said → (AddsNothing c said → ⊥) → ((e : Entry × End) → Answers c e said → ⊥) → A
refuted (inl p) nothing never = absurd (nothing p.1)
refuted (inr j) nothing never = absurd (never j.entry j.answers)

-- a connection stays behind an entry that isn't its Gone
stays_here : {number : ℕ} {h h' : History} {c : Call} {said : Turned} → IsHere h → Adds number h h' c said → ((e : Entry × End) → Answers c e said → is_gone e.0.act ≡ false) → IsHere h'
stays_here here (inl p) keeps = subst IsHere (sym p.0) here
stays_here {h = h} {h' = h'} here (inr j) keeps = here_next h h' j.entry here j.whole (keeps j.entry j.answers)

sending_stays : (a : Act) → IsSending a → is_gone a ≡ false
sending_stays act.Gone is = absurd is
sending_stays a is = refl

rest_stays : (a : Act) → IsRest a → is_gone a ≡ false
rest_stays act.Gone is = absurd is
rest_stays a is = refl

command_stays : (command : Command) (said : Turned) (e : Entry × End) → AnswersCommand command e said → is_gone e.0.act ≡ false
command_stays command (turned.Reply frame closing) e a = ap is_gone a.0.0.1
command_stays command turned.Quiet e a = ap is_gone a.0.1
command_stays command turned.Deleted e a = ap is_gone a
command_stays command said e a = absurd a

bad_stays : (fault : Fault) (said : Turned) (e : Entry × End) → AnswersBad fault e said → is_gone e.0.act ≡ false
bad_stays fault (turned.Reply frame closing) e a = ap is_gone a.0
bad_stays fault said e a = absurd a

next_stays : (said : Turned) (e : Entry × End) → AnswersNext e said → is_gone e.0.act ≡ false
next_stays (turned.Send frame) e a = sending_stays e.0.act a.0
next_stays turned.Idle e a = rest_stays e.0.act a
next_stays turned.Silent e a = ap is_gone a
next_stays turned.Deleted e a = ap is_gone a
next_stays said e a = absurd a

-- a connection stays while its commands and its fault are answered, and while it is sent something
pub command_here : (number : ℕ) (h h' : History) (command : Command) (said : Turned) → IsHere h → Adds number h h' (call.Command command) said → IsHere h'
command_here number h h' command said here a = stays_here here a (command_stays command said)

pub bad_here : (number : ℕ) (h h' : History) (fault : Fault) (said : Turned) → IsHere h → Adds number h h' (call.Bad fault) said → IsHere h'
bad_here number h h' fault said here a = stays_here here a (bad_stays fault said)

pub next_here : (number : ℕ) (h h' : History) (said : Turned) → IsHere h → Adds number h h' call.Next said → IsHere h'
next_here number h h' said here a = stays_here here a (next_stays said)

-- it is there once it began
pub begun_here : (number : ℕ) (h h' : History) → h ≡ [] → Adds number h h' call.Begin turned.Begun → IsHere h'
begun_here number h h' none a = let j = joined a (λ x. x) in here_first h h' j.entry none j.whole (ap is_began j.answers) (ap is_gone j.answers)

-- where memory was wanting before it, nothing was noted
pub unbegun : (number : ℕ) (h h' : History) → Adds number h h' call.Begin turned.Memory → h' ≡ h
unbegun number h h' a = unchanged a (λ e x. x)

-- the conversation begins where its Began was noted
pub begun_talk : (limits : Limits) (number : ℕ) (pieces : List (List ℕ)) (h h' : History) (out : List ℕ) (reader : Reading) → pieces ≡ [] → h ≡ [] → out ≡ [] → reader ≡ fresh limits → Adds number h h' call.Begin turned.Begun
    → InTalk limits pieces h' out reader (Sending 0)
begun_talk limits number pieces h h' out reader p n o r a =
    let j = joined a (λ x. x) in
    let e = j.entry in
    moved limits p (j.whole ∙ ap (λ x. x ++ e ∷ []) n) o r (began_talk limits e j.answers (ap (λ x. act_answered x e.1) j.answers))

-- an act that closes, and answers nothing
quiet_over : (limits : Limits) (stopped : Bool) (pieces : List (List ℕ)) (h h' : History) (out out' : List ℕ) (e : Entry × End) → h' ≡ h ++ e ∷ [] → IsClosed limits pieces (h ++ e ∷ []) → answered e ≡ None → out ≡ frames h → out' ≡ out
    → IsOver limits stopped pieces h' out' Closed
quiet_over limits stopped pieces h h' out out' e whole closed none all same =
    record { reached = inl (subst (λ x. IsClosed limits pieces x) (sym whole) closed); written = same ∙ all ∙ sym (frames_same h e none) ∙ ap frames (sym whole) }

-- an act that closes, and whose answer was written
frame_over : (limits : Limits) (stopped : Bool) (pieces : List (List ℕ)) (h h' : History) (out out' : List ℕ) (e : Entry × End) (frame : Frame) → h' ≡ h ++ e ∷ [] → IsClosed limits pieces (h ++ e ∷ []) → answered e ≡ Some frame → out ≡ frames h
    → out' ≡ out ++ answer_bytes (Some frame) → IsOver limits stopped pieces h' out' Closed
frame_over limits stopped pieces h h' out out' e frame whole closed is all wrote = record {
  reached = inl (subst (λ x. IsClosed limits pieces x) (sym whole) closed);
  written = wrote ∙ ap (λ x. x ++ answer_bytes (Some frame)) all ∙ ap (λ x. frames h ++ answer_bytes x) (sym is) ∙ sym (frames_next h e) ∙ ap frames (sym whole);
}

-- an answer that was written in part
cut_over : (limits : Limits) (stopped : Bool) (pieces : List (List ℕ)) (h h' : History) (out out' : List ℕ) (e : Entry × End) (frame : Frame) → h' ≡ h ++ e ∷ [] → IsClosed limits pieces (h ++ e ∷ []) ⊎ IsOpen limits pieces (h ++ e ∷ [])
    → answered e ≡ Some frame → out ≡ frames h → WritesFirst (answer_bytes (Some frame)) out out' → IsOver limits stopped pieces h' out' WriteFault
cut_over limits stopped pieces h h' out out' e frame whole reached is all w =
    subst (λ x. IsOver limits stopped pieces x out' WriteFault) (sym whole) (record { reached = reached; written = cut_short h e frame out out' all is w })

-- an answer for which there was no memory
lost_over : (limits : Limits) (stopped : Bool) (pieces : List (List ℕ)) (h h' : History) (out out' : List ℕ) (e : Entry × End) → h' ≡ h ++ e ∷ [] → IsClosed limits pieces (h ++ e ∷ []) ⊎ IsOpen limits pieces (h ++ e ∷ []) → out ≡ frames h
    → WritesFirst memory_bytes out out' → IsOver limits stopped pieces h' out' Memory
lost_over limits stopped pieces h h' out out' e whole reached all w =
    subst (λ x. IsOver limits stopped pieces x out' Memory) (sym whole) (record { reached = reached; written = given_up_last h e out out' all w })

module _ (limits : Limits) (seen : History) (number : ℕ) (pieces : List (List ℕ)) (h h' : History) (out out' : List ℕ) where
  -- nothing was noted: for want of memory, or behind a Stop
  none_memory : {reader : Reading} {round : Round} → InTalk limits pieces h out reader round → h' ≡ h → WritesFirst memory_bytes out out' → IsOver limits (has_stop seen) pieces h' out' Memory
  none_memory i same w = subst (λ x. IsOver limits (has_stop seen) pieces x out' Memory) (sym same) (record { reached = inr (talk_open i); written = given_up h out out' i.all_out w })

  none_stopped : {reader : Reading} {round : Round} → InTalk limits pieces h out reader round → h' ≡ h → has_stop seen ≡ true → out' ≡ out → IsOver limits (has_stop seen) pieces h' out' Closed
  none_stopped i same stops all = subst (λ x. IsOver limits (has_stop seen) pieces x out' Closed) (sym same) (record { reached = inr (talk_open i, stops); written = all ∙ i.all_out })

  module _ (begun new : Reading) (command : Command) (i : InTalk limits pieces h out begun Doing) (t : Takes begun new command) where
    quiet_went : (j : Joins number h h' (call.Command command) turned.Quiet) → out' ≡ out → InTalk limits pieces h' out' new Doing
    quiet_went j o =
        let e = j.entry in
        let wrote : out' ≡ out ++ written_by e = o ∙ sym (append-nil out) ∙ ap (λ x. out ++ answer_bytes x) (sym j.answers.1) in
        moved limits refl j.whole wrote refl (did_open limits pieces h out begun new command i t e j.answers.0 (ap closes_answer j.answers.1))

    reply_went : (frame : Frame) (closing : Bool) (result : Option Ended) (e : Entry × End) → h' ≡ h ++ e ∷ [] → Took command (Some frame) e → closing ≡ closes frame → WritesReply frame closing out out' result
        → Goes limits seen pieces h' out' new Doing result
    reply_went frame closing None e whole is c a =
        moved limits refl whole (a.1 ∙ ap (λ x. out ++ answer_bytes x) (sym is.1)) refl (did_open limits pieces h out begun new command i t e is.0 (ap closes_answer is.1 ∙ sym c ∙ a.0))
    reply_went frame closing (Some Closed) e whole is c a =
        frame_over limits (has_stop seen) pieces h h' out out' e frame whole (did_closed limits pieces h out begun new command i t e is.0 (ap closes_answer is.1 ∙ sym c ∙ a.0)) is.1 i.all_out a.1
    reply_went frame closing (Some WriteFault) e whole is c a =
        cut_over limits (has_stop seen) pieces h h' out out' e frame whole (did_reached limits pieces h out begun new command i t e is.0 (closes_answer (answered e)) refl) is.1 i.all_out a
    reply_went frame closing (Some Memory) e whole is c a =
        lost_over limits (has_stop seen) pieces h h' out out' e whole (did_reached limits pieces h out begun new command i t e is.0 (closes_answer (answered e)) refl) i.all_out a
    reply_went frame closing (Some EndOfInput) e whole is c a = absurd a
    reply_went frame closing (Some ReadFault) e whole is c a = absurd a

    dropped_went : Joins number h h' (call.Command command) turned.Deleted → out' ≡ out → IsOver limits (has_stop seen) pieces h' out' Closed
    dropped_went j o =
        let e = j.entry in
        quiet_over limits (has_stop seen) pieces h h' out out' e j.whole (dropped_doing limits pieces h out begun new command i t e j.answers) (ap (λ x. act_answered x e.1) j.answers) i.all_out o

    -- what the answer to a command does
    pub command_went : (said : Turned) (result : Option Ended) → Adds number h h' (call.Command command) said → StopsSeen seen said → said ≢ turned.Strange → WritesAnswer said out out' result → Goes limits seen pieces h' out' new Doing result
    command_went (turned.Reply frame closing) result a s k w = let j = joined a (λ x. x) in reply_went frame closing result j.entry j.whole j.answers.0 j.answers.1 w
    command_went turned.Quiet result a s k w = subst (λ x. Goes limits seen pieces h' out' new Doing x) (sym w.0) (quiet_went (joined a (λ x. x)) w.1)
    command_went turned.Deleted result a s k w = subst (λ x. Goes limits seen pieces h' out' new Doing x) (sym w.0) (dropped_went (joined a (λ x. x)) w.1)
    command_went turned.Memory result a s k w = subst (λ x. Goes limits seen pieces h' out' new Doing x) (sym w.0) (none_memory i (unchanged a (λ e x. x)) w.1)
    command_went turned.Stopping result a s k w = subst (λ x. Goes limits seen pieces h' out' new Doing x) (sym w.0) (none_stopped i (unchanged a (λ e x. x)) s w.1)
    command_went turned.Strange result a s k w = absurd (k refl)
    command_went turned.Begun result a s k w = refuted a (λ x. x) (λ e x. x)
    command_went (turned.Send frame) result a s k w = refuted a (λ x. x) (λ e x. x)
    command_went turned.Idle result a s k w = refuted a (λ x. x) (λ e x. x)
    command_went turned.Silent result a s k w = refuted a (λ x. x) (λ e x. x)
    command_went turned.Ended result a s k w = refuted a (λ x. x) (λ e x. x)
    command_went (turned.Said told) result a s k w = refuted a (λ x. x) (λ e x. x)
    command_went (turned.Listed names at) result a s k w = refuted a (λ x. x) (λ e x. x)

  module _ (begun new : Reading) (fault : Fault) (i : InTalk limits pieces h out begun Doing) (f : Fails begun new fault) where
    refused_over : (frame : Frame) (closing : Bool) (result : Option Ended) (e : Entry × End) → h' ≡ h ++ e ∷ [] → e.0.act ≡ act.Refused fault frame → closing ≡ true → WritesReply frame closing out out' result
        → IsOver limits (has_stop seen) pieces h' out' (unwrap_or result Closed)
    refused_over frame closing None e whole is c a = absurd cc
    refused_over frame closing (Some Closed) e whole is c a =
        frame_over limits (has_stop seen) pieces h h' out out' e frame whole (refused_closed limits pieces h out begun new fault frame e i f is) (ap (λ x. act_answered x e.1) is) i.all_out a.1
    refused_over frame closing (Some WriteFault) e whole is c a =
        cut_over limits (has_stop seen) pieces h h' out out' e frame whole (inl (refused_closed limits pieces h out begun new fault frame e i f is)) (ap (λ x. act_answered x e.1) is) i.all_out a
    refused_over frame closing (Some Memory) e whole is c a =
        lost_over limits (has_stop seen) pieces h h' out out' e whole (inl (refused_closed limits pieces h out begun new fault frame e i f is)) i.all_out a
    refused_over frame closing (Some EndOfInput) e whole is c a = absurd a
    refused_over frame closing (Some ReadFault) e whole is c a = absurd a

    -- what the answer to a fault does
    pub bad_over : (said : Turned) (result : Option Ended) → Adds number h h' (call.Bad fault) said → StopsSeen seen said → said ≢ turned.Strange → WritesAnswer said out out' result
        → IsOver limits (has_stop seen) pieces h' out' (unwrap_or result Closed)
    bad_over (turned.Reply frame closing) result a s k w = let j = joined a (λ x. x) in refused_over frame closing result j.entry j.whole j.answers.0 j.answers.1 w
    bad_over turned.Memory result a s k w = subst (λ x. IsOver limits (has_stop seen) pieces h' out' (unwrap_or x Closed)) (sym w.0) (none_memory i (unchanged a (λ e x. x)) w.1)
    bad_over turned.Stopping result a s k w = subst (λ x. IsOver limits (has_stop seen) pieces h' out' (unwrap_or x Closed)) (sym w.0) (none_stopped i (unchanged a (λ e x. x)) s w.1)
    bad_over turned.Strange result a s k w = absurd (k refl)
    bad_over turned.Quiet result a s k w = refuted a (λ x. x) (λ e x. x)
    bad_over turned.Deleted result a s k w = refuted a (λ x. x) (λ e x. x)
    bad_over turned.Begun result a s k w = refuted a (λ x. x) (λ e x. x)
    bad_over (turned.Send frame) result a s k w = refuted a (λ x. x) (λ e x. x)
    bad_over turned.Idle result a s k w = refuted a (λ x. x) (λ e x. x)
    bad_over turned.Silent result a s k w = refuted a (λ x. x) (λ e x. x)
    bad_over turned.Ended result a s k w = refuted a (λ x. x) (λ e x. x)
    bad_over (turned.Said told) result a s k w = refuted a (λ x. x) (λ e x. x)
    bad_over (turned.Listed names at) result a s k w = refuted a (λ x. x) (λ e x. x)

  module _ (reader : Reading) (k : ℕ) (few : k < most_sent) (i : InTalk limits pieces h out reader (Sending k)) where
    sent_talk : (e : Entry × End) → IsSending e.0.act → InTalk limits pieces (h ++ e ∷ []) (out ++ written_by e) reader (Sending (k + 1))
    sent_talk e is = record {
      greeted = i.greeted;
      pending = i.pending;
      going = sent e i.going few is;
      limits_are = i.limits_are;
      holds = i.holds;
      all_out = ap (λ x. x ++ written_by e) i.all_out ∙ sym (frames_next h e);
    }

    rested_talk : (e : Entry × End) → IsRest e.0.act → InTalk limits pieces (h ++ e ∷ []) out reader ToRead
    rested_talk e is = record {
      greeted = i.greeted;
      pending = i.pending;
      going = rested e i.going few is;
      limits_are = i.limits_are;
      holds = i.holds;
      all_out = i.all_out ∙ sym (frames_same h e (rest_answers e.0.act e.1 is));
    }

    -- an act that closes while something is to be sent
    closed_sending : (a : Act) (e : Entry × End) → e.0.act ≡ a → ClosesBy limits (place_of pieces i.pending) i.greeted i.pending (Sending k) a (answered e) → IsClosed limits pieces (h ++ e ∷ [])
    closed_sending a e is closes = record {
      greeted = i.greeted;
      pending = i.pending;
      round = Sending k;
      before = h;
      last = e;
      whole = refl;
      going = i.going;
      closes_by = subst (λ x. ClosesBy limits (place_of pieces i.pending) i.greeted i.pending (Sending k) x (answered e)) (sym is) closes;
    }

    send_went : (frame : Frame) (result : Delivered) (e : Entry × End) → h' ≡ h ++ e ∷ [] → IsSending e.0.act → answered e ≡ Some frame → DeliversFrame frame out out' result → Sends k limits seen pieces h' out' reader result
    send_went frame More e whole is wrote d = moved limits refl whole (d ∙ ap (λ x. out ++ answer_bytes x) (sym wrote)) refl (sent_talk e is)
    send_went frame Rest e whole is wrote d = absurd d
    send_went frame (Over WriteFault) e whole is wrote d = cut_over limits (has_stop seen) pieces h h' out out' e frame whole (inr (talk_open (sent_talk e is))) wrote i.all_out d
    send_went frame (Over Memory) e whole is wrote d = lost_over limits (has_stop seen) pieces h h' out out' e whole (inr (talk_open (sent_talk e is))) i.all_out d
    send_went frame (Over EndOfInput) e whole is wrote d = absurd d
    send_went frame (Over Closed) e whole is wrote d = absurd d
    send_went frame (Over ReadFault) e whole is wrote d = absurd d

    silent_went : Joins number h h' call.Next turned.Silent → out' ≡ out → IsOver limits (has_stop seen) pieces h' out' Closed
    silent_went j o =
        let e = j.entry in
        quiet_over limits (has_stop seen) pieces h h' out out' e j.whole (closed_sending act.Silent e j.answers few) (ap (λ x. act_answered x e.1) j.answers) i.all_out o

    lost_went : Joins number h h' call.Next turned.Deleted → out' ≡ out → IsOver limits (has_stop seen) pieces h' out' Closed
    lost_went j o =
        let e = j.entry in
        quiet_over limits (has_stop seen) pieces h h' out out' e j.whole (closed_sending act.Dropped e j.answers few) (ap (λ x. act_answered x e.1) j.answers) i.all_out o

    -- what the answer to the question what is to be sent does
    pub next_went : (said : Turned) (result : Delivered) → Adds number h h' call.Next said → StopsSeen seen said → said ≢ turned.Strange → Delivers said out out' result → Sends k limits seen pieces h' out' reader result
    next_went (turned.Send frame) result a s w d = let j = joined a (λ x. x) in send_went frame result j.entry j.whole j.answers.0 j.answers.1 d
    next_went turned.Idle result a s w d =
        let j = joined a (λ x. x) in
        subst (λ x. Sends k limits seen pieces h' out' reader x) (sym d.0) (moved limits refl j.whole d.1 refl (rested_talk j.entry j.answers))
    next_went turned.Silent result a s w d = subst (λ x. Sends k limits seen pieces h' out' reader x) (sym d.0) (silent_went (joined a (λ x. x)) d.1)
    next_went turned.Deleted result a s w d = subst (λ x. Sends k limits seen pieces h' out' reader x) (sym d.0) (lost_went (joined a (λ x. x)) d.1)
    next_went turned.Memory result a s w d = subst (λ x. Sends k limits seen pieces h' out' reader x) (sym d.0) (none_memory i (unchanged a (λ e x. x)) d.1)
    next_went turned.Stopping result a s w d = subst (λ x. Sends k limits seen pieces h' out' reader x) (sym d.0) (none_stopped i (unchanged a (λ e x. x)) s d.1)
    next_went turned.Strange result a s w d = absurd (w refl)
    next_went turned.Begun result a s w d = refuted a (λ x. x) (λ e x. x)
    next_went (turned.Reply frame closing) result a s w d = refuted a (λ x. x) (λ e x. x)
    next_went turned.Quiet result a s w d = refuted a (λ x. x) (λ e x. x)
    next_went turned.Ended result a s w d = refuted a (λ x. x) (λ e x. x)
    next_went (turned.Said told) result a s w d = refuted a (λ x. x) (λ e x. x)
    next_went (turned.Listed names at) result a s w d = refuted a (λ x. x) (λ e x. x)

-- an ending in other words
pub over_same : (limits : Limits) (stopped : Bool) (pieces pieces' : List (List ℕ)) (h : History) (out : List ℕ) (ended ended' : Ended) → pieces' ≡ pieces → ended' ≡ ended → IsOver limits stopped pieces h out ended
    → IsOver limits stopped pieces' h out ended'
over_same limits stopped pieces pieces' h out ended ended' p e o = subst (λ x. IsOver limits stopped x h out ended') (sym p) (subst (λ x. IsOver limits stopped pieces h out x) (sym e) o)

-- memory was wanting while a conversation went on
pub memory_over : (limits : Limits) (stopped : Bool) {pieces pieces' : List (List ℕ)} {h : History} {out out' : List ℕ} {reader : Reading} {round : Round} (ended : Ended) → InTalk limits pieces h out reader round → pieces' ≡ pieces
    → WritesFirst memory_bytes out out' → ended ≡ Memory → IsOver limits stopped pieces' h out' ended
memory_over limits stopped {pieces} {pieces'} {h} {out} {out'} ended i p w m =
    over_same limits stopped pieces pieces' h out' Memory ended p m (record { reached = inr (talk_open i); written = given_up h out out' i.all_out w })

-- a piece that is read was the front of what was left
pub read_stream : (pieces pieces' : List (List ℕ)) (left left' piece : List ℕ) → pieces' ≡ pieces ++ piece ∷ [] → left ≡ piece ++ left' → bytes_of pieces' ++ left' ≡ bytes_of pieces ++ left
read_stream pieces pieces' left left' piece p l =
    ap (λ x. bytes_of x ++ left') p ∙ ap (λ x. x ++ left') (bytes_of-next pieces piece) ∙ append_assoc (bytes_of pieces) piece left' ∙ ap (λ x. bytes_of pieces ++ x) (sym l)

-- the same stream in other words
pub same_stream : (pieces pieces' : List (List ℕ)) (left left' : List ℕ) → pieces' ≡ pieces → left' ≡ left → bytes_of pieces' ++ left' ≡ bytes_of pieces ++ left
same_stream pieces pieces' left left' p l = ap (λ x. bytes_of x ++ left') p ∙ ap (λ x. bytes_of pieces ++ x) l

-- a piece that was fed is pending
pub fed_ok : (old : Reading) (piece : List ℕ) (result : Result (Unit {0}) NoMemory) (new : Reading) → IsFed old piece result new → is_err result ≡ false → new ≡ fed old.stage old piece
fed_ok old piece (Ok x) new f e = f
fed_ok old piece (Err x) new f e = absurd cc

-- a piece that was fed from the front of what was read into a buffer is pending
pub fed_front : (old : Reading) (size : ℕ) (buffer into rest : List ℕ) (count : ℕ) (result : Result (Unit {0}) NoMemory) (new : Reading) → buffer ≡ take size (into ++ rest) → length into ≡ size → IsFed old (take count buffer) result new
    → is_err result ≡ false → new ≡ fed old.stage old (take count into)
fed_front old size buffer into rest count result new is all f ok =
    subst (λ (x : List ℕ). new ≡ fed old.stage old (take count x)) (is ∙ subst (λ k. take k (into ++ rest) ≡ into) all (take-append_seam into rest)) (fed_ok old (take count buffer) result new f ok)

-- the limits stay
pub fed_same : (old new : Reading) (piece : List ℕ) → new ≡ fed old.stage old piece → new.limits ≡ old.limits
fed_same old new piece f = ap (λ (x : Reading). x.limits) f ∙ fed_limits old piece
