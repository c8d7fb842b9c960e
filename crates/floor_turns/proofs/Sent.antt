-- A message that was drawn for a client is sent to it, or put back where memory is wanting.
use Rattle.std.proofs.Common.{◌≡◌, ◌<◌, ◌≤◌, ◌==◌, ◌^◌, ℕ, min, set, Bool, true, false, if◌then◌else◌, List, [], ◌∷◌, ◌++◌, length, get_or, Option, Some, None, HoldsAt, is_some, refl, sym, ap, subst, ◌∙◌, arith}
use Rattle.std.specs.Prelude.{IfOk, IfSome, IsSome, IsTrue, OnOk, Result, Ok}
use Rattle.std.proofs.lemmas.Bool.{eqb-true, false≢true}
use Rattle.nsq_outside.specs.Files.{Files}
use Rattle.nsq_outside.specs.Journals as journals
use Rattle.nsq_outside.specs.declared.journal.End.TheVariants.{Done}
use Rattle.v2_frame.specs.declared.frame.Frame.{Frame}
use Rattle.v2_frame.specs.declared.message.Message.{Message}
use Rattle.backlog.specs.Seen.{FitsLimit}
use Rattle.broker_history.specs.declared.entry.Act.TheVariants.{Sent}
use Rattle.broker_history.specs.declared.entry.Entry.{Entry}
use Rattle.broker_history.specs.State.{Client, counted}
use Rattle.broker_history.specs.Reply.{message_frame}
use Rattle.broker_history.specs.Entries.{History}
use Rattle.broker_history.specs.Step.{DoesSend}
use Rattle.channel_copies.specs.Clients.{client_of}
use Rattle.channel_core.specs.declared.answers.Next.{Next}
use Rattle.channel_core.specs.declared.answers.Next.TheVariants as next
use Rattle.channel_core.specs.Drawing.{IsDrawnFor}
use Rattle.channel_core.specs.Seen.{Seen as ChannelSeen}
use Rattle.broker_history.specs.declared.call.Call.TheVariants as call
use Rattle.broker_history.specs.declared.turned.Turned.TheVariants as turned
use Rattle.floor_rooms.specs.ClientPlaces.{AreInOrder, StandsAt}
use Rattle.floor_rooms.proofs.Putting.{found_put}
use Rattle.floor_rooms.specs.declared.stall.Stall.{Stall}
use Rattle.floor_rooms.specs.declared.room.Room.{Room}
use Rattle.floor_rooms.specs.declared.hall.Hall.{Hall}
use Rattle.floor_rooms.specs.Changes.{KeepsRooms}
use Rattle.floor_rooms.specs.Rooms.{client_in}
use Rattle.floor_rooms.specs.Sound.{IsSound}
use Rattle.floor_rooms.specs.Standing.{Carries}
use Rattle.floor_rooms.proofs.Dating.{since_kept}
use Rattle.floor_rooms.proofs.Naming.{names_kept}
use Rattle.floor_acts.specs.Replies.{IsShortFrame}
use Rattle.floor_moves.specs.declared.due.Place.{Place}
use Rattle.floor_moves.specs.Moves.{Keeps, sight}
use Rattle.floor_acts.specs.Acts.{ChangesAt}
use Rattle.floor_acts.specs.Sending.{DrawsStall, HasDrawn, IsDrawnForSome, IsToSend}
use Rattle.floor_acts.proofs.Drawing.{draw_faults}
use Rattle.floor_acts.proofs.Flying.{range_behind, some_same, stall_range_behind}
use Rattle.floor_acts.proofs.Putting.{put_at_place}
use Rattle.floor_acts.proofs.Returning.{holds_behind}
use Rattle.floor_turns.specs.Acting.{Acts, StaysSet}
use Rattle.floor_turns.proofs.Carrying.{noted_act}
use Rattle.floor_turns.specs.Drawing.{IsServedAt, entry_of}
use Rattle.floor_turns.proofs.Answering.{acts_one, leaves_same, wants}
use Rattle.floor_turns.proofs.Serving.{member_drawn, sends_now, there_marked}

pub some_is : {X : Type 0} (o : Option X) (x : X) → o ≡ Some x → IsSome o
some_is o x e = subst IsSome (sym e) refl

-- what holds of what came
pub if_ok : {X E : Type 0} (r : Result X E) (x : X) (P : X → Type 0) → r ≡ Ok x → IfOk r P → P x
if_ok r x P is h = subst (λ o. IfOk o P) is h

pub on_ok : {X E : Type 0} (r : Result X E) (x : X) (Q : Type 0) → r ≡ Ok x → OnOk r Q → Q
on_ok r x Q is h = subst (λ o. OnOk o Q) is h

pub some_of : {X : Type 0} (o : Option X) → IsSome o → (x : X) × (o ≡ Some x)
some_of None h = absurd (let no : ⊥ = cc in no)
some_of (Some x) h = (x, refl)

-- what holds by the number of the client at its place
pub by_number : (P : ℕ → Type 0) (cs : List Client) (number k : ℕ) → IsSome (client_in cs number) → StandsAt cs number k → HoldsAt (λ (c : Client). P c.number) cs k → P number
by_number P cs number k there st all = let c = some_of (client_in cs number) there in subst P (st.is c.0) (all c.0)

pub at_its_place : (P : ℕ → Type 0) (cs : List Client) (number k : ℕ) → StandsAt cs number k → P number → HoldsAt (λ (c : Client). P c.number) cs k
at_its_place P cs number k st p = λ d. subst P (sym (st.is d)) p

-- all clients keep their numbers where one changes but for its number
numbers_stay : (cs new : List Client) (k : ℕ) (x d : Client) → AreInOrder cs → k < length cs → x ≡ get_or cs k x → client_in cs x.number ≡ Some x → d.number ≡ x.number → new ≡ set cs k d → (m : ℕ) → is_some (client_in new m) ≡ is_some (client_in cs m)
numbers_stay cs new k x d up l e found same put m =
    ap (λ ys. is_some (client_in ys m)) (put ∙ put_at_place cs k x d up l e same) ∙ ap is_some (found_put cs d m) ∙ one (d.number == m) refl
  where
    one : (b : Bool) → (d.number == m) ≡ b → is_some (if b then Some d else client_in cs m) ≡ is_some (client_in cs m)
    one true is = sym (ap is_some (ap (client_in cs) (sym (eqb-true d.number m is) ∙ same) ∙ found))
    one false is = refl

-- the drawing, where files are told
told_drawn : (tells : Bool) (i j number : ℕ) (m : Message) (f0 f1 : Files) (k0 k1 : ℕ) (hb h1 : Hall) → IsTrue tells → HasDrawn tells i j number (next.Send m) f0 f1 k0 k1 hb h1 → HasDrawn true i j number (next.Send m) f0 f1 k0 k1 hb h1
told_drawn true i j number m f0 f1 k0 k1 hb h1 told d = d
told_drawn false i j number m f0 f1 k0 k1 hb h1 told d = absurd (let no : ⊥ = cc in no)

module _ (tells_notes tells_files : Bool) (number : ℕ) (place : Place) (m : Message) (f0 f1 : Files) (k0 k1 : ℕ) (hb h1 : Hall) (d : HasDrawn tells_files place.room place.stall number (next.Send m) f0 f1 k0 k1 hb h1) where
  drawn_rest : h1 ≡ record hb { rooms = h1.rooms; unsaved_from = min hb.unsaved_from hb.moment }
  drawn_rest = d.rest ∙ ap (λ (x : Hall). record x { rooms = h1.rooms }) d.marks

  pub drawn_moment : h1.moment ≡ hb.moment
  drawn_moment = ap (λ (x : Hall). x.moment) drawn_rest

  -- it is put back
  module _ (h2 : Hall) (rest : h2 ≡ record h1 { rooms = h2.rooms; quiet_until = h2.quiet_until }) (rooms : KeepsRooms hb.moment hb.rooms.items h2.rooms.items) where
    back_rest : h2 ≡ record hb { rooms = h2.rooms; quiet_until = h2.quiet_until; unsaved_from = min hb.unsaved_from hb.moment }
    back_rest = rest ∙ ap (λ (x : Hall). record x { rooms = h2.rooms; quiet_until = h2.quiet_until }) drawn_rest

    back_keeps : Keeps hb h2
    back_keeps = record {
      options = ap (λ (x : Hall). x.options) back_rest;
      epoch = ap (λ (x : Hall). x.epoch) back_rest;
      began_at = ap (λ (x : Hall). x.began_at) back_rest;
      ids_used = ap (λ (x : Hall). x.ids_used) back_rest;
      moment = ap (λ (x : Hall). x.moment) back_rest;
      stopped = ap (λ (x : Hall). x.stopped) back_rest;
      stuck = ap (λ (x : Hall). x.stuck) back_rest;
      unsaved_names = ap (λ (x : Hall). x.unsaved_names) back_rest;
      clients = ap (λ (x : Hall). x.clients) back_rest;
      rooms = rooms;
    }

    pub acts_back : (n n' : History) → IsSound hb → (HasDrawn true place.room place.stall number (next.Send m) f0 f1 k0 k1 hb h1 → Carries hb f0 h2 f1 (λ s t. t ≡ s)) → (IsTrue tells_notes → n' ≡ n)
        → Acts tells_notes tells_files number call.Next turned.Memory (sight hb n f0 k0) (sight h2 n' f1 k1)
    acts_back n n' sound told same =
        wants tells_notes tells_files number hb h2 n n' f0 f1 k0 k1 sound back_keeps (draw_faults tells_files place.room place.stall number (next.Send m) f0 f1 k0 k1 hb h1 d)
        (λ tells. told (told_drawn tells_files place.room place.stall number m f0 f1 k0 k1 hb h1 tells d)) same

  -- it is in flight
  module _ (h4 : Hall) (rest : h4 ≡ record h1 { clients = h4.clients; rooms = h4.rooms; quiet_until = h4.quiet_until }) (rooms : KeepsRooms hb.moment hb.rooms.items h4.rooms.items) where
    sent_rest : h4 ≡ record hb { clients = h4.clients; rooms = h4.rooms; quiet_until = h4.quiet_until; unsaved_from = min hb.unsaved_from hb.moment }
    sent_rest = rest ∙ ap (λ (x : Hall). record x { clients = h4.clients; rooms = h4.rooms; quiet_until = h4.quiet_until }) drawn_rest

    sent_stays : StaysSet hb h4
    sent_stays = record {
      options = ap (λ (x : Hall). x.options) sent_rest;
      epoch = ap (λ (x : Hall). x.epoch) sent_rest;
      began_at = ap (λ (x : Hall). x.began_at) sent_rest;
      moment = ap (λ (x : Hall). x.moment) sent_rest;
      stuck = ap (λ (x : Hall). x.stuck) sent_rest;
      names = names_kept hb.moment hb h4 (ap (λ (x : Hall). x.unsaved_names) sent_rest) rooms;
      since = since_kept hb.moment hb.rooms.items h4.rooms.items rooms;
    }

    module _ (k : ℕ) (st : StandsAt h1.clients.items number k) (changes : ChangesAt k (λ c. record c { message_count = counted c.message_count }) h1.clients.items h4.clients.items) (s : IsServedAt hb number place) where
      same_clients : h1.clients.items ≡ hb.clients.items
      same_clients = ap (λ (x : Hall). x.clients.items) drawn_rest

      found_one : client_in h1.clients.items number ≡ Some s.client
      found_one = ap (λ cs. client_in cs number) same_clients ∙ s.there

      read_one : s.client ≡ get_or h1.clients.items k s.client
      read_one = some_same s.client (get_or h1.clients.items k s.client) (sym found_one ∙ st.found s.client)

      its_number : s.client.number ≡ number
      its_number = ap (λ (c : Client). c.number) read_one ∙ st.is s.client

      there_stays : IsSound hb → (n : ℕ) → is_some (client_in h4.clients.items n) ≡ is_some (client_in hb.clients.items n)
      there_stays sound n =
          numbers_stay h1.clients.items h4.clients.items k (get_or h1.clients.items k s.client) _ (subst AreInOrder (sym same_clients) sound.client_order) st.in_range
          (sym (ap (get_or h1.clients.items k) (sym read_one)) ∙ refl)
          (ap (client_in h1.clients.items) (st.is s.client) ∙ found_one ∙ ap Some read_one) refl (changes s.client) n
          ∙ ap (λ cs. is_some (client_in cs n)) same_clients

      pub acts_sent : (n n' : History) (f2 : Files) (k2 : ℕ) (frame : Frame) → IsSound hb → hb.stopped ≡ false → k1 ≤ k2 → (IsTrue tells_files → Carries hb f0 h4 f2 (λ u t. DoesSend u hb.moment number m t)) → frame ≡ message_frame m → IsShortFrame frame
          → (IsTrue tells_notes → n' ≡ n ++ (entry_of number h1.moment (Sent m), Done) ∷ []) → Acts tells_notes tells_files number call.Next (turned.Send frame) (sight hb n f0 k0) (sight h4 n' f2 k2)
      acts_sent n n' f2 k2 frame sound running later does is short noted =
          let first = draw_faults tells_files place.room place.stall number (next.Send m) f0 f1 k0 k1 hb h1 d in
          let faults : k0 ≤ k2 = omega (arith, first, later) in
          acts_one tells_notes tells_files number hb h4 n n' f0 f2 k0 k2 sound sent_stays faults (Sent m) Done (turned.Send frame) refl (tt, ap Some (sym is)) short
          (λ told. subst (λ at. n' ≡ n ++ (entry_of number at (Sent m), Done) ∷ []) drawn_moment (noted told))
          (λ told u holds.
          let to = does told u holds in
          record { allowed = sends_now tells_files number place f0 f1 k0 k1 hb h1 s running m d told u holds; to = to.0; does = to.1; holds = to.2 })
          (λ told u holds. omega (arith, faults)) (λ faulted. absurd (false≢true faulted))
          (leaves_same (Sent m) number hb h4 (λ n there. refl) refl (record { there = there_stays sound; stopped = ap (λ (x : Hall). x.stopped) sent_rest }))

-- where it stands, once it was drawn
module _ (tells : Bool) (number : ℕ) (place : Place) (answer : Next) (f f' : Files) (n n' : ℕ) (h h' : Hall) (d : HasDrawn tells place.room place.stall number answer f f' n n' h h') where
  abbrev Drew : Stall → Stall → Type 0
  Drew = DrawsStall tells number d.marked.moment answer f f' n n'

  pub room_behind : place.room < length h'.rooms.items
  room_behind = range_behind place.room place.stall Drew d.marked.rooms.items h'.rooms.items d.at

  pub stall_behind : HoldsAt (λ (r : Room). place.stall < length r.stalls.items) h'.rooms.items place.room
  stall_behind = stall_range_behind place.room place.stall Drew d.marked.rooms.items h'.rooms.items d.at

  pub order_behind : AreInOrder h'.clients.items
  order_behind = subst (λ (x : Hall). AreInOrder x.clients.items) (sym d.rest) d.sound.client_order

  pub client_behind : IsServedAt h number place → IsSome (client_in h'.clients.items number)
  client_behind s = some_is (client_in h'.clients.items number) s.client (ap (λ (x : Hall). client_in x.clients.items number) d.rest ∙ there_marked tells number place answer f f' n n' h h' d s)

  pub moment_behind : h'.moment ≤ 2 ^ 62
  moment_behind = subst (λ (x : Hall). x.moment ≤ 2 ^ 62) (sym d.rest) d.sound.moment

-- what was drawn is to be sent
module _ (tells : Bool) (number : ℕ) (place : Place) (m : Message) (f f' : Files) (n n' : ℕ) (h h' : Hall) (d : HasDrawn tells place.room place.stall number (next.Send m) f f' n n' h h') where
  pub drawn_short : FitsLimit m
  drawn_short = d.at.does.does.drawn.1

  pub drawn_behind : IsServedAt h number place → HoldsAt (λ (r : Room). HoldsAt (IsToSend h'.moment number m) r.stalls.items place.stall) h'.rooms.items place.room
  drawn_behind s =
      holds_behind place.room place.stall (DrawsStall tells number d.marked.moment (next.Send m) f f' n n') d.marked.rooms.items h'.rooms.items (IsToSend h'.moment number m) d.at (record {
        drawn = subst (λ at. IsDrawnFor number m at d.at.does.after.channel.drawn) (sym (ap (λ (x : Hall). x.moment) d.rest)) d.at.does.does.drawn.0;
        member =
            some_is (client_of d.at.does.after.channel.clients number) (record { timeout = s.client.timeout; ready = s.client.ready })
            (ap (λ (v : ChannelSeen). client_of v.clients number) d.at.does.does.rest ∙ member_drawn tells number place (next.Send m) f f' n n' h h' d s);
      })

-- it may be put back
pub undo_drawn : (now number : ℕ) (m back : Message) (rooms : List Room) (i j : ℕ) → back ≡ m → HoldsAt (λ (r : Room). HoldsAt (IsToSend now number m) r.stalls.items j) rooms i → HoldsAt (λ (r : Room). HoldsAt (λ (s : Stall). IsDrawnForSome back s.channel.drawn) r.stalls.items j) rooms i
undo_drawn now number m back rooms i j same drawn r s =
    subst (λ x. IsDrawnForSome x (get_or (get_or rooms i r).stalls.items j s).channel.drawn) (sym same) (number, now, (drawn r s).drawn)

-- the message came back from its entry
pub lent_drawn : (tells : Bool) (i j number : ℕ) (m back : Message) (f0 f1 : Files) (k0 k1 : ℕ) (hb h1 : Hall) → back ≡ m → HasDrawn tells i j number (next.Send m) f0 f1 k0 k1 hb h1 → HasDrawn tells i j number (next.Send back) f0 f1 k0 k1 hb h1
lent_drawn tells i j number m back f0 f1 k0 k1 hb h1 same d = subst (λ x. HasDrawn tells i j number (next.Send x) f0 f1 k0 k1 hb h1) (sym same) d

pub lent_to_send : (now number : ℕ) (m back : Message) (rooms : List Room) (i j : ℕ) → back ≡ m → HoldsAt (λ (r : Room). HoldsAt (IsToSend now number m) r.stalls.items j) rooms i → HoldsAt (λ (r : Room). HoldsAt (IsToSend now number back) r.stalls.items j) rooms i
lent_to_send now number m back rooms i j same drawn = subst (λ x. HoldsAt (λ (r : Room). HoldsAt (IsToSend now number x) r.stalls.items j) rooms i) (sym same) drawn

-- it was settled, at the client's place
module _ (tells_notes tells_files : Bool) (number : ℕ) (place : Place) (m back : Message) (same : back ≡ m) (f1 f2 : Files) (k1 k2 : ℕ) (h1 h4 : Hall) (k : ℕ) (client : IsSome (client_in h1.clients.items number)) (st : StandsAt h1.clients.items number k) where
  abbrev Drawn : Hall → Files → ℕ → ℕ → Type 0
  Drawn before old faults n = HasDrawn tells_files place.room place.stall n (next.Send back) old f1 faults k1 before h1

  -- a clause of the settling
  pub of_client : (P : ℕ → Type 0) (before : Hall) (old : Files) (faults : ℕ) → HoldsAt (λ (c : Client). Drawn before old faults c.number → P c.number) h1.clients.items k → HasDrawn tells_files place.room place.stall number (next.Send m) old f1 faults k1 before h1 → P number
  of_client P before old faults all d =
      by_number (λ n. Drawn before old faults n → P n) h1.clients.items number k client st all (lent_drawn tells_files place.room place.stall number m back old f1 faults k1 before h1 same d)

  pub sending_acts : h4 ≡ record h1 { clients = h4.clients; rooms = h4.rooms; quiet_until = h4.quiet_until } → ChangesAt k (λ c. record c { message_count = counted c.message_count }) h1.clients.items h4.clients.items → k1 ≤ k2
      → (before : Hall) (old : Files) (faults : ℕ) (n mid n' : History) (kept : Option Entry) (frame : Frame) → HasDrawn tells_files place.room place.stall number (next.Send m) old f1 faults k1 before h1 → IsSound before → before.stopped ≡ false → IsServedAt before number place
      → KeepsRooms before.moment before.rooms.items h4.rooms.items → (IsTrue tells_files → Carries before old h4 f2 (λ u t. DoesSend u before.moment number back t)) → frame ≡ message_frame m → IsShortFrame frame
      → (IsTrue tells_notes → kept ≡ Some (entry_of number h1.moment (Sent m))) → (IsTrue tells_notes → mid ≡ n) → (IsTrue tells_notes → IfSome kept (λ x. journals.Notes mid n' x Done)) → Acts tells_notes tells_files number call.Next (turned.Send frame) (sight before n old faults) (sight h4 n' f2 k2)
  sending_acts rest changes later before old faults n mid n' kept frame d sound running s rooms does is short keeps stays notes =
      acts_sent tells_notes tells_files number place back old f1 faults k1 before h1 (lent_drawn tells_files place.room place.stall number m back old f1 faults k1 before h1 same d) h4 rest rooms k st changes s n n' f2 k2 frame sound running later does
      (subst (λ x. frame ≡ message_frame x) (sym same) is) short
      (λ told. subst (λ x. n' ≡ n ++ (entry_of number h1.moment (Sent x), Done) ∷ []) (sym same) (noted_act tells_notes n mid n' kept (entry_of number h1.moment (Sent m)) Done tt keeps stays notes told))
