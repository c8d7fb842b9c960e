-- What a floor's calls leave of its hall.
use Rattle.std.proofs.Common.{◌≡◌, ◌≢◌, ◌≤◌, ◌<◌, ◌^◌, ℕ, ◌+◌, Bool, true, false, List, [], Option, Some, None, is_some, refl, sym, ap, subst, ◌∙◌, arith}
use Rattle.std.specs.Prelude.{IsTrue, max, min}
use Rattle.std.proofs.lemmas.Bool.{false≢true}
use Rattle.std.proofs.lemmas.List.Elements.{All-weaker}
use Rattle.nsq_outside.specs.Files.{Files}
use Rattle.nsq_base.specs.declared.options.Options.{Options}
use Rattle.broker_history.specs.State.{Client, State}
use Rattle.broker_history.specs.Entries.{History, has_stop, own}
use Rattle.broker_history.specs.declared.call.Call.{Call}
use Rattle.broker_history.specs.declared.turned.Turned.{Turned}
use Rattle.broker_history.specs.Calls.{MayCall, is_over}
use Rattle.floor_rooms.specs.declared.hall.Hall.{Hall}
use Rattle.floor_rooms.specs.Made.{IsEmptyHall}
use Rattle.floor_rooms.specs.Rooms.{client_in}
use Rattle.floor_rooms.specs.Sound.{IsRoomSound, IsSound}
use Rattle.floor_rooms.specs.Standing.{HoldsFor}
use Rattle.floor_rooms.specs.Changes.{OnlyQueueFiles}
use Rattle.floor_rooms.proofs.Holding.{holds_same}
use Rattle.floor_rooms.proofs.Sounding.{Lowers, room_lowered}
use Rattle.floor_serving.specs.Moves.{sight}
use Rattle.floor_serving.specs.Scenes.{IsTied, is_here, scene}
use Rattle.floor_serving.specs.Turning.{TakesTurn}
use Rattle.floor_serving.specs.Turns.{IsTurn, hall_at}
use Rattle.floor_serving.proofs.Tying.{turn_ties}

-- names that were saved
pub sound_saved : (h h' : Hall) → IsSound h → h' ≡ record h { unsaved_names = h'.unsaved_names } → IsSound h'
sound_saved h h' sound is =
    let g : Hall = record h { unsaved_names = h'.unsaved_names } in
    let low : Lowers h g = record { options = refl; quiet = omega arith; unsaved = omega arith; pending = λ name has. has } in
    subst IsSound (sym is) (record {
      options = sound.options;
      epoch = sound.epoch;
      ids_used = sound.ids_used;
      moment = sound.moment;
      client_order = sound.client_order;
      room_order = sound.room_order;
      rooms = All-weaker (IsRoomSound h) (IsRoomSound g) (λ r x. room_lowered h g r low x) h.rooms.items sound.rooms;
      members = sound.members;
      channels = sound.channels;
      ready = sound.ready;
      past = sound.past;
    })

pub holds_saved : (h h' : Hall) (files : Files) (s : State) → h' ≡ record h { unsaved_names = h'.unsaved_names } → HoldsFor h files s → HoldsFor h' files s
holds_saved h h' files s is holds =
    let moment : h'.moment ≡ h.moment = ap (λ (x : Hall). x.moment) is in
    holds_same h h' files s (record {
      options = ap (λ (x : Hall). x.options) is;
      epoch = ap (λ (x : Hall). x.epoch) is;
      ids_used = ap (λ (x : Hall). x.ids_used) is;
      moment = omega (arith, moment);
      stopped = ap (λ (x : Hall). x.stopped) is;
      clients = ap (λ (x : Hall). x.clients.items) is;
    }) (ap (λ (x : Hall). x.rooms.items) is) holds

-- a hall with no client and no history
pub tied_new : (options : Options) (epoch at : ℕ) (h : Hall) (notes : History) → IsEmptyHall options epoch at h → notes ≡ [] → IsTied h notes
tied_new options epoch at h notes empty none = record {
  clients = λ n. ap (λ (cs : List Client). is_some (client_in cs n)) empty.clients ∙ sym (ap (λ (x : History). is_here (own n x)) none);
  begun = λ n over. absurd (false≢true (ap (λ (x : History). is_over (own n x)) (sym none) ∙ over));
  stopped = empty.stopped ∙ sym (ap has_stop none);
}

-- a hall with the same clients, stopped as it was
pub tied_kept : (h h' : Hall) (notes : History) → h'.clients.items ≡ h.clients.items → h'.stopped ≡ h.stopped → IsTied h notes → IsTied h' notes
tied_kept h h' notes clients stopped tied = record {
  clients = λ n. ap (λ (cs : List Client). is_some (client_in cs n)) clients ∙ tied.clients n;
  begun = tied.begun;
  stopped = stopped ∙ tied.stopped;
}

-- a turn whose clock was read
module _ (tells_notes tells_files tells_readings : Bool) (number : ℕ) (c : Call) (answer : Turned) (h mid h' : Hall) (n n' : History) (f f' : Files) (k k' : ℕ) (coming coming' : ℕ → ℕ) (reading : ℕ) (passed : mid ≡ record h { moment = max h.moment (min reading (2 ^ 62)) }) (bounded : mid.moment ≤ 2 ^ 62) where
  mid_at : TakesTurn tells_notes tells_files number c answer (sight mid n f k) (sight h' n' f' k') → hall_at h h'.moment ≡ mid
  mid_at t = ap (hall_at h) (t.stays.moment ∙ ap (λ (x : Hall). x.moment) passed) ∙ sym passed

  pub turn_in : (IsTrue tells_readings → reading ≡ coming 0) → (IsTrue tells_readings → (m : ℕ) → coming' m ≡ coming (m + 1)) → ((files : Files) (s : State) → HoldsFor h files s → HoldsFor mid files s)
      → TakesTurn tells_notes tells_files number c answer (sight mid n f k) (sight h' n' f' k') → (IsTrue tells_files → OnlyQueueFiles f f') → IsTurn tells_notes tells_files tells_readings number c answer (scene h n f k coming) (scene h' n' f' k' coming')
  turn_in read ahead waits t files =
      let moment : h'.moment ≡ max h.moment (min reading (2 ^ 62)) = t.stays.moment ∙ ap (λ (x : Hall). x.moment) passed in
      let same : h'.moment ≡ mid.moment = t.stays.moment in
      record {
        reads = record {
          later = omega (arith, moment);
          bounded = omega (arith, same, bounded);
          moment = λ told. moment ∙ ap (λ r. max h.moment (min r (2 ^ 62))) (read told);
          coming = ahead;
        };
        waits = λ files s holds. subst (λ (x : Hall). HoldsFor x files s) (sym (mid_at t)) (waits files s holds);
        takes = subst (λ (x : Hall). TakesTurn tells_notes tells_files number c answer (sight x n f k) (sight h' n' f' k')) (sym (mid_at t)) t;
        files = files;
      }

  pub tied_in : (IsTrue tells_notes → IsTied h n) → (IsTrue tells_notes → MayCall number (own number n) c) → TakesTurn tells_notes tells_files number c answer (sight mid n f k) (sight h' n' f' k') → IsTrue tells_notes → IsTied h' n'
  tied_in tied may t told =
      let first : IsTied h n = tied told in
      let mid_tied : IsTied mid n = record {
        clients = λ m. ap (λ (x : Hall). is_some (client_in x.clients.items m)) passed ∙ first.clients m;
        begun = first.begun;
        stopped = ap (λ (x : Hall). x.stopped) passed ∙ first.stopped;
      } in
      turn_ties tells_notes tells_files number c answer (sight mid n f k) (sight h' n' f' k') mid_tied (may told) t told
