-- What a client publishes.
use Rattle.std.proofs.Common.{◌≡◌, ◌^◌, ◌<◌, ◌≤◌, ℕ, ℤ, Bool, true, false, codes, List, [], ◌∷◌, length, get_or, Option, None, Some, Ok, Err, refl, sym, ap, ◌∙◌, subst}
use Rattle.std.specs.Prelude.{IsTrue, MatchBool, MatchOption}
use Rattle.nsq_outside.specs.Causes.{Rose}
use Rattle.nsq_outside.specs.Files.{Files}
use Rattle.v2_frame.specs.declared.command.Command.{Command}
use Rattle.v2_frame.specs.declared.command.Command.TheVariants as command
use Rattle.v2_frame.specs.declared.frame.Frame.{Frame}
use Rattle.broker_history.specs.State.{Client, State, with_client}
use Rattle.broker_history.specs.Changes.{published}
use Rattle.broker_history.specs.Reply.{disk_fault, span_of}
use Rattle.broker_history.specs.Step.{spoke}
use Rattle.floor_rooms.specs.declared.hall.Hall.{Hall}
use Rattle.floor_rooms.specs.Changes.{KeepsSince, OnlyQueueFiles}
use Rattle.floor_rooms.specs.Kept.{NamesTold}
use Rattle.floor_rooms.specs.Sound.{IsSound}
use Rattle.floor_rooms.specs.Standing.{Carries}
use Rattle.floor_calls.specs.Replies.{IsShortFrame}
use Rattle.floor_calls.specs.Acts.{ChangesAt, DoesAt}
use Rattle.floor_calls.specs.Published.{Published}
use Rattle.floor_calls.specs.Published.TheVariants as published_so
use Rattle.floor_turns.specs.Acting.{SameClients, StaysSet}
use Rattle.floor_serving.specs.declared.commanded.Commanded.TheVariants as commanded
use Rattle.floor_serving.specs.Carrying.{Around, basis}
use Rattle.floor_serving.specs.Commands.{CarriesCommand, IsPublish}
use Rattle.floor_serving.proofs.Staying.{around_same, same_changed, same_equal, same_hall, same_then, stays_by, stays_then_clients}

-- the queue's part, and then the client spoke
module _ (tells : Bool) (k : ℕ) (h h1 : Hall) (f f1 : Files) (n n1 : ℕ) (rest : h1 ≡ record h { ids_used = h1.ids_used; rooms = h1.rooms; pending = h1.pending; unsaved_names = h1.unsaved_names; unsaved_from = h1.unsaved_from }) (sound1 : IsSound h1) (names : NamesTold h h1) (since : KeepsSince h.moment h.rooms.items h1.rooms.items)
    (files : IsTrue tells → OnlyQueueFiles f f1) (faults : n ≤ n1) where
  stays1 : StaysSet h h1
  stays1 = stays_by h h1 (record h { ids_used = h1.ids_used; rooms = h1.rooms; pending = h1.pending; unsaved_names = h1.unsaved_names; unsaved_from = h1.unsaved_from }) rest refl refl refl refl refl names since

  same1 : SameClients h h1
  same1 = same_equal h h1 (record h { ids_used = h1.ids_used; rooms = h1.rooms; pending = h1.pending; unsaved_names = h1.unsaved_names; unsaved_from = h1.unsaved_from }) rest refl refl

  clients1 : h1.clients.items ≡ h.clients.items
  clients1 = ap (λ (x : Hall). x.clients.items) rest

  moment1 : h1.moment ≡ h.moment
  moment1 = ap (λ (x : Hall). x.moment) rest

  pub in_range : k < length h.clients.items → k < length h1.clients.items
  in_range within = subst (λ cs. k < length cs) (sym clients1) within

  -- memory was wanting
  pub publish_not : {E : Type 0} (e : E) (c : Command) → (IsTrue tells → Carries h f h1 f1 (λ s t. t ≡ s)) → CarriesCommand {E = E} tells k c (basis h f n) (basis h1 f1 n1) (Err e)
  publish_not e c rests = record { around = record { stays = stays1; sound = sound1; files = files; faults = faults }; same = same1; ends = rests }

  module _ (h2 : Hall) (within : k < length h.clients.items) (rest2 : h2 ≡ record h1 { clients = h2.clients }) (changes : ChangesAt k (spoke h1.moment) h1.clients.items h2.clients.items) (sound2 : IsSound h2) (spoken : (g : Files) (c : Command) → DoesAt k c true h1 g h2 g) where
    around2 : Around tells (basis h f n) (basis h2 f1 n1)
    around2 = record { stays = stays_then_clients h h1 h2 stays1 rest2; sound = sound2; files = files; faults = faults }

    same2 : SameClients h h2
    same2 = same_then h h1 h2 same1 (same_changed h1 h2 k (spoke h1.moment) sound1 (in_range within) (λ c. refl) changes (record h1 { clients = h2.clients }) rest2 refl)

    spoke_same : (d : Client) (s t : State) → t ≡ with_client s (spoke h1.moment (get_or h1.clients.items k d)) → t ≡ with_client s (spoke h.moment (get_or h.clients.items k d))
    spoke_same d s t is = is ∙ ap (λ m. with_client s (spoke m (get_or h1.clients.items k d))) moment1 ∙ ap (λ cs. with_client s (spoke h.moment (get_or cs k d))) clients1

    pub publish_done : {E : Type 0} (c : Command) (topic : List ℕ) (delay : ℕ) (bodies : List (List ℕ)) (word : List ℕ) → IsPublish c topic delay bodies word → (IsTrue tells → Carries h f h1 f1 (λ s t. t ≡ published s h.moment delay topic bodies)) → CarriesCommand {E = E} tells k c (basis h f n) (basis h2 f1 n1) (Ok commanded.Done)
    publish_done c topic delay bodies word p told = record {
      around = around2;
      same = same2;
      ends = λ tell d s holds.
          let x = told tell s holds in
          let y = spoken f1 c d x.0 x.2 in
          let one : Client = spoke h.moment (get_or h.clients.items k d) in
          (y.0, p.carries (with_client s one) h.moment one y.0 (spoke_same d x.0 y.0 y.1 ∙ ap (λ (t : State). with_client t one) x.1), y.2);
    }

    pub publish_fault : {E : Type 0} (c : Command) (topic : List ℕ) (delay : ℕ) (bodies : List (List ℕ)) (word : List ℕ) (frame : Frame) → IsPublish c topic delay bodies word → frame ≡ disk_fault word → IsShortFrame frame → Rose n n1 → (IsTrue tells → Carries h f h1 f1 (λ s t. t ≡ s))
        → CarriesCommand {E = E} tells k c (basis h f n) (basis h2 f1 n1) (Ok (commanded.Fault frame))
    publish_fault c topic delay bodies word frame p is short rose told = record {
      around = around2;
      same = same2;
      ends = record {
        does = λ tell d s holds.
            let x = told tell s holds in
            let y = spoken f1 c d x.0 x.2 in
            let one : Client = spoke h.moment (get_or h.clients.items k d) in
            (y.0, spoke_same d x.0 y.0 y.1 ∙ ap (λ (t : State). with_client t one) x.1, y.2);
        says = p.says ∙ ap Some (sym is);
        short = short;
        rose = rose;
      };
    }

-- the three commands that publish
pub pub_is : (topic body : List ℕ) (word : List ℕ) → word ≡ codes "E_PUB_FAILED" → IsPublish (command.Pub topic body) topic 0 (body ∷ []) word
pub_is topic body word is = record { carries = λ s at d t e. e; says = ap (λ w. Some (disk_fault w)) (sym is) }

pub mpub_is : (topic : List ℕ) (bodies : List (List ℕ)) (word : List ℕ) → word ≡ codes "E_MPUB_FAILED" → IsPublish (command.Mpub topic bodies) topic 0 bodies word
mpub_is topic bodies word is = record { carries = λ s at d t e. e; says = ap (λ w. Some (disk_fault w)) (sym is) }

pub dpub_is : (topic : List ℕ) (delay : ℤ) (body : List ℕ) (word : List ℕ) → word ≡ codes "E_DPUB_FAILED" → IsPublish (command.Dpub topic delay body) topic (span_of delay) (body ∷ []) word
dpub_is topic delay body word is = record { carries = λ s at d t e. e; says = ap (λ w. Some (disk_fault w)) (sym is) }

-- memory was wanting before anything was done
pub unpublished : (tells : Bool) (k : ℕ) (c : Command) (h : Hall) (f : Files) (n : ℕ) {E : Type 0} (e : E) → IsSound h → CarriesCommand {E = E} tells k c (basis h f n) (basis h f n) (Err e)
unpublished tells k c h f n e sound = record { around = around_same tells h f n sound; same = same_hall h; ends = λ told s holds. (s, refl, holds) }

-- what a publish's refusal tells of whether its messages were put
pub not_refused : (refusal : Option Frame) (put : Bool) (word : List ℕ) → MatchOption refusal (put ≡ true) (λ frame. (put ≡ false) × (frame ≡ disk_fault word) × (length frame.body < 2 ^ 31)) → refusal ≡ None → put ≡ true
not_refused refusal put word tells is = subst (λ (o : Option Frame). MatchOption o (put ≡ true) (λ frame. (put ≡ false) × (frame ≡ disk_fault word) × (length frame.body < 2 ^ 31))) is tells

pub refused_with : (refusal : Option Frame) (frame : Frame) (put : Bool) (word : List ℕ) → MatchOption refusal (put ≡ true) (λ frame. (put ≡ false) × (frame ≡ disk_fault word) × (length frame.body < 2 ^ 31)) → refusal ≡ Some frame
    → (put ≡ false) × (frame ≡ disk_fault word) × (length frame.body < 2 ^ 31)
refused_with refusal frame put word tells is = subst (λ (o : Option Frame). MatchOption o (put ≡ true) (λ frame. (put ≡ false) × (frame ≡ disk_fault word) × (length frame.body < 2 ^ 31))) is tells

pub was_put : (p : Published) (put : Bool) → MatchBool put (p ≡ published_so.Done) (p ≡ published_so.Fault) → put ≡ true → p ≡ published_so.Done
was_put p put tells is = subst (λ (b : Bool). MatchBool b (p ≡ published_so.Done) (p ≡ published_so.Fault)) is tells

pub was_kept_off : (p : Published) (put : Bool) → MatchBool put (p ≡ published_so.Done) (p ≡ published_so.Fault) → put ≡ false → p ≡ published_so.Fault
was_kept_off p put tells is = subst (λ (b : Bool). MatchBool b (p ≡ published_so.Done) (p ≡ published_so.Fault)) is tells
