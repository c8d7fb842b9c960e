-- What a file of names keeps can be written again, and is durable.
use Rattle.std.proofs.Common.{◌≤◌, arith, ◌≡◌, ℕ, Bool, true, false, not, List, [], ◌∷◌, Option, Some, None, refl, sym, ap, subst, ◌∙◌}
use Rattle.std.specs.List.{All, AllByRecursion}
use Rattle.std.proofs.lemmas.Bool.{false≢true}
use Rattle.std.proofs.lemmas.List.Elements.{All-nil, All-filter, All-weaker, filter_passes, recursion_from_All, All-from_recursion}
use Rattle.std.proofs.lemmas.List.Sorted.{IsPermutation-refl}
use Rattle.serde_json.specs.Data as json
use Rattle.nsq_base.specs.Name.{is_ephemeral}
use Rattle.nsq_base.specs.Names.{IsAscendingBy}
use Rattle.nsq_base.proofs.PutBy.{filter_all}
use Rattle.path_image.specs.Data.{KeptChannel, KeptTopic, ItemsSay, SaysList, SaysChannel, SaysTopic, IsKept, durable, in_order, last_epoch, SaysEpoch, CanKeepChannel, CanKeepTopic}
use Rattle.names_file.specs.Kept.{CanKeepAll}
use Rattle.names_reading.specs.Durable.{AreDurable}
use Rattle.names_reading.specs.Reading.{AreApart, ListKeeps}
use Rattle.names_reading.proofs.Putting.{all_put, ascending_put, ascending_none, sorted_put}
use Rattle.names_reading.proofs.Sorting.{up_apart}

not_true : (b : Bool) → not b ≡ true → b ≡ false
not_true true e = absurd (false≢true e)
not_true false e = refl

module _ {X : Type 0} (name : X → List ℕ) where
  -- what holds of each that is listed holds of each that is kept
  kept_all : (P : X → Type 0) (listed kept : List X) → IsKept name listed kept → All P listed → All P kept
  kept_all P listed kept h all = subst (All P) (sym h.order) (all_put name P [] (durable name listed) (All-nil P) (All-filter (λ x. not (is_ephemeral (name x))) P listed all))

  -- none that is kept is ephemeral
  kept_durable : (listed kept : List X) → IsKept name listed kept → All (λ x. is_ephemeral (name x) ≡ false) kept
  kept_durable listed kept h =
      let P : X → Type 0 = λ x. is_ephemeral (name x) ≡ false in
      let all : All P (durable name listed) = All-weaker (λ x. not (is_ephemeral (name x)) ≡ true) P (λ x e. not_true (is_ephemeral (name x)) e) (durable name listed) (filter_passes (λ x. not (is_ephemeral (name x))) listed) in
      subst (All P) (sym h.order) (all_put name P [] (durable name listed) (All-nil P) all)

  -- what is kept is kept as it is
  kept_again : (listed kept : List X) → IsKept name listed kept → IsKept name kept kept
  kept_again listed kept h =
      let up : IsAscendingBy name kept = subst (IsAscendingBy name) (sym h.order) (ascending_put name [] (durable name listed) (ascending_none name)) in
      let apart : AreApart name kept = up_apart name kept up in
      let all : durable name kept ≡ kept =
      filter_all (λ x. not (is_ephemeral (name x))) kept (All-weaker (λ x. is_ephemeral (name x) ≡ false) (λ x. not (is_ephemeral (name x)) ≡ true) (λ x e. ap not e) kept (kept_durable listed kept h)) in
      record {
        once = subst (AreApart name) (sym all) apart;
        order = sorted_put name kept kept apart (IsPermutation-refl kept) up ∙ ap (in_order name) (sym all);
      }

module _ {X : Type 0} (Says : json.Data → X → Type 0) (P : X → Type 0) (each : (d : json.Data) (x : X) → Says d x → P x) where
  items_all : (ds : json.Items) (xs : List X) → ItemsSay Says ds xs → AllByRecursion P xs
  items_all json.no_items [] h = tt
  items_all json.no_items (x ∷ xs) h = absurd h
  items_all (json.item d ds) [] h = absurd h
  items_all (json.item d ds) (x ∷ xs) h = (each d x h.0, items_all ds xs h.1)

  -- what holds of each that an item says holds of each that a list says
  list_all : (m : Option json.Data) (xs : List X) → SaysList Says m xs → All P xs
  list_all None xs h = subst (All P) (sym h) (All-nil P)
  list_all (Some json.null) xs h = subst (All P) (sym h) (All-nil P)
  list_all (Some (json.boolean b)) xs h = absurd h
  list_all (Some (json.number n)) xs h = absurd h
  list_all (Some (json.string s)) xs h = absurd h
  list_all (Some (json.array ds)) xs h = All-from_recursion P xs (items_all ds xs h)
  list_all (Some (json.object ms)) xs h = absurd h

abbrev channel_name : KeptChannel → List ℕ
channel_name c = c.name

abbrev topic_name : KeptTopic → List ℕ
topic_name t = t.name

-- a topic that is said can be kept
topic_can : (d : json.Data) (t : KeptTopic) → SaysTopic d t → CanKeepTopic t
topic_can d t h =
    let named : All CanKeepChannel h.listed = list_all SaysChannel CanKeepChannel (λ e c s. record { named = s.name.is_name }) _ h.listed h.channels in
    record {
      named = h.name.is_name;
      channels = recursion_from_All CanKeepChannel t.channels (kept_all channel_name CanKeepChannel h.listed t.channels h.keeps named);
      keeps = kept_again channel_name h.listed t.channels h.keeps;
    }

-- its channels are durable
topic_durable : (d : json.Data) (t : KeptTopic) → SaysTopic d t → All (λ (c : KeptChannel). is_ephemeral c.name ≡ false) t.channels
topic_durable d t h = kept_durable channel_name h.listed t.channels h.keeps

-- topics that a member keeps can be kept
pub topics_can : (m : Option json.Data) (kept : List KeptTopic) → ListKeeps SaysTopic topic_name m kept → CanKeepAll kept
topics_can m kept h = record {
  topics = recursion_from_All CanKeepTopic kept (kept_all topic_name CanKeepTopic h.listed kept h.keeps (list_all SaysTopic CanKeepTopic topic_can m h.listed h.says));
  keeps = kept_again topic_name h.listed kept h.keeps;
}

-- and are durable
pub topics_durable : (m : Option json.Data) (kept : List KeptTopic) → ListKeeps SaysTopic topic_name m kept → AreDurable kept
topics_durable m kept h = record {
  topics = kept_durable topic_name h.listed kept h.keeps;
  channels =
      let P : KeptTopic → Type 0 = λ t. All (λ (c : KeptChannel). is_ephemeral c.name ≡ false) t.channels in
      kept_all topic_name P h.listed kept h.keeps (list_all SaysTopic P topic_durable m h.listed h.says);
}

-- an epoch that a member says is not too great
pub epoch_small : (m : Option json.Data) (epoch : ℕ) → SaysEpoch m epoch → epoch ≤ last_epoch
epoch_small None epoch h = omega (arith, h)
epoch_small (Some json.null) epoch h = omega (arith, h)
epoch_small (Some (json.boolean b)) epoch h = absurd h
epoch_small (Some (json.number (json.unsigned n))) epoch h = omega (arith, h.0, h.1)
epoch_small (Some (json.number (json.negative z))) epoch h = absurd h
epoch_small (Some (json.number (json.float x))) epoch h = absurd h
epoch_small (Some (json.string s)) epoch h = absurd h
epoch_small (Some (json.array ds)) epoch h = absurd h
epoch_small (Some (json.object ms)) epoch h = absurd h
