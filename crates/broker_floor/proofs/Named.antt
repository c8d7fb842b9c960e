-- An opening finds all that was left, where the queues have all messages and the file of names has all names.
use Rattle.std.proofs.Common.{ℕ, List, [], ◌∷◌, map, refl, ap, sym, subst, ◌∙◌}
use Rattle.std.specs.List.{All}
use Rattle.std.proofs.lemmas.List.Elements.{All-head, All-tail}
use Rattle.nsq_outside.specs.Files.{Files}
use Rattle.path_image.specs.Data.{names_text}
use Rattle.path_image.specs.Found.{FindsChannel, FindsTopic, FoundChannel, FoundTopic, Pairwise}
use Rattle.path_image.specs.Found.IsFound.{names as shows_names, spent as shows_spent}
use Rattle.broker_history.specs.State.{Channel, State, Topic}
use Rattle.broker_history.specs.Left.{IsLeftChannel, IsLeftTopic, durable_channels, durable_topics, kept_channel, kept_names, kept_topic}
use Rattle.names_file.specs.Texts.{kept_of}
use Rattle.floor_rooms.specs.declared.hall.Hall.{Hall}
use Rattle.floor_rooms.specs.Kept.{hall_kept}
use Rattle.floor_rooms.specs.Standing.{HoldsFor}
use Rattle.floor_serving.proofs.KeptNames.{kept_alike}
use Rattle.floor_serving.specs.Flushing.{LeavesAll, LeavesChannel, LeavesTopic}
use Rattle.broker_floor.specs.Closings.{KeepsNames, Leaves, NamesAreThoseOfStates}

-- channels that are found with all that was left of them
record FoundChannels (files : Files) (topic : List ℕ) (channels : List Channel) : Type 0 where
  pub found : List FoundChannel
  pub finds : Pairwise (FindsChannel files topic) (map kept_channel channels) found
  pub left : Pairwise IsLeftChannel channels found

channels_found : (files : Files) (topic : List ℕ) (channels : List Channel) → All (LeavesChannel files topic) channels → FoundChannels files topic channels
channels_found files topic [] all = record { found = []; finds = tt; left = tt }
channels_found files topic (k ∷ channels) all =
    let here = All-head (LeavesChannel files topic) k channels all in
    let rest = channels_found files topic channels (All-tail (LeavesChannel files topic) k channels all) in
    record {
      found = record { name = k.name; paused = k.paused; messages = here.messages } ∷ rest.found;
      finds = (record { name = refl; paused = refl; messages = here.found }, rest.finds);
      left = (record { name = refl; paused = refl; messages = here.same }, rest.left);
    }

-- and topics with their durable channels
record FoundTopics (files : Files) (topics : List Topic) : Type 0 where
  pub found : List FoundTopic
  pub finds : Pairwise (FindsTopic files) (map kept_topic topics) found
  pub left : Pairwise IsLeftTopic topics found

topics_found : (files : Files) (topics : List Topic) → All (LeavesTopic files) topics → FoundTopics files topics
topics_found files [] all = record { found = []; finds = tt; left = tt }
topics_found files (t ∷ topics) all =
    let here = All-head (LeavesTopic files) t topics all in
    let channels = channels_found files t.name (durable_channels t) here.channels in
    let rest = topics_found files topics (All-tail (LeavesTopic files) t topics all) in
    record {
      found = record { name = t.name; paused = t.paused; messages = here.own.messages; channels = channels.found } ∷ rest.found;
      finds = (record { name = refl; paused = refl; messages = here.own.found; channels = channels.finds }, rest.finds);
      left = (record { name = refl; paused = refl; messages = here.own.left; channels = channels.left }, rest.left);
    }

-- what is kept of a hall is what is to be kept of each state that it stands for
pub kept_same : NamesAreThoseOfStates
kept_same h files s holds =
    ap (kept_of h.epoch) (kept_alike h files s holds) ∙ ap (λ (n : ℕ). kept_of n (kept_names s).topics) (sym holds.stands.epoch)

-- the queues have all that was left, and the file of names keeps what is to be kept: an opening finds all
state_left : (s : State) (files : Files) → KeepsNames files (kept_names s) → LeavesAll s files → Leaves s files
state_left s files keeps leaves =
    let topics = topics_found files (durable_topics s) leaves in
    record {
      left = λ low. record {
        found = record { epoch = s.epoch; topics = topics.found };
        is_found = shows_names (names_text (kept_names s)) (kept_names s) keeps.text keeps.keeps low refl topics.finds;
        is_all = record { epoch = refl; topics = topics.left };
      };
      spent = λ last. shows_spent (names_text (kept_names s)) (kept_names s) keeps.text keeps.keeps last;
    }

pub all_left : (h : Hall) (old new : Files) (s : State) → HoldsFor h old s → KeepsNames new (kept_of h.epoch (hall_kept h)) → LeavesAll s new → Leaves s new
all_left h old new s holds keeps leaves = state_left s new (subst (KeepsNames new) (kept_same h old s holds) keeps) leaves
