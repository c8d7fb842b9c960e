-- A topic of a state, or a channel of one, that became what a function makes of it.
use Rattle.std.proofs.Common.{◌≡◌, ℕ, List, Some, sym, ap, ◌∙◌}
use Rattle.broker_history.specs.State.{Channel, State, Topic, channel_of, topic_of, with_channel, with_topic}
use Rattle.broker_history.specs.Changes.{channel_changed, channel_changed_in, topic_changed}

pub topic_is : (f : Topic → Topic) (s t : State) (topic : List ℕ) (old new : Topic) → topic_of s topic ≡ Some old → new ≡ f old → t ≡ with_topic s new → t ≡ topic_changed f s (topic_of s topic)
topic_is f s t topic old new there row is = is ∙ ap (with_topic s) row ∙ sym (ap (topic_changed f s) there)

pub channel_is : (f : Channel → Channel) (s t : State) (topic channel : List ℕ) (old new : Topic) (from to : Channel) → topic_of s topic ≡ Some old → channel_of old channel ≡ Some from → to ≡ f from → new ≡ with_channel old to → t ≡ with_topic s new
    → t ≡ topic_changed (channel_changed f channel) s (topic_of s topic)
channel_is f s t topic channel old new from to there has row within is = is ∙ ap (with_topic s) (within ∙ ap (with_channel old) row ∙ sym (ap (channel_changed_in f old) has)) ∙ sym (ap (topic_changed (channel_changed f channel) s) there)
