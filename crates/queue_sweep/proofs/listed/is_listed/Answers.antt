use Rattle.std.proofs.Common.{◌↔◌, true, false, IsTrue, List, [], get_or, ℕ, Option, Some, None, sym, subst, refl}
use Rattle.std.proofs.lemmas.Bool.{false≢true}
use Rattle.std.proofs.lemmas.List.{get_or_default}
use Rattle.path_image.specs.Data.{KeptTopic}
use Rattle.queue_sweep.specs.Names.{queue_named}
use Rattle.queue_sweep.specs.Swept.{IsListedQueue}
use Rattle.queue_sweep.proofs.Listing.{topics_ascend, channels_ascend, none_owns, one_owns}
use Rattle.queue_sweep.proofs.listed.is_listed.Goals as goal

pub place_of-requires : goal.place_of-requires
place_of-requires c = topics_ascend c.args.listed.now c.requires.kept

pub returns-in_default : goal.returns-in_default
returns-in_default c = (
  λ wrong. absurd (false≢true wrong),
  λ l. absurd (none_owns c.args.listed.now c.args.queue.now c.in_default.field-0 c.requires.kept c.requires.named c.in_default.ensures l),
)

pub has_channel-requires : goal.has_channel-requires
has_channel-requires c =
    channels_ascend c.args.listed.now c.index-listed-place.result c.requires.kept (c.in-Ok.place, c.in-Ok.ensures.in_range, sym c.index-listed-place.is)

pub returns-in-Some : goal.returns-in-Some
returns-in-Some c =
    let topics = c.args.listed.now in
    let topic = c.args.queue.now.topic in
    let owns = one_owns topics topic (Some c.in-Some.channel) c.in-Ok.place c.index-listed-place.result c.requires.kept c.requires.named.of_topic c.in-Ok.ensures c.index-listed-place.is in
    subst (λ (channel : Option (List ℕ)). IsTrue c.has_channel.result ↔ IsListedQueue topics (queue_named topic channel)) (sym c.in-Some.is)
    (λ t. owns.0 (c.has_channel.ensures.0 t), λ l. c.has_channel.ensures.1 (owns.1 l))

pub returns-in-None : goal.returns-in-None
returns-in-None c =
    let topics = c.args.listed.now in
    let topic = c.args.queue.now.topic in
    let none : KeptTopic = record { name = []; paused = false; channels = [] } in
    let here = get_or topics c.in-Ok.place none in
    let owns = one_owns topics topic None c.in-Ok.place here c.requires.kept c.requires.named.of_topic c.in-Ok.ensures (get_or_default topics c.in-Ok.place none here c.in-Ok.ensures.in_range) in
    subst (λ (channel : Option (List ℕ)). IsTrue true ↔ IsListedQueue topics (queue_named topic channel)) (sym c.in-None.is) (λ _. owns.0 tt, λ _. refl)
