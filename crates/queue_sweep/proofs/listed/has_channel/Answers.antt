use Rattle.std.proofs.Common.{◌≡◌, ◌↔◌, ◌∙◌, Bool, IsTrue, List, Contains, map, ap, sym, subst}
use Rattle.path_image.specs.Data.{KeptChannel, KeptTopic}
use Rattle.nsq_base.specs.Places.{IsPlaceOf}
use Rattle.queue_sweep.specs.Swept.{channel_name}
use Rattle.queue_sweep.proofs.Listing.{place_tells}
use Rattle.queue_sweep.proofs.listed.has_channel.Goals as goal

pub returns : goal.returns
returns c =
    let channels : c.deref.result.now ≡ c.args.topic.now.channels = c.deref.ensures.value ∙ ap (λ (t : KeptTopic). t.channels) c.topic.view_is in
    subst (λ (b : Bool). IsTrue b ↔ Contains (map channel_name c.args.topic.now.channels) c.args.channel) (sym c.is_ok.ensures.value)
    (place_tells channel_name c.args.topic.now.channels c.args.channel c.channel_place.result
    (subst (λ (xs : List KeptChannel). IsPlaceOf channel_name xs c.args.channel c.channel_place.result) channels c.channel_place.ensures))
