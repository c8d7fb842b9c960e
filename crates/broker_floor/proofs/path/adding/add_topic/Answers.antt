use Rattle.std.proofs.Common.{◌≡◌, ◌∙◌, false, List, ℕ, Bool, None, ap, le_refl, refl, sym, subst}
use Rattle.std.specs.List.{All}
use Rattle.nsq_base.specs.Name.{is_ephemeral}
use Rattle.path_image.specs.Data.{KeptChannel, KeptTopic}
use Rattle.floor_rooms.specs.Rooms.{room_in}
use Rattle.floor_files.specs.Opened.{AreApart}
use Rattle.broker_floor.specs.Floors.{faults_of, files_of, hall_of}
use Rattle.broker_floor.specs.Adding.{IsNotOne, pauses}
use Rattle.broker_floor.proofs.Joining.{adds_of, apart_pauses, durable_pauses, memory_first, puts_of, refused_of}
use Rattle.broker_floor.proofs.Orders.{ascends}
use Rattle.broker_floor.proofs.path.adding.add_topic.Goals as goal

pub returns-in_default : goal.returns-in_default
returns-in_default g c = record {
  adds = λ told. tt;
  puts = tt;
  held = refl;
  refused = memory_first g.F.Folder.tells_files c.args.topic.now (files_of c.args.floor.now) (faults_of c.args.floor.now) (faults_of c.args.floor.now);
  clock = refl;
  journal = refl;
  faults = le_refl (faults_of c.args.floor.now);
}

pub add-requires-clause-unflushed : goal.add-requires-clause-unflushed
add-requires-clause-unflushed g c = c.requires.unflushed

pub add-requires-clause-durable : goal.add-requires-clause-durable
add-requires-clause-durable g c = subst (λ (n : List ℕ). is_ephemeral n ≡ false) (sym (ap (λ (x : KeptTopic). x.name) c.topic.view_is)) c.requires.durable

pub add-requires-clause-new : goal.add-requires-clause-new
add-requires-clause-new g c = subst (λ (n : List ℕ). room_in (hall_of c.args.floor.now).rooms.items n ≡ None) (sym (ap (λ (x : KeptTopic). x.name) c.topic.view_is)) c.requires.new

pub add-requires-clause-channels : goal.add-requires-clause-channels
add-requires-clause-channels g c =
    let t : KeptTopic = c.args.topic.now in
    let is : c.deref-2.result.now ≡ pauses t.channels = c.deref-2.ensures.value ∙ c.in-Ok.ensures ∙ ap pauses (c.deref.ensures.value ∙ ap (λ (x : KeptTopic). x.channels) c.topic.view_is) in
    subst (All (λ (x : List ℕ × Bool). is_ephemeral x.0 ≡ false)) (sym is) (durable_pauses t.channels c.requires.channels)

pub add-requires-clause-apart : goal.add-requires-clause-apart
add-requires-clause-apart g c =
    let t : KeptTopic = c.args.topic.now in
    let is : c.deref-2.result.now ≡ pauses t.channels = c.deref-2.ensures.value ∙ c.in-Ok.ensures ∙ ap pauses (c.deref.ensures.value ∙ ap (λ (x : KeptTopic). x.channels) c.topic.view_is) in
    subst AreApart (sym is) (apart_pauses t.channels (ascends (λ (x : KeptChannel). x.name) t.channels c.requires.order))

pub returns-in-Ok-add : goal.returns-in-Ok-add
returns-in-Ok-add g c =
    let t : KeptTopic = c.args.topic.now in
    let is : c.deref-2.result.now ≡ pauses t.channels = c.deref-2.ensures.value ∙ c.in-Ok.ensures ∙ ap pauses (c.deref.ensures.value ∙ ap (λ (x : KeptTopic). x.channels) c.topic.view_is) in
    record {
      adds = λ told. adds_of t c.topic.inside.topic c.topic.inside.paused c.deref-2.result.now (ap (λ (x : KeptTopic). x.name) c.topic.view_is) (ap (λ (x : KeptTopic). x.paused) c.topic.view_is) is (hall_of c.args.floor.now) (hall_of c.add.new.self) (files_of c.args.floor.now) (files_of c.add.new.self)
          (c.in-Ok-add.ensures.told told) (c.add.ensures.again told) (c.in-Ok-add.ensures.bad told) (c.in-Ok-add.ensures.good told) (c.in-Ok-add.ensures.finds told) (c.in-Ok-add.ensures.back told) (c.add.ensures.theirs told);
      puts = puts_of t c.topic.inside.topic c.topic.inside.paused c.deref-2.result.now (ap (λ (x : KeptTopic). x.name) c.topic.view_is) (ap (λ (x : KeptTopic). x.paused) c.topic.view_is) is (hall_of c.args.floor.now).options (hall_of c.args.floor.now) (hall_of c.add.new.self) c.in-Ok-add.ensures.opens;
      held = c.add.ensures.held;
      refused = tt;
      clock = c.add.ensures.clock;
      journal = c.add.ensures.journal;
      faults = c.add.ensures.faults;
    }

pub returns : goal.returns
returns g c =
    let t : KeptTopic = c.args.topic.now in
    let is : c.deref-2.result.now ≡ pauses t.channels = c.deref-2.ensures.value ∙ c.in-Ok.ensures ∙ ap pauses (c.deref.ensures.value ∙ ap (λ (x : KeptTopic). x.channels) c.topic.view_is) in
    record {
      adds = λ told. tt;
      puts = tt;
      held = c.add.ensures.held;
      refused =
          subst (λ why. IsNotOne why g.F.Folder.tells_files t (files_of c.args.floor.now) (files_of c.add.new.self) (faults_of c.args.floor.now) (faults_of c.add.new.self)) (sym c.why_of.ensures)
          (refused_of t c.topic.inside.topic c.topic.inside.paused c.deref-2.result.now (ap (λ (x : KeptTopic). x.name) c.topic.view_is) (ap (λ (x : KeptTopic). x.paused) c.topic.view_is) is c.in-Err.refusal g.F.Folder.tells_files (files_of c.args.floor.now) (files_of c.add.new.self)
          (faults_of c.args.floor.now) (faults_of c.add.new.self) c.in-Err.ensures.refused c.in-Err.ensures.cause c.add.ensures.again c.add.ensures.theirs);
      clock = c.add.ensures.clock;
      journal = c.add.ensures.journal;
      faults = c.add.ensures.faults;
    }
