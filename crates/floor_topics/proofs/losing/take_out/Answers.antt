use Rattle.std.proofs.Common.{◌∙◌, List, refl, ap}
use Rattle.std.specs.List.{insert}
use Rattle.floor_rooms.specs.declared.stall.Stall.{Stall}
use Rattle.floor_rooms.proofs.Placing.{at_place}
use Rattle.floor_topics.proofs.Goes.{put_back_at}
use Rattle.floor_topics.proofs.losing.take_out.Goals as goal

pub returns-in-Done-clause-takes : goal.returns-in-Done-clause-takes
returns-in-Done-clause-takes g c = record {
  stall = c.remove-channel.result;
  there = at_place c.args.room.now.stalls.items c.args.j c.remove-channel.result c.requires.stall c.remove-channel.ensures.value;
  is = refl;
  left = c.remove-channel.ensures.items;
  members = refl;
  found = λ told. c.in-Done.ensures.found told;
}

pub returns-in-Fault-clause-takes : goal.returns-in-Fault-clause-takes
returns-in-Fault-clause-takes g c =
    let stall = c.remove-channel.result in
    let after = record stall { channel = c.in-Fault.channel } in
    record {
      stall = stall;
      after = after;
      there = at_place c.args.room.now.stalls.items c.args.j stall c.requires.stall c.remove-channel.ensures.value;
      is = refl;
      stalls = c.put_back.ensures ∙ ap (λ (xs : List Stall). insert xs c.args.j after) c.remove-channel.ensures.items ∙ put_back_at c.args.room.now.stalls.items c.args.j after c.requires.stall;
      does = record { is = refl; seen = c.in-Fault.ensures.seen; row = λ told. c.in-Fault.ensures.row told; stands = λ told. c.in-Fault.ensures.stands told };
    }
