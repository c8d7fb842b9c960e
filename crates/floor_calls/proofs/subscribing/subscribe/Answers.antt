use Rattle.v2_frame.specs.declared.command.Command.TheVariants.{Nop}
use Rattle.floor_topics.proofs.SeatPlaces.{on_err}
use Rattle.floor_calls.proofs.Joining.{said_rest}
use Rattle.floor_calls.proofs.Speaking.{joined_range, joined_sound, not_joined_names, not_joined_since, not_joined_stands, said_clients, said_listed, said_names, said_since, said_told}
use Rattle.floor_calls.proofs.subscribing.subscribe.Goals as goal

pub speak-requires-clause-sound : goal.speak-requires-clause-sound
speak-requires-clause-sound c = joined_sound c.args.hall.now c.join.new.hall c.args.k c.args.topic c.args.channel c.requires.client c.in_ok-join.ensures.joins

pub speak-requires-clause-client : goal.speak-requires-clause-client
speak-requires-clause-client c = joined_range c.args.hall.now c.join.new.hall c.args.k c.args.topic c.args.channel c.requires.client c.in_ok-join.ensures.joins

pub returns-clause-told : goal.returns-clause-told
returns-clause-told c = λ files.
    said_told c.args.hall.now c.join.new.hall c.speak.new.hall c.args.k c.args.topic c.args.channel c.requires.client c.join.ensures.rest c.in_ok-join.ensures.joins c.speak.ensures.rest files (c.speak.ensures.told files Nop)

pub returns-clause-clients : goal.returns-clause-clients
returns-clause-clients c =
    said_clients c.args.hall.now c.join.new.hall c.speak.new.hall c.args.k c.args.topic c.args.channel c.requires.client c.join.ensures.rest c.in_ok-join.ensures.joins c.speak.ensures.rest c.speak.ensures.clients

pub returns-clause-listed : goal.returns-clause-listed
returns-clause-listed c = said_listed c.args.hall.now c.join.new.hall c.speak.new.hall c.args.k c.args.topic c.args.channel c.requires.client c.join.ensures.rest c.in_ok-join.ensures.joins c.speak.ensures.rest

pub returns-clause-names : goal.returns-clause-names
returns-clause-names c = said_names c.args.hall.now c.join.new.hall c.speak.new.hall c.args.k c.args.topic c.args.channel c.requires.client c.join.ensures.rest c.in_ok-join.ensures.joins c.speak.ensures.rest

pub returns-clause-since : goal.returns-clause-since
returns-clause-since c = said_since c.args.hall.now c.join.new.hall c.speak.new.hall c.args.k c.args.topic c.args.channel c.requires.client c.join.ensures.rest c.in_ok-join.ensures.joins c.speak.ensures.rest

pub returns-in_err-join-clause-stays : goal.returns-in_err-join-clause-stays
returns-in_err-join-clause-stays c = λ files. on_err _ _ (not_joined_stands c.args.hall.now c.join.new.hall files c.in_err-join.ensures.remains)

pub returns-in_err-join-clause-unchanged : goal.returns-in_err-join-clause-unchanged
returns-in_err-join-clause-unchanged c = on_err _ _ c.in_err-join.ensures.remains.same

pub returns-in_err-join-clause-sound : goal.returns-in_err-join-clause-sound
returns-in_err-join-clause-sound c = c.in_err-join.ensures.remains.sound

pub returns-in_err-join-clause-names : goal.returns-in_err-join-clause-names
returns-in_err-join-clause-names c = not_joined_names c.args.hall.now c.join.new.hall c.in_err-join.ensures.remains

pub returns-in_err-join-clause-since : goal.returns-in_err-join-clause-since
returns-in_err-join-clause-since c = not_joined_since c.args.hall.now c.join.new.hall c.in_err-join.ensures.remains

pub returns-clause-rest : goal.returns-clause-rest
returns-clause-rest c = said_rest c.args.hall.now c.join.new.hall c.speak.new.hall c.join.ensures.rest c.speak.ensures.rest

pub returns-in_err-join-clause-rest : goal.returns-in_err-join-clause-rest
returns-in_err-join-clause-rest c = c.join.ensures.rest
