use Rattle.channel_core.proofs.Dues.{due_flight, due_waiting, due_none, tells_flight, tells_waiting, tells_none}
use Rattle.channel_core.proofs.channel.Channel.due.Goals as goal

pub returns-in-Some : goal.returns-in-Some
returns-in-Some c = record {
  is = due_flight c.args.now c.in-Some.flight.now c.args.self.now c.self.view_is c.in-Some.ensures;
  tells = tells_flight c.args.now c.in-Some.flight.now c.args.self.now c.self.view_is c.in-Some.ensures;
}

pub returns-in-Some-first_due : goal.returns-in-Some-first_due
returns-in-Some-first_due c = record {
  is = due_waiting c.args.now c.in-Some-first_due.message.now c.args.self.now c.self.view_is c.in-None.ensures c.in-Some-first_due.ensures;
  tells = tells_waiting c.args.now c.in-Some-first_due.message.now c.args.self.now c.self.view_is c.in-None.ensures c.in-Some-first_due.ensures;
}

pub returns-in-None-first_due : goal.returns-in-None-first_due
returns-in-None-first_due c = record {
  is = due_none c.args.now c.args.self.now c.self.view_is c.in-None.ensures c.in-None-first_due.ensures;
  tells = tells_none c.args.now c.args.self.now c.self.view_is c.in-None.ensures c.in-None-first_due.ensures;
}
