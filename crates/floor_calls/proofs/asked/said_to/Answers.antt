use Rattle.std.proofs.Common.{refl, sym, subst}
use Rattle.broker_history.specs.Said.{Says}
use Rattle.broker_history.specs.declared.ask.Ask.{Ask}
use Rattle.floor_calls.proofs.asked.said_to.Goals as goal

pub stats-requires : goal.stats-requires
stats-requires c = c.requires

pub said_made-requires : goal.said_made-requires
said_made-requires c = c.requires

pub said_of-requires : goal.said_of-requires
said_of-requires c = c.requires

pub said_of-requires-in-Empty : goal.said_of-requires-in-Empty
said_of-requires-in-Empty c = c.requires

pub said_of-requires-in-Pause : goal.said_of-requires-in-Pause
said_of-requires-in-Pause c = c.requires

pub said_of-requires-in-Unpause : goal.said_of-requires-in-Unpause
said_of-requires-in-Unpause c = c.requires

pub returns-in-Publish : goal.returns-in-Publish
returns-in-Publish c files s holds = subst (λ (a : Ask). Says s a c.said_published.result) (sym c.in-Publish.is) (c.said_published.ensures files s holds)

pub returns-in_ok-told-in-Stats : goal.returns-in_ok-told-in-Stats
returns-in_ok-told-in-Stats c files s holds = rw c.in-Stats.is (c.in_ok-told-in-Stats.told, refl, c.in_ok-told-in-Stats.ensures files s holds)

pub returns-in-Create : goal.returns-in-Create
returns-in-Create c files s holds = subst (λ (a : Ask). Says s a c.said_made.result) (sym c.in-Create.is) (c.said_made.ensures files s holds)

pub returns-in-Delete : goal.returns-in-Delete
returns-in-Delete c files s holds = subst (λ (a : Ask). Says s a c.said_of.result) (sym c.in-Delete.is) (c.said_of.ensures files s holds)

pub returns-in-Empty : goal.returns-in-Empty
returns-in-Empty c files s holds = subst (λ (a : Ask). Says s a c.said_of-in-Empty.result) (sym c.in-Empty.is) (c.said_of-in-Empty.ensures files s holds)

pub returns-in-Pause : goal.returns-in-Pause
returns-in-Pause c files s holds = subst (λ (a : Ask). Says s a c.said_of-in-Pause.result) (sym c.in-Pause.is) (c.said_of-in-Pause.ensures files s holds)

pub returns-in-Unpause : goal.returns-in-Unpause
returns-in-Unpause c files s holds = subst (λ (a : Ask). Says s a c.said_of-in-Unpause.result) (sym c.in-Unpause.is) (c.said_of-in-Unpause.ensures files s holds)
