use Rattle.broker_floor.proofs.Apart.{names_apart, temp_apart}
use Rattle.broker_floor.proofs.path.shutting.store_behind.Goals as goal

pub store-requires-clause-name : goal.store-requires-clause-name
store-requires-clause-name g c = λ queue named its. names_apart queue its

pub store-requires-clause-temp : goal.store-requires-clause-temp
store-requires-clause-temp g c = λ queue named its. temp_apart queue its
