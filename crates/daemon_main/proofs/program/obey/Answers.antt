use Rattle.std.proofs.Common.{inl, inr, map, refl, string_bytes}
use Rattle.daemon_main.proofs.WordAsking.{can_do}
use Rattle.daemon_main.proofs.program.obey.Goals as goal

pub carry_out-ending-requires-clause-can : goal.carry_out-ending-requires-clause-can
carry_out-ending-requires-clause-can g c κs within = can_do (map string_bytes c.args.words.now) c.in-Ok.request c.in-Ok.ensures

pub returns-in-Ok-clause-obeys : goal.returns-in-Ok-clause-obeys
returns-in-Ok-clause-obeys g c = inl (c.in-Ok.request, c.in-Ok.ensures, c.carry_out-ending.ensures.does)

pub returns-in-Err-clause-obeys : goal.returns-in-Err-clause-obeys
returns-in-Err-clause-obeys g c = inr (refl, record { state = refl; content = refl })
