use Rattle.std.proofs.Common.{ℕ, List, [], refl, sym, subst}
use Rattle.v2_client.specs.Frames.{FramesHeld, HasGiven, none}
use Rattle.v2_client.proofs.frame_reader.FrameReader.new.Goals as goal

pub returns-clause-given : goal.returns-clause-given
returns-clause-given c =
    let empty : List ℕ → FramesHeld = λ bytes. record { limit = c.args.limit; place = 0; bytes = bytes } in
    let start : HasGiven (empty []) [] [] = record { row = none; place = refl } in
    subst (λ (x : List ℕ). HasGiven (empty x) [] []) (sym c.new.ensures.items) start
