use Rattle.turnstile.proofs.Keeps.{opens}
use Rattle.turnstile.proofs.turnstile.Turnstile.new.Goals as goal

pub new-requires : goal.new-requires
new-requires g c =
    let same = c.in_ok-slots.ensures.ok in
    rw c.in_ok-slots.field-0.one (opens _ _ _ _ c.in_ok-slots.field-0.about.value _ g.S.Stands.common_is_0 (rw same c.requires.common) (rw same c.requires.descends))
