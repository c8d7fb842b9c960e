-- How a channel's copies go on.
use Rattle.std.specs.Prelude.{◌≡◌, Bool, true, false, not, List, [], ◌∷◌}
use Rattle.std.specs.List.{list_all}
use Rattle.broker_history.specs.State.{Copy, Channel, is_live}
use Rattle.broker_history.specs.Channels.{is_dropped}

-- a copy as it goes on: the message stays but for its attempts, and one that is done with stays where it is
pub record GoesOn (from to : Copy) : Type 0 where
  pub id : to.message.id ≡ from.message.id
  pub stamp : to.message.stamp ≡ from.message.stamp
  pub body : to.message.body ≡ from.message.body
  pub done : is_live from.place ≡ false → to ≡ from

-- the copies of a channel go on: each stays one copy, in one place, and others join behind them
abbrev pub CopiesGoOn : List Copy → List Copy → Type 0
CopiesGoOn [] ys = Unit {0}
CopiesGoOn (x ∷ xs) [] = ⊥
CopiesGoOn (x ∷ xs) (y ∷ ys) = GoesOn x y × CopiesGoOn xs ys

-- whether none of these copies was dropped
abbrev pub none_dropped : List Copy → Bool
none_dropped copies = list_all (λ x. not (is_dropped x.place)) copies

-- a channel goes on: its copies do, and one that isn't ephemeral drops none
pub record ChannelGoesOn (ephemeral : Bool) (k k' : Channel) : Type 0 where
  pub copies : CopiesGoOn k.copies k'.copies
  pub kept : ephemeral ≡ false → none_dropped k.copies ≡ true → none_dropped k'.copies ≡ true
