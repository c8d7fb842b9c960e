-- What is seen of a channel's clients.
use Rattle.std.specs.Prelude.{◌≡◌, ℕ, ◌^◌, ◌≤◌, cond, nat_eq, List, Option, Some, None, IfSome}
use Rattle.std.specs.Map.{lookup}
use Rattle.channel_copies.specs.declared.clients.Client.{Client}

-- what the client of this number asked for, where it is subscribed
abbrev pub client_of : List (ℕ × Client) → ℕ → Option Client
client_of clients number = lookup (nat_eq number) clients

-- the client of this number is this one now, or isn't there any more; all others are as they were
abbrev pub PutsClient : (number : ℕ) → Option Client → (old new : List (ℕ × Client)) → Type 0
PutsClient number client old new = (k : ℕ) → client_of new k ≡ cond (nat_eq number k) client (client_of old k)

-- a client that may have so many copies in flight from now on
abbrev pub now_ready : (count : ℕ) → Option Client → Option Client
now_ready count None = None
now_ready count (Some c) = Some (record c { ready = count })

-- each client's time is at most 2^62
abbrev pub AreTimed : List (ℕ × Client) → Type 0
AreTimed clients = (k : ℕ) → IfSome (client_of clients k) (λ c. c.timeout ≤ 2 ^ 62)
