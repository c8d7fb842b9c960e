-- What a run that serves asks of its host.
use Rattle.std.specs.Prelude.{◌≡◌, ◌≢◌, ◌⊎◌, ℕ, [], ◌∷◌, ◌++◌}
use Rattle.nsq_base.specs.declared.options.Options.{Options}
use Rattle.nsq_outside.specs.Hosts.{HostContent, Start}

-- the addresses and the data path of the options
abbrev pub start_of : Options → Start
start_of options = record { tcp = options.tcp_address; http = options.http_address; path = options.data_path }

-- the host was asked once more to start, with the addresses and the data path of the options
abbrev pub StartsOnce : {K : Type 0} → Options → (old new : HostContent K) → Type 0
StartsOnce options old new = new.starts ≡ old.starts ++ start_of options ∷ []

-- the host was started once at most, with the addresses and the data path of the options; and it was where a caller was given or the status is 0. Nothing was
-- printed
pub record HasAsked {K : Type 0} (options : Options) (status : ℕ) (old new : HostContent K) : Type 0 where
  pub starts : (new.starts ≡ old.starts) ⊎ StartsOnce options old new
  pub where_given : new.given ≢ old.given → StartsOnce options old new
  pub where_clean : status ≡ 0 → StartsOnce options old new
  pub printed : new.printed ≡ old.printed
