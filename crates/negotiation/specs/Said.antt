-- What a client said of itself, as the definitions have it.
use Rattle.std.specs.Prelude.{◌≤◌, max, IfSome}
use Rattle.nsq_base.specs.declared.options.Options.{Options}
use Rattle.broker_history.specs.Identify as identify
use Rattle.negotiation.specs.declared.identity.Identity.{Identity}

-- what a client said, as the definitions have it
abbrev pub said : Identity → identify.Identity
said i = record {
  client_id = i.client_id;
  hostname = i.hostname;
  user_agent = i.user_agent;
  negotiates = i.negotiates;
  heartbeat = i.heartbeat;
  timeout = i.timeout;
}

-- its times are at most the longest that these options have
pub record IsTimely (o : Options) (i : Identity) : Type 0 where
  pub heartbeat : IfSome i.heartbeat (λ span. span ≤ o.max_heartbeat_interval)
  pub timeout : i.timeout ≤ max o.msg_timeout o.max_msg_timeout
