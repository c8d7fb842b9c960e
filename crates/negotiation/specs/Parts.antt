-- Parts of what a client said, each of which counts where all that belongs to it is good. No public clause cites this module.
use Rattle.std.specs.Prelude.{Bool, if◌then◌else◌, codes, Option, Some, None}
use Rattle.serde_json.specs.Data.{Members}
use Rattle.serde_json.specs.Find.{get_member}
use Rattle.nsq_base.specs.declared.options.Options.{Options}
use Rattle.broker_history.specs.Identify.{flag_in, heartbeat_in, number_in, text_in, timeout_in}
use Rattle.negotiation.specs.declared.identity.Texts.{Texts}
use Rattle.negotiation.specs.declared.times.Times.{Times}

-- a value, where the test holds
abbrev pub where_true : {X : Type 0} → Bool → X → Option X
where_true good x = if good then Some x else None

-- whether it negotiates
abbrev pub negotiates_in : Members → Bool
negotiates_in ms = flag_in (get_member (codes "feature_negotiation") ms)

-- its texts
abbrev pub texts_in : Members → Texts
texts_in ms = record {
  client_id = text_in (get_member (codes "client_id") ms);
  hostname = text_in (get_member (codes "hostname") ms);
  user_agent = text_in (get_member (codes "user_agent") ms);
}

-- its times
abbrev pub times_in : Options → Members → Times
times_in o ms = record {
  heartbeat = heartbeat_in o (number_in (get_member (codes "heartbeat_interval") ms));
  timeout = timeout_in o (number_in (get_member (codes "msg_timeout") ms));
}
