-- The options that the words say.
use Rattle.std.specs.Prelude.{ℕ, ◌≡◌, Bool, List, Option, Some, None, codes}
use Rattle.clap.specs.Walk.{Row, Text}
use Rattle.nsq_base.specs.Options.{default_options}
use Rattle.nsq_base.specs.declared.options.Options.{Options}
use Rattle.nsqd_words.specs.Command.{is_given_in, stop_flag, value_in}
use Rattle.nsqd_words.specs.Durations.{IsDuration}
use Rattle.nsqd_words.specs.Numbers.{IsNumber}

-- x is an option's value: its default where the words have none, and else what the words' text reads as
abbrev pub IsValue : {X : Type 0} → (Text → X → Type 0) → X → Option Text → X → Type 0
IsValue Reads default None x = x ≡ default
IsValue Reads default (Some text) x = Reads text x

-- a text reads as itself
abbrev pub IsSameText : Text → Text → Type 0
IsSameText text x = x ≡ text

-- the same for the option of this name
module _ (rows : List Row) (name : Text) where
  abbrev pub SaysText : Text → Text → Type 0
  SaysText default x = IsValue IsSameText default (value_in rows name) x

  abbrev pub SaysNumber : ℕ → ℕ → Type 0
  SaysNumber default n = IsValue IsNumber default (value_in rows name) n

  abbrev pub SaysDuration : ℕ → ℕ → Type 0
  SaysDuration default n = IsValue IsDuration default (value_in rows name) n

  -- a flag is on where the words give it
  abbrev pub SaysFlag : Bool → Type 0
  SaysFlag on = on ≡ is_given_in rows name

-- the texts of the options, and what no word says yet
pub record SaysTexts (rows : List Row) (o : Options) : Type 0 where
  pub tcp_address : SaysText rows (codes "tcp-address") default_options.tcp_address o.tcp_address
  pub http_address : SaysText rows (codes "http-address") default_options.http_address o.http_address
  pub broadcast_address : SaysText rows (codes "broadcast-address") default_options.broadcast_address o.broadcast_address
  pub data_path : SaysText rows (codes "data-path") default_options.data_path o.data_path
  pub lookupd_tcp_address : o.lookupd_tcp_address ≡ default_options.lookupd_tcp_address

-- the sizes and counts of the options
pub record SaysSizes (rows : List Row) (o : Options) : Type 0 where
  pub mem_queue_size : SaysNumber rows (codes "mem-queue-size") default_options.mem_queue_size o.mem_queue_size
  pub max_bytes_per_file : SaysNumber rows (codes "max-bytes-per-file") default_options.max_bytes_per_file o.max_bytes_per_file
  pub sync_every : SaysNumber rows (codes "sync-every") default_options.sync_every o.sync_every
  pub max_msg_size : SaysNumber rows (codes "max-msg-size") default_options.max_msg_size o.max_msg_size
  pub max_body_size : SaysNumber rows (codes "max-body-size") default_options.max_body_size o.max_body_size
  pub max_rdy_count : SaysNumber rows (codes "max-rdy-count") default_options.max_rdy_count o.max_rdy_count

-- the durations of the options
pub record SaysTimes (rows : List Row) (o : Options) : Type 0 where
  pub sync_timeout : SaysDuration rows (codes "sync-timeout") default_options.sync_timeout o.sync_timeout
  pub msg_timeout : SaysDuration rows (codes "msg-timeout") default_options.msg_timeout o.msg_timeout
  pub max_msg_timeout : SaysDuration rows (codes "max-msg-timeout") default_options.max_msg_timeout o.max_msg_timeout
  pub max_req_timeout : SaysDuration rows (codes "max-req-timeout") default_options.max_req_timeout o.max_req_timeout
  pub max_heartbeat_interval : SaysDuration rows (codes "max-heartbeat-interval") default_options.max_heartbeat_interval o.max_heartbeat_interval

-- the options that what was found in the words says, whether in their ranges or not
pub record SaysValues (rows : List Row) (o : Options) : Type 0 where
  pub texts : SaysTexts rows o
  pub sizes : SaysSizes rows o
  pub times : SaysTimes rows o
  pub http_stop : SaysFlag rows stop_flag o.http_stop
