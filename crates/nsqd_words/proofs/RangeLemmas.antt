-- Sizes, counts and durations that can't be read are in no range.
use Rattle.std.proofs.Common.{ℕ, ◌<◌, List, arith}
use Rattle.std.specs.Prelude.{◌^◌, codes}
use Rattle.clap.specs.Walk.{Row}
use Rattle.nsq_base.specs.Options.{AreSizesInRange, AreTimesInRange, default_options}
use Rattle.nsq_base.specs.declared.options.Options.{Options}
use Rattle.nsqd_words.specs.Saying.{SaysDuration, SaysNumber, SaysSizes, SaysTimes}

-- no number below the limit is what the words say
abbrev pub SaysNone : ℕ → (ℕ → Type 0) → Type 0
SaysNone limit Says = (n : ℕ) → n < limit → Says n → ⊥

module _ (rows : List Row) (o : Options) where
  pub no_mem_queue_size : SaysNone (2 ^ 64) (SaysNumber rows (codes "mem-queue-size") default_options.mem_queue_size) → SaysSizes rows o → AreSizesInRange o → ⊥
  no_mem_queue_size none s r = none o.mem_queue_size (omega (arith, r.mem_queue_size)) s.mem_queue_size

  pub no_max_bytes_per_file : SaysNone (2 ^ 64) (SaysNumber rows (codes "max-bytes-per-file") default_options.max_bytes_per_file) → SaysSizes rows o → AreSizesInRange o → ⊥
  no_max_bytes_per_file none s r = none o.max_bytes_per_file (omega (arith, r.max_bytes_per_file.at_most)) s.max_bytes_per_file

  pub no_sync_every : SaysNone (2 ^ 64) (SaysNumber rows (codes "sync-every") default_options.sync_every) → SaysSizes rows o → AreSizesInRange o → ⊥
  no_sync_every none s r = none o.sync_every (omega (arith, r.sync_every.at_most)) s.sync_every

  pub no_max_msg_size : SaysNone (2 ^ 32) (SaysNumber rows (codes "max-msg-size") default_options.max_msg_size) → SaysSizes rows o → AreSizesInRange o → ⊥
  no_max_msg_size none s r = none o.max_msg_size (omega (arith, r.max_msg_size.at_most)) s.max_msg_size

  pub no_max_body_size : SaysNone (2 ^ 32) (SaysNumber rows (codes "max-body-size") default_options.max_body_size) → SaysSizes rows o → AreSizesInRange o → ⊥
  no_max_body_size none s r = none o.max_body_size (omega (arith, r.max_body_size.at_most)) s.max_body_size

  pub no_max_rdy_count : SaysNone (2 ^ 32) (SaysNumber rows (codes "max-rdy-count") default_options.max_rdy_count) → SaysSizes rows o → AreSizesInRange o → ⊥
  no_max_rdy_count none s r = none o.max_rdy_count (omega (arith, r.max_rdy_count.at_most)) s.max_rdy_count

  pub no_sync_timeout : SaysNone (2 ^ 64) (SaysDuration rows (codes "sync-timeout") default_options.sync_timeout) → SaysTimes rows o → AreTimesInRange o → ⊥
  no_sync_timeout none s r = none o.sync_timeout (omega (arith, r.sync_timeout.at_most)) s.sync_timeout

  pub no_msg_timeout : SaysNone (2 ^ 64) (SaysDuration rows (codes "msg-timeout") default_options.msg_timeout) → SaysTimes rows o → AreTimesInRange o → ⊥
  no_msg_timeout none s r = none o.msg_timeout (omega (arith, r.msg_timeout.at_most, r.max_msg_timeout.at_most)) s.msg_timeout

  pub no_max_msg_timeout : SaysNone (2 ^ 64) (SaysDuration rows (codes "max-msg-timeout") default_options.max_msg_timeout) → SaysTimes rows o → AreTimesInRange o → ⊥
  no_max_msg_timeout none s r = none o.max_msg_timeout (omega (arith, r.max_msg_timeout.at_most)) s.max_msg_timeout

  pub no_max_req_timeout : SaysNone (2 ^ 64) (SaysDuration rows (codes "max-req-timeout") default_options.max_req_timeout) → SaysTimes rows o → AreTimesInRange o → ⊥
  no_max_req_timeout none s r = none o.max_req_timeout (omega (arith, r.max_req_timeout.at_most)) s.max_req_timeout

  pub no_max_heartbeat_interval : SaysNone (2 ^ 64) (SaysDuration rows (codes "max-heartbeat-interval") default_options.max_heartbeat_interval) → SaysTimes rows o → AreTimesInRange o → ⊥
  no_max_heartbeat_interval none s r = none o.max_heartbeat_interval (omega (arith, r.max_heartbeat_interval.at_most)) s.max_heartbeat_interval
