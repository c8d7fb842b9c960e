-- The ranges and the defaults of a daemon's options.
use Rattle.std.specs.Prelude.{ℕ, ◌*◌, ◌^◌, ◌<◌, ◌≤◌, false, [], length, All, codes}
use Rattle.nsq_base.specs.declared.options.Options.{Options}
use Rattle.nsq_base.specs.Address.{IsAddress}
use Rattle.nsq_base.specs.Text.{IsText}
use Rattle.nsq_base.specs.Time.{millisecond, second, minute, hour}
use Rattle.nsq_base.specs.Within.{IsWithin}

-- the longest duration of an option: a year of 365 days
abbrev pub year : ℕ
year = 8760 * hour

-- each text is UTF-8
pub record AreTextsUtf8 (o : Options) : Type 0 where
  pub tcp_address : IsText o.tcp_address
  pub http_address : IsText o.http_address
  pub broadcast_address : IsText o.broadcast_address
  pub lookupd_tcp_address : All IsText o.lookupd_tcp_address
  pub data_path : IsText o.data_path

-- each text is UTF-8 and has a value in its range
pub record AreTextsInRange (o : Options) : Type 0 where
  pub utf8 : AreTextsUtf8 o
  pub tcp_address : IsAddress o.tcp_address
  pub http_address : IsAddress o.http_address
  pub broadcast_address : IsWithin 1 65536 (length o.broadcast_address)
  pub lookupd_tcp_address : All (λ address. 0 < length address) o.lookupd_tcp_address
  pub data_path : 0 < length o.data_path

-- each size and each count has a value in its range
pub record AreSizesInRange (o : Options) : Type 0 where
  pub mem_queue_size : o.mem_queue_size ≤ 1000000
  pub max_bytes_per_file : IsWithin 1 (2 ^ 40) o.max_bytes_per_file
  pub sync_every : IsWithin 1 1000000000 o.sync_every
  pub max_msg_size : IsWithin 1 16777216 o.max_msg_size
  pub max_body_size : IsWithin 1 268435456 o.max_body_size
  pub max_rdy_count : IsWithin 1 100000 o.max_rdy_count

-- each duration has a value in its range
pub record AreTimesInRange (o : Options) : Type 0 where
  pub sync_timeout : IsWithin millisecond year o.sync_timeout
  pub msg_timeout : IsWithin millisecond o.max_msg_timeout o.msg_timeout
  pub max_msg_timeout : IsWithin millisecond year o.max_msg_timeout
  pub max_req_timeout : IsWithin millisecond year o.max_req_timeout
  pub max_heartbeat_interval : IsWithin second year o.max_heartbeat_interval

-- each option has a value in its range
pub record IsInRange (o : Options) : Type 0 where
  pub texts : AreTextsInRange o
  pub sizes : AreSizesInRange o
  pub times : AreTimesInRange o

-- the value of each option that isn't given
abbrev pub default_options : Options
default_options = record {
  tcp_address = codes "0.0.0.0:4150";
  http_address = codes "0.0.0.0:4151";
  broadcast_address = codes "127.0.0.1";
  lookupd_tcp_address = [];
  data_path = codes ".";
  mem_queue_size = 10000;
  max_bytes_per_file = 104857600;
  sync_every = 2500;
  sync_timeout = 2 * second;
  msg_timeout = 60 * second;
  max_msg_timeout = 15 * minute;
  max_msg_size = 1048576;
  max_body_size = 5242880;
  max_req_timeout = hour;
  max_rdy_count = 2500;
  max_heartbeat_interval = 60 * second;
  http_stop = false;
}
