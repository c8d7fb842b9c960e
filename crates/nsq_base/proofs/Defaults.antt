-- The defaults lie in their ranges.
use Rattle.std.proofs.Common.{ℕ, List, ◌≡◌, ◌≢◌, ◌≤◌, true, lit≤, lit<, refl, arith}
use Rattle.std.specs.Prelude.{codes, slice_index}
use Rattle.std.specs.Char.{is_ascii_digit}
use Rattle.std.specs.List.{list_all}
use Rattle.std.specs.Str.Parse.{digits_value}
use Rattle.std.proofs.lemmas.List.Elements.{All-nil}
use Rattle.std.proofs.lemmas.List.Sums.{AllPass-from_list_all}
use Rattle.nsq_base.proofs.AsciiTexts.{IsUtf8-computed}
use Rattle.nsq_base.specs.Address.{IsPort}
use Rattle.nsq_base.specs.Options.{IsInRange, default_options}

-- digits whose value is computed are a port
computed_port : (digits : List ℕ) → list_all is_ascii_digit digits ≡ true → slice_index digits 0 ≢ 48 → 1 ≤ digits_value 10 digits → digits_value 10 digits ≤ 65535 → IsPort digits
computed_port digits all front least most =
    record { all_digits = AllPass-from_list_all is_ascii_digit digits all; no_zero = front; at_least = least; at_most = most }

-- each default lies in its option's range
pub IsInRange-default_options : IsInRange default_options
IsInRange-default_options =
    record {
      texts = record {
        utf8 = record {
          tcp_address = record { utf8 = IsUtf8-computed (codes "0.0.0.0:4150") refl };
          http_address = record { utf8 = IsUtf8-computed (codes "0.0.0.0:4151") refl };
          broadcast_address = record { utf8 = IsUtf8-computed (codes "127.0.0.1") refl };
          lookupd_tcp_address = All-nil _;
          data_path = record { utf8 = IsUtf8-computed (codes ".") refl };
        };
        tcp_address = record { host = codes "0.0.0.0"; digits = codes "4150"; whole = refl; port = computed_port (codes "4150") refl (omega arith) (lit≤ tt) (lit≤ tt) };
        http_address = record { host = codes "0.0.0.0"; digits = codes "4151"; whole = refl; port = computed_port (codes "4151") refl (omega arith) (lit≤ tt) (lit≤ tt) };
        broadcast_address = record { at_least = lit≤ tt; at_most = lit≤ tt };
        lookupd_tcp_address = All-nil _;
        data_path = lit< tt;
      };
      sizes = record {
        mem_queue_size = lit≤ tt;
        max_bytes_per_file = record { at_least = lit≤ tt; at_most = lit≤ tt };
        sync_every = record { at_least = lit≤ tt; at_most = lit≤ tt };
        max_msg_size = record { at_least = lit≤ tt; at_most = lit≤ tt };
        max_body_size = record { at_least = lit≤ tt; at_most = lit≤ tt };
        max_rdy_count = record { at_least = lit≤ tt; at_most = lit≤ tt };
      };
      times = record {
        sync_timeout = record { at_least = lit≤ tt; at_most = lit≤ tt };
        msg_timeout = record { at_least = lit≤ tt; at_most = lit≤ tt };
        max_msg_timeout = record { at_least = lit≤ tt; at_most = lit≤ tt };
        max_req_timeout = record { at_least = lit≤ tt; at_most = lit≤ tt };
        max_heartbeat_interval = record { at_least = lit≤ tt; at_most = lit≤ tt };
      };
    }
