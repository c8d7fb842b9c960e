-- What the daemon tells of itself.
use Rattle.std.specs.Prelude.{ℕ, ◌/◌, List, ◌++◌, codes, decimal}
use Rattle.std.specs.Str.Parse.{digits_value}
use Rattle.json.specs.Print.{quoted}
use Rattle.nsq_base.specs.declared.options.Options.{Options}
use Rattle.nsq_base.specs.Address.{port_digits}
use Rattle.nsq_base.specs.Time.{second}

-- the text of these parts, members in byte order
abbrev pub told : (address http_port start_time tcp_port : List ℕ) → List ℕ
told address http_port start_time tcp_port =
    codes "{\"broadcast_address\":" ++ address
    ++ codes ",\"hostname\":" ++ address
    ++ codes ",\"http_port\":" ++ http_port
    ++ codes ",\"start_time\":" ++ start_time
    ++ codes ",\"tcp_port\":" ++ tcp_port
    ++ codes ",\"version\":\"1.0.0\"}"

-- the port of an address
abbrev pub port_text : (address : List ℕ) → List ℕ
port_text address = decimal (digits_value 10 (port_digits address))

-- what the daemon tells of itself, in JSON without spaces: the name of its host is the broadcast address, and the moment in nanoseconds at which it
-- began is told in whole seconds
abbrev pub info_text : Options → (began : ℕ) → List ℕ
info_text o began = told (quoted o.broadcast_address) (port_text o.http_address) (decimal (began / second)) (port_text o.tcp_address)
