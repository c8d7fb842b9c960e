-- The text of the answer to IDENTIFY in JSON, written out. No public clause cites this module.
use Rattle.std.specs.Prelude.{ℕ, ◌/◌, List, ◌++◌, codes, decimal}
use Rattle.nsq_base.specs.declared.options.Options.{Options}

-- the text, for a client that has so many milliseconds for a message
abbrev pub features_by : Options → (ms : ℕ) → List ℕ
features_by o ms =
    (((((codes "{\"auth_required\":false,\"deflate\":false,\"deflate_level\":0,\"max_deflate_level\":0,\"max_msg_timeout\":"
    ++ decimal (o.max_msg_timeout / 1000000))
    ++ codes ",\"max_rdy_count\":")
    ++ decimal o.max_rdy_count)
    ++ codes ",\"msg_timeout\":")
    ++ decimal ms)
    ++ codes ",\"sample_rate\":0,\"snappy\":false,\"tls_v1\":false,\"version\":\"1.0.0\"}"
