-- The text of the answer to IDENTIFY, written out.
use Rattle.std.specs.Prelude.{ℕ, ◌/◌, ◌==◌, if◌then◌else◌, ℤ, pos, negsuc, List, ◌++◌, codes, decimal, Option, Some, None}
use Rattle.nsq_base.specs.declared.options.Options.{Options}

-- how many milliseconds a client has for a message
abbrev pub timeout_ms : Options → Option ℤ → ℕ
timeout_ms o None = o.msg_timeout / 1000000
timeout_ms o (Some (pos ms)) = if ms == 0 then o.msg_timeout / 1000000 else ms
timeout_ms o (Some (negsuc k)) = o.msg_timeout / 1000000

-- the text
abbrev pub features_by : Options → (ms : ℕ) → List ℕ
features_by o ms =
    (((((codes "{\"auth_required\":false,\"deflate\":false,\"deflate_level\":0,\"max_deflate_level\":0,\"max_msg_timeout\":"
    ++ decimal (o.max_msg_timeout / 1000000))
    ++ codes ",\"max_rdy_count\":")
    ++ decimal o.max_rdy_count)
    ++ codes ",\"msg_timeout\":")
    ++ decimal ms)
    ++ codes ",\"sample_rate\":0,\"snappy\":false,\"tls_v1\":false,\"version\":\"1.0.0\"}"
