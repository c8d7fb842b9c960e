-- What a client says of itself with IDENTIFY, and what it is answered (nsq.io, TCP Protocol Spec). The body is an object in JSON. Unknown
-- members are ignored, and a null member counts as absent.
use Rattle.std.specs.Prelude.{ℕ, ◌*◌, ◌/◌, min, ℤ, pos, negsuc, Bool, true, false, ◌&&◌, ◌==◌, nat_le, if◌then◌else◌, List, [], codes, Option, Some, None, option_and_then}
use Rattle.std.specs.Str.{is_utf8}
use Rattle.serde_json.specs.Data as json
use Rattle.serde_json.specs.Find.{get_member, as_object, as_integer}
use Rattle.serde_json.specs.Read.{read}
use Rattle.serde_json.specs.Written.{compact_text}
use Rattle.nsq_base.specs.declared.options.Options.{Options}
use Rattle.nsq_base.specs.Time.{millisecond, second}

-- what a client said: its texts, whether it negotiates (wants JSON as the answer), its heartbeat interval unless that is off, and how long it
-- has for a message
pub record Identity : Type 0 where
  pub client_id : List ℕ
  pub hostname : List ℕ
  pub user_agent : List ℕ
  pub negotiates : Bool
  pub heartbeat : Option ℕ
  pub timeout : ℕ

-- the heartbeat interval of a client that asks for none of its own: 30 s, or the longest one where that is shorter
abbrev pub default_heartbeat : Options → ℕ
default_heartbeat o = min (30 * second) o.max_heartbeat_interval

-- whether a member is a text, or absent; and the text, empty where it is absent
abbrev pub is_text : Option json.Data → Bool
is_text None = true
is_text (Some json.null) = true
is_text (Some (json.string text)) = true
is_text (Some value) = false

abbrev pub text_in : Option json.Data → List ℕ
text_in (Some (json.string text)) = text
text_in member = []

-- whether a member is a truth value, or absent; and the value, false where it is absent
abbrev pub is_flag : Option json.Data → Bool
is_flag None = true
is_flag (Some json.null) = true
is_flag (Some (json.boolean b)) = true
is_flag (Some value) = false

abbrev pub flag_in : Option json.Data → Bool
flag_in (Some (json.boolean b)) = b
flag_in member = false

-- the whole number of 64 bits that a member is, 0 where it is absent; None where it is anything else
abbrev pub number_in : Option json.Data → Option ℤ
number_in None = Some (pos 0)
number_in (Some json.null) = Some (pos 0)
number_in (Some (json.number n)) = as_integer n
number_in (Some value) = None

-- whether there is such a number, whatever it is
abbrev pub is_number : Option ℤ → Bool
is_number None = false
is_number (Some z) = true

-- whether so many milliseconds are a second at least, and this duration at most
abbrev pub is_span : (most ms : ℕ) → Bool
is_span most ms = nat_le 1000 ms && nat_le (ms * millisecond) most

-- the heartbeat interval is -1 (off), 0 (as without), or 1000 ms to the longest one
abbrev pub is_heartbeat : Options → Option ℤ → Bool
is_heartbeat o None = false
is_heartbeat o (Some (pos ms)) = if ms == 0 then true else is_span o.max_heartbeat_interval ms
is_heartbeat o (Some (negsuc k)) = k == 0

abbrev pub heartbeat_in : Options → Option ℤ → Option ℕ
heartbeat_in o None = Some (default_heartbeat o)
heartbeat_in o (Some (pos ms)) = Some (if ms == 0 then default_heartbeat o else ms * millisecond)
heartbeat_in o (Some (negsuc k)) = None

-- the time for a message is 0 (as without), or 1000 ms to the longest one
abbrev pub is_timeout : Options → Option ℤ → Bool
is_timeout o None = false
is_timeout o (Some (pos ms)) = if ms == 0 then true else is_span o.max_msg_timeout ms
is_timeout o (Some (negsuc k)) = false

abbrev pub timeout_in : Options → Option ℤ → ℕ
timeout_in o None = o.msg_timeout
timeout_in o (Some (pos ms)) = if ms == 0 then o.msg_timeout else ms * millisecond
timeout_in o (Some (negsuc k)) = o.msg_timeout

-- the part of messages that a client wants: 0 to 99, and so far it gets all
abbrev pub is_rate : Option ℤ → Bool
is_rate None = false
is_rate (Some (pos n)) = nat_le n 99
is_rate (Some (negsuc k)) = false

-- each member that is a text is one, or absent
abbrev pub has_texts : json.Members → Bool
has_texts ms = is_text (get_member (codes "client_id") ms) && is_text (get_member (codes "hostname") ms) && is_text (get_member (codes "user_agent") ms)

-- each member that is a truth value is one, or absent; compression may be asked for, and isn't done
abbrev pub has_flags : json.Members → Bool
has_flags ms =
    is_flag (get_member (codes "feature_negotiation") ms)
    && is_flag (get_member (codes "tls_v1") ms)
    && is_flag (get_member (codes "snappy") ms)
    && is_flag (get_member (codes "deflate") ms)

-- each member that is a number is one in its range, or absent; buffers may be asked for, of any size, and nothing is buffered
abbrev pub has_numbers : Options → json.Members → Bool
has_numbers o ms =
    is_heartbeat o (number_in (get_member (codes "heartbeat_interval") ms))
    && is_timeout o (number_in (get_member (codes "msg_timeout") ms))
    && is_rate (number_in (get_member (codes "sample_rate") ms))
    && is_number (number_in (get_member (codes "output_buffer_size") ms))
    && is_number (number_in (get_member (codes "output_buffer_timeout") ms))
    && is_number (number_in (get_member (codes "deflate_level") ms))

-- each member is of its kind and in its range
abbrev pub accepts : Options → json.Members → Bool
accepts o ms = has_texts ms && has_flags ms && has_numbers o ms

-- what the members say, where each is good; what isn't said is as without IDENTIFY
abbrev pub said_by : Options → json.Members → Identity
said_by o ms = record {
  client_id = text_in (get_member (codes "client_id") ms);
  hostname = text_in (get_member (codes "hostname") ms);
  user_agent = text_in (get_member (codes "user_agent") ms);
  negotiates = flag_in (get_member (codes "feature_negotiation") ms);
  heartbeat = heartbeat_in o (number_in (get_member (codes "heartbeat_interval") ms));
  timeout = timeout_in o (number_in (get_member (codes "msg_timeout") ms));
}

-- the members of the object that a body is, in UTF-8; None where it is none
abbrev pub members_of : List ℕ → Option json.Members
members_of body = if is_utf8 body then option_and_then as_object (read body) else None

abbrev pub accepted : Options → json.Members → Option Identity
accepted o ms = if accepts o ms then Some (said_by o ms) else None

-- what a client says of itself with a body, or None where the body is refused
abbrev pub identity_of : Options → (body : List ℕ) → Option Identity
identity_of o body = option_and_then (accepted o) (members_of body)

-- a duration in whole milliseconds
abbrev pub milliseconds : ℕ → json.Data
milliseconds span = json.number (json.unsigned (span / millisecond))

-- what a client that negotiates is answered: what this daemon does and doesn't do, members in byte order
abbrev pub features : Options → Identity → json.Data
features o said = json.object
    (json.member (codes "auth_required") (json.boolean false)
    (json.member (codes "deflate") (json.boolean false)
    (json.member (codes "deflate_level") (json.number (json.unsigned 0))
    (json.member (codes "max_deflate_level") (json.number (json.unsigned 0))
    (json.member (codes "max_msg_timeout") (milliseconds o.max_msg_timeout)
    (json.member (codes "max_rdy_count") (json.number (json.unsigned o.max_rdy_count))
    (json.member (codes "msg_timeout") (milliseconds said.timeout)
    (json.member (codes "sample_rate") (json.number (json.unsigned 0))
    (json.member (codes "snappy") (json.boolean false)
    (json.member (codes "tls_v1") (json.boolean false)
    (json.member (codes "version") (json.string (codes "1.0.0"))
    json.no_members)))))))))))

abbrev pub features_text : Options → Identity → List ℕ
features_text o said = compact_text (features o said)
