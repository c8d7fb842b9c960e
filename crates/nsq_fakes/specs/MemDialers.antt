-- What a dialer in memory shows.
use Rattle.std.specs.Prelude.{map, string_bytes}
use Rattle.nsq_outside.specs.Hosts.{DialerContent}
use Rattle.nsq_fakes.specs.MemConns.{left_of}
use Rattle.nsq_fakes.specs.declared.dialer.MemDialer.{MemDialer}

-- what was dialled, and what the connections to come will send
abbrev pub dialled_of : MemDialer → DialerContent
dialled_of dialer = record { asked = map string_bytes dialer.asked.items; linked = map string_bytes dialer.linked.items; coming = map left_of dialer.coming.items }
