-- What a server knows of the peers that call it.
use Rattle.std.specs.Prelude.{List}
use Rattle.std.specs.Net.Addr.{ipv4_octets}
use Rattle.std.specs.Net.Socket.{v4_ip}
use Rattle.std.specs.Net.Text.{ipv4_text}
use Rattle.std.specs.declared.net.socket_addr.SocketAddr.{SocketAddr}
use Rattle.std.specs.declared.net.socket_addr.SocketAddr.TheVariants.{V4, V6}
use Rattle.site_pages.specs.Facts.{called_by}
use Rattle.site_pages.specs.declared.facts.Meeting.{Meeting}
use Rattle.site_pages.specs.declared.meters.Met.{Met}

-- callers, with what came of an exchange: a caller is known by its IPv4 address, whatever its port is
abbrev pub callers_after : SocketAddr → Met → List Meeting → List Meeting
callers_after (V4 peer) met callers = called_by (ipv4_text (ipv4_octets (v4_ip peer))) met callers
callers_after (V6 peer) met callers = callers
