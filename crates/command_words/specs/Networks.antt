-- Which addresses a network has, and how it is written.
use Rattle.std.specs.Prelude.{◌≡◌, ℕ, ◌-◌, ◌/◌, ◌^◌, ◌<◌, ◌≤◌, ◌⊎◌, ◌∷◌, ◌==◌, Bool, true, false, List, [], length}
use Rattle.std.specs.List.{list_any, before_first, after_first, position_or_len}
use Rattle.std.specs.Str.Parse.{IsNumeral, digits_value, without_leading_plus}
use Rattle.std.specs.Net.Addr.{ipv4_bits}
use Rattle.std.specs.Net.Grammar.{IsIpv4Text}
use Rattle.std.specs.Net.Socket.{v4_ip}
use Rattle.std.specs.declared.net.socket_addr.SocketAddr.{SocketAddr}
use Rattle.std.specs.declared.net.socket_addr.SocketAddr.TheVariants.{V4, V6}
use Rattle.std.specs.declared.net.ipv4_addr.Ipv4Addr.{Ipv4Addr}
use Rattle.command_words.specs.declared.networks.Network.{Network}

-- the first bits of an address, read as a number
abbrev pub first_bits : ℕ → Ipv4Addr → ℕ
first_bits bits address = ipv4_bits address / (2 ^ (32 - bits))

-- its first bits are those of the network
abbrev pub has_address : Network → Ipv4Addr → Bool
has_address network address = first_bits network.bits network.address == first_bits network.bits address

-- one of the networks has the address; no network has one of IPv6
abbrev pub is_in_one : List Network → SocketAddr → Bool
is_in_one networks (V4 peer) = list_any (λ network. has_address network (v4_ip peer)) networks
is_in_one networks (V6 peer) = false

-- where no network is named every peer may come, and else those of the networks
abbrev pub may_come : List Network → SocketAddr → Bool
may_come [] peer = true
may_come (first ∷ others) peer = is_in_one (first ∷ others) peer

-- a text has a slash
abbrev pub HasSlash : List ℕ → Type 0
HasSlash text = position_or_len (λ b. b == 47) text < length text

-- a text is the numeral of so many bits, at most 32
abbrev pub IsBitsText : List ℕ → ℕ → Type 0
IsBitsText text bits = IsNumeral 10 text × (bits ≡ digits_value 10 text) × (bits ≤ 32)

-- an address alone, of which all bits count; or an address, and behind the first slash how many bits
abbrev pub IsNetworkText : List ℕ → Network → Type 0
IsNetworkText text network = (¬ (HasSlash text) × IsIpv4Text text network.address × (network.bits ≡ 32))
    ⊎ (HasSlash text × IsIpv4Text (before_first (λ b. b == 47) text) network.address
    × IsBitsText (without_leading_plus (after_first (λ b. b == 47) text)) network.bits)
