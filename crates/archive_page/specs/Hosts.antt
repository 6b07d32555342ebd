-- Which hosts a request may name (RFC 9110, 7.2).
use Rattle.std.specs.Prelude.{ℕ, ◌+◌, ◌-◌, Bool, true, cond, ◌&&◌, ◌||◌, not, ◌==◌, nat_lt, List, length, take, drop, slice_index}
use Rattle.std.specs.Prelude.{Option, Some, None, is_some, codes}
use Rattle.std.specs.Char.{is_ascii_digit}
use Rattle.std.specs.List.{list_any, prefix_len}
use Rattle.std.specs.Net.Reader.{read_ipv4, read_ipv6, whole_value}
use Rattle.std.specs.Str.{str_eq_ignore_ascii_case}

-- nothing, or a colon and digits (RFC 3986, 3.2.3)
abbrev pub is_port : List ℕ → Bool
is_port text =
    (length text == 0) || ((slice_index text 0 == 58) && (prefix_len is_ascii_digit (drop 1 text) == length text - 1))

-- how much of a host stands before a colon, and of what stands behind a bracket before the one that closes it
abbrev pub name_length : List ℕ → ℕ
name_length host = prefix_len (λ b. not (b == 58)) host

abbrev pub literal_length : List ℕ → ℕ
literal_length rest = prefix_len (λ b. not (b == 93)) rest

-- an IPv4 address, in four numbers (RFC 3986, 3.2.2), and one of IPv6 (RFC 4291, 2.2)
abbrev pub is_ipv4 : List ℕ → Bool
is_ipv4 text = is_some (whole_value (read_ipv4 text))

abbrev pub is_ipv6 : List ℕ → Bool
is_ipv6 text = is_some (whole_value (read_ipv6 text))

-- behind a bracket stand an address of IPv6, the bracket that closes it, and a port, if any
abbrev pub is_literal : List ℕ → Bool
is_literal rest =
    nat_lt (literal_length rest) (length rest)
    && (is_port (drop (literal_length rest + 1) rest) && is_ipv6 (take (literal_length rest) rest))

abbrev pub is_bracketed : List ℕ → Bool
is_bracketed host = nat_lt 0 (length host) && (slice_index host 0 == 91)

-- an address, this machine's own name (RFC 6761, 6.3), or one of the names, in letters of any size
abbrev pub is_own_name : List (List ℕ) → List ℕ → Bool
is_own_name names text =
    is_ipv4 text || (str_eq_ignore_ascii_case text (codes "localhost")
    || list_any (λ name. str_eq_ignore_ascii_case name text) names)

-- a host is one of the site's, with a port or without
abbrev pub is_own_host : List (List ℕ) → List ℕ → Bool
is_own_host names host =
    cond (is_bracketed host) (is_literal (drop 1 host))
    (is_port (drop (name_length host) host) && is_own_name names (take (name_length host) host))

-- a request asks this site: its host is one of the site's, or it is of HTTP/1.0 and has none
abbrev pub is_asked_here : List (List ℕ) → Option (List ℕ) → Bool
is_asked_here names None = true
is_asked_here names (Some host) = is_own_host names host
