-- A text that the parser takes for an address is one, and no other.
use Rattle.std.proofs.Common.{◌≡◌, ℕ, List, [], ◌∷◌, ◌++◌, false, Some, None, Result, Ok, Err, refl, sym, ap}
use Rattle.std.proofs.Common.{◌∙◌, subst, append-nil, length, ne_eqb, arith, lit≤}
use Rattle.std.specs.Prelude.{is_some, is_ok}
use Rattle.std.specs.Net.Grammar.{Parses, IsDotted, IsColonHex, IsIpv4Text, IsIpv6Text}
use Rattle.std.specs.Net.Reader.{Read, read_ipv4, read_ipv6, whole_value}
use Rattle.std.specs.declared.net.ipv4_addr.Ipv4Addr.{Ipv4Addr}
use Rattle.std.specs.declared.net.ipv6_addr.Ipv6Addr.{Ipv6Addr}
use Rattle.std.proofs.NetLemmas.Ipv4.{read_ipv4_sound, read_ipv4_complete}
use Rattle.std.proofs.NetLemmas.Ipv6.{read_ipv6_sound, read_ipv6_complete, EndsGroups-nil}
use Rattle.archive_page.specs.Hosts.{is_ipv4, is_ipv6}

-- where nothing stands behind what was read, it was the whole text, and else it was not
none_whole : {A : Type 0} (value : A) (rest : List ℕ) → (rest ≡ [] → ⊥)
    → false ≡ is_some (whole_value (Some (value, rest)))
none_whole value [] some = absurd (some refl)
none_whole value (byte ∷ rest) some = rw (ne_eqb (length (byte ∷ rest)) 0 (omega arith)) refl

no_ipv4 : (text : List ℕ) → ((a : Ipv4Addr) → ¬ (IsIpv4Text text a)) → (read : Read (List ℕ)) → read_ipv4 text ≡ read
    → false ≡ is_some (whole_value read)
no_ipv4 text none None is = refl
no_ipv4 text none (Some found) is = none_whole found.0 found.1 λ ended.
    let (front, split, spells) = read_ipv4_sound text found.0 found.1 is in
    none (record { octets = found.0 }) (subst (λ (t : List ℕ). IsDotted t found.0)
    (sym (split ∙ ap (λ (rest : List ℕ). front ++ rest) ended ∙ append-nil front)) spells)

-- an address of IPv4
pub ipv4_is : {E : Type 0} (text : List ℕ) (parsed : Result Ipv4Addr E) → Parses IsIpv4Text text parsed
    → is_ok parsed ≡ is_ipv4 text
ipv4_is text (Ok a) spelled = sym (ap (λ (read : Read (List ℕ)). is_some (whole_value read))
    (rw append-nil at (read_ipv4_complete text _ [] spelled (lit≤ tt))))
ipv4_is text (Err e) none = no_ipv4 text none (read_ipv4 text) refl

no_ipv6 : (text : List ℕ) → ((a : Ipv6Addr) → ¬ (IsIpv6Text text a)) → (read : Read (List ℕ)) → read_ipv6 text ≡ read
    → false ≡ is_some (whole_value read)
no_ipv6 text none None is = refl
no_ipv6 text none (Some found) is = none_whole found.0 found.1 λ ended.
    let (front, split, spells) = read_ipv6_sound text found.0 found.1 is in
    none (record { segments = found.0 }) (subst (λ (t : List ℕ). IsColonHex t found.0)
    (sym (split ∙ ap (λ (rest : List ℕ). front ++ rest) ended ∙ append-nil front)) spells)

-- an address of IPv6
pub ipv6_is : {E : Type 0} (text : List ℕ) (parsed : Result Ipv6Addr E) → Parses IsIpv6Text text parsed
    → is_ok parsed ≡ is_ipv6 text
ipv6_is text (Ok a) spelled = sym (ap (λ (read : Read (List ℕ)). is_some (whole_value read))
    (rw append-nil at (read_ipv6_complete text _ [] spelled EndsGroups-nil)))
ipv6_is text (Err e) none = no_ipv6 text none (read_ipv6 text) refl
