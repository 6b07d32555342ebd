-- Networks that are read one behind the other.
use Rattle.std.proofs.Common.{◌≡◌, ◌<◌, ◌+◌, ℕ, zero, suc, List, [], ◌∷◌, ◌++◌, Bor}
use Rattle.std.proofs.Common.{length, map, take, slice_index_or, subst, sym, arith}
use Rattle.command_words.specs.Networks.{IsNetworkText}
use Rattle.command_words.specs.declared.networks.Network.{Network}
use Rattle.command_line.specs.Serving.{AreNetworks}

-- One network more is that of the next text.
next_one : (texts : List (Bor (List ℕ))) (networks : List Network) (network : Network) (i : ℕ) (d : Bor (List ℕ))
    → i < length texts → IsNetworkText (slice_index_or texts i d).now network
    → AreNetworks (map (λ t. t.now) (take i texts)) networks
    → AreNetworks (map (λ t. t.now) (take (suc i) texts)) (networks ++ network ∷ [])
next_one [] networks network i d lt is are = absurd (omega (arith, lt))
next_one (t ∷ ts) [] network zero d lt is are = (is, tt)
next_one (t ∷ ts) (n ∷ ns) network zero d lt is are = absurd are
next_one (t ∷ ts) [] network (suc i) d lt is are = absurd are
next_one (t ∷ ts) (n ∷ ns) network (suc i) d lt is are =
    (are.0, next_one ts ns network i d (omega (arith, lt)) is are.1)

-- The same of the lists at hand.
pub one_more : (texts : List (Bor (List ℕ))) (before after : List Network) (network : Network) (i : ℕ)
    → (d : Bor (List ℕ))
    → after ≡ before ++ network ∷ [] → i < length texts → IsNetworkText (slice_index_or texts i d).now network
    → AreNetworks (map (λ t. t.now) (take i texts)) before
    → AreNetworks (map (λ t. t.now) (take (i + 1) texts)) after
one_more texts before after network i d added lt is are =
    let next : suc i ≡ i + 1 = omega arith in
    subst (λ n. AreNetworks (map (λ t. t.now) (take n texts)) after) next
    (subst (AreNetworks (map (λ t. t.now) (take (suc i) texts))) (sym added)
    (next_one texts before network i d lt is are))
