use Rattle.shelved_site.proofs.Same.{gains_same}
use Rattle.shelved_site.proofs.laws.the_same_puts_keep_the_same.Goals as goal

-- By induction over the puts.
pub returns : goal.returns
returns g c a c' b d ops kepts told same gains gains' =
    gains_same (g.A.Keep.holds a) (g.A.Keep.holds c') (g.B.Keep.holds b) (g.B.Keep.holds d) ops kepts told same gains gains'
