-- Who is let in.
use Rattle.std.specs.Prelude.{◌≡◌, List, true, false}
use Rattle.command_words.specs.declared.networks.Network.{Network}
use Rattle.command_words.specs.Networks.{may_come}
use Rattle.archive_server.specs.declared.entrance.Entered.{Entered}
use Rattle.archive_server.specs.declared.entrance.Entered.TheVariants.{LetIn, TurnedAway}

-- just who may come was let in
abbrev pub IsAsAllowed : List Network → Entered → Type 0
IsAsAllowed allowed (LetIn wire peer) = may_come allowed peer ≡ true
IsAsAllowed allowed (TurnedAway peer) = may_come allowed peer ≡ false
