use Rattle.exchange.proofs.Rounds.{round_gives_all}
use Rattle.exchange.proofs.laws.a_round_gives_all.Goals as goal

-- What was lacked of the offer was given, and what was not was held.
pub returns : goal.returns
returns c = round_gives_all
