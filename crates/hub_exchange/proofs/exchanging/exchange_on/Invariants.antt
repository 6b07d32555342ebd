use Rattle.hub_exchange.proofs.exchanging.exchange_on.Given as goal

-- what the site holds, and what lasts on its shelf, when its exchange begins
abbrev pub ghosts-exchange_with : goal.ghosts-exchange_with
ghosts-exchange_with g a = record { opening = a.site; lasted = g.K.Keep.lasts a.shelf }
