use Rattle.exchange.proofs.Bucketed.{round_by_buckets_gives_all}
use Rattle.exchange.proofs.laws.a_round_by_buckets_gives_all.Goals as goal

-- A place that is equal has the same digests on both sides, and the others are in the HAVE.
pub returns : goal.returns
returns c = round_by_buckets_gives_all
