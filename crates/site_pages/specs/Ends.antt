-- How associations and exchanges end.
use Rattle.site_pages.specs.Tally.{more}
use Rattle.site_pages.specs.declared.ends.AssociationEnd.{AssociationEnd}
use Rattle.site_pages.specs.declared.ends.AssociationEnd.TheVariants as association
use Rattle.site_pages.specs.declared.ends.AssociationEnds.{AssociationEnds}
use Rattle.site_pages.specs.declared.ends.ExchangeEnd.{ExchangeEnd}
use Rattle.site_pages.specs.declared.ends.ExchangeEnd.TheVariants as exchange
use Rattle.site_pages.specs.declared.ends.ExchangeEnds.{ExchangeEnds}

-- no association has ended
abbrev pub no_associations : AssociationEnds
no_associations = record { released = 0; aborted = 0; rejected = 0; closed = 0; dropped = 0; faults = 0 }

-- one association more, by how it ended
abbrev pub with_association_end : AssociationEnds → AssociationEnd → AssociationEnds
with_association_end ends association.Released = record ends { released = more ends.released 1 }
with_association_end ends association.Aborted = record ends { aborted = more ends.aborted 1 }
with_association_end ends association.Rejected = record ends { rejected = more ends.rejected 1 }
with_association_end ends association.Closed = record ends { closed = more ends.closed 1 }
with_association_end ends association.Dropped = record ends { dropped = more ends.dropped 1 }
with_association_end ends association.Fault = record ends { faults = more ends.faults 1 }

-- no exchange has ended
abbrev pub no_exchanges : ExchangeEnds
no_exchanges = record { agreed = 0; not_agreed = 0; unfinished = 0; faults = 0; not_reached = 0 }

-- one exchange more, by how it ended
abbrev pub with_exchange_end : ExchangeEnds → ExchangeEnd → ExchangeEnds
with_exchange_end ends exchange.Agreed = record ends { agreed = more ends.agreed 1 }
with_exchange_end ends exchange.NotAgreed = record ends { not_agreed = more ends.not_agreed 1 }
with_exchange_end ends exchange.Unfinished = record ends { unfinished = more ends.unfinished 1 }
with_exchange_end ends exchange.Fault = record ends { faults = more ends.faults 1 }
with_exchange_end ends exchange.NotReached = record ends { not_reached = more ends.not_reached 1 }
