-- The names under which a server is measured, and what each of them counts.
use Rattle.std.specs.Prelude.{ℕ, List, codes}
use Rattle.archive_page.specs.declared.metrics.SampleKind.{SampleKind}
use Rattle.archive_page.specs.declared.metrics.SampleKind.TheVariants.{Counter, Gauge}
use Rattle.site_pages.specs.declared.families.Family.{Family}
use Rattle.site_pages.specs.declared.families.Family.TheVariants as family

-- what only grows, and what goes up and down
unfoldable pub kind_of : Family → SampleKind
kind_of family.Operations = Gauge
kind_of family.TakesOperations = Gauge
kind_of family.Associations = Counter
kind_of family.Stores = Counter
kind_of family.Finds = Counter
kind_of family.FindRows = Counter
kind_of family.Gets = Counter
kind_of family.GetImages = Counter
kind_of family.ExchangesServed = Counter
kind_of family.ExchangesCalled = Counter
kind_of family.OperationsGiven = Counter
kind_of family.OperationsTaken = Counter
kind_of family.ExchangeUnread = Counter
kind_of family.WorkersBusy = Gauge
kind_of family.Uptime = Gauge
kind_of family.ResidentMemory = Gauge
kind_of family.StoreBytes = Gauge
kind_of family.SinceAgreed = Gauge
kind_of family.PeerSinceAgreed = Gauge
kind_of family.PeerAgrees = Gauge
kind_of family.PeerGiven = Counter
kind_of family.PeerTaken = Counter
kind_of family.CallerSinceAgreed = Gauge
kind_of family.CallerAgrees = Gauge
kind_of family.CallerGiven = Counter
kind_of family.CallerTaken = Counter

-- their name
unfoldable pub name_of : Family → List ℕ
name_of family.Operations = codes "wiersomp_operations"
name_of family.TakesOperations = codes "wiersomp_takes_operations"
name_of family.Associations = codes "wiersomp_associations_total"
name_of family.Stores = codes "wiersomp_stores_total"
name_of family.Finds = codes "wiersomp_finds_total"
name_of family.FindRows = codes "wiersomp_find_rows_total"
name_of family.Gets = codes "wiersomp_gets_total"
name_of family.GetImages = codes "wiersomp_get_images_total"
name_of family.ExchangesServed = codes "wiersomp_exchanges_served_total"
name_of family.ExchangesCalled = codes "wiersomp_exchanges_called_total"
name_of family.OperationsGiven = codes "wiersomp_operations_given_total"
name_of family.OperationsTaken = codes "wiersomp_operations_taken_total"
name_of family.ExchangeUnread = codes "wiersomp_exchange_unread_total"
name_of family.WorkersBusy = codes "wiersomp_workers_busy"
name_of family.Uptime = codes "wiersomp_uptime_seconds"
name_of family.ResidentMemory = codes "process_resident_memory_bytes"
name_of family.StoreBytes = codes "wiersomp_store_bytes"
name_of family.SinceAgreed = codes "wiersomp_seconds_since_agreed"
name_of family.PeerSinceAgreed = codes "wiersomp_peer_seconds_since_agreed"
name_of family.PeerAgrees = codes "wiersomp_peer_agrees"
name_of family.PeerGiven = codes "wiersomp_peer_operations_given_total"
name_of family.PeerTaken = codes "wiersomp_peer_operations_taken_total"
name_of family.CallerSinceAgreed = codes "wiersomp_caller_seconds_since_agreed"
name_of family.CallerAgrees = codes "wiersomp_caller_agrees"
name_of family.CallerGiven = codes "wiersomp_caller_operations_given_total"
name_of family.CallerTaken = codes "wiersomp_caller_operations_taken_total"

-- what they count
unfoldable pub help_of : Family → List ℕ
help_of family.Operations = codes "Operations that the site holds."
help_of family.TakesOperations = codes "0 where the last put to the disk was refused, else 1."
help_of family.Associations = codes "Associations that have ended, by how."
help_of family.Stores = codes "Stores of ended associations: of what was new or known, or refused."
help_of family.Finds = codes "Queries of ended associations."
help_of family.FindRows = codes "Rows that these queries were answered with."
help_of family.Gets = codes "Retrievals of ended associations."
help_of family.GetImages = codes "Images that these retrievals were prepared with."
help_of family.ExchangesServed = codes "Exchanges with peers that called, by how they ended."
help_of family.ExchangesCalled = codes "Exchanges with peers that were called, by how they ended."
help_of family.OperationsGiven = codes "Operations that exchanges gave which were not broken off."
help_of family.OperationsTaken = codes "New operations that exchanges took which were not broken off."
help_of family.ExchangeUnread = codes "Held operations that a peer asked for and that could not be read."
help_of family.WorkersBusy = codes "Threads that serve an association or an exchange now."
help_of family.Uptime = codes "Seconds since the server began."
help_of family.ResidentMemory = codes "Bytes of memory that the process has resident."
help_of family.StoreBytes = codes "Bytes of the files that the operations stand in."
help_of family.SinceAgreed = codes "Seconds since the last exchange that agreed ended."
help_of family.PeerSinceAgreed = codes "Seconds since an exchange with a called peer agreed."
help_of family.PeerAgrees = codes "1 where the last call of a peer agreed, else 0."
help_of family.PeerGiven = codes "Operations that were given to a called peer."
help_of family.PeerTaken = codes "New operations that were taken from a called peer."
help_of family.CallerSinceAgreed = codes "Seconds since an exchange with a caller agreed."
help_of family.CallerAgrees = codes "1 where the last exchange with a caller agreed, else 0."
help_of family.CallerGiven = codes "Operations that were given to a caller."
help_of family.CallerTaken = codes "New operations that were taken from a caller."
