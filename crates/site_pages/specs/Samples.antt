-- What is told of a running server to who measures it.
use Rattle.std.specs.Prelude.{ℕ, ◌-◌, List, [], ◌∷◌, ◌++◌, Option, Some, None, codes, if◌then◌else◌}
use Rattle.std.specs.List.{flat_map}
use Rattle.std.specs.Option.{option_map}
use Rattle.archive_page.specs.declared.metrics.Sample.{Sample}
use Rattle.site_pages.specs.declared.tally.Tally.{Tally}
use Rattle.site_pages.specs.declared.ends.AssociationEnds.{AssociationEnds}
use Rattle.site_pages.specs.declared.ends.ExchangeEnd.{ExchangeEnd}
use Rattle.site_pages.specs.declared.ends.ExchangeEnd.TheVariants as end
use Rattle.site_pages.specs.declared.ends.ExchangeEnds.{ExchangeEnds}
use Rattle.site_pages.specs.declared.facts.Meeting.{Meeting}
use Rattle.site_pages.specs.declared.families.Family.{Family}
use Rattle.site_pages.specs.declared.families.Family.TheVariants as family
use Rattle.site_pages.specs.declared.meters.Met.{Met}
use Rattle.site_pages.specs.declared.meters.Meters.{Meters}
use Rattle.site_pages.specs.declared.meters.Way.{Way}
use Rattle.site_pages.specs.declared.meters.Way.TheVariants.{Served, Called}
use Rattle.site_pages.specs.declared.samples.Part.{Part}
use Rattle.site_pages.specs.declared.samples.Part.TheVariants as part
use Rattle.site_pages.specs.declared.samples.Reading.{Reading}
use Rattle.site_pages.specs.Facts.{word_of}
use Rattle.site_pages.specs.Families.{kind_of, name_of, help_of}

-- a sample that stands alone under its name
abbrev pub sample_in : Family → ℕ → Sample
sample_in f value = record {
  name = name_of f;
  help = help_of f;
  kind = kind_of f;
  label = None;
  value = value;
}

-- one that a label tells from others of its name
abbrev pub labelled_in : Family → List ℕ → List ℕ → ℕ → Sample
labelled_in f label text value = record {
  name = name_of f;
  help = help_of f;
  kind = kind_of f;
  label = Some (record { name = label; value = text });
  value = value;
}

-- how many operations of each kind are held, and whether the shelf did not refuse the last put
unfoldable pub held_samples : Reading → List Sample
held_samples reading =
    labelled_in family.Operations (codes "kind") (codes "content") reading.contents
    ∷ labelled_in family.Operations (codes "kind") (codes "correction") reading.corrections
    ∷ sample_in family.TakesOperations (if reading.takes then 1 else 0) ∷ []

-- how many associations ended in each way
abbrev pub ended : List ℕ → ℕ → Sample
ended text count = labelled_in family.Associations (codes "end") text count

unfoldable pub association_samples : AssociationEnds → List Sample
association_samples ends =
    ended (codes "released") ends.released ∷ ended (codes "aborted") ends.aborted
    ∷ ended (codes "rejected") ends.rejected ∷ ended (codes "closed") ends.closed
    ∷ ended (codes "dropped") ends.dropped ∷ ended (codes "fault") ends.faults ∷ []

-- how many stores were answered in each way
abbrev pub stored : List ℕ → ℕ → Sample
stored text count = labelled_in family.Stores (codes "status") text count

unfoldable pub store_samples : Tally → List Sample
store_samples asked =
    stored (codes "new") asked.new ∷ stored (codes "known") asked.known ∷ stored (codes "refused") asked.refused ∷ []

-- how often it was searched and retrieved, and how much was found
unfoldable pub find_samples : Tally → List Sample
find_samples asked =
    sample_in family.Finds asked.finds ∷ sample_in family.FindRows asked.rows
    ∷ sample_in family.Gets asked.gets ∷ sample_in family.GetImages asked.images ∷ []

-- how many exchanges with peers that called ended in each way
abbrev pub exchanged : Family → List ℕ → ℕ → Sample
exchanged f text count = labelled_in f (codes "end") text count

unfoldable pub served_samples : ExchangeEnds → List Sample
served_samples ends =
    exchanged family.ExchangesServed (codes "agreed") ends.agreed
    ∷ exchanged family.ExchangesServed (codes "not_agreed") ends.not_agreed
    ∷ exchanged family.ExchangesServed (codes "unfinished") ends.unfinished
    ∷ exchanged family.ExchangesServed (codes "fault") ends.faults ∷ []

-- how many with peers that were called did, and how many calls reached nobody
unfoldable pub called_samples : ExchangeEnds → List Sample
called_samples ends =
    exchanged family.ExchangesCalled (codes "agreed") ends.agreed
    ∷ exchanged family.ExchangesCalled (codes "not_agreed") ends.not_agreed
    ∷ exchanged family.ExchangesCalled (codes "unfinished") ends.unfinished
    ∷ exchanged family.ExchangesCalled (codes "fault") ends.faults
    ∷ exchanged family.ExchangesCalled (codes "not_reached") ends.not_reached ∷ []

-- what exchanges gave and took, and what could not be read for them
unfoldable pub operation_samples : Meters → List Sample
operation_samples meters =
    sample_in family.OperationsGiven meters.given ∷ sample_in family.OperationsTaken meters.taken
    ∷ sample_in family.ExchangeUnread meters.unread ∷ []

-- how many threads serve now, and since when the server runs
unfoldable pub moment_samples : Reading → List Sample
moment_samples reading =
    sample_in family.WorkersBusy reading.meters.busy ∷ sample_in family.Uptime reading.now ∷ []

-- a sample of what is known, and none of what is not
unfoldable pub known_samples : Family → Option ℕ → List Sample
known_samples f None = []
known_samples f (Some value) = sample_in f value ∷ []

-- how many seconds ago an exchange agreed last, if one did
unfoldable pub since_samples : Option ℕ → ℕ → List Sample
since_samples None now = []
since_samples (Some at) now = sample_in family.SinceAgreed (now - at) ∷ []

-- the name under which something is told of each peer, by who calls whom
abbrev pub family_of : Way → Part → Family
family_of Called part.SinceAgreed = family.PeerSinceAgreed
family_of Called part.Agrees = family.PeerAgrees
family_of Called part.Given = family.PeerGiven
family_of Called part.Taken = family.PeerTaken
family_of Served part.SinceAgreed = family.CallerSinceAgreed
family_of Served part.Agrees = family.CallerAgrees
family_of Served part.Given = family.CallerGiven
family_of Served part.Taken = family.CallerTaken

-- 1 where an exchange agreed
abbrev pub agreement : ExchangeEnd → ℕ
agreement end.Agreed = 1
agreement end.NotAgreed = 0
agreement end.Unfinished = 0
agreement end.Fault = 0
agreement end.NotReached = 0

-- 1 where the last exchange agreed
abbrev pub last_agreement : Option Met → ℕ
last_agreement None = 0
last_agreement (Some met) = agreement met.end

-- the number that is told of a peer, if there is one
abbrev pub number_of : Part → ℕ → Meeting → Option ℕ
number_of part.SinceAgreed now peer = option_map (λ at. now - at) peer.agreed
number_of part.Agrees now peer = Some (last_agreement peer.last)
number_of part.Given now peer = Some peer.given
number_of part.Taken now peer = Some peer.taken

-- a sample of it, which a label tells from others of its name
abbrev pub number_samples : Family → List ℕ → List ℕ → Option ℕ → List Sample
number_samples f label text None = []
number_samples f label text (Some value) = labelled_in f label text value ∷ []

-- the same, with the address of the peer
abbrev pub peer_sample : Way → Part → ℕ → Meeting → List Sample
peer_sample way told now peer =
    number_samples (family_of way told) (word_of way) peer.address (number_of told now peer)

-- all that is told of each peer: the samples of one name stand together
unfoldable pub peer_samples : Way → ℕ → List Meeting → List Sample
peer_samples way now peers =
    flat_map (peer_sample way part.SinceAgreed now) peers ++ flat_map (peer_sample way part.Agrees now) peers
    ++ flat_map (peer_sample way part.Given now) peers ++ flat_map (peer_sample way part.Taken now) peers

-- all that is told, of the server, of the peers that it calls, and of those that call it
unfoldable pub samples_in : Reading → List Meeting → List Meeting → List Sample
samples_in reading peers callers =
    held_samples reading ++ association_samples reading.meters.ends ++ store_samples reading.meters.asked
    ++ find_samples reading.meters.asked ++ served_samples reading.meters.served
    ++ called_samples reading.meters.called ++ operation_samples reading.meters ++ moment_samples reading
    ++ known_samples family.ResidentMemory reading.sizes.resident
    ++ known_samples family.StoreBytes reading.sizes.stored
    ++ since_samples reading.meters.agreed reading.now
    ++ peer_samples Called reading.now peers ++ peer_samples Served reading.now callers
