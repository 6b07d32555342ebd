-- A site: the finite map from digests to operations, each under its own.
use Rattle.std.specs.Prelude.{◌≡◌, ◌≢◌, ℕ, max, Bool, not, List, [], ◌∷◌, Option, Some, None, IfSome, Ok, Err, Result}
use Rattle.std.specs.Prelude.{length}
use Rattle.std.specs.Ordering.{nat_cmp}
use Rattle.std.specs.Cmp.Lexicographic.{slice_cmp}
use Rattle.std.specs.FinMap as finmap
use Rattle.std.specs.declared.cmp.Ordering.{Ordering}
use Rattle.operation.specs.declared.op.Op.{Op}
use Rattle.operation.specs.declared.op.Op.TheVariants.{Content as a_content, Correction as a_correction}
use Rattle.operation.specs.Parts.{CorrectionParts}
use Rattle.operation.specs.Spelling.{digest_of}
use Rattle.std.specs.BTreeMap.{is_at}
use Rattle.std.specs.Map.{lookup}
use Rattle.study_index.specs.Index.{IndexValue, index_joined, index_of}
use Rattle.study_index.specs.Definition.{index_value, IsLawful}
use Rattle.archive_model.specs.Contents.{contents}
use Rattle.archive_model.specs.Attributes.{corrections}
use Rattle.operation.specs.declared.taken.Taken.{Taken}
use Rattle.operation.specs.declared.taken.Taken.TheVariants.{New, Known}
use Rattle.site_state.specs.declared.fault.SiteFault.{SiteFault}
use Rattle.site_state.specs.declared.fault.SiteFault.TheVariants.{Collision, Memory}
use Rattle.site_state.specs.declared.counts.Counts.{Counts}

-- the order of digests, as bytes
abbrev pub digest_cmp : List ℕ → List ℕ → Ordering
digest_cmp = slice_cmp nat_cmp

abbrev pub Map : Type 0
Map = finmap.FinMap digest_cmp Op

-- what entries are as a map
abbrev pub of_entries : List (List ℕ × Op) → Map
of_entries es = finmap.from_entries es

-- the operations of a site, ascending by digest
abbrev pub ops_of : Map → List Op
ops_of m = finmap.values m

-- the digests of a site, ascending
abbrev pub digests_of : Map → List (List ℕ)
digests_of m = finmap.keys m

-- whether a site has nothing under a digest
abbrev pub is_missing : Map → List ℕ → Bool
is_missing m d = not (finmap.contains_key m d)

-- what a site holds under a digest
abbrev pub held_at : Map → List ℕ → Option Op
held_at m d = finmap.get m d

-- a site with one operation more
abbrev pub with_op : Map → Op → Map
with_op m o = finmap.insert m (digest_of o) o

-- each operation lies under its own digest
abbrev pub IsSite : Map → Type 0
IsSite m = (d : List ℕ) → IfSome (held_at m d) (λ o. d ≡ digest_of o)

-- each operation that is held has what every operation keeps true of its parts
abbrev pub HasLawful : Map → Type 0
HasLawful m = (d : List ℕ) → IfSome (held_at m d) IsLawful

-- another operation than this one is held under a digest
abbrev pub HasOther : Map → List ℕ → Op → Type 0
HasOther m d o = (other : Op) × (held_at m d ≡ Some other) × (other ≢ o)

-- no other is
abbrev pub HasNoOther : Map → List ℕ → Op → Type 0
HasNoOther m d o = (other : Op) → held_at m d ≡ Some other → other ≡ o

-- a site holds another operation under the digest of this one
abbrev pub IsClash : Map → Op → Type 0
IsClash m o = HasOther m (digest_of o) o

-- how a site may answer to an operation that it is to take, and what it holds then
abbrev pub Takes : Map → Op → Result Taken SiteFault → Map → Type 0
Takes old op (Ok New) new = (held_at old (digest_of op) ≡ None) × (new ≡ with_op old op)
Takes old op (Ok Known) new = (held_at old (digest_of op) ≡ Some op) × (new ≡ old)
Takes old op (Err Collision) new = IsClash old op × (new ≡ old)
Takes old op (Err Memory) new = (held_at old (digest_of op) ≡ None) × (new ≡ old)

-- the greatest of some counters, 0 where there is none
abbrev pub greatest_counter : List CorrectionParts → ℕ
greatest_counter [] = 0
greatest_counter (k ∷ ks) = max k.stamp.counter (greatest_counter ks)

-- the greatest counter of the corrections of a set, 0 where it has none
abbrev pub top_counter_of : List Op → ℕ
top_counter_of ops = greatest_counter (corrections ops)

-- the counter of a correction, and 0 of a content
abbrev pub counter_of : Op → ℕ
counter_of (a_content c) = 0
counter_of (a_correction k) = k.stamp.counter

-- this is the greatest counter of the corrections of a site
abbrev pub HasTop : Map → ℕ → Type 0
HasTop m top = top ≡ top_counter_of (ops_of m)

-- this is the index of the operations of a site
abbrev pub HasIndex : Map → IndexValue → Type 0
HasIndex m index = index ≡ index_value (ops_of m)

-- what entries have under a digest
abbrev pub entry_at : List ℕ → List (List ℕ × Op) → Option Op
entry_at d es = lookup (is_at (digest_cmp d)) es

-- an index with what is held under a digest, if anything is
abbrev pub index_with : IndexValue → Option Op → IndexValue
index_with index None = index
index_with index (Some o) = index_joined index (index_of o)

-- how many operations a set has, and of which kind
abbrev pub counts_of : List Op → Counts
counts_of ops = record {
  operations = length ops;
  contents = length (contents ops);
  corrections =
      length (corrections ops);
}
