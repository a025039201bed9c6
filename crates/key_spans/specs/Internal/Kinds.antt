-- For proofs and private contracts: what an interval has of each kind of versions.
use Rattle.std.specs.Prelude.{[], ◌∷◌, List, ℕ}
use Rattle.semver_core.specs.Cuts.{Span}
use Rattle.semver_core.specs.Values.Versions.{VersionValue}
use Rattle.semver_core.specs.declared.cuts.bound.Bound.{Bound}
use Rattle.key_spans.specs.Internal.Places.{end_key, lowest_key, pre_place, pre_releases, pre_stretches}
use Rattle.key_spans.specs.Internal.Places.{release_key, release_place, release_stretch, releases, version_place, version_stretch, versions}
use Rattle.key_spans.specs.Internal.Sets.{Stretch}
use Rattle.key_spans.specs.declared.build.Kind.{Kind}
use Rattle.key_spans.specs.declared.build.Kind.TheVariants.{PreReleases, Releases, Versions}

-- where the versions begin, and where they do past a bound; what stands for no bound is given
abbrev pub first_place : Kind → List ℕ
first_place Releases = release_key 0 0 0
first_place PreReleases = []
first_place Versions = lowest_key 0 0 0

abbrev pub place : Kind → Bound VersionValue → List ℕ → List ℕ
place Releases b none = release_place b none
place PreReleases b none = pre_place b none
place Versions b none = version_place b none

abbrev pub stretch : Kind → Span VersionValue → Stretch (List ℕ)
stretch k s = record { start = place k s.lower (first_place k); stop = place k s.upper end_key }

-- what is wanted of an interval, and of several
abbrev pub of_kind : Kind → Span VersionValue → List (Stretch (List ℕ))
of_kind Releases s = release_stretch s ∷ []
of_kind PreReleases s = pre_stretches s
of_kind Versions s = version_stretch s ∷ []

abbrev pub all_of_kind : Kind → List (Span VersionValue) → List (Stretch (List ℕ))
all_of_kind Releases ss = releases ss
all_of_kind PreReleases ss = pre_releases ss
all_of_kind Versions ss = versions ss
