-- The parts of one interval after another.
use Rattle.std.proofs.Common.{◌≡◌, ◌++◌, ◌∷◌, ◌∙◌, List, [], ap, append-nil, append_assoc, refl, sym, ℕ}
use Rattle.semver_core.specs.Cuts.{Span}
use Rattle.semver_core.specs.Values.Versions.{VersionValue}
use Rattle.key_spans.specs.Internal.Kinds.{all_of_kind, of_kind}
use Rattle.key_spans.specs.Internal.Sets.{Stretch}
use Rattle.key_spans.specs.declared.build.Kind.{Kind}
use Rattle.key_spans.specs.declared.build.Kind.TheVariants.{PreReleases, Releases, Versions}

first_of : (k : Kind) (s : Span VersionValue) (ss : List (Span VersionValue)) → all_of_kind k (s ∷ ss) ≡ of_kind k s ++ all_of_kind k ss
first_of Releases s ss = refl
first_of PreReleases s ss = refl
first_of Versions s ss = refl

none_of : (k : Kind) → all_of_kind k [] ≡ []
none_of Releases = refl
none_of PreReleases = refl
none_of Versions = refl

pub one_more : (k : Kind) (parts more whole : List (Stretch (List ℕ))) (left rest : List (Span VersionValue)) (s : Span VersionValue)
    → left ≡ s ∷ rest → parts ++ all_of_kind k left ≡ whole → more ≡ parts ++ of_kind k s → more ++ all_of_kind k rest ≡ whole
one_more k parts more whole left rest s l e m = ap (λ p. p ++ all_of_kind k rest) m ∙ (append_assoc parts (of_kind k s) (all_of_kind k rest)
    ∙ (ap (λ p. parts ++ p) (sym (ap (all_of_kind k) l ∙ first_of k s rest)) ∙ e))

pub all_there : (k : Kind) (parts whole : List (Stretch (List ℕ))) (left : List (Span VersionValue)) → left ≡ []
    → parts ++ all_of_kind k left ≡ whole → parts ≡ whole
all_there k parts whole left l e = sym (append-nil parts) ∙ (ap (λ p. parts ++ p) (sym (ap (all_of_kind k) l ∙ none_of k)) ∙ e)
