-- One range for one set of versions.
use Rattle.std.proofs.Common.{ℕ, ◌≡◌, ◌∷◌, List, [], Bool, refl, ap, ◌∙◌, sym, subst, map}
use Rattle.std.specs.List.{AllZip}
use Rattle.std.specs.Prelude.{None, Option, Some}
use Rattle.semver_core.specs.Cuts.{Span}
use Rattle.semver_core.specs.Values.Versions.{IsVersion, VersionValue}
use Rattle.nodejs_semver.specs.Ranges.Gate.{accepts}
use Rattle.key_spans.specs.Ranges.{IsIntervalOf, IsKeyOf, IsSimple, IsStop, interval_of}
use Rattle.key_spans.specs.Spans.{bytes}
use Rattle.key_spans.specs.declared.KeySpan.{KeySpan}
use Rattle.key_spans.proofs.FromSpans.{list_exact}
use Rattle.key_spans.proofs.Intervals.{not_end, same_parts}
use Rattle.key_spans.proofs.OneSet.{one_list}

-- the version of a key is one
one_version : (start : List ℕ) (v w : VersionValue) → IsKeyOf start v → IsKeyOf start w → v ≡ w
one_version start v w h k =
    let same = same_parts v w h.is_version k.is_version (h.is_key ∙ sym k.is_key) in
    let build : v.build ≡ w.build = h.no_build ∙ sym k.no_build in
    λ i. record { major = same.0 i; minor = same.1 i; patch = same.2 i; pre_release = same.3 i; build = build i }

one_stop : (stop : List ℕ) (l m : Option VersionValue) → IsStop stop l → IsStop stop m → l ≡ m
one_stop stop None None h k = refl
one_stop stop None (Some w) h k = not_end w k.is_version (k.is_key ∙ h)
one_stop stop (Some v) None h k = not_end v h.is_version (h.is_key ∙ k)
one_stop stop (Some v) (Some w) h k = ap Some (one_version stop v w h k)

one_interval : (s t : KeySpan) (i j : Span VersionValue) → bytes s ≡ bytes t → IsIntervalOf s i → IsIntervalOf t j → i ≡ j
one_interval s t i j e h k =
    let first : h.first ≡ k.first = one_version t.start.items h.first k.first (subst (λ l. IsKeyOf l h.first) (ap (λ b. b.0) e) h.starts) k.starts in
    let last : h.last ≡ k.last = one_stop t.stop.items h.last k.last (subst (λ l. IsStop l h.last) (ap (λ b. b.1) e) h.ends) k.ends in
    let flag : s.releases_only ≡ t.releases_only = ap (λ b. b.2) e in
    h.value ∙ ((λ x. interval_of (flag x) (first x) (last x)) ∙ sym k.value)

head_of : (x y : List ℕ × List ℕ × Bool) (xs ys : List (List ℕ × List ℕ × Bool)) → x ∷ xs ≡ y ∷ ys → (x ≡ y) × (xs ≡ ys)
head_of x y xs ys e = (cc, cc)

one_by_bytes : (xs ys : List KeySpan) (r s : List (Span VersionValue)) → map bytes xs ≡ map bytes ys → AllZip IsIntervalOf xs r → AllZip IsIntervalOf ys s
    → r ≡ s
one_by_bytes [] [] [] [] e h k = refl
one_by_bytes [] [] (i ∷ r) s e h k = absurd h
one_by_bytes [] [] [] (j ∷ s) e h k = absurd k
one_by_bytes [] (y ∷ ys) r s e h k = cc
one_by_bytes (x ∷ xs) [] r s e h k = cc
one_by_bytes (x ∷ xs) (y ∷ ys) [] s e h k = absurd h
one_by_bytes (x ∷ xs) (y ∷ ys) (i ∷ r) [] e h k = absurd k
one_by_bytes (x ∷ xs) (y ∷ ys) (i ∷ r) (j ∷ s) e h k =
    let both = head_of (bytes x) (bytes y) (map bytes xs) (map bytes ys) e in
    λ t. one_interval x y i j both.0 h.0 k.0 t ∷ one_by_bytes xs ys r s both.1 h.1 k.1 t

pub one_range : (include : Bool) (r s : List (Span VersionValue)) → IsSimple include r → IsSimple include s
    → ((v : VersionValue) → IsVersion v → accepts r v include ≡ accepts s v include) → r ≡ s
one_range include r s h k same =
    one_by_bytes h.0 k.0 r s
    (one_list include h.0 k.0 h.1.0 h.1.1 k.1.0 k.1.1
    (λ v u. sym (list_exact include h.0 r h.1.1 h.2 v u) ∙ (same v u ∙ list_exact include k.0 s k.1.1 k.2 v u))) h.2 k.2
