-- How many spans there are: no more than the stretches from which they are made, and these are at most two for an interval.
use Rattle.std.proofs.Common.{ℕ, ◌≡◌, ◌≤◌, ◌+◌, ◌*◌, ◌++◌, ◌∷◌, List, [], Bool, true, false, refl, ap, arith, ◌∙◌, sym}
use Rattle.std.specs.Prelude.{if◌then◌else◌, length}
use Rattle.std.proofs.lemmas.List.{length-append, length-map}
use Rattle.std.proofs.lemmas.List.Sorted.{length_permutation}
use Rattle.std.specs.List.{fold}
use Rattle.std.specs.List.Sorted.{IsPermutation}
use Rattle.std.specs.Ordering.{is_le, is_lt}
use Rattle.std.specs.declared.cmp.Ordering.{Ordering}
use Rattle.semver_core.specs.Cuts.{Span}
use Rattle.semver_core.specs.Values.Versions.{VersionValue, is_release}
use Rattle.semver_core.specs.declared.cuts.bound.Bound.{Bound}
use Rattle.semver_core.specs.declared.cuts.bound.Bound.TheVariants.{Unbounded, Before, After}
use Rattle.key_spans.specs.Internal.Pieces.{all_flagged, flagged, piece, pieces}
use Rattle.key_spans.specs.Internal.Places.{bound_stretch, end_key, greater, lesser, lowest_key, pre_place, pre_releases, pre_stretches, release_key}
use Rattle.key_spans.specs.Internal.Sets.{Stretch, alone, joined, later}
use Rattle.key_spans.specs.declared.KeySpan.{KeySpan}
use Rattle.key_spans.proofs.Normal.{insert, normal, ordered}

one_or_none : {X : Type 0} (b : Bool) (x : X) → length (if b then x ∷ [] else []) ≤ 1
one_or_none true x = omega arith
one_or_none false x = omega arith

none_or_one : {X : Type 0} (b : Bool) (x : X) → length (if b then [] else x ∷ []) ≤ 1
none_or_one true x = omega arith
none_or_one false x = omega arith

module _ {A : Type 0} (R : A → A → Ordering) where
  two : (b : Bool) (c s u : Stretch A) → length (if b then c ∷ alone R s else u ∷ []) ≤ 2
  two true c s u = let one : length (alone R s) ≤ 1 = one_or_none (is_lt (R s.start s.stop)) s in omega (arith, one)
  two false c s u = omega arith

  joined_few : (xs : List (Stretch A)) (s : Stretch A) → length (joined R xs s) ≤ length xs + 1
  joined_few [] s = one_or_none (is_lt (R s.start s.stop)) s
  joined_few (c ∷ []) s = two (is_lt (R c.stop s.start)) c s (record { start = c.start; stop = later R c.stop s.stop })
  joined_few (c ∷ d ∷ cs) s = omega (arith, joined_few (d ∷ cs) s)

  fold_few : (out ss : List (Stretch A)) → length (fold (joined R) out ss) ≤ length out + length ss
  fold_few out [] = omega arith
  fold_few out (s ∷ ss) = omega (arith, fold_few (joined R out s) ss, joined_few out s)

  pub swept_few : (all xs ys out : List (Stretch A)) → ys ≡ xs → out ≡ fold (joined R) [] ys → IsPermutation all xs → length out ≤ length all
  swept_few all xs ys out e d p =
      let whole : length out ≡ length (fold (joined R) [] xs) = ap length (d ∙ ap (fold (joined R) []) e) in
      omega (arith, whole, fold_few [] xs, length_permutation all xs p)

  insert_length : (b : Bool) (s t : Stretch A) (ts : List (Stretch A)) → length (insert R s ts) ≡ length ts + 1
      → length (if b then s ∷ t ∷ ts else t ∷ insert R s ts) ≡ length ts + 2
  insert_length true s t ts h = omega arith
  insert_length false s t ts h = omega arith

  insert_one : (s : Stretch A) (ss : List (Stretch A)) → length (insert R s ss) ≡ length ss + 1
  insert_one s [] = omega arith
  insert_one s (t ∷ ts) = let e = insert_length (is_le (R s.start t.start)) s t ts (insert_one s ts) in omega arith

  ordered_length : (ss : List (Stretch A)) → length (ordered R ss) ≡ length ss
  ordered_length [] = refl
  ordered_length (s ∷ ss) = omega (arith, insert_one s (ordered R ss), ordered_length ss)

  pub normal_few : (ss : List (Stretch A)) → length (normal R ss) ≤ length ss
  normal_few ss = omega (arith, fold_few [] (ordered R ss), ordered_length ss)

bound_few : (start stop : List ℕ) (b : Bound VersionValue) → length (bound_stretch start stop b) ≤ 1
bound_few start stop Unbounded = omega arith
bound_few start stop (Before w) = none_or_one (is_release w)
    (record { start = greater start (lowest_key w.major w.minor w.patch); stop = lesser stop (release_key w.major w.minor w.patch) })
bound_few start stop (After w) = none_or_one (is_release w)
    (record { start = greater start (lowest_key w.major w.minor w.patch); stop = lesser stop (release_key w.major w.minor w.patch) })

pub pre_few : (ss : List (Span VersionValue)) → length (pre_releases ss) ≤ 2 * length ss
pre_few [] = omega arith
pre_few (s ∷ ss) =
    let start : List ℕ = pre_place s.lower [] in
    let stop : List ℕ = pre_place s.upper end_key in
    omega (
      arith,
      length-append (pre_stretches s) (pre_releases ss),
      length-append (bound_stretch start stop s.lower) (bound_stretch start stop s.upper),
      bound_few start stop s.lower,
      bound_few start stop s.upper,
      pre_few ss,
    )

-- spans as pieces
pub listed_few : (spans : List KeySpan) (flag : Bool) (ss : List (Stretch (List ℕ))) → pieces spans ≡ all_flagged flag ss → length spans ≡ length ss
listed_few spans flag ss e = sym (length-map spans piece) ∙ (ap length e ∙ length-map ss (flagged flag))

pub both_few : (spans : List KeySpan) (rs ps : List (Stretch (List ℕ))) → pieces spans ≡ all_flagged true rs ++ all_flagged false ps
    → length spans ≡ length rs + length ps
both_few spans rs ps e =
    sym (length-map spans piece) ∙ (ap length e ∙ (length-append (all_flagged true rs) (all_flagged false ps)
    ∙ (λ i. length-map rs (flagged true) i + length-map ps (flagged false) i)))
