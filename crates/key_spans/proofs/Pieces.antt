-- Lists of spans as lists of pieces, and pieces of one kind as stretches.
use Rattle.std.proofs.Common.{ℕ, ◌≡◌, ◌++◌, ◌∷◌, ◌&&◌, ◌||◌, List, [], Bool, true, false, not, refl, ap, ◌∙◌, sym}
use Rattle.std.proofs.lemmas.Bool.{and_from}
use Rattle.std.proofs.Math.Bool.{and-true}
use Rattle.std.proofs.lemmas.List.Folds.{list_any-append}
use Rattle.std.specs.Cmp.Lexicographic.{slice_cmp}
use Rattle.std.specs.Ordering.{is_lt, nat_cmp}
use Rattle.std.specs.Prelude.{All}
use Rattle.semver_core.proofs.FlatMaps.{list_any-map}
use Rattle.semver_core.specs.Cuts.{Span}
use Rattle.semver_core.specs.Keys.{key}
use Rattle.semver_core.specs.Values.Versions.{IsVersion, VersionValue, is_release}
use Rattle.nodejs_semver.specs.Ranges.Gate.{accepts}
use Rattle.key_spans.specs.Internal.Pieces.{IsCanonicalOf, all_flagged, are_sorted, flagged, in_piece, in_pieces, is_piece_behind, is_some_piece, piece, pieces}
use Rattle.key_spans.specs.Internal.Places.{IsSpan, pre_releases, releases, versions}
use Rattle.key_spans.specs.Internal.Sets.{Stretch, has, holds, is_canonical, is_past}
use Rattle.key_spans.specs.Spans.{ends_in_3, in_spans, is_behind, is_some_span, is_sorted}
use Rattle.key_spans.specs.declared.KeySpan.{KeySpan}
use Rattle.key_spans.proofs.Keys.{key_end}
use Rattle.key_spans.proofs.Line.{and_first, and_second, by_bool}
use Rattle.key_spans.proofs.{AllVersions.versions_exact, PreReleases.{no_release, pre_releases_exact}, Releases.releases_exact}

pub in_spans-pieces : (spans : List KeySpan) (k : List ℕ) → in_spans spans k ≡ in_pieces (pieces spans) k
in_spans-pieces spans k = sym (list_any-map (λ s. in_piece s k) piece spans)

pub is_sorted-pieces : (spans : List KeySpan) → is_sorted spans ≡ are_sorted (pieces spans)
is_sorted-pieces [] = refl
is_sorted-pieces (s ∷ []) = refl
is_sorted-pieces (s ∷ t ∷ spans) = ap (λ b. is_some_span s && (is_behind s t && b)) (is_sorted-pieces (t ∷ spans))

-- ---- what lies in pieces of one kind

gathered : (a b t : Bool) → ((a && t) || (b && t)) ≡ ((a || b) && t)
gathered true true true = refl
gathered true true false = refl
gathered true false true = refl
gathered true false false = refl
gathered false b t = refl

pub in_flagged : (flag : Bool) (ss : List (Stretch (List ℕ))) (k : List ℕ)
    → in_pieces (all_flagged flag ss) k ≡ (has (slice_cmp nat_cmp) ss k && (not flag || ends_in_3 k))
in_flagged flag [] k = refl
in_flagged flag (s ∷ ss) k =
    let one : Bool = holds (slice_cmp nat_cmp) s k && (not flag || ends_in_3 k) in
    ap (λ b. one || b) (in_flagged flag ss k)
    ∙ gathered (holds (slice_cmp nat_cmp) s k) (has (slice_cmp nat_cmp) ss k) (not flag || ends_in_3 k)

pub of_release : (a : Bool) → ((a && (false || true)) || (false && (true || true))) ≡ a
of_release true = refl
of_release false = refl

pub of_pre_release : (x a : Bool) → ((x && (false || false)) || (a && (true || false))) ≡ a
of_pre_release true true = refl
of_pre_release true false = refl
of_pre_release false true = refl
of_pre_release false false = refl

module _ (ss : List (Span VersionValue)) (v : VersionValue) (h : All IsSpan ss) (k : IsVersion v) where
  -- both kinds, for the gate
  pub gate_exact : (rs ps : List (Stretch (List ℕ))) → IsCanonicalOf (releases ss) rs → IsCanonicalOf (pre_releases ss) ps
      → in_pieces (all_flagged true rs ++ all_flagged false ps) (key v) ≡ accepts ss v false
  gate_exact rs ps r p =
      let x : Bool = has (slice_cmp nat_cmp) rs (key v) in
      list_any-append (λ s. in_piece s (key v)) (all_flagged true rs) (all_flagged false ps)
      ∙ ((λ i. in_flagged true rs (key v) i || in_flagged false ps (key v) i)
      ∙ ((λ i. (x && (false || key_end v i)) || (p.same (key v) i && (true || key_end v i)))
      ∙ by_bool (is_release v)
      (λ e. (λ i. (((r.same (key v) ∙ releases_exact ss v h k e) i) && (false || e i)) || (no_release ss v h k e i && (true || e i)))
      ∙ of_release (accepts ss v false))
      (λ e. (λ i. (x && (false || e i)) || (pre_releases_exact ss v h k e i && (true || e i)))
      ∙ of_pre_release x (accepts ss v false))))

  pub all_exact : (vs : List (Stretch (List ℕ))) → IsCanonicalOf (versions ss) vs
      → in_pieces (all_flagged false vs) (key v) ≡ accepts ss v true
  all_exact vs r = in_flagged false vs (key v) ∙ (and-true _ ∙ (r.same (key v) ∙ versions_exact ss v h k))

-- ---- order

sorted_past : (flag : Bool) (p : List ℕ) (ss : List (Stretch (List ℕ))) → is_past (slice_cmp nat_cmp) p ss ≡ true
    → (s : Stretch (List ℕ)) → s.stop ≡ p → is_lt (slice_cmp nat_cmp s.start s.stop) ≡ true → are_sorted (all_flagged flag (s ∷ ss)) ≡ true
sorted_past flag p [] h s e l = l
sorted_past flag p (t ∷ ts) h s e l =
    and_from _ _ l (and_from _ _ (behind flag)
    (sorted_past flag t.stop ts (and_second (is_lt (slice_cmp nat_cmp t.start t.stop)) _ more) t refl (and_first _ _ more)))
  where
    more : (is_lt (slice_cmp nat_cmp t.start t.stop) && is_past (slice_cmp nat_cmp) t.stop ts) ≡ true
    more = and_second (is_lt (slice_cmp nat_cmp p t.start)) _ h

    behind : (f : Bool) → is_piece_behind (flagged f s) (flagged f t) ≡ true
    behind true = ap (λ q. is_lt (slice_cmp nat_cmp q t.start)) e ∙ and_first _ _ h
    behind false = ap (λ q. is_lt (slice_cmp nat_cmp q t.start)) e ∙ and_first _ _ h

pub sorted-flagged : (flag : Bool) (ss : List (Stretch (List ℕ))) → is_canonical (slice_cmp nat_cmp) ss ≡ true → are_sorted (all_flagged flag ss) ≡ true
sorted-flagged flag [] h = refl
sorted-flagged flag (s ∷ ss) h = sorted_past flag s.stop ss (and_second (is_lt (slice_cmp nat_cmp s.start s.stop)) _ h) s refl (and_first _ _ h)

-- those of releases before the others
sorted_before : (xs : List (Stretch (List ℕ))) (ys : List (Stretch (List ℕ))) → are_sorted (all_flagged true xs) ≡ true
    → are_sorted (all_flagged false ys) ≡ true → are_sorted (all_flagged true xs ++ all_flagged false ys) ≡ true
sorted_before [] ys h g = g
sorted_before (x ∷ []) [] h g = h
sorted_before (x ∷ []) (y ∷ ys) h g = and_from _ _ h g
sorted_before (x ∷ z ∷ xs) ys h g =
    let more : (is_piece_behind (flagged true x) (flagged true z) && are_sorted (all_flagged true (z ∷ xs))) ≡ true =
    and_second (is_some_piece (flagged true x)) _ h in
    and_from _ _ (and_first _ _ h) (and_from _ _ (and_first _ _ more)
    (sorted_before (z ∷ xs) ys (and_second (is_piece_behind (flagged true x) (flagged true z)) _ more) g))

pub sorted-both : (rs ps : List (Stretch (List ℕ))) → is_canonical (slice_cmp nat_cmp) rs ≡ true → is_canonical (slice_cmp nat_cmp) ps ≡ true
    → are_sorted (all_flagged true rs ++ all_flagged false ps) ≡ true
sorted-both rs ps h g = sorted_before rs ps (sorted-flagged true rs h) (sorted-flagged false ps g)
