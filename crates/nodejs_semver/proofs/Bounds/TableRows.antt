-- For proofs. What the rows of the word table give: intervals, whose bounds are such as a range may have.
use Rattle.nodejs_semver.proofs.{Bounds.Bounded.{Fine, FineWord, Fits}, Common.{After, Before, Bool, Bound, Comparator, Id, Less, List, None, Option}}
use Rattle.nodejs_semver.proofs.Common.{Partial, Some, Span, VersionValue, Word, above, above_patch, and_from, arith, at_most, below, caret, compare}
use Rattle.nodejs_semver.proofs.Common.{cond_some, equal, hyphen, interval, is_interval, is_normal, is_range_bound, is_readable, list_all, lowest}
use Rattle.nodejs_semver.proofs.Common.{malformed, plain, precedence, precedence_total, refl, release_value, row, suc, table, tied_itself, tilde}
use Rattle.nodejs_semver.proofs.Common.{true, version_of, without_build, zero, ℕ, ◌&&◌, ◌+◌, ◌≡◌, ◌≤◌}
use Rattle.{semver_core.specs.Internal.Successors.{above_major, above_minor}, std.specs.Prelude.unwrap_or}

-- ---- the versions of the table

pub bound-is : (limit : ℕ) (v : VersionValue) → v.major ≤ limit → v.minor ≤ limit → v.patch ≤ limit → list_all is_normal v.pre_release ≡ true
    → list_all is_normal v.build ≡ true → is_readable limit v ≡ true
bound-is limit v a b c p q = grind arith

release-is : (limit major minor patch : ℕ) → major ≤ limit → minor ≤ limit → patch ≤ limit → is_readable limit (release_value major minor patch) ≡ true
release-is limit major minor patch a b c = bound-is limit (release_value major minor patch) a b c refl refl

lowest-is : (limit major minor patch : ℕ) → major ≤ limit → minor ≤ limit → patch ≤ limit → is_readable limit (lowest major minor patch) ≡ true
lowest-is limit major minor patch a b c = bound-is limit (lowest major minor patch) a b c refl refl

zeroed-le : (limit : ℕ) (o : Option ℕ) → Fits limit o → unwrap_or o 0 ≤ limit + 1
zeroed-le limit o f = grind arith

version-is : (limit : ℕ) (p : Partial) → Fine limit p → is_readable (limit + 1) (version_of p) ≡ true
version-is limit p f = grind (arith, bound-is, zeroed-le)

unbuilt-is : (limit : ℕ) (p : Partial) → Fine limit p → is_readable (limit + 1) (without_build (version_of p)) ≡ true
unbuilt-is limit p f = grind (arith, bound-is, zeroed-le)

-- ---- the intervals of each form

abbrev pub are_bounds : ℕ → Span VersionValue → Bool
are_bounds limit s = is_range_bound limit s.lower && is_range_bound limit s.upper

-- what a row gives: an interval, whose bounds fit where the numbers of the partial do
abbrev Good : ℕ → Partial → Option (Span VersionValue) → Type 0
Good limit p None = Unit {0}
Good limit p (Some s) = (is_interval precedence s ≡ true) × (Fine limit p → are_bounds (limit + 1) s ≡ true)

abbrev made : Option ℕ → Option ℕ → Option ℕ → List Id → List Id → Partial
made a b c x y = record { major = a; minor = b; patch = c; pre_release = x; build = y }

module _ (limit : ℕ) (p : Partial) where
  abbrev Bounds : VersionValue → Type 0
  Bounds v = Fine limit p → is_readable (limit + 1) v ≡ true

  between-good : (v w : VersionValue) → precedence v w ≡ Less → Bounds v → Bounds w → Good limit p (Some (record { lower = Before v; upper = Before w }))
  between-good v w e h k = (rw e refl, λ f. and_from _ _ (h f) (k f))

  alone-good : (v : VersionValue) → Bounds v → Good limit p (Some (record { lower = Before v; upper = After v }))
  alone-good v h = (rw (tied_itself precedence_total v) refl, λ f. and_from _ _ (h f) (h f))

module _ (limit : ℕ) (q : Partial) (x y : List Id) where
  -- whole major and minor versions
  major-good : (M : ℕ) (c : Option ℕ) → Good limit (made (Some M) None c x y) (Some (record { lower = Before (release_value M 0 0); upper = Before (lowest (M + 1) 0 0) }))
  major-good M c = grind (arith, between-good, above_major, release-is, lowest-is)

  minor-good : (M m : ℕ) → Good limit (made (Some M) (Some m) None x y) (Some (record { lower = Before (release_value M m 0); upper = Before (lowest M (m + 1) 0) }))
  minor-good M m = grind (arith, between-good, above_minor, release-is, lowest-is)

  -- from the version of a partial to the next minor and major version
  next_minor-good : (M m : ℕ) (c : Option ℕ)
      → Good limit (made (Some M) (Some m) c x y) (Some (record { lower = Before (without_build (version_of (made (Some M) (Some m) c x y))); upper = Before (lowest M (m + 1) 0) }))
  next_minor-good M m c = grind (arith, between-good, above_minor, unbuilt-is, lowest-is)

  abbrev Rows : Word → Type 0
  Rows w = (a b c : Option ℕ) → Good limit (made a b c x y) (row limit w a b c (version_of (made a b c x y)))

  above-good : Rows (compare above q)
  above-good a b c = grind (arith, release-is, version-is)

  below-good : Rows (compare below q)
  below-good a b c = grind (arith, version-is, lowest-is)

  at_most-good : Rows (compare at_most q)
  at_most-good a b c = grind (arith, version-is, release-is, zeroed-le)

  equal-good : Rows (compare equal q)
  equal-good (Some M) (Some m) (Some p) = let w = made (Some M) (Some m) (Some p) x y in
      alone-good limit w (without_build (version_of w)) (unbuilt-is limit w)
  equal-good (Some M) (Some m) None = minor-good M m
  equal-good (Some M) None c = major-good M c
  equal-good None b c = tt

  plain-good : Rows (plain q)
  plain-good None b c = grind (arith, release-is)
  plain-good (Some M) None c = major-good M c
  plain-good (Some M) (Some m) None = minor-good M m
  plain-good (Some M) (Some m) (Some p) = let w = made (Some M) (Some m) (Some p) x y in
      alone-good limit w (version_of w) (version-is limit w)

  tilde-good : (greater : Bool) → Rows (tilde greater q)
  tilde-good greater a b c = grind (arith, major-good, minor-good, next_minor-good)

  caret-good : Rows (caret q)
  caret-good (Some zero) None None = grind (arith, lowest-is)
  caret-good (Some zero) (Some m) None = minor-good 0 m
  caret-good (Some (suc M)) None None = major-good (suc M) None
  caret-good (Some (suc M)) (Some m) None = grind (arith, between-good, above_major, release-is, lowest-is)
  caret-good (Some zero) (Some zero) (Some p) = grind (arith, between-good, above_patch, unbuilt-is, lowest-is)
  caret-good (Some zero) (Some (suc m)) (Some p) = next_minor-good 0 (suc m) (Some p)
  caret-good (Some (suc M)) (Some m) (Some p) = grind (arith, between-good, above_major, unbuilt-is, lowest-is)
  caret-good a b c = tt

  compare-good : (c : Comparator) → Rows (compare c q)
  compare-good c = grind (arith, version-is, above-good, equal-good, at_most-good, below-good)

-- ---- hyphen words, whose bounds the row tests

abbrev Tested : ℕ → Partial → Partial → Span VersionValue → Type 0
Tested limit p q t = (is_interval precedence t ≡ true) × (Fine limit p → Fine limit q → are_bounds (limit + 1) t ≡ true)

upper-good : (limit : ℕ) (p q : Partial) (b : Bound VersionValue) (t : Span VersionValue) → (Fine limit q → is_range_bound (limit + 1) b ≡ true)
    → interval precedence (record { lower = Before (version_of p); upper = b }) ≡ Some t → Tested limit p q t
upper-good limit p q b t h e =
    let s = cond_some _ (record { lower = Before (version_of p); upper = b }) t e in
    rw (← s.1) (s.0, λ f g. and_from _ _ (version-is limit p f) (h g))

hyphen-good : (limit : ℕ) (p : Partial) (a b c : Option ℕ) (x y : List Id) (t : Span VersionValue)
    → row limit (hyphen p (made a b c x y)) a b c (version_of (made a b c x y)) ≡ Some t → Tested limit p (made a b c x y) t
hyphen-good limit p None None None x y t e =
    upper-good limit p _ (Before (lowest 0 0 0)) t (λ _. lowest-is (limit + 1) 0 0 0 (omega arith) (omega arith) (omega arith)) e
hyphen-good limit p (Some M) None None x y t e =
    upper-good limit p (made (Some M) None None x y) (Before (lowest (M + 1) 0 0)) t (grind (arith, lowest-is)) e
hyphen-good limit p (Some M) (Some m) None x y t e =
    upper-good limit p (made (Some M) (Some m) None x y) (Before (lowest M (m + 1) 0)) t (grind (arith, lowest-is)) e
hyphen-good limit p a b c x y t e =
    upper-good limit p (made a b c x y) (After (version_of (made a b c x y))) t (version-is limit _) e

-- ---- every word

abbrev Given : ℕ → Word → Span VersionValue → Type 0
Given limit w s = (is_interval precedence s ≡ true) × (FineWord limit w → are_bounds (limit + 1) s ≡ true)

given : (limit : ℕ) (p : Partial) (o : Option (Span VersionValue)) (s : Span VersionValue) → Good limit p o → o ≡ Some s
    → (is_interval precedence s ≡ true) × (Fine limit p → are_bounds (limit + 1) s ≡ true)
given limit p o s g e = grind arith

table-given : (limit : ℕ) (w : Word) (s : Span VersionValue) → table limit w ≡ Some s → Given limit w s
unfolding table
table-given limit (hyphen p q) s e =
    let h = hyphen-good limit p q.major q.minor q.patch q.pre_release q.build s e in (h.0, λ f. h.1 f.0 f.1)
table-given limit (plain p) s e = given limit p _ s (plain-good limit p p.pre_release p.build p.major p.minor p.patch) e
table-given limit (compare c p) s e = given limit p _ s (compare-good limit p p.pre_release p.build c p.major p.minor p.patch) e
table-given limit (tilde greater p) s e = given limit p _ s (tilde-good limit p p.pre_release p.build greater p.major p.minor p.patch) e
table-given limit (caret p) s e = given limit p _ s (caret-good limit p p.pre_release p.build p.major p.minor p.patch) e
table-given limit malformed s e = cc e

pub table-interval : (limit : ℕ) (w : Word) (s : Span VersionValue) → table limit w ≡ Some s → is_interval precedence s ≡ true
table-interval limit w s e = (table-given limit w s e).0

pub table-bounded : (limit : ℕ) (w : Word) (s : Span VersionValue) → FineWord limit w → table limit w ≡ Some s → are_bounds (limit + 1) s ≡ true
table-bounded limit w s f e = (table-given limit w s e).1 f
