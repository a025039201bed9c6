-- What comparators have in common, as spans: that of one, that of two lists, and that of the comparators of a word, by the rows of
-- node-semver's table.
use Rattle.npm_words.proofs.Common.{AreRead, Before, Bool, Bound, Bounds, Comparator, Comparison, IsCommon, IsNarrowed, List, MAX_LENGTH}
use Rattle.npm_words.proofs.Common.{MAX_SAFE_INTEGER, None, Numbers, Option, Some, Span, Unbounded, VersionValue, [], ap, ap₂, are_normal, arith}
use Rattle.npm_words.proofs.Common.{at_least, at_most, below, both_ways, bytes_eq, bytes_eq-Decides, caret_from, cases_Bool, codes, common_steps}
use Rattle.npm_words.proofs.Common.{compared, counted, counts, equal, false, filter-append, first, from, holds, if◌then◌else◌, inl, inr, interval}
use Rattle.npm_words.proofs.Common.{is_empty, is_gt, is_interval, is_past, is_readable, is_valid, is_zero, length, lets_in, list_all, lower_cut, map}
use Rattle.npm_words.proofs.Common.{nat_le, nat_tests, next_changed, not, precedence, precedence_total, refl, sym, true, under, upper_cut}
use Rattle.npm_words.proofs.{Common.{version_text, whole, within, ℕ, ◌&&◌, ◌++◌, ◌||◌, ◌∙◌, ◌∷◌, ◌≡◌, ◌⊎◌}, Grammar.Printed.{from_valid, prints_zero}}
use Rattle.npm_words.{proofs.Grammar.Printed.under_valid, specs.{Alternatives.{common, satisfying}, Internal.{Alternatives.met, Meaning.common_in}}}
use Rattle.npm_words.specs.{Internal.{Meaning.is_part, Parts.{AreZeros, has_no_comparators, is_padded, no_build, noted}}, Table.{Partial, Sign}}
use Rattle.{npm_words.specs.Table.{caret, lowest, next, table, tilde, unbuilt, written_zeros}, semver_core.proofs.CutLaws.{between, cut_total, gt_lt}}
use Rattle.semver_core.proofs.{CutLaws.{is_past-greater_lower, is_past-lesser_upper, lt_trans}, Gate.{both, lets_in-meet, lets_in_one}}
use Rattle.{semver_core.specs.{Cuts.{Cut, cut_cmp}, Values.Versions.IsVersion}, std.proofs.{Math.Bool.or-true, lemmas.List.map-append}}
use Rattle.std.specs.Cmp.{upto}
use Rattle.semver_core.specs.Values.Spans as Spans

-- ---- where a word has no comparators

pub table-bare : (include : Bool) (s : Sign) (p : Partial) (text : List ℕ) → is_empty (table include s p text) ≡ has_no_comparators s p
table-bare include s p text = grind (arith, nat_tests, common_steps)

-- ---- one comparator

-- a comparator as it is written
abbrev pub comparison : Comparator → VersionValue → List ℕ → Comparison
comparison c w text = record { sign = c; version = w; text = text }

abbrev pub everything : Span VersionValue
everything = record { lower = Unbounded; upper = Unbounded }

-- the bounds are of that version, whose numbers may be greater by one
pub one_common : (include : Bool) (c : Comparator) (w : VersionValue) (text : List ℕ)
    → is_readable MAX_SAFE_INTEGER w ≡ true → counts include (comparison c w text) ≡ true
    → IsCommon include (comparison c w text ∷ []) (satisfying (comparison c w text))
one_common include c w text r h = record {
  is = rw h (grind arith);
  lower = grind (arith, nat_tests, common_steps);
  upper = grind (arith, nat_tests, common_steps);
}

pub uncounted_common : (include : Bool) (c : Comparison) → counts include c ≡ false → IsCommon include (c ∷ []) everything
uncounted_common include c h = record { is = rw h refl; lower = refl; upper = refl }

-- ---- two lists

pub holds-both : (s t : Span VersionValue) (v : VersionValue) → holds precedence (both s t) v ≡ (holds precedence s v && holds precedence t v)
holds-both s t v =
    rw (is_past-greater_lower precedence_total s.lower t.lower v, is_past-lesser_upper precedence_total s.upper t.upper v)
    (crossed (is_past precedence (lower_cut s.lower) v) (is_past precedence (lower_cut t.lower) v) (is_past precedence (upper_cut s.upper) v)
    (is_past precedence (upper_cut t.upper) v))
  where
    crossed : (a b c d : Bool) → ((a && b) && not (c || d)) ≡ ((a && not c) && (b && not d))
    crossed a b c d = grind arith

pub lets_in-both : (s t : Span VersionValue) (v : VersionValue) → holds precedence s v ≡ true → holds precedence t v ≡ true
    → lets_in (both s t) v ≡ (lets_in s v || lets_in t v)
lets_in-both s t v h k = both_ways _ _ (lets_in_one s t v) (lets_in-meet s t v h k)

gt_trans : (a b c : Cut VersionValue) → is_gt (cut_cmp precedence a b) ≡ true → is_gt (cut_cmp precedence b c) ≡ true
    → is_gt (cut_cmp precedence a c) ≡ true
gt_trans a b c p q = gt_lt precedence_total a c ∙ lt_trans precedence_total c b a (sym (gt_lt precedence_total b c) ∙ q) (sym (gt_lt precedence_total a b) ∙ p)

-- of three bounds it does not matter which two are compared first, be it for the greater one or for the lesser one
of_three : {A B : Type 0} (is_above : B → B → Bool) (cut : A → B) → ((x y z : B) → is_above x y ≡ true → is_above y z ≡ true → is_above x z ≡ true)
    → ((x y z : B) → is_above x y ≡ false → is_above y z ≡ false → is_above x z ≡ false) → (b c d : A)
    → (let greater = λ (x y : A). if is_above (cut x) (cut y) then x else y in greater b (greater c d) ≡ greater (greater b c) d)
    × (let lesser = λ (x y : A). if is_above (cut x) (cut y) then y else x in lesser b (lesser c d) ≡ lesser (lesser b c) d)
of_three is_above cut f g b c d =
    let on = f (cut b) (cut c) (cut d) in
    let off = g (cut b) (cut c) (cut d) in
    (grind arith, grind arith)

both-both : (s t u : Span VersionValue) → both s (both t u) ≡ both (both s t) u
both-both s t u =
    let is_above = λ (x y : Cut VersionValue). is_gt (cut_cmp precedence x y) in
    let lower = of_three is_above lower_cut gt_trans (upto (cut_total precedence_total)) s.lower t.lower u.lower in
    let upper = of_three is_above upper_cut gt_trans (upto (cut_total precedence_total)) s.upper t.upper u.upper in
    rw (lower.0, upper.1) refl

common-append : (ss ts : List (Span VersionValue)) → common (ss ++ ts) ≡ both (common ss) (common ts)
common-append [] ts = grind arith
common-append (s ∷ ss) ts = ap (λ u. both s u) (common-append ss ts) ∙ both-both s (common ss) (common ts)

no_more : {A : Type 0} (x : A) (a b : Bool) → None ≡ (if (a && (b && false)) then Some x else None)
no_more x a b = grind arith

-- what there is of both is what there is of each
met-interval : (s t : Span VersionValue) → met (interval precedence s) (interval precedence t) ≡ interval precedence (both s t)
met-interval s t = elim (cases_Bool (is_interval precedence s)) [
  | inr p ↦ rw (between precedence_total s.lower t.lower s.upper t.upper, p) refl
  | inl p ↦ elim (cases_Bool (is_interval precedence t)) [
    | inr q ↦ rw (between precedence_total s.lower t.lower s.upper t.upper, p, q) (no_more (both s t) _ _)
    | inl q ↦ rw (p, q) refl
  ]
]

-- the interval of such a span
pub narrowed : (include : Bool) (cs : List Comparison) (s : Span VersionValue) → IsCommon include cs s → IsNarrowed include cs (interval precedence s)
narrowed include cs s h = record { span = s; has = h; is = refl }

module _ (include : Bool) (cs ds : List Comparison) where
  common-both : common_in include (cs ++ ds) ≡ both (common_in include cs) (common_in include ds)
  common-both = ap (λ l. common (map satisfying l)) (filter-append (counts include) cs ds)
      ∙ ap (λ l. common l) (map-append satisfying (counted include cs) (counted include ds))
      ∙ common-append (map satisfying (counted include cs)) (map satisfying (counted include ds))

  pub both_common : (s t : Span VersionValue) → IsCommon include cs s → IsCommon include ds t → IsCommon include (cs ++ ds) (both s t)
  both_common s t h k = record {
    is = ap₂ both h.is k.is ∙ sym common-both;
    lower = grind (arith, h.lower, k.lower);
    upper = grind (arith, h.upper, k.upper);
  }

  -- the bounds of more comparators, which may be no interval
  pub met_common : (o m : Option (Span VersionValue)) → IsNarrowed include cs o → IsNarrowed include ds m → IsNarrowed include (cs ++ ds) (met o m)
  met_common o m h k = record {
    span = both h.span k.span;
    has = both_common h.span k.span h.has k.has;
    is = ap₂ met h.is k.is ∙ met-interval h.span k.span;
  }

zero_of : (v : VersionValue) → IsVersion v → bytes_eq (unbuilt at_least v).text (codes "0.0.0") ≡ is_zero (no_build v)
zero_of v h = prints_zero (no_build v) h.major h.minor h.patch

-- the versions whose bounds are read
pub whole_readable : (v : VersionValue) → within (first (whole v)) ≡ true → are_normal (whole v) ≡ true → is_readable MAX_SAFE_INTEGER v ≡ true
whole_readable v h k = grind arith

-- `>=` of a version, whose numbers may be written otherwise
module _ (include padded : Bool) (v : VersionValue) where
  abbrev low : Comparison
  low = unbuilt at_least v

  abbrev Reads : Span VersionValue → Comparison → Type 0
  Reads s c = IsCommon include (c ∷ []) s

  pub from_none : include ≡ false → padded ≡ false → IsVersion v → is_zero (no_build v) ≡ true → Reads everything (noted padded low)
  from_none i p h e = rw p (uncounted_common include low (rw i (ap not (zero_of v h ∙ e))))

  pub from_some : within (first (whole v)) ≡ true → are_normal (whole v) ≡ true
      → (include ≡ true) ⊎ (padded ≡ true) ⊎ (IsVersion v × (is_zero (no_build v) ≡ false)) → Reads (Spans.>= v) (noted padded low)
  from_some w n some =
      let reads = λ (text : List ℕ). one_common include at_least v text (whole_readable v w n) in
      let padded_reads = reads (codes "00.0.0") in
      let plain_reads = reads low.text in
      grind (arith, nat_tests, common_steps, zero_of)

pub noted_valid : (padded : Bool) (c : Comparison) → is_valid MAX_SAFE_INTEGER (noted padded c) ≡ is_valid MAX_SAFE_INTEGER c
noted_valid padded c = grind (arith, nat_tests, common_steps, bytes_eq-Decides)

pub ruleset lower_ends = (from_none, from_some)

pub ruleset noted_from = (noted_valid, from_valid)

pub under_common : (include : Bool) (n : Numbers) → within n ≡ true → IsCommon include (under n ∷ []) (Spans.< (lowest n))
under_common include n w = one_common include below (lowest n) _ (whole_readable (lowest n) w refl) (or-true include)

pub until_common : (include : Bool) (c : Comparison) (b : Bound VersionValue) (n : Numbers) → within n ≡ true
    → IsCommon include (c ∷ []) (record { lower = b; upper = Unbounded })
    → IsCommon include (c ∷ (under n ∷ [])) (record { lower = b; upper = Before (lowest n) })
until_common include c b n w h =
    let both = both_common include (c ∷ []) (under n ∷ []) _ _ h (under_common include n w) in grind arith

pub until_valid : (c : Comparison) (n : Numbers) → is_valid MAX_SAFE_INTEGER c ≡ true → within n ≡ true
    → list_all (is_valid MAX_SAFE_INTEGER) (c ∷ (under n ∷ [])) ≡ true
until_valid c n h k = rw (h, under_valid n, k) refl

pub under_read : (include : Bool) (n : Numbers) (s : Span VersionValue) → within n ≡ true → s ≡ Spans.< (lowest n)
    → (list_all (is_valid MAX_SAFE_INTEGER) (under n ∷ []) ≡ true) × IsCommon include (under n ∷ []) s
under_read include n s h e = (rw (under_valid n, h) refl, rw e (under_common include n h))

-- ---- the rows of a partial of one number or two

module _ (include padded : Bool) (text : List ℕ) (p : Partial) (a b : Numbers) (r : Option Bounds) (i : is_part p ≡ true) (e : a ≡ first p) where
  abbrev Row : Sign → Type 0
  Row s = AreRead include (table include s p text) r

  abbrev Until : Bool → List Comparison → Type 0
  Until from_include ds = AreRead include (noted padded (from from_include a) ∷ ds) r

  pub part_equal : padded ≡ is_padded (written_zeros text) p → b ≡ next p → Until include (under b ∷ []) → Row (compared equal)
  part_equal k f h = grind arith

  pub part_caret : (z : ℕ) → AreZeros p z text → padded ≡ is_padded z p → b ≡ next_changed z p → Until include (under b ∷ []) → Row caret
  part_caret z l k f h = grind arith

  pub part_tilde : padded ≡ is_padded (written_zeros text) p → b ≡ next p → Until false (under b ∷ []) → Row tilde
  part_tilde k f h = grind arith

  pub part_below : AreRead include (under a ∷ []) r → Row (compared below)
  part_below h = grind arith

  pub part_at_most : b ≡ next p → AreRead include (under b ∷ []) r → Row (compared at_most)
  part_at_most f h = grind arith

-- ---- the rows of a whole version

pub caret_valid : (include : Bool) (z : ℕ) (v : VersionValue) → within (first (whole v)) ≡ true
    → nat_le (length (version_text (no_build v))) MAX_LENGTH ≡ true → is_valid MAX_SAFE_INTEGER (caret_from include z v) ≡ true
caret_valid include z v w l = grind (arith, noted_valid (is_padded z (whole v)) (unbuilt at_least v), from_valid true (first (whole v)))

pub whole_caret : (include : Bool) (z : ℕ) (text : List ℕ) (v : VersionValue) (n : Numbers) (r : Option Bounds) → n ≡ next_changed z (whole v)
    → AreZeros (whole v) z text → AreRead include (caret_from include z v ∷ (under n ∷ [])) r → AreRead include (table include caret (whole v) text) r
whole_caret include z text v n r f k h = rw (f, k refl) at h
