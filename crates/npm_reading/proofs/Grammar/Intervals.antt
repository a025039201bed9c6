-- The intervals of alternatives accept what the alternatives do.
use Rattle.nodejs_semver.proofs.Common.{Beside, Bool, IsUtf8, List, MAX_SAFE_INTEGER, None, Option, Some, Span, VersionValue, [], accepts, and_parts}
use Rattle.nodejs_semver.proofs.Common.{any_version, any_weaker, ap, arith, common_steps, cond_both, false, holds, if◌then◌else◌, interval, is_empty}
use Rattle.nodejs_semver.proofs.Common.{is_interval, is_past, is_release, lets_in, list_all, list_any, map, nat_tests, not, option_to_list}
use Rattle.{nodejs_semver.proofs.Common.{precedence, refl, sym, true, ℕ, ◌&&◌, ◌||◌, ◌∙◌, ◌∷◌, ◌≡◌}, npm_reading.specs.Internal.Alternatives.nothing}
use Rattle.npm_reading.specs.{Internal.{Alternatives.ranged, Reads.AreFound}, Ranges.{IsRangeIn, intervals_in}, Readings.{OfAccepted, ReadText}}
use Rattle.npm_words.proofs.Common.{Comparison, IsNarrowed, Ordering, above, ap₂, at_least, at_most, below, counted, counts, equal, greater_lower}
use Rattle.npm_words.proofs.Common.{is_eq, is_ge, is_gt, is_le, is_lt, is_unbounded, lesser_upper, meets, option_holds-interval, precedence_total}
use Rattle.npm_words.proofs.{Common.satisfies, Grammar.{AlternativeLaw.alternatives_once, Rows.{holds-both, lets_in-both}}}
use Rattle.npm_words.specs.{Alternatives.{common, interval_in, names, satisfying}, Internal.Meaning.is_open, Table.lowest}
use Rattle.semver_core.{proofs.Gate.{both, past-after, past-before}, specs.{Text.Comparators.Comparator, declared.cuts.bound.Bound.Bound}}
use Rattle.std.specs.List.{filter_map}
use Rattle.npm_words.specs.Alternatives as Npm

-- ---- one comparator

abbrev comparison : Comparator → VersionValue → List ℕ → Comparison
comparison c w text = record { sign = c; version = w; text = text }

tests : (r : Ordering) → (not (is_ge r) ≡ is_lt r) × (not (is_gt r) ≡ is_le r) × ((is_ge r && not (is_gt r)) ≡ is_eq r)
tests r = grind arith

holds-compared : (c : Comparator) (w : VersionValue) (text : List ℕ) (v : VersionValue)
    → holds precedence (satisfying (comparison c w text)) v ≡ satisfies v (comparison c w text)
holds-compared at_least w text v = grind (arith, past-before)
holds-compared above w text v = grind (arith, past-after)
holds-compared equal w text v = grind (arith, nat_tests, common_steps, ap₂, not, past-before, past-after, tests)
holds-compared at_most w text v = ap not (past-after w v) ∙ (tests (precedence v w)).1
holds-compared below w text v = ap not (past-before w v) ∙ (tests (precedence v w)).0

lets_in-compared : (c : Comparator) (w : VersionValue) (text : List ℕ) (v : VersionValue)
    → lets_in (satisfying (comparison c w text)) v ≡ (is_release v || names v (comparison c w text))
lets_in-compared c w text v = grind (arith, nat_tests, common_steps)

-- ---- the comparators of an alternative

-- what they have in common
abbrev shared : List Comparison → Span VersionValue
shared cs = common (map satisfying cs)

held : (cs : List Comparison) (v : VersionValue) → holds precedence (shared cs) v ≡ list_all (satisfies v) cs
held [] v = refl
held (c ∷ cs) v = holds-both (satisfying c) (shared cs) v
    ∙ ap₂ (λ (a b : Bool). a && b) (holds-compared c.sign c.version c.text v) (held cs v)

let_in : (cs : List Comparison) (v : VersionValue) → holds precedence (shared cs) v ≡ true
    → lets_in (shared cs) v ≡ (is_release v || list_any (names v) cs)
let_in [] v h = refl
let_in (c ∷ cs) v h =
    let (a, b) = and_parts _ _ (sym (holds-both (satisfying c) (shared cs) v) ∙ h) in
    grind (arith, lets_in-both (satisfying c) (shared cs) v a b, lets_in-compared c.sign c.version c.text v, let_in cs v b)

-- the span holds v, and lets it in or pre-releases are included
abbrev lets : Bool → VersionValue → Span VersionValue → Bool
lets include v s = holds precedence s v && (include || lets_in s v)

shared_accepts : (include : Bool) (v : VersionValue) (cs : List Comparison)
    → list_any (lets include v) (option_to_list (interval precedence (shared cs))) ≡ meets include v cs
shared_accepts include v cs = cond_both (is_interval precedence (shared cs)) (Some (shared cs)) None
    (λ o. list_any (lets include v) (option_to_list o) ≡ meets include v cs) (λ _. grind (arith, held cs v, let_in cs v))
    (λ i. grind (arith, i, held cs v, option_holds-interval precedence_total (shared cs) v))

-- ---- an alternative without bounds

opened : (b c : Bound VersionValue) → (is_open (greater_lower precedence b c) ≡ (is_open b && is_open c))
    × (is_open (lesser_upper precedence b c) ≡ (is_open b && is_open c))
opened b c = (grind arith, grind arith)

both-bound : (s t : Span VersionValue) → is_unbounded s ≡ false → is_unbounded (both s t) ≡ false
both-bound s t h = grind (arith, opened)

shared_open : (cs : List Comparison) → list_any is_unbounded (option_to_list (interval precedence (shared cs))) ≡ is_empty cs
shared_open [] = refl
shared_open (c ∷ cs) =
    let s = shared (c ∷ cs) in
    let bound = both-bound (satisfying c) (shared cs) (grind arith) in
    cond_both (is_interval precedence s) (Some s) None (λ o. list_any is_unbounded (option_to_list o) ≡ false) (λ _. rw bound refl) (λ _. refl)

counted-none : (include : Bool) (cs : List Comparison) → is_empty (counted include cs) ≡ not (list_any (counts include) cs)
counted-none include [] = refl
counted-none include (c ∷ cs) = grind (arith, nat_tests, common_steps, counted-none include cs)

-- ---- the alternatives

-- a test of the intervals that each of them passes where its alternative passes another
any-intervals : (include : Bool) (p : Span VersionValue → Bool) (q : List Comparison → Bool)
    → ((cs : List Comparison) → list_any p (option_to_list (interval_in include cs)) ≡ q cs) → (alternatives : List (List Comparison))
    → list_any p (filter_map (interval_in include) alternatives) ≡ list_any q alternatives
any-intervals include p q f [] = refl
any-intervals include p q f (cs ∷ rest) = grind (arith, nat_tests, f cs, any-intervals include p q f rest)

least : (v : VersionValue) → is_past precedence (Beside (lowest (0, 0, 0)) false) v ≡ true
least v = (grind arith)

-- what an alternative without comparators accepts
open_meets : (v : VersionValue) (cs : List Comparison) → not (list_any (counts true) cs) ≡ true → meets true v (counted true cs) ≡ true
open_meets v [] h = grind arith
open_meets v (c ∷ cs) h = let e : false ≡ true = h in cc e

open_accepts : (include : Bool) (v : VersionValue) (alternatives : List (List Comparison))
    → list_any (λ cs. not (list_any (counts include) cs)) alternatives ≡ true
    → accepts any_version v include ≡ Npm.accepts include alternatives v
open_accepts include v alternatives h = grind (arith, any_weaker _ (λ cs. meets true v (counted true cs)) (open_meets v) alternatives)

none_or_some : (ss : List (Span VersionValue)) (v : VersionValue) (include : Bool)
    → accepts (if is_empty ss then nothing ∷ [] else ss) v include ≡ accepts ss v include
none_or_some ss v include = grind (arith, least v)

pub intervals_accept : (include : Bool) (alternatives : List (List Comparison)) (v : VersionValue)
    → accepts (intervals_in include alternatives) v include ≡ Npm.accepts include alternatives v
intervals_accept include alternatives v =
    let same = any-intervals include (lets include v) (λ cs. meets include v (counted include cs))
    (λ cs. shared_accepts include v (counted include cs)) alternatives in
    grind (arith, same, open_accepts, none_or_some)

-- ---- the range of a text

pub range_accepts : (loose : Bool) (limit : ℕ) (include : Bool) (text : List ℕ) (range : List (Span VersionValue))
    (h : IsRangeIn loose limit include text range) (v : VersionValue) → accepts range v include ≡ Npm.accepts include h.alternatives v
range_accepts loose limit include text range h v = ap (λ l. accepts l v include) h.is ∙ intervals_accept include h.alternatives v

pub range_once : (loose : Bool) (limit : ℕ) (include : Bool) (text : List ℕ) (a b : List (Span VersionValue)) → IsUtf8 text
    → IsRangeIn loose limit include text a → IsRangeIn loose limit include text b → a ≡ b
range_once loose limit include text a b u h k =
    h.is ∙ ap (λ l. intervals_in include l) (alternatives_once loose limit include text h.alternatives k.alternatives u h.has k.has) ∙ sym k.is

-- asked by how its text was read
pub read_accepts : (r : ReadText) (range : List (Span VersionValue))
    → IsRangeIn r.reading.loose MAX_SAFE_INTEGER r.reading.include_prerelease r.text range
    → OfAccepted MAX_SAFE_INTEGER r (λ accepted. (v : VersionValue) → accepts range v r.reading.include_prerelease ≡ accepted v)
read_accepts r range h = record { alternatives = h.alternatives; has = h.has; holds = λ v. range_accepts _ _ _ _ _ h v }

-- as it is found
pub narrowed-interval : (include : Bool) (cs : List Comparison) (o : Option (Span VersionValue)) → IsNarrowed include cs o → o ≡ interval_in include cs
narrowed-interval include cs o h = h.is ∙ ap (λ s. interval precedence s) h.has.is

pub ranged-found : (include : Bool) (alternatives : List (List Comparison)) (found : List (Span VersionValue)) → AreFound include alternatives found
    → ranged found ≡ intervals_in include alternatives
ranged-found include alternatives found h = rw (
  h.are,
  any-intervals include is_unbounded (λ cs. not (list_any (counts include) cs))
      (λ cs. shared_open (counted include cs) ∙ counted-none include cs) alternatives,
) refl
