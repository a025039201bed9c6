-- The interval of one span accepts the versions of the span.
use Rattle.std.proofs.Common.{ℕ, ◌≡◌, ◌<◌, ◌^◌, ◌+◌, ◌-◌, ◌&&◌, ◌||◌, List, Bool, true, false, not, refl, ap, arith, ◌∙◌, sym, subst, true≢false, inl, inr}
use Rattle.std.proofs.lemmas.Bool.{and_from, lt-ltb, not-true, or_left}
use Rattle.std.proofs.Math.Bool.{and-false, and-true}
use borrow.Author.Tests.{ltb-true}
use Rattle.std.specs.Cmp.{Equal-is, tied_itself}
use Rattle.std.specs.Cmp.Lexicographic.{nat_list_cmp_total, slice_cmp}
use Rattle.std.specs.Ordering.{is_eq, nat_cmp}
use Rattle.std.specs.Prelude.{None, Option, Some, if◌then◌else◌, nat_lt}
use Rattle.semver_core.proofs.CutLaws.{option_holds-interval}
use Rattle.semver_core.proofs.Encoding.Order.{key_cmp}
use Rattle.semver_core.specs.Cuts as cuts
use Rattle.semver_core.specs.Cuts.{Span, interval, is_interval, option_holds}
use Rattle.semver_core.specs.Internal.OrderLaws.{precedence_total, same_key}
use Rattle.semver_core.specs.Keys.{key}
use Rattle.semver_core.specs.Values.Gate.{lets_in}
use Rattle.semver_core.specs.Values.Order.{precedence}
use Rattle.semver_core.specs.Values.Versions.{IsVersion, VersionValue, is_release, lowest, release_value}
use Rattle.semver_core.specs.declared.TheConstants.{MAX_SAFE_INTEGER}
use Rattle.semver_core.specs.declared.cuts.bound.Bound.TheVariants.{Unbounded, Before, After}
use Rattle.key_spans.specs.Internal.Places.{IsEnd, end_key, lowest_key, next_numbers, numbers_place, release_key, release_place, version_place}
use Rattle.key_spans.specs.Ranges.{IsKeyOf, IsStop, bound_at, have_one_triple, interval_of, is_next}
use Rattle.key_spans.specs.Spans.{AreEnds, begins, ends_in_3, stops}
use Rattle.key_spans.proofs.AllVersions as all
use Rattle.key_spans.proofs.AllVersions.{lowest_is}
use Rattle.key_spans.proofs.Bytes.{same_bytes}
use Rattle.key_spans.proofs.Canonical.{false_not_true, release_last, upto_last}
use Rattle.key_spans.proofs.Keys as of_keys
use Rattle.key_spans.proofs.Keys.{key_end, le, lt, same}
use Rattle.key_spans.proofs.Line as line
use Rattle.key_spans.proofs.Line.{and_first, and_second, by_bool, false_true}
use Rattle.key_spans.proofs.OnePreList.{Three, first_key, inside, is_inside, last_key, same_from, three_from}
use Rattle.key_spans.proofs.Releases as releases
use Rattle.key_spans.proofs.Releases.{below_end, release_is}

-- ---- versions with one key

pub same_parts : (v w : VersionValue) → IsVersion v → IsVersion w → key v ≡ key w
    → (v.major ≡ w.major) × (v.minor ≡ w.minor) × (v.patch ≡ w.patch) × (v.pre_release ≡ w.pre_release)
same_parts v w h k e = same_key v w (sym (key_cmp v w h k)
    ∙ (ap (λ l. slice_cmp nat_cmp l (key w)) e ∙ tied_itself nat_list_cmp_total (key w)))

three_of : (v w : VersionValue) → IsVersion v → IsVersion w → key v ≡ key w → Three v w
three_of v w h k e = let p = same_parts v w h k e in record { major = p.0; minor = p.1; patch = p.2 }

pub release_of : (v w : VersionValue) → key v ≡ key w → is_release v ≡ is_release w
release_of v w e = sym (key_end v) ∙ (ap ends_in_3 e ∙ key_end w)

pub not_end : (v : VersionValue) → IsVersion v → key v ≡ end_key → {C : Type 0} → C
not_end v h e = false_true (lt end_key end_key) refl (ap (λ l. lt l end_key) (sym e) ∙ below_end v h)

-- ---- the place of a bound

back : (p : ℕ) → MAX_SAFE_INTEGER < p → p - 1 + 1 ≡ p
back p h = omega arith

next_of : (M m p : ℕ) → MAX_SAFE_INTEGER < p → p < 2 ^ 64 → next_numbers (release_value M m (p - 1)) ≡ Some (M, m, p)
next_of M m p h k =
    let e : p - 1 + 1 ≡ p = back p h in
    let t : nat_lt p (2 ^ 64) ≡ true = lt-ltb p (2 ^ 64) k in
    rw (e, t) refl

before_is : (v : VersionValue) → IsVersion v → IsVersion (release_value v.major v.minor (v.patch - 1))
before_is v h = release_is v.major v.minor (v.patch - 1) h.major h.minor (let u = h.patch in omega arith)

end_by : (t : Bool) (v : VersionValue) → IsVersion v → IsEnd (if t then After (release_value v.major v.minor (v.patch - 1)) else Before v)
end_by true v h = before_is v h
end_by false v h = h

pub bound_end : (n : Bool) (v : VersionValue) → IsVersion v → IsEnd (bound_at n v)
bound_end n v h = end_by (n && nat_lt MAX_SAFE_INTEGER v.patch) v h

-- the least version of its numbers
lowest_of : (v : VersionValue) → IsVersion v → is_eq (precedence v (lowest v.major v.minor v.patch)) ≡ true
    → lowest_key v.major v.minor v.patch ≡ key v
lowest_of v h e = sym (same_bytes (key v) (lowest_key v.major v.minor v.patch)
    (key_cmp v _ h (lowest_is v.major v.minor v.patch h.major h.minor h.patch) ∙ (Equal-is (precedence v (lowest v.major v.minor v.patch))).0 e))

any_by : (t : Bool) (v : VersionValue) (none : List ℕ) → IsVersion v
    → (t ≡ true → (lowest_key v.major v.minor v.patch ≡ key v) × (MAX_SAFE_INTEGER < v.patch))
    → version_place (if t then After (release_value v.major v.minor (v.patch - 1)) else Before v) none ≡ key v
any_by true v none h g = ap (numbers_place lowest_key) (next_of v.major v.minor v.patch (g refl).1 h.patch) ∙ (g refl).0
any_by false v none h g = refl

release_by : (t : Bool) (v : VersionValue) (none : List ℕ) → IsVersion v → is_release v ≡ true
    → (t ≡ true → MAX_SAFE_INTEGER < v.patch)
    → release_place (if t then After (release_value v.major v.minor (v.patch - 1)) else Before v) none ≡ key v
release_by true v none h r g = ap (numbers_place release_key) (next_of v.major v.minor v.patch (g refl) h.patch) ∙ sym (release_last v r)
release_by false v none h r g = sym (release_last v r)

any_place : (apart : Bool) (v : VersionValue) (none : List ℕ) → IsVersion v → version_place (bound_at (is_next false apart v) v) none ≡ key v
any_place apart v none h =
    let lowest_is : Bool = apart && is_eq (precedence v (lowest v.major v.minor v.patch)) in
    any_by (lowest_is && nat_lt MAX_SAFE_INTEGER v.patch) v none h
    (λ e. (
      lowest_of v h (and_second apart _ (and_first lowest_is _ e)),
      ltb-true MAX_SAFE_INTEGER v.patch (and_second lowest_is (nat_lt MAX_SAFE_INTEGER v.patch) e),
    ))

release_place_of : (apart : Bool) (v : VersionValue) (none : List ℕ) → IsVersion v → is_release v ≡ true
    → release_place (bound_at (is_next true apart v) v) none ≡ key v
release_place_of apart v none h r = release_by (nat_lt MAX_SAFE_INTEGER v.patch) v none h r (λ e. ltb-true MAX_SAFE_INTEGER v.patch e)

-- ---- what the ends of a span say of the versions whose keys they are

abbrev pub StopsAt : (include flag : Bool) → VersionValue → Option VersionValue → Type 0
StopsAt include flag f None = (include || flag) ≡ true
StopsAt include flag f (Some w) = stops include flag f w ≡ true

begin_by : (include flag a b : Bool) → a ≡ b → (if include then not flag else (if flag then a else not a)) ≡ true
    → (if include then not flag else (if flag then b else not b)) ≡ true
begin_by include flag a b e h = subst (λ c. (if include then not flag else (if flag then c else not c)) ≡ true) e h

pub begins_so : (include flag : Bool) (start stop : List ℕ) (f : VersionValue) → AreEnds include flag start stop → IsKeyOf start f
    → begins include flag f ≡ true
begins_so include flag start stop f h g = begin_by include flag (is_release h.first) (is_release f)
    (release_of h.first f (sym h.at_first ∙ sym g.is_key)) h.fits_first

stop_by : (include flag : Bool) (f w u x : VersionValue) → Three u f → Three x w → is_release x ≡ is_release w
    → stops include flag u x ≡ true → stops include flag f w ≡ true
stop_by true flag f w u x a b r h = refl
stop_by false true f w u x a b r h = sym r ∙ h
stop_by false false f w u x a b r h =
    let own : Three u x = three_from u x h in
    same_from f w (record {
      major = sym a.major ∙ (own.major ∙ b.major);
      minor = sym a.minor ∙ (own.minor ∙ b.minor);
      patch = sym a.patch ∙ (own.patch ∙ b.patch);
    })

pub stops_so : (include flag : Bool) (start stop : List ℕ) (f : VersionValue) (last : Option VersionValue) → AreEnds include flag start stop
    → IsKeyOf start f → IsStop stop last → StopsAt include flag f last
stops_so include flag start stop f None h g k = elim h.at_last [
  | inl u ↦ not_end u.0 u.1 (sym u.2 ∙ k)
  | inr u ↦ u.1
]
stops_so include flag start stop f (Some w) h g k = elim h.at_last [
  | inl u ↦ stop_by include flag f w h.first u.0
      (three_of h.first f h.is_version g.is_version (sym h.at_first ∙ sym g.is_key))
      (three_of u.0 w u.1 k.is_version (sym u.2 ∙ sym k.is_key))
      (release_of u.0 w (sym u.2 ∙ sym k.is_key)) u.3
  | inr u ↦ not_end w k.is_version (k.is_key ∙ u.0)
]

-- ---- what the interval holds

abbrev pub in_bytes : (flag : Bool) → (start stop k : List ℕ) → Bool
in_bytes flag start stop k = (le start k && lt k stop) && (not flag || ends_in_3 k)

abbrev pub accepts_one : Span VersionValue → VersionValue → Bool → Bool
accepts_one s v include = cuts.holds precedence s v && (include || lets_in s v)

-- all versions
all_held : (start stop : List ℕ) (f : VersionValue) (last : Option VersionValue) → IsKeyOf start f → IsStop stop last
    → (v : VersionValue) → IsVersion v → cuts.holds precedence (interval_of false f last) v ≡ (le start (key v) && lt (key v) stop)
all_held start stop f None g k v h =
    let low = any_place true f (lowest_key 0 0 0) g.is_version ∙ g.is_key in
    λ i. (sym (all.lower_past (bound_at (is_next false true f) f) v (bound_end (is_next false true f) f g.is_version) h) ∙ ap (λ l. le l (key v)) low) i
    && (sym (all.upper_past Unbounded v tt h) ∙ ap (λ l. lt (key v) l) (sym k)) i
all_held start stop f (Some w) g k v h =
    let apart : Bool = not (have_one_triple f w) in
    let low = any_place apart f (lowest_key 0 0 0) g.is_version ∙ g.is_key in
    let high = any_place apart w end_key k.is_version ∙ k.is_key in
    λ i. (sym (all.lower_past (bound_at (is_next false apart f) f) v (bound_end (is_next false apart f) f g.is_version) h) ∙ ap (λ l. le l (key v)) low) i
    && (sym (all.upper_past (bound_at (is_next false apart w) w) v (bound_end (is_next false apart w) w k.is_version) h) ∙ ap (λ l. lt (key v) l) high) i

-- releases
releases_held : (start stop : List ℕ) (f : VersionValue) (last : Option VersionValue) → IsKeyOf start f → IsStop stop last
    → is_release f ≡ true → StopsAt false true f last → (v : VersionValue) → IsVersion v → is_release v ≡ true
    → cuts.holds precedence (interval_of true f last) v ≡ (le start (key v) && lt (key v) stop)
releases_held start stop f None g k r t v h e =
    let low = release_place_of true f (release_key 0 0 0) g.is_version r ∙ g.is_key in
    λ i. (sym (releases.lower_past (bound_at (is_next true true f) f) v (bound_end (is_next true true f) f g.is_version) h e) ∙ ap (λ l. le l (key v)) low) i
    && (sym (releases.upper_past Unbounded v tt h e) ∙ ap (λ l. lt (key v) l) (sym k)) i
releases_held start stop f (Some w) g k r t v h e =
    let apart : Bool = not (have_one_triple f w) in
    let low = release_place_of apart f (release_key 0 0 0) g.is_version r ∙ g.is_key in
    let high = release_place_of apart w end_key k.is_version t ∙ k.is_key in
    λ i. (sym (releases.lower_past (bound_at (is_next true apart f) f) v (bound_end (is_next true apart f) f g.is_version) h e) ∙ ap (λ l. le l (key v)) low) i
    && (sym (releases.upper_past (bound_at (is_next true apart w) w) v (bound_end (is_next true apart w) w k.is_version) h e) ∙ ap (λ l. lt (key v) l) high) i

-- ---- the gate

-- a bound at a release lets in no pre-release
passes_by : (t : Bool) (w v : VersionValue) → is_release w ≡ true
    → cuts.passes (λ u. not (is_release u) && same u v) (if t then After (release_value w.major w.minor (w.patch - 1)) else Before w) ≡ false
passes_by true w v r = refl
passes_by false w v r = ap (λ b. not b && same w v) r

none_by : (a b c : Bool) → a ≡ false → b ≡ false → c ≡ false → (a || (b || c)) ≡ false
none_by a b c h g f = λ i. h i || (g i || f i)

lets_in_none : (f : VersionValue) (last : Option VersionValue) → is_release f ≡ true → StopsAt false true f last
    → (v : VersionValue) → is_release v ≡ false → lets_in (interval_of true f last) v ≡ false
lets_in_none f None r t v e = none_by (is_release v) _ _ e (passes_by (nat_lt MAX_SAFE_INTEGER f.patch) f v r) refl
lets_in_none f (Some w) r t v e = none_by (is_release v) _ _ e (passes_by (nat_lt MAX_SAFE_INTEGER f.patch) f v r)
    (passes_by (nat_lt MAX_SAFE_INTEGER w.patch) w v t)

-- what lies between two versions of the same numbers, the first of them a pre-release, is let in
let_in_own : (f w v : VersionValue) → IsVersion f → IsVersion w → IsVersion v → is_release f ≡ false → Three f w
    → (le (key f) (key v) && lt (key v) (key w)) ≡ true → (not (is_release f) && same f v) ≡ true
let_in_own f w v h k g r t e =
    let own : (le (first_key f) (key f) && lt (key f) (last_key f)) ≡ true = is_inside f f h h r (record { major = refl; minor = refl; patch = refl }) in
    let from : le (first_key f) (key v) ≡ true = line.le_le nat_list_cmp_total (first_key f) (key f) (key v) (and_first _ _ own) (and_first _ _ e) in
    let upto : lt (key v) (last_key f) ≡ true = line.lt_before_le nat_list_cmp_total (key v) (key w) (last_key f)
    (and_second (le (key f) (key v)) _ e) (upto_last f w h k t) in
    and_from _ _ (ap not r) (same_from f v (inside f v h g from upto).1)

-- the interval of pre-releases
abbrev own_span : VersionValue → VersionValue → Span VersionValue
own_span f w = record { lower = Before f; upper = Before w }

pub own_interval : (f w : VersionValue) → have_one_triple f w ≡ true → interval_of false f (Some w) ≡ own_span f w
own_interval f w e = ap (λ b. record { lower = bound_at (is_next false (not b) f) f; upper = bound_at (is_next false (not b) w) w }) e

second_or : (a b c : Bool) → b ≡ true → (a || (b || c)) ≡ true
second_or true b c h = refl
second_or false true c h = refl
second_or false false c h = absurd (true≢false (sym h))

own_exact : (f w : VersionValue) → IsVersion f → IsVersion w → is_release f ≡ false → have_one_triple f w ≡ true
    → (v : VersionValue) → IsVersion v → accepts_one (own_span f w) v false ≡ ((le (key f) (key v) && lt (key v) (key w)) && true)
own_exact f w h k r e v g =
    let here : Bool = le (key f) (key v) && lt (key v) (key w) in
    (λ i. (sym (of_keys.past_key f v h g) i && sym (of_keys.before_key w v k g) i) && lets_in (own_span f w) v)
    ∙ (sym (of_keys.and_stronger here (lets_in (own_span f w) v)
    (λ t. second_or (is_release v) (not (is_release f) && same f v) _ (let_in_own f w v h k g r (three_from f w e) t))) ∙ sym (and-true here))

-- ---- one interval is exact

abbrev OneExact : (include flag : Bool) → (start stop : List ℕ) → VersionValue → Option VersionValue → VersionValue → Type 0
OneExact include flag start stop f last v = accepts_one (interval_of flag f last) v include ≡ in_bytes flag start stop (key v)

release_exact : (start stop : List ℕ) (f : VersionValue) (last : Option VersionValue) → IsKeyOf start f → IsStop stop last
    → is_release f ≡ true → StopsAt false true f last → (v : VersionValue) → IsVersion v → (b : Bool) → is_release v ≡ b
    → OneExact false true start stop f last v
release_exact start stop f last g k r t v h true e =
    let lets : lets_in (interval_of true f last) v ≡ true = or_left (is_release v) _ e in
    (λ i. releases_held start stop f last g k r t v h e i && lets i)
    ∙ ap (λ b. (le start (key v) && lt (key v) stop) && b) (sym (key_end v ∙ e))
release_exact start stop f last g k r t v h false e =
    ap (λ b. cuts.holds precedence (interval_of true f last) v && b) (lets_in_none f last r t v e)
    ∙ (and-false _ ∙ (sym (and-false (le start (key v) && lt (key v) stop))
    ∙ ap (λ b. (le start (key v) && lt (key v) stop) && b) (sym (key_end v ∙ e))))

pub one_exact : (include flag : Bool) (start stop : List ℕ) (f : VersionValue) (last : Option VersionValue) → IsKeyOf start f → IsStop stop last
    → begins include flag f ≡ true → StopsAt include flag f last → (v : VersionValue) → IsVersion v → OneExact include flag start stop f last v
one_exact true true start stop f last g k b t v h = false_not_true b
one_exact true false start stop f last g k b t v h = ap (λ x. x && true) (all_held start stop f last g k v h)
one_exact false true start stop f last g k b t v h = release_exact start stop f last g k b t v h (is_release v) refl
one_exact false false start stop f None g k b t v h = false_not_true t
one_exact false false start stop f (Some w) g k b t v h =
    ap (λ s. accepts_one s v false) (own_interval f w t)
    ∙ (own_exact f w g.is_version k.is_version (not-true _ b) t v h
    ∙ (λ i. (le (g.is_key i) (key v) && lt (key v) (k.is_key i)) && true))

-- ---- its cuts are in order

is_held : (s : Span VersionValue) (v : VersionValue) → cuts.holds precedence s v ≡ true → is_interval precedence s ≡ true
is_held s v h = by_bool (is_interval precedence s) (λ e. e)
    (λ e. false_true (cuts.holds precedence s v) (sym (option_holds-interval precedence_total s v)
    ∙ ap (λ b. option_holds precedence (if b then Some s else None) v) e) h)

flag_by : (include flag : Bool) (f : VersionValue) → begins include flag f ≡ true → (not flag || is_release f) ≡ true
flag_by include false f b = refl
flag_by true true f b = false_not_true b
flag_by false true f b = b

-- the span holds its start
pub first_in_bytes : (include flag : Bool) (start stop : List ℕ) (f : VersionValue) → begins include flag f ≡ true → start ≡ key f
    → lt start stop ≡ true → in_bytes flag start stop start ≡ true
first_in_bytes include flag start stop f b e full = and_from _ _ (and_from _ _ (line.le_itself nat_list_cmp_total start) full)
    (ap (λ x. not flag || x) (ap ends_in_3 e ∙ key_end f) ∙ flag_by include flag f b)

pub one_interval : (include flag : Bool) (start stop : List ℕ) (f : VersionValue) (last : Option VersionValue) → IsKeyOf start f → IsStop stop last
    → begins include flag f ≡ true → StopsAt include flag f last → lt start stop ≡ true
    → is_interval precedence (interval_of flag f last) ≡ true
one_interval include flag start stop f last g k b t full =
    let at : in_bytes flag start stop (key f) ≡ true = ap (in_bytes flag start stop) g.is_key
    ∙ first_in_bytes include flag start stop f b (sym g.is_key) full in
    is_held (interval_of flag f last) f (and_first _ _ (one_exact include flag start stop f last g k b t f g.is_version ∙ at))
