-- Keys in the order of bytes: bounds, releases, and the pre-releases of three numbers.
use Rattle.std.proofs.Common.{ℕ, ◌≡◌, ◌++◌, ◌∷◌, ◌&&◌, List, [], Bool, true, false, not, refl, ap, arith, zero, suc, ◌∙◌, sym, append_assoc, true≢false}
use Rattle.std.proofs.lemmas.Bool.{not-false}
use Rattle.std.specs.Prelude.{All, ◌==◌, if◌then◌else◌}
use Rattle.std.proofs.lemmas.List.Elements.{All-head}
use Rattle.std.specs.Cmp.{nat_cmp_total, unsigned_tied, upto}
use Rattle.std.specs.Cmp.Lexicographic.{nat_list_cmp_total}
use Rattle.std.specs.Ordering.{is_eq, is_le, is_lt, nat_cmp, ordering_reverse, ordering_then}
use Rattle.std.specs.declared.cmp.Ordering.{Ordering}
use Rattle.std.specs.declared.cmp.Ordering.TheVariants.{Less, Equal, Greater}
use Rattle.semver_core.proofs.Encoding.Numbers.{bytes_cmp, cmp_below, number_cmp, number_low, then_assoc}
use Rattle.semver_core.proofs.Encoding.Order.{key_cmp, then_equal}
use Rattle.semver_core.specs.Cuts.{is_past, lower_cut, upper_cut}
use Rattle.semver_core.specs.Internal.KeyReading.{IsLow, low}
use Rattle.semver_core.specs.Keys.{id_key, ids_key, key, number_key, pre_key}
use Rattle.semver_core.specs.Lists.{is_empty}
use Rattle.semver_core.specs.Text.Identifiers.{AlphaNumeric, Id, Numeric}
use Rattle.semver_core.specs.Values.Order.{precedence}
use Rattle.semver_core.specs.Values.Versions.{IsId, IsVersion, VersionValue, is_release, lowest, release_value}
use Rattle.semver_core.specs.declared.cuts.bound.Bound.TheVariants.{Before}
use Rattle.key_spans.specs.Internal.Places.{greater, lesser, lowest_key, release_key}
use Rattle.key_spans.specs.Spans.{ends_in_3}
use Rattle.key_spans.proofs.Line.{gt_le, turned_lt}

-- ---- the order of bytes as a test

abbrev pub le : List ℕ → List ℕ → Bool
le a b = is_le (bytes_cmp a b)

abbrev pub lt : List ℕ → List ℕ → Bool
lt a b = is_lt (bytes_cmp a b)

pub le_trans : (a b c : List ℕ) → le a b ≡ true → le b c ≡ true → le a c ≡ true
le_trans a b c h k = not-false _ (sym (gt_le _) ∙ upto nat_list_cmp_total a b c (gt_le _ ∙ ap not h) (gt_le _ ∙ ap not k))

pub turned_le : (o p : Ordering) → o ≡ ordering_reverse p → is_le o ≡ false → is_le p ≡ true
turned_le o Less e h = refl
turned_le o Equal e h = refl
turned_le o Greater e h = absurd (true≢false (sym (ap is_le e) ∙ h))

pub le_total : (a b : List ℕ) → le a b ≡ false → le b a ≡ true
le_total a b = turned_le _ _ (nat_list_cmp_total.antisymm a b)

pub lt_le : (a b : List ℕ) → lt a b ≡ not (le b a)
lt_le a b = turned_lt _ _ (nat_list_cmp_total.antisymm a b)

pub and_weaker : (x y : Bool) → (y ≡ true → x ≡ true) → y ≡ (x && y)
and_weaker true y h = refl
and_weaker false true h = sym (h refl)
and_weaker false false h = refl

pub and_stronger : (x y : Bool) → (x ≡ true → y ≡ true) → x ≡ (x && y)
and_stronger true y h = sym (h refl)
and_stronger false y h = refl

pub nor_weaker : (x y : Bool) → (y ≡ true → x ≡ true) → not x ≡ (not x && not y)
nor_weaker true y h = refl
nor_weaker false true h = cc (h refl)
nor_weaker false false h = refl

pub nor_stronger : (x y : Bool) → (x ≡ true → y ≡ true) → not y ≡ (not x && not y)
nor_stronger true true h = refl
nor_stronger true false h = cc (h refl)
nor_stronger false y h = refl

pub greater_by : (t : Bool) (a b k : List ℕ) → le a b ≡ t → le (if t then b else a) k ≡ (le a k && le b k)
greater_by true a b k e = and_weaker (le a k) (le b k) (le_trans a b k e)
greater_by false a b k e = and_stronger (le a k) (le b k) (le_trans b a k (le_total a b e))

-- not below the greater of two starts: not below either
pub greater_le : (a b k : List ℕ) → le (greater a b) k ≡ (le a k && le b k)
greater_le a b k = greater_by (le a b) a b k refl

pub lesser_by : (t : Bool) (a b k : List ℕ) → le a b ≡ t → not (le (if t then a else b) k) ≡ (not (le a k) && not (le b k))
lesser_by true a b k e = nor_weaker (le a k) (le b k) (le_trans a b k e)
lesser_by false a b k e = nor_stronger (le a k) (le b k) (le_trans b a k (le_total a b e))

pub lesser_lt : (a b k : List ℕ) → lt k (lesser a b) ≡ (lt k a && lt k b)
lesser_lt a b k = lt_le k (lesser a b) ∙ (lesser_by (le a b) a b k refl ∙ sym (λ i. lt_le k a i && lt_le k b i))

-- ---- the bytes of a bound

pub empty_least : (k : List ℕ) → le [] k ≡ true
empty_least [] = refl
empty_least (c ∷ k) = refl

pub key_low : (v : VersionValue) → IsVersion v → IsLow (key v)
key_low v h = number_low v.major _ h.major

pub past_key : (w v : VersionValue) → IsVersion w → IsVersion v → le (key w) (key v) ≡ is_past precedence (lower_cut (Before w)) v
past_key w v g h = ap is_le (key_cmp w v g h ∙ sym (then_equal (precedence w v)))

pub before_key : (w v : VersionValue) → IsVersion w → IsVersion v → lt (key v) (key w) ≡ not (is_past precedence (upper_cut (Before w)) v)
before_key w v g h = lt_le (key v) (key w) ∙ ap not (past_key w v g h)

-- ---- the key of a release

pub ends_behind : (xs ys : List ℕ) → IsLow ys → ends_in_3 (xs ++ ys) ≡ ends_in_3 ys
ends_behind [] ys h = refl
ends_behind (x ∷ []) _ (low c rest h) = refl
ends_behind (x ∷ y ∷ xs) ys h = ends_behind (y ∷ xs) ys h

pub ids_start : (xs : List Id) → IsLow (ids_key xs)
ids_start [] = low 0 [] (omega arith)
ids_start (Numeric n ∷ xs) = low 1 _ (omega arith)
ids_start (AlphaNumeric t ∷ xs) = low 2 _ (omega arith)

pub pre_start : (xs : List Id) → IsLow (pre_key xs)
pre_start [] = low 3 [] (omega arith)
pre_start (x ∷ xs) = ids_start (x ∷ xs)

pub ids_end : (xs : List Id) → ends_in_3 (ids_key xs) ≡ false
ids_end [] = refl
ids_end (x ∷ xs) = ends_behind (id_key x) (ids_key xs) (ids_start xs) ∙ ids_end xs

pub pre_end : (v : VersionValue) (pre : List Id) → v.pre_release ≡ pre → ends_in_3 (pre_key pre) ≡ is_release v
pre_end v [] e = rw e refl
pre_end v (x ∷ xs) e = rw e (ids_end (x ∷ xs))

-- the bytes of the three numbers
abbrev pub numbers_key : VersionValue → List ℕ
numbers_key v = number_key v.major ++ (number_key v.minor ++ number_key v.patch)

pub key_parts : (v : VersionValue) → key v ≡ numbers_key v ++ pre_key v.pre_release
key_parts v = sym (simp append_assoc)

pub key_end : (v : VersionValue) → ends_in_3 (key v) ≡ is_release v
key_end v = ap ends_in_3 (key_parts v) ∙ (ends_behind (numbers_key v) _ (pre_start v.pre_release) ∙ pre_end v v.pre_release refl)

-- ---- the pre-releases of three numbers

abbrev pub numbers_cmp : VersionValue → VersionValue → Ordering
numbers_cmp v w = ordering_then (nat_cmp v.major w.major) (ordering_then (nat_cmp v.minor w.minor) (nat_cmp v.patch w.patch))

pub grouped : (v : VersionValue) (r : List ℕ)
    → numbers_key v ++ r ≡ number_key v.major ++ (number_key v.minor ++ (number_key v.patch ++ r))
grouped v r = simp append_assoc

pub numbers_followed : (v w : VersionValue) (r s : List ℕ) → IsVersion v → IsVersion w
    → bytes_cmp (numbers_key v ++ r) (numbers_key w ++ s) ≡ ordering_then (numbers_cmp v w) (bytes_cmp r s)
numbers_followed v w r s h k = rw (grouped v r, grouped w s)
    (number_cmp v.major w.major _ _ h.major k.major
    ∙ (ap (ordering_then (nat_cmp v.major w.major)) (number_cmp v.minor w.minor _ _ h.minor k.minor
    ∙ (ap (ordering_then (nat_cmp v.minor w.minor)) (number_cmp v.patch w.patch r s h.patch k.patch)
    ∙ sym (then_assoc (nat_cmp v.minor w.minor) _ _)))
    ∙ sym (then_assoc (nat_cmp v.major w.major) _ _)))

pub then_reverse : (a b c d : Ordering) → a ≡ ordering_reverse c → b ≡ ordering_reverse d
    → ordering_then a b ≡ ordering_reverse (ordering_then c d)
then_reverse a b Less d e f = rw e refl
then_reverse a b Equal d e f = rw e f
then_reverse a b Greater d e f = rw e refl

pub turned_numbers : (v w : VersionValue) → numbers_cmp v w ≡ ordering_reverse (numbers_cmp w v)
turned_numbers v w = then_reverse _ _ _ _ (nat_cmp_total.antisymm v.major w.major)
    (then_reverse _ _ _ _ (nat_cmp_total.antisymm v.minor w.minor) (nat_cmp_total.antisymm v.patch w.patch))

pub then_tied : (a b : Ordering) → is_eq (ordering_then a b) ≡ (is_eq a && is_eq b)
then_tied Less b = refl
then_tied Equal b = refl
then_tied Greater b = refl

abbrev pub same : VersionValue → VersionValue → Bool
same w v = (w.major == v.major) && ((w.minor == v.minor) && (w.patch == v.patch))

pub same_numbers : (w v : VersionValue) → is_eq (numbers_cmp w v) ≡ same w v
same_numbers w v = then_tied _ _ ∙ (λ i. unsigned_tied w.major v.major i
    && (then_tied (nat_cmp w.minor v.minor) (nat_cmp w.patch v.patch) ∙ (λ j. unsigned_tied w.minor v.minor j && unsigned_tied w.patch v.patch j)) i)

pub pre_three : (pre : List Id) → bytes_cmp (pre_key pre) (3 ∷ []) ≡ (if is_empty pre then Equal else Less)
pre_three [] = refl
pre_three (Numeric n ∷ xs) = refl
pre_three (AlphaNumeric t ∷ xs) = refl

pub own_cases : (b : Bool) (o p : Ordering) → o ≡ ordering_reverse p
    → (is_le p && is_lt (ordering_then o (if b then Equal else Less))) ≡ (not b && is_eq p)
own_cases true o Less e = ap (λ q. is_lt (ordering_then q Equal)) e
own_cases false o Less e = ap (λ q. is_lt (ordering_then q Less)) e
own_cases true o Equal e = ap (λ q. is_lt (ordering_then q Equal)) e
own_cases false o Equal e = ap (λ q. is_lt (ordering_then q Less)) e
own_cases true o Greater e = refl
own_cases false o Greater e = refl

pub least_ids : (xs : List Id) → is_le (bytes_cmp (0 ∷ []) (ids_key xs)) ≡ true
least_ids [] = refl
least_ids (Numeric n ∷ xs) = refl
least_ids (AlphaNumeric t ∷ xs) = refl

pub then_least : (n : ℕ) (o : Ordering) → is_le o ≡ true → is_le (ordering_then (nat_cmp 0 n) o) ≡ true
then_least zero o h = h
then_least (suc n) o h = rw (cmp_below 0 (suc n) (omega arith)) refl

pub least_pre : (pre : List Id) → All IsId pre → is_le (bytes_cmp (1 ∷ 0 ∷ 0 ∷ []) (pre_key pre)) ≡ true
least_pre [] h = refl
least_pre (Numeric n ∷ xs) h =
    ap is_le (number_cmp 0 n (0 ∷ []) (ids_key xs) (omega arith) (All-head IsId (Numeric n) xs h)) ∙ then_least n _ (least_ids xs)
least_pre (AlphaNumeric t ∷ xs) h = refl

pub then_le : (a o : Ordering) → is_le o ≡ true → is_le (ordering_then a o) ≡ is_le a
then_le Less o h = refl
then_le Equal o h = h
then_le Greater o h = refl

pub lowest_past : (w v : VersionValue) → IsVersion w → IsVersion v
    → le (lowest_key w.major w.minor w.patch) (key v) ≡ is_le (numbers_cmp w v)
lowest_past w v h k =
    (λ i. le (key_parts (lowest w.major w.minor w.patch) i) (key_parts v i))
    ∙ (ap is_le (numbers_followed w v (pre_key (Numeric 0 ∷ [])) (pre_key v.pre_release) h k)
    ∙ then_le (numbers_cmp w v) _ (least_pre v.pre_release k.pre_release))

-- the pre-releases of the numbers of w
pub own_holds : (w v : VersionValue) → IsVersion w → IsVersion v
    → (le (lowest_key w.major w.minor w.patch) (key v) && lt (key v) (release_key w.major w.minor w.patch)) ≡ (not (is_release v) && same w v)
own_holds w v h k =
    let stop : lt (key v) (release_key w.major w.minor w.patch) ≡ is_lt (ordering_then (numbers_cmp v w) (if is_release v then Equal else Less)) =
    (λ i. lt (key_parts v i) (key_parts (release_value w.major w.minor w.patch) i))
    ∙ (ap is_lt (numbers_followed v w (pre_key v.pre_release) (3 ∷ []) k h)
    ∙ ap (λ o. is_lt (ordering_then (numbers_cmp v w) o)) (pre_three v.pre_release)) in
    (λ i. lowest_past w v h k i && stop i)
    ∙ (own_cases (is_release v) _ _ (turned_numbers v w) ∙ ap (λ b. not (is_release v) && b) (same_numbers w v))
