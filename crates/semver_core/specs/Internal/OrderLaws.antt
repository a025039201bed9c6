-- For proofs: the order is total, and what it does not tell apart has equal keys.
use Rattle.std.proofs.Common.{◌≡◌, List, [], ◌∷◌, ◌++◌, refl, ap, true}
use Rattle.std.specs.Ordering.{is_eq, nat_cmp, on, ordering_reverse, ordering_then, then_cmp}
use Rattle.std.specs.Cmp.{Equal-is, IsTotalOrder, nat_cmp_total, on_total, then_total}
use Rattle.std.specs.Cmp.Lexicographic.{lists_total, nat_list_cmp_total, slice_cmp}
use Rattle.std.specs.FinMap.{IsAntisymmetric, nat_cmp-IsAntisymmetric, slice_cmp-IsAntisymmetric}
use Rattle.std.specs.declared.cmp.Ordering.{Ordering}
use Rattle.std.specs.declared.cmp.Ordering.TheVariants.{Less, Equal, Greater}
use Rattle.std.specs.Hash as fed
use Rattle.semver_core.specs.Internal.Hashes.{id_writes, version_writes}
use Rattle.semver_core.specs.Text.Identifiers.{Id, Numeric, AlphaNumeric}
use Rattle.semver_core.specs.Values.Order.{id_cmp, pre_cmp, precedence}
use Rattle.semver_core.specs.Values.Versions.{VersionValue}

-- the order of the three numbers
abbrev pub numbers_cmp : VersionValue → VersionValue → Ordering
numbers_cmp = then_cmp (on (λ v. v.major) nat_cmp) (then_cmp (on (λ v. v.minor) nat_cmp) (on (λ v. v.patch) nat_cmp))

id_antisymm : (x y : Id) → id_cmp x y ≡ ordering_reverse (id_cmp y x)
id_antisymm (Numeric m) (Numeric n) = nat_cmp_total.antisymm m n
id_antisymm (Numeric m) (AlphaNumeric t) = refl
id_antisymm (AlphaNumeric s) (Numeric n) = refl
id_antisymm (AlphaNumeric s) (AlphaNumeric t) = nat_list_cmp_total.antisymm s t

id_trans : (x y z : Id) → id_cmp x y ≡ Less → id_cmp y z ≡ Less → id_cmp x z ≡ Less
id_trans (Numeric m) (Numeric n) (Numeric k) p q = nat_cmp_total.trans m n k p q
id_trans (Numeric m) y (AlphaNumeric u) p q = refl
id_trans (Numeric m) (AlphaNumeric t) (Numeric k) p q = cc
id_trans (AlphaNumeric s) (Numeric n) z p q = cc
id_trans (AlphaNumeric s) (AlphaNumeric t) (Numeric k) p q = cc
id_trans (AlphaNumeric s) (AlphaNumeric t) (AlphaNumeric u) p q = nat_list_cmp_total.trans s t u p q

id_congr : (x y z : Id) → id_cmp x y ≡ Equal → id_cmp x z ≡ id_cmp y z
id_congr (Numeric m) (Numeric n) (Numeric k) p = nat_cmp_total.congr m n k p
id_congr (Numeric m) (Numeric n) (AlphaNumeric u) p = refl
id_congr (Numeric m) (AlphaNumeric t) z p = cc
id_congr (AlphaNumeric s) (Numeric n) z p = cc
id_congr (AlphaNumeric s) (AlphaNumeric t) (Numeric k) p = refl
id_congr (AlphaNumeric s) (AlphaNumeric t) (AlphaNumeric u) p = nat_list_cmp_total.congr s t u p

pub id_total : IsTotalOrder id_cmp
id_total = record { antisymm = id_antisymm; trans = id_trans; congr = id_congr }

pub id_same : IsAntisymmetric id_cmp
id_same (Numeric m) (Numeric n) e = ap Numeric (nat_cmp-IsAntisymmetric m n e)
id_same (Numeric m) (AlphaNumeric t) e = cc
id_same (AlphaNumeric s) (Numeric n) e = cc
id_same (AlphaNumeric s) (AlphaNumeric t) e = ap AlphaNumeric (slice_cmp-IsAntisymmetric nat_cmp-IsAntisymmetric s t e)

pub ids_total : IsTotalOrder (slice_cmp id_cmp)
ids_total = lists_total id_total

pre_antisymm : (x y : List Id) → pre_cmp x y ≡ ordering_reverse (pre_cmp y x)
pre_antisymm [] [] = refl
pre_antisymm [] (y ∷ ys) = refl
pre_antisymm (x ∷ xs) [] = refl
pre_antisymm (x ∷ xs) (y ∷ ys) = ids_total.antisymm (x ∷ xs) (y ∷ ys)

pre_trans : (x y z : List Id) → pre_cmp x y ≡ Less → pre_cmp y z ≡ Less → pre_cmp x z ≡ Less
pre_trans [] [] z p q = cc
pre_trans [] (y ∷ ys) z p q = cc
pre_trans (x ∷ xs) y [] p q = refl
pre_trans (x ∷ xs) [] (z ∷ zs) p q = cc
pre_trans (x ∷ xs) (y ∷ ys) (z ∷ zs) p q = ids_total.trans (x ∷ xs) (y ∷ ys) (z ∷ zs) p q

pre_congr : (x y z : List Id) → pre_cmp x y ≡ Equal → pre_cmp x z ≡ pre_cmp y z
pre_congr [] [] z p = refl
pre_congr [] (y ∷ ys) z p = cc
pre_congr (x ∷ xs) [] z p = cc
pre_congr (x ∷ xs) (y ∷ ys) [] p = refl
pre_congr (x ∷ xs) (y ∷ ys) (z ∷ zs) p = ids_total.congr (x ∷ xs) (y ∷ ys) (z ∷ zs) p

pub pre_total : IsTotalOrder pre_cmp
pre_total = record { antisymm = pre_antisymm; trans = pre_trans; congr = pre_congr }

pub pre_same : IsAntisymmetric pre_cmp
pre_same [] [] e = refl
pre_same [] (y ∷ ys) e = cc
pre_same (x ∷ xs) [] e = cc
pre_same (x ∷ xs) (y ∷ ys) e = slice_cmp-IsAntisymmetric id_same (x ∷ xs) (y ∷ ys) e

pub precedence_total : IsTotalOrder precedence
precedence_total = then_total (on_total (λ (v : VersionValue). v.major) nat_cmp_total) (then_total (on_total (λ (v : VersionValue). v.minor) nat_cmp_total)
    (then_total (on_total (λ (v : VersionValue). v.patch) nat_cmp_total) (on_total (λ (v : VersionValue). v.pre_release) pre_total)))

pub then_both : (r s : Ordering) → ordering_then r s ≡ Equal → (r ≡ Equal) × (s ≡ Equal)
then_both Less s e = cc
then_both Equal s e = (refl, e)
then_both Greater s e = cc

-- equal versions have the same key
pub same_key : (v w : VersionValue) → precedence v w ≡ Equal
    → (v.major ≡ w.major) × (v.minor ≡ w.minor) × (v.patch ≡ w.patch) × (v.pre_release ≡ w.pre_release)
same_key v w e =
    let major = then_both _ _ e in
    let minor = then_both _ _ major.1 in
    let patch = then_both _ _ minor.1 in
    (nat_cmp-IsAntisymmetric _ _ major.0, nat_cmp-IsAntisymmetric _ _ minor.0, nat_cmp-IsAntisymmetric _ _ patch.0, pre_same _ _ patch.1)

-- equal values hash alike
pub id_alike : (x y : Id) → is_eq (id_cmp x y) ≡ true → id_writes x ≡ id_writes y
id_alike x y e = ap id_writes (id_same x y ((Equal-is (id_cmp x y)).0 e))

pub version_alike : (v w : VersionValue) → is_eq (precedence v w) ≡ true → version_writes v ≡ version_writes w
version_alike v w e =
    let key = same_key v w ((Equal-is (precedence v w)).0 e) in
    λ i. fed.u64 (key.0 i) ++ (fed.u64 (key.1 i) ++ (fed.u64 (key.2 i) ++ fed.slice id_writes (key.3 i)))
