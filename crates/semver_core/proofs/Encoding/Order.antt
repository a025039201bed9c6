-- Comparing keys is comparing versions.
use Rattle.semver_core.proofs.Common.{ℕ, ◌≡◌, ◌++◌, ◌∷◌, List, [], refl, ap, arith, zero, suc, ◌∙◌, sym, append-nil}
use Rattle.semver_core.proofs.Common.{append_assoc, tied_itself, slice_cmp, ordering_then, All, Ordering, Less}
use Rattle.semver_core.proofs.Common.{Equal, Greater, AlphaNumeric, Id, Numeric, id_cmp, pre_cmp, precedence, IsId}
use Rattle.semver_core.proofs.Common.{IsVersion, VersionValue}
use Rattle.std.specs.Cmp.Lexicographic.{nat_list_cmp_total}
use Rattle.std.specs.Ordering.{nat_cmp}
use Rattle.std.proofs.lemmas.List.Elements.{All-head, All-tail}
use Rattle.semver_core.proofs.Encoding.Numbers.{bytes_cmp, cmp_above, cmp_below, number_cmp, then_assoc}
use Rattle.semver_core.specs.Internal.KeyReading.{IsLow, low}
use Rattle.semver_core.specs.Keys.{id_key, ids_key, key, pre_key, text_key}

pub then_equal : (a : Ordering) → ordering_then a Equal ≡ a
then_equal a = grind arith

pub low_below : (r s : List ℕ) → IsLow r → bytes_cmp r (255 ∷ s) ≡ Less
low_below _ s (low c rest h) = rw (cmp_below c 255 h) refl

low_above : (r s : List ℕ) → IsLow r → bytes_cmp (255 ∷ s) r ≡ Greater
low_above _ s (low c rest h) = rw (cmp_above 255 c h) refl

text_cmp : (s t q r : List ℕ) → IsLow q → IsLow r
    → bytes_cmp (text_key s ++ q) (text_key t ++ r) ≡ ordering_then (slice_cmp nat_cmp s t) (bytes_cmp q r)
text_cmp (zero ∷ s) (zero ∷ t) q r h k = text_cmp s t q r h k
text_cmp (suc c ∷ s) (suc d ∷ t) q r h k =
    ap (ordering_then (nat_cmp (suc c) (suc d))) (text_cmp s t q r h k) ∙ sym (then_assoc (nat_cmp (suc c) (suc d)) _ _)
text_cmp s t q r h k = grind (arith, low_below, low_above, cmp_below, cmp_above)

ids_low : (xs : List Id) (r : List ℕ) → IsLow (ids_key xs ++ r)
ids_low [] r = low 0 r (omega arith)
ids_low (Numeric n ∷ xs) r = low 1 _ (omega arith)
ids_low (AlphaNumeric t ∷ xs) r = low 2 _ (omega arith)

identifier_cmp : (x y : Id) (q r : List ℕ) → IsId x → IsId y → IsLow q → IsLow r
    → bytes_cmp (id_key x ++ q) (id_key y ++ r) ≡ ordering_then (id_cmp x y) (bytes_cmp q r)
identifier_cmp (Numeric m) (Numeric n) q r h k g l = number_cmp m n q r h k
identifier_cmp (AlphaNumeric s) (AlphaNumeric t) q r h k g l = text_cmp s t q r g l
identifier_cmp _ _ q r h k g l = refl

ids_cmp : (xs ys : List Id) (q r : List ℕ) → All IsId xs → All IsId ys
    → bytes_cmp (ids_key xs ++ q) (ids_key ys ++ r) ≡ ordering_then (slice_cmp id_cmp xs ys) (bytes_cmp q r)
ids_cmp [] ys q r h k = grind arith
ids_cmp xs [] q r h k = grind arith
ids_cmp (x ∷ xs) (y ∷ ys) q r h k = rw (append_assoc (id_key x) (ids_key xs) q, append_assoc (id_key y) (ids_key ys) r)
    (identifier_cmp x y _ _ (All-head IsId x xs h) (All-head IsId y ys k) (ids_low xs q) (ids_low ys r)
    ∙ (ap (ordering_then (id_cmp x y)) (ids_cmp xs ys q r (All-tail IsId x xs h) (All-tail IsId y ys k))
    ∙ sym (then_assoc (id_cmp x y) (slice_cmp id_cmp xs ys) (bytes_cmp q r))))

pre_release_cmp : (xs ys : List Id) (q r : List ℕ) → All IsId xs → All IsId ys
    → bytes_cmp (pre_key xs ++ q) (pre_key ys ++ r) ≡ ordering_then (pre_cmp xs ys) (bytes_cmp q r)
pre_release_cmp [] ys q r h k = grind arith
pre_release_cmp xs [] q r h k = grind arith
pre_release_cmp (x ∷ xs) (y ∷ ys) q r h k = ids_cmp (x ∷ xs) (y ∷ ys) q r h k

pub key_followed : (v w : VersionValue) (r s : List ℕ) → IsVersion v → IsVersion w
    → bytes_cmp (key v ++ r) (key w ++ s) ≡ ordering_then (precedence v w) (bytes_cmp r s)
key_followed v w r s h k = simp (
  append_assoc,
  number_cmp,
  pre_release_cmp,
  then_assoc,
  h.major,
  h.minor,
  h.patch,
  h.pre_release,
  k.major,
  k.minor,
  k.patch,
  k.pre_release,
)

pub key_cmp : (v w : VersionValue) → IsVersion v → IsVersion w → slice_cmp nat_cmp (key v) (key w) ≡ precedence v w
key_cmp v w h k = simp (append-nil, then_equal) at (key_followed v w [] [] h k)

pub no_key_before : (v w : VersionValue) (r : List ℕ) → IsVersion v → IsVersion w → key w ≡ key v ++ r
    → (precedence v w ≡ Equal) × (r ≡ [])
no_key_before v w r h k e = by (precedence v w) r (sym (key_followed v w r [] h k) ∙ tied)
  where
    tied : bytes_cmp (key v ++ r) (key w ++ []) ≡ Equal
    tied = rw (append-nil, e) (tied_itself nat_list_cmp_total (key v ++ r))

    by : (a : Ordering) (r : List ℕ) → ordering_then a (bytes_cmp r []) ≡ Equal → (a ≡ Equal) × (r ≡ [])
    by Equal [] e = (refl, refl)
    by Equal (c ∷ r) e = cc
    by _ r e = cc

pub ruleset key_order = (key_cmp, key_followed)
