-- The key of a pre-release with one more identifier.
use Rattle.std.proofs.Common.{ℕ, ◌≡◌, ◌++◌, ◌∷◌, ◌-◌, List, [], false, refl, ap, arith, ◌∙◌, sym, append_assoc, true≢false}
use Rattle.std.specs.Prelude.{length, take}
use Rattle.std.proofs.Math.Seq.{take-append_seam}
use Rattle.std.proofs.lemmas.List.{length-append}
use Rattle.semver_core.specs.Keys.{id_key, ids_key, key, pre_key}
use Rattle.semver_core.specs.Lists.{is_empty}
use Rattle.semver_core.specs.Text.Identifiers.{Id, Numeric}
use Rattle.semver_core.specs.Values.Versions.{VersionValue, is_release}
use Rattle.key_spans.specs.Internal.Places.{one_more}
use Rattle.key_spans.proofs.Keys.{key_parts, numbers_key}

-- the keys of identifiers, without the end
abbrev body : List Id → List ℕ
body [] = []
body (x ∷ xs) = id_key x ++ body xs

ids_body : (xs : List Id) → ids_key xs ≡ body xs ++ 0 ∷ []
ids_body [] = refl
ids_body (x ∷ xs) = ap (λ l. id_key x ++ l) (ids_body xs) ∙ sym (append_assoc (id_key x) (body xs) (0 ∷ []))

ids_more : (xs : List Id) → ids_key (xs ++ Numeric 0 ∷ []) ≡ body xs ++ 1 ∷ 0 ∷ 0 ∷ []
ids_more [] = refl
ids_more (x ∷ xs) = ap (λ l. id_key x ++ l) (ids_more xs) ∙ sym (append_assoc (id_key x) (body xs) (1 ∷ 0 ∷ 0 ∷ []))

pre_body : (xs : List Id) → is_empty xs ≡ false → pre_key xs ≡ body xs ++ 0 ∷ []
pre_body [] h = absurd (true≢false h)
pre_body (x ∷ xs) h = ids_body (x ∷ xs)

pre_more : (xs : List Id) → is_empty xs ≡ false → pre_key (xs ++ Numeric 0 ∷ []) ≡ body xs ++ 1 ∷ 0 ∷ 0 ∷ []
pre_more [] h = absurd (true≢false h)
pre_more (x ∷ xs) h = ids_more (x ∷ xs)

without_last : (front : List ℕ) (c : ℕ) (all : List ℕ) → all ≡ front ++ c ∷ [] → take (length all - 1) all ≡ front
without_last front c all e =
    let one : length (front ++ c ∷ []) - 1 ≡ length front = omega (arith, length-append front (c ∷ [])) in
    ap (λ l. take (length l - 1) l) e ∙ (ap (λ n. take n (front ++ c ∷ [])) one ∙ take-append_seam front (c ∷ []))

pub behind : (w : VersionValue) → is_release w ≡ false → (all front out : List ℕ) (n : ℕ) → all ≡ key w → n ≡ length all
    → front ≡ take (n - 1) all → out ≡ front ++ 1 ∷ 0 ∷ 0 ∷ [] → out ≡ key (one_more w)
behind w h all front out n same len cut more =
    let whole : all ≡ (numbers_key w ++ body w.pre_release) ++ 0 ∷ [] =
    same ∙ (key_parts w ∙ (ap (λ l. numbers_key w ++ l) (pre_body w.pre_release h)
    ∙ sym (append_assoc (numbers_key w) (body w.pre_release) (0 ∷ [])))) in
    more ∙ (ap (λ l. l ++ 1 ∷ 0 ∷ 0 ∷ []) (cut ∙ (ap (λ m. take (m - 1) all) len
    ∙ without_last (numbers_key w ++ body w.pre_release) 0 all whole))
    ∙ (append_assoc (numbers_key w) (body w.pre_release) (1 ∷ 0 ∷ 0 ∷ [])
    ∙ (ap (λ l. numbers_key w ++ l) (sym (pre_more w.pre_release h)) ∙ sym (key_parts (one_more w)))))
