-- What is found at the front of a key by a check that allocates nothing.
use Rattle.std.proofs.Common.{ℕ, ◌≡◌, ◌<◌, ◌==◌, ◌^◌, ◌+◌, ◌-◌, ◌++◌, ◌∷◌, ◌∙◌, List, [], IsUtf8, ap, append-nil, append_assoc, arith, length, length-append, not, refl, suc, sym, take, true, zero}
use Rattle.std.specs.Borrow.{Bor}
use Rattle.std.specs.List.{starts_with}
use Rattle.std.specs.Option.{IsSome}
use Rattle.std.specs.Prelude.{None, Option, Some, false, nat_eq}
use Rattle.std.proofs.Math.ListN.{get_or}
use Rattle.std.proofs.lemmas.Bool.Decides.{nat_tests}
use Rattle.std.proofs.lemmas.Grind.{common_steps}
use Rattle.std.proofs.Math.Seq.{drop-append-add, get_or-append_seam, take-append_seam}
use Rattle.std.proofs.lemmas.List.Elements.{All-cons, All-head, All-nil, All-tail}
use Rattle.std.proofs.lemmas.Str.{IsUtf8-append, IsUtf8-encode, IsUtf8-drop, IsUtf8-take, IsCharBoundary-after_ascii, IsCharBoundary-before_ascii}
use Rattle.semver_core.proofs.Encoding.Reading.{ids_start, text_ends, text_has_zero}
use Rattle.semver_core.specs.Internal.KeyReading.{AreIds, GivesNumber, IsIdFront, IsIdKey, IsLow, IsPre, IsTextFront, numbers_key}
use Rattle.semver_core.specs.Keys.{id_key, ids_key, key, number_key, pre_key, text_key}
use Rattle.semver_core.specs.Text.Identifiers.{AlphaNumeric, Id, Numeric}
use Rattle.semver_core.specs.Values.Versions.{IsId, IsVersion, VersionValue}
use Rattle.semver_core.specs.Words.{list_all}

-- no byte is 0
abbrev pub no_zero : List ℕ → Type 0
no_zero bytes = list_all (λ c. not (c == 0)) bytes ≡ true

-- ---- texts

front_key : (front u : List ℕ) → no_zero front → text_key (front ++ u) ≡ front ++ text_key u
front_key [] u h = refl
front_key (c ∷ front) u h = grind (arith, nat_tests, front_key front u)

text_split : (piece tail text rest : List ℕ) → no_zero piece → piece ++ 0 ∷ tail ≡ text_key text ++ rest
    → (u : List ℕ) × (text ≡ piece ++ u) × (0 ∷ tail ≡ text_key u ++ rest)
text_split [] tail text rest h e = (text, refl, e)
text_split (zero ∷ piece) tail text rest h e = cc
text_split (suc c ∷ piece) tail (suc d ∷ text) rest h e =
    let more = text_split piece tail text rest (grind (arith, nat_tests)) cc in (more.0, cc, more.2)
text_split (suc c ∷ piece) tail text rest h e = cc

utf8_parts : (piece w : List ℕ) → IsUtf8 (piece ++ 0 ∷ w) → IsUtf8 piece × IsUtf8 w
utf8_parts piece w h =
    let bs : List ℕ = piece ++ 0 ∷ w in
    let small : get_or bs (length piece) 0 < 128 = omega (arith, get_or-append_seam piece 0 w 0) in
    let within : length piece < length bs = omega (arith, length-append piece (0 ∷ w)) in (
      rw take-append_seam at (IsUtf8-take bs (length piece) h (IsCharBoundary-before_ascii bs (length piece) within small)),
      rw (drop-append-add piece (0 ∷ w) 1) at (IsUtf8-drop bs (length piece + 1) h
          (IsCharBoundary-after_ascii bs (length piece) h within small)),
    )

piece_by : (piece tail u rest : List ℕ) → IsUtf8 (piece ++ u) → 0 ∷ tail ≡ text_key u ++ rest → IsUtf8 piece
piece_by piece tail [] rest h e = rw append-nil at h
piece_by piece tail (c ∷ u) rest h e = grind (arith, nat_tests, utf8_parts piece u)

-- the bytes before the first 0 are UTF-8
pub piece_utf8 : (others piece tail rest : List ℕ) → others ≡ piece ++ 0 ∷ tail → no_zero piece → IsTextFront others rest → IsUtf8 piece
piece_utf8 others piece tail rest e h (text, utf8, f) =
    let parts = text_split piece tail text rest h (sym e ∙ f) in
    piece_by piece tail parts.0 rest (rw parts.1 at utf8) parts.2

text_has_end : (text rest : List ℕ) → no_zero (text_key text ++ rest) → ⊥
text_has_end [] rest h = cc
text_has_end (c ∷ text) rest h = grind (arith, nat_tests, text_has_end text rest)

pub none_found : (others rest : List ℕ) → no_zero others → IsTextFront others rest → ⊥
none_found others rest h (text, utf8, e) = text_has_end text rest (rw e at h)

-- the text ends at this 0
pub end_found : (others piece tail : List ℕ) → others ≡ piece ++ 0 ∷ tail → no_zero piece → IsUtf8 piece → IsTextFront others tail
end_found others piece tail e h utf8 =
    (piece, utf8, rw (e, ← append-nil piece, front_key piece [] h, append-nil piece, append_assoc) refl)

pub end_only : (others piece tail rest : List ℕ) → others ≡ piece ++ 0 ∷ tail → no_zero piece
    → ((more : List ℕ) → tail ≡ 255 ∷ more → ⊥) → IsTextFront others rest → tail ≡ rest
end_only others piece tail rest e h last (text, utf8, f) =
    let parts = text_split piece tail text rest h (sym e ∙ f) in text_ends tail parts.0 rest last parts.2

-- the text goes on
pub more_found : (others piece tail more rest : List ℕ) → others ≡ piece ++ 0 ∷ tail → no_zero piece → IsUtf8 piece
    → tail ≡ 255 ∷ more → IsTextFront more rest → IsTextFront others rest
unfolding lib.Utf8.encode
more_found others piece tail more rest e h utf8 f (u, is, g) = (
  piece ++ 0 ∷ u,
  IsUtf8-append piece (0 ∷ u) utf8 (IsUtf8-append (0 ∷ []) u (IsUtf8-encode 0 refl) is),
  rw (e, f, g, front_key piece (0 ∷ u) h, append_assoc) refl,
)

pub more_left : (others piece tail more rest : List ℕ) → others ≡ piece ++ 0 ∷ tail → no_zero piece → tail ≡ 255 ∷ more
    → IsLow rest → IsTextFront others rest → IsTextFront more rest
more_left others piece tail more rest e h f is_low (text, utf8, g) =
    let parts = text_split piece tail text rest h (sym e ∙ g) in
    let next = text_has_zero more parts.0 rest is_low cc in
    (next.0, (utf8_parts piece next.0 (rw (parts.1, next.1) at utf8)).1, next.2)

-- ---- identifiers

pub ids_found : (others rest : List ℕ) → IsIdFront others rest → AreIds rest → AreIds others
ids_found others rest (x, is, e) (ids, all, f) = (x ∷ ids, All-cons IsId x ids is all, cc)

-- what follows the first identifier is the key of the others
pub ids_next : (others rest : List ℕ) → IsIdFront others rest → ((more : List ℕ) → IsLow more → IsIdFront others more → rest ≡ more)
    → AreIds others → AreIds rest
ids_next others rest (x, is, f) only ([], all, e) = grind arith
ids_next others rest front only (x ∷ u, all, e) =
    (u, All-tail IsId x u all, only (ids_key u) (ids_start u) (x, All-head IsId x u all, e))

-- where no identifier comes first there is only the end
pub ids_last : (others : List ℕ) → ((rest : List ℕ) → IsLow rest → IsIdFront others rest → ⊥) → AreIds others → others ≡ 0 ∷ []
ids_last others none ([], all, e) = e
ids_last others none (x ∷ u, all, e) = absurd (none (ids_key u) (ids_start u) (x, All-head IsId x u all, e))

-- the key of the first identifier is what stands before what follows it
pub front_key_of : (others rest : List ℕ) (front : IsIdFront others rest) → take (length others - length rest) others ≡ id_key front.0
front_key_of others rest front = grind (arith, common_steps, take-append_seam, front.2)

pub ids_after : (key others rest : List ℕ) (so_far more : List Id) (x : Id) → IsIdFront others rest
    → id_key x ≡ take (length others - length rest) others → more ≡ so_far ++ x ∷ []
    → ((u : List Id) → others ≡ ids_key u → ids_key (so_far ++ u) ≡ key)
    → (u : List Id) → rest ≡ ids_key u → ids_key (more ++ u) ≡ key
ids_after key others rest so_far more x front read e left u f =
    let same = front_key_of others rest front in
    let spelled : others ≡ ids_key (x ∷ u) = cc (front.2) in
    rw (e, append_assoc) (left (x ∷ u) spelled)

-- ---- versions

-- the bytes are the key of a pre-release
pub keyed : (major minor patch : ℕ) (bytes rest : List ℕ) → major < 2 ^ 64 → minor < 2 ^ 64 → patch < 2 ^ 64
    → bytes ≡ numbers_key major minor patch rest → IsPre rest → (rest ≡ pre_key [] → ⊥)
    → (v : VersionValue) × IsVersion v × (key v ≡ bytes) × (0 < length v.pre_release)
keyed major minor patch bytes rest h k l e ([], all, f) some_id = absurd (some_id f)
keyed major minor patch bytes rest h k l e (x ∷ list, all, f) some_id = (
  record { major = major; minor = minor; patch = patch; pre_release = x ∷ list; build = [] },
  record { major = h; minor = k; patch = l; pre_release = all; build = All-nil IsId },
  sym (e ∙ ap (numbers_key major minor patch) f),
  omega arith,
)

-- ---- one identifier

pub number_there : (key tail : List ℕ) (c : ℕ) (r : Option (ℕ × Bor (List ℕ))) → IsIdKey key → key ≡ c ∷ tail → c ≡ 1
    → ((n : ℕ) (rest : List ℕ) → n < 2 ^ 64 → tail ≡ number_key n ++ rest → GivesNumber r n rest) → IsSome r
number_there key tail c (Some found) id e h given = refl
number_there key tail c None (Numeric n, is, f) e h given = absurd (given n [] is (cc (append-nil (number_key n))))
number_there key tail c None (AlphaNumeric t, is, f) e h given = cc

-- ---- the identifiers of a pre-release

-- what does not begin with the byte 3 is the key of identifiers
pub ids_of_pre : (bytes : List ℕ) → IsPre bytes → false ≡ starts_with nat_eq bytes (3 ∷ []) → AreIds bytes
ids_of_pre bytes ([], all, e) other = cc
ids_of_pre bytes (x ∷ list, all, e) other = (x ∷ list, all, e)

pub pre_of_ids : (bytes : List ℕ) (ids : List Id) → IsPre bytes → ids_key ids ≡ bytes → pre_key ids ≡ bytes
pre_of_ids bytes (x ∷ ids) pre e = e
pre_of_ids bytes [] (list, all, f) e = grind arith
