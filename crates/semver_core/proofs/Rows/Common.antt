-- Worked rows, computed: which texts are common, and which are not. Some ten rows are one equation.
use Rattle.semver_core.proofs.Common.{AlphaNumeric, Id, Numeric, VersionValue, Bool, List, Some, [], false, refl, ℕ, ◌++◌, ◌∷◌}
use Rattle.semver_core.proofs.Common.{◌≡◌, encode_utf8, common_of, digits_from, list_len, release_value, codes, is_some, map}
use Rattle.std.specs.List.{list_any}

-- the limit on numbers
abbrev limit : ℕ
limit = 9007199254740991

-- each text is this version
abbrev Read : List (List ℕ × VersionValue) → Type 0
Read rows = map (λ row. common_of limit row.0) rows ≡ map (λ row. Some row.1) rows

-- `1.2.3` with these identifiers
abbrev of : List Id → List Id → VersionValue
of pre build = record (release_value 1 2 3) { pre_release = pre; build = build }

abbrev text : List ℕ → List Id
text bytes = AlphaNumeric bytes ∷ []

common : Read (
    (codes "1.2.3", of [] []) ∷
    (codes "v1.2.3", of [] []) ∷
    (codes "01.002.3", of [] []) ∷
    (codes "1.2.3-alpha.1", of (text (codes "alpha") ++ Numeric 1 ∷ []) []) ∷
    (codes "1.2.3+build.7", of [] (text (codes "build") ++ Numeric 7 ∷ [])) ∷
    (codes "1.2.3-alpha.1+build.7", of (text (codes "alpha") ++ Numeric 1 ∷ []) (text (codes "build") ++ Numeric 7 ∷ [])) ∷
    (codes "1.2.3beta", of (text (codes "beta")) []) ∷
    (codes "1.2.3a+b", of (text (codes "a")) (text (codes "b"))) ∷
    (codes "1.2.3--", of (text (codes "-")) []) ∷
    (codes "1.2.3---", of (text (codes "--")) []) ∷
    (codes "1.2.3-18446744073709551616", of (text (codes "18446744073709551616")) []) ∷ []
    )
unfolding digits_from list_len
common = refl

-- not common, also where a version stands at the front
is_common : List ℕ → Bool
is_common text = is_some (common_of limit text)

uncommon-1 : list_any is_common (
    codes "" ∷ codes "v" ∷ codes "1.2" ∷ codes "1..3" ∷ codes "vv1.2.3" ∷ codes "1.2.3.4" ∷ codes "V1.2.3" ∷
    codes " 1.2.3" ∷ codes "v 1.2.3" ∷ codes "1.2.3-" ∷ codes "1.2.3+" ∷ codes "1.2.3." ∷ []
    ) ≡ false
unfolding is_common digits_from list_len
uncommon-1 = refl

-- the last but one is `1.2.3-` and `ł`, whose code ends in the byte of `A`
uncommon-2 : list_any is_common (
    codes "1.2.3-+b" ∷ codes "1.2.3+a+b" ∷ codes "1.2.3-a..b" ∷ codes "1.2.3-a." ∷ codes "1.2.3-a+" ∷ codes "1.2.3-a.+b" ∷
    codes "1.2.3+a." ∷ codes "1.2.3 " ∷ codes "1.2.3-a " ∷
    (codes "1.2.3-" ++ encode_utf8 0x141) ∷ codes "1.2.9007199254740992" ∷ []
    ) ≡ false
unfolding is_common digits_from list_len encode_utf8
uncommon-2 = refl
