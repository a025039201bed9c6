-- Worked examples of the definitions, computed, in groups.
use Rattle.semver_core.proofs.Common.{is_identifier_char, is_whitespace, AlphaNumeric, Numeric, goes_on, identifier_of, pieces}
use Rattle.semver_core.proofs.Common.{id_cmp, VersionValue, List, [], false, refl, true, ℕ, ◌∷◌, ◌≡◌, Equal, Greater, Less}
use Rattle.semver_core.proofs.Common.{precedence, release_value, codes, map}

-- the ideographic space and the byte order mark are whitespace; the next line and the space of no width are not
whitespace : map is_whitespace (0x3000 ∷ 0xFEFF ∷ 0x85 ∷ 0x200B ∷ []) ≡ true ∷ true ∷ false ∷ false ∷ []
whitespace = refl

-- `ł`, whose code ends in the byte of `A`, is no character of identifiers
letter_beyond : is_identifier_char 0x141 ≡ false
letter_beyond = refl

-- digits alone are a number up to 2^64 - 1, and a text from there on
identifiers : map identifier_of
    (codes "007" ∷ codes "18446744073709551615" ∷ codes "18446744073709551616" ∷ pieces (codes "rc.2-migration"))
    ≡ Numeric 7 ∷ Numeric 18446744073709551615 ∷ AlphaNumeric (codes "18446744073709551616")
    ∷ AlphaNumeric (codes "rc") ∷ AlphaNumeric (codes "2-migration") ∷ []
identifiers = refl

-- a dot goes on only where an identifier follows it
dots : map goes_on (codes "..b" ∷ codes ".b" ∷ []) ≡ false ∷ true ∷ []
dots = refl

-- digit runs past 64 bits are texts, and so are ordered by their bytes
long_runs : id_cmp (identifier_of (codes "99999999999999999999")) (identifier_of (codes "100000000000000000000")) ≡ Greater
long_runs = refl

-- `1.0.0` with this pre-release
abbrev one : List ℕ → VersionValue
one text = record (release_value 1 0 0) { pre_release = map identifier_of (pieces text) }

-- `1.0.0-alpha < 1.0.0-alpha.1 < 1.0.0-alpha.beta < 1.0.0-beta < 1.0.0-beta.2 < 1.0.0-beta.11 < 1.0.0-rc.1 < 1.0.0`, and
-- build metadata does not count
chain : map (λ (row : VersionValue × VersionValue). precedence row.0 row.1) (
    (one (codes "alpha"), one (codes "alpha.1")) ∷ (one (codes "alpha.1"), one (codes "alpha.beta")) ∷
    (one (codes "alpha.beta"), one (codes "beta")) ∷ (one (codes "beta"), one (codes "beta.2")) ∷
    (one (codes "beta.2"), one (codes "beta.11")) ∷ (one (codes "beta.11"), one (codes "rc.1")) ∷
    (one (codes "rc.1"), release_value 1 0 0) ∷
    (record (release_value 1 0 0) { build = AlphaNumeric (codes "a") ∷ [] }, release_value 1 0 0) ∷ []
    ) ≡ Less ∷ Less ∷ Less ∷ Less ∷ Less ∷ Less ∷ Less ∷ Equal ∷ []
chain = refl
