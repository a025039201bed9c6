-- Rows of the table of `inc`, computed. Some ten rows are one equation.
use Rattle.semver_core.proofs.Common.{Fault, AlphaNumeric, Id, Numeric, VersionValue, IdentifierBase, List, [], refl, ℕ, ◌++◌}
use Rattle.semver_core.proofs.Common.{◌-◌, ◌∷◌, ◌≡◌, Err, Ok, Result, InvalidIdentifier, InvalidIncrementArgument, NotAPrerelease}
use Rattle.semver_core.proofs.Common.{Overflow, incremented, release_value, Value, codes, map, ◌^◌, digits, False}

abbrev version : ℕ → ℕ → ℕ → List Id → VersionValue
version a b c list = record (release_value a b c) { pre_release = list }

-- `1.2.3` with these identifiers
abbrev of : List Id → VersionValue
of list = version 1 2 3 list

abbrev text : List ℕ → List Id
text bytes = AlphaNumeric bytes ∷ []

abbrev counted : List ℕ → ℕ → List Id
counted bytes n = AlphaNumeric bytes ∷ Numeric n ∷ []

abbrev alpha_beta : ℕ → VersionValue
alpha_beta n = of (counted (codes "alpha") 10 ++ Numeric n ∷ text (codes "beta"))

abbrev dev_bar : List Id
dev_bar = text (codes "dev") ++ text (codes "bar")

abbrev invalid : List ℕ → Result VersionValue Fault
invalid message = Err (InvalidIncrementArgument message)

-- a version, a word, an identifier and a base, and what is returned
abbrev Row : Type 0
Row = VersionValue × List ℕ × List ℕ × IdentifierBase × Result VersionValue Fault

abbrev Answered : List Row → Type 0
Answered rows = map (λ row. incremented row.0 row.1 row.2 row.3) rows ≡ map (λ row. row.4) rows

-- without an identifier
bare : Answered (
    (of [], codes "major", [], Value 0, Ok (version 2 0 0 [])) ∷
    (version 1 0 0 (Numeric 1 ∷ []), codes "major", [], Value 0, Ok (version 1 0 0 [])) ∷
    (version 1 2 0 (Numeric 1 ∷ []), codes "minor", [], Value 0, Ok (version 1 2 0 [])) ∷
    (of (Numeric 4 ∷ []), codes "patch", [], Value 0, Ok (of [])) ∷
    (alpha_beta 0, codes "prerelease", [], Value 0, Ok (alpha_beta 1)) ∷
    (version 1 2 4 [], codes "prerelease", [], Value 0, Ok (version 1 2 5 (Numeric 0 ∷ []))) ∷
    (of (Numeric 4 ∷ []), codes "prepatch", [], Value 0, Ok (version 1 2 4 (Numeric 0 ∷ []))) ∷
    (of [], codes "pre", [], Value 0, Ok (of (Numeric 0 ∷ []))) ∷
    (of dev_bar, codes "prerelease", [], Value 1, Ok (of (dev_bar ++ Numeric 1 ∷ []))) ∷ []
    )
bare = refl

-- with an identifier; the result of the third row from the end does not advance in the last one, unless it is read again
identified : Answered (
    (version 1 0 0 [], codes "prepatch", codes "alpha.1.1a", Value 0, Ok (version 1 0 1 (counted (codes "alpha.1.1a") 0))) ∷
    (of (Numeric 1 ∷ []), codes "premajor", codes "dev", Value 1, Ok (version 2 0 0 (counted (codes "dev") 1))) ∷
    (of dev_bar, codes "prerelease", codes "dev", False, Ok (of (text (codes "dev")))) ∷
    (of (Numeric 0 ∷ []), codes "prerelease", codes "1", Value 0, Ok (of (counted (codes "1") 0))) ∷
    (of (Numeric 1 ∷ Numeric 0 ∷ []), codes "prerelease", codes "1", Value 0, Ok (of (Numeric 1 ∷ Numeric 1 ∷ []))) ∷
    (of (counted (codes "1") 0), codes "prerelease", codes "1", Value 0, Ok (of (counted (codes "1") 0))) ∷ []
    )
identified = refl

-- what is rejected; in the last row a number is raised before the list is replaced
rejected : Answered (
    (of (text (codes "dev")), codes "prerelease", codes "dev", False, invalid (codes "identifier already exists")) ∷
    (version 1 2 0 [], codes "prerelease", [], False, invalid (codes "identifier is empty")) ∷
    (of [], codes "prefix", codes "a/b", Value 0, Err (InvalidIdentifier (codes "a/b"))) ∷
    (of [], codes "prefix", [], Value 0, invalid (codes "prefix")) ∷
    (of [], codes "fake", [], Value 0, invalid (codes "fake")) ∷
    (of [], [], [], Value 0, invalid []) ∷
    (of [], codes "release", [], Value 0, Err (NotAPrerelease (codes "1.2.3"))) ∷
    (version 1 2 (2 ^ 64 - 1) [], codes "patch", [], Value 0, Err Overflow) ∷
    (of (Numeric (2 ^ 64 - 1) ∷ []), codes "prerelease", codes "dev", Value 0, Err Overflow) ∷ []
    )
unfolding digits
rejected = refl
