-- Statement. What `inc` returns: the table of its words, row by row.
use Rattle.std.specs.Prelude.{◌==◌, ◌&&◌, ◌||◌, ◌+◌, ◌-◌, ◌^◌, not, ℕ, Bool, true, false, List, [], ◌∷◌, ◌++◌}
use Rattle.std.specs.Prelude.{if◌then◌else◌, Option, unwrap_or, Result, Ok, Err, map, codes, ⊤}
use Rattle.std.specs.Char.{is_ascii_digit}
use Rattle.std.specs.List.{list_all, list_any, join_with_byte, starts_with}
use Rattle.std.specs.Str.{bytes_eq}
use Rattle.std.specs.Str.Parse.{digits_value}
use Rattle.std.specs.Prelude.{nat_eq}
use Rattle.semver_core.specs.Text.Identifiers.{Id, Numeric, AlphaNumeric, is_identifier, pieces}
use Rattle.semver_core.specs.Printing.Text.{id_text, version_text}
use Rattle.semver_core.specs.Values.Order.{id_cmp}
use Rattle.semver_core.specs.Values.Versions.{VersionValue, is_release}
use Rattle.std.specs.Ordering.{is_eq}
use Rattle.semver_core.specs.declared.increment.IdentifierBase.{IdentifierBase}
use Rattle.semver_core.specs.declared.increment.IdentifierBase.TheVariants.{False, Value}
use Rattle.semver_core.specs.Lists.{is_empty}

-- why a version is not incremented, with the text that the error holds
pub data Fault : Type 0 where
  InvalidIdentifier InvalidIncrementArgument NotAPrerelease : List ℕ → Fault
  Overflow : Fault

-- the first step, and with its value the second
infixl 10 ◌>>=◌
abbrev pub ◌>>=◌ : {A B : Type 0} → Result A Fault → (A → Result B Fault) → Result B Fault
(Ok x) >>= f = f x
(Err e) >>= f = Err e

abbrev pub is_false : IdentifierBase → Bool
is_false False = true
is_false (Value n) = false

-- the number that a base begins with
abbrev pub first_number : IdentifierBase → ℕ
first_number False = 0
first_number (Value n) = if n == 0 then 0 else 1

-- one more, in 64 bits
abbrev pub one_more : ℕ → Result ℕ Fault
one_more n = if n == 2 ^ 64 - 1 then Err Overflow else Ok (n + 1)

-- some identifier of a list is a number
abbrev pub has_numeric : List Id → Bool
has_numeric list = list_any (λ id. elim id [ Numeric n ↦ true | AlphaNumeric text ↦ false ]) list

-- the last number of a list rises by one
abbrev pub raise_last : List Id → Result (List Id) Fault
raise_last [] = Ok []
raise_last (AlphaNumeric text ∷ rest) = raise_last rest >>= λ list. Ok (AlphaNumeric text ∷ list)
raise_last (Numeric n ∷ rest) = if has_numeric rest then (raise_last rest >>= λ list. Ok (Numeric n ∷ list))
    else (one_more n >>= λ more. Ok (Numeric more ∷ rest))

-- the pre step, first half: an empty list becomes a number, and a last number rises; a list without a number
-- gets one at its end, unless the base is false and the identifier is that list, printed and joined by dots
abbrev pub advance : List Id → List ℕ → IdentifierBase → Result (List Id) Fault
advance [] id base = Ok (Numeric (first_number base) ∷ [])
advance (x ∷ xs) id base = if has_numeric (x ∷ xs) then raise_last (x ∷ xs)
    else if is_false base && bytes_eq id (join_with_byte 46 (map id_text (x ∷ xs)))
    then Err (InvalidIncrementArgument (codes "identifier already exists"))
    else Ok ((x ∷ xs) ++ Numeric (first_number base) ∷ [])

-- the identifier that an asked one matches: the number that digits write, and any other text
abbrev pub asked : List ℕ → Id
asked id = if list_all is_ascii_digit id then Numeric (digits_value 10 id) else AlphaNumeric id

-- the list begins with a match and then a number
abbrev pub is_kept : List ℕ → List Id → Bool
is_kept id (x ∷ Numeric n ∷ rest) = is_eq (id_cmp x (asked id))
is_kept id _ = false

-- the pre step, second half: with an identifier, a list that does not begin with it is begun anew, with a
-- number unless the base is false
abbrev pub identify : List ℕ → IdentifierBase → List Id → List Id
identify id base list = if is_empty id || is_kept id list then list
    else AlphaNumeric id ∷ (if is_false base then [] else Numeric (first_number base) ∷ [])

abbrev pub pre_step : List ℕ → IdentifierBase → VersionValue → Result VersionValue Fault
pre_step id b v = advance v.pre_release id b >>= λ list. Ok (record v { pre_release = identify id b list })

-- the release of the same numbers, and of the next major, minor and patch
abbrev pub release_of : VersionValue → VersionValue
release_of v = record v { pre_release = [] }

abbrev pub next_major : VersionValue → Result VersionValue Fault
next_major v = one_more v.major >>= λ n. Ok (record v { major = n; minor = 0; patch = 0; pre_release = [] })

abbrev pub next_minor : VersionValue → Result VersionValue Fault
next_minor v = one_more v.minor >>= λ n. Ok (record v { minor = n; patch = 0; pre_release = [] })

abbrev pub next_patch : VersionValue → Result VersionValue Fault
next_patch v = one_more v.patch >>= λ n. Ok (record v { patch = n; pre_release = [] })

-- the rows of the words
abbrev pub by_word : List ℕ → List ℕ → IdentifierBase → VersionValue → Result VersionValue Fault
by_word word id base v = if bytes_eq word (codes "major")
    then (if v.minor == 0 && (v.patch == 0 && not (is_release v)) then Ok (release_of v) else next_major v)
    else if bytes_eq word (codes "minor")
    then (if v.patch == 0 && not (is_release v) then Ok (release_of v) else next_minor v)
    else if bytes_eq word (codes "patch") then (if is_release v then next_patch v else Ok (release_of v))
    else if bytes_eq word (codes "premajor") then (next_major v >>= pre_step id base)
    else if bytes_eq word (codes "preminor") then (next_minor v >>= pre_step id base)
    else if bytes_eq word (codes "prepatch") then (next_patch v >>= pre_step id base)
    else if bytes_eq word (codes "prerelease")
    then (if is_release v then (next_patch v >>= pre_step id base) else pre_step id base v)
    else if bytes_eq word (codes "pre") then pre_step id base v
    else if bytes_eq word (codes "release")
    then (if is_release v then Err (NotAPrerelease (version_text v)) else Ok (release_of v))
    else Err (InvalidIncrementArgument word)

-- the two checks: what is given as the identifier may be several, joined by dots
abbrev pub checked : List ℕ → IdentifierBase → Result ⊤ Fault
checked id base = if is_empty id && is_false base
    then Err (InvalidIncrementArgument (codes "identifier is empty"))
    else if is_empty id || list_all is_identifier (pieces id) then Ok tt else Err (InvalidIdentifier id)

-- what `inc` returns, given a version, a word, and perhaps an identifier and a base: the checks where the
-- word begins with `pre`, also where it is none of the words, and then the word's row. No identifier and an
-- empty one are the same, and so are no base and the number 0.
abbrev pub answer_of_inc : VersionValue → (word : List ℕ) → Option (List ℕ) → Option IdentifierBase
    → Result VersionValue Fault
answer_of_inc v word id base = let text = unwrap_or id [] in let b = unwrap_or base (Value 0) in
    (if starts_with nat_eq word (codes "pre") then checked text b else Ok tt) >>= λ _. by_word word text b v
