-- Statement: the key of a version, a list of bytes. Keys compare byte by byte as versions do by
-- precedence.
use Rattle.std.specs.Prelude.{◌^◌, ◌∷◌, ◌++◌, [], if◌then◌else◌, List, nat_lt, suc, zero, ℕ}
use Rattle.std.specs.Int.{to_be_bytes, w16, w32, w64}
use Rattle.semver_core.specs.Text.Identifiers.{AlphaNumeric, Id, Numeric}
use Rattle.semver_core.specs.Values.Versions.{VersionValue}

-- a number below 251 is one byte; a greater one is 251, 252 or 253 and then its two, four or eight
-- bytes, the highest first, as few as it fits
abbrev pub number_key : ℕ → List ℕ
number_key n = if nat_lt n 251 then n ∷ []
    else (if nat_lt n (2 ^ 16) then 251 ∷ to_be_bytes w16 n
    else (if nat_lt n (2 ^ 32) then 252 ∷ to_be_bytes w32 n else 253 ∷ to_be_bytes w64 n))

-- the bytes of a text, with 255 after each 0, and 0 at the end
abbrev pub text_key : List ℕ → List ℕ
text_key [] = 0 ∷ []
text_key (zero ∷ text) = 0 ∷ 255 ∷ text_key text
text_key (suc c ∷ text) = suc c ∷ text_key text

-- 1 and the number, or 2 and the text
abbrev pub id_key : Id → List ℕ
id_key (Numeric n) = 1 ∷ number_key n
id_key (AlphaNumeric text) = 2 ∷ text_key text

-- the identifiers one after another, and 0 at the end
abbrev pub ids_key : List Id → List ℕ
ids_key [] = 0 ∷ []
ids_key (x ∷ xs) = id_key x ++ ids_key xs

-- a release has 3 in place of the identifiers of a pre-release
abbrev pub pre_key : List Id → List ℕ
pre_key [] = 3 ∷ []
pre_key ids = ids_key ids

-- the three numbers, and then the pre-release; build metadata does not count
abbrev pub key : VersionValue → List ℕ
key v = number_key v.major ++ (number_key v.minor ++ (number_key v.patch ++ pre_key v.pre_release))
