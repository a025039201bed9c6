-- Statement: which versions come back from their printed text.
use Rattle.std.specs.Prelude.{◌&&◌, ◌^◌, not, nat_le, nat_lt, ℕ, Bool}
use Rattle.std.specs.List.{list_all}
use Rattle.semver_core.specs.Text.Identifiers.{Id, Numeric, AlphaNumeric, is_identifier, is_u64_text}
use Rattle.semver_core.specs.Values.Versions.{VersionValue}

-- an identifier that its own text spells: a number of 64 bits, or a text that is not such a number
abbrev pub is_normal : Id → Bool
is_normal (Numeric n) = nat_lt n (2 ^ 64)
is_normal (AlphaNumeric text) = is_identifier text && not (is_u64_text text)

-- no number is above the limit
abbrev pub is_within : ℕ → VersionValue → Bool
is_within limit v = nat_le v.major limit && (nat_le v.minor limit && nat_le v.patch limit)

-- numbers up to the limit, and identifiers in normal form
abbrev pub is_readable : ℕ → VersionValue → Bool
is_readable limit v = is_within limit v && (list_all is_normal v.pre_release && list_all is_normal v.build)
