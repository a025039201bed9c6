-- For proofs and private contracts: what the questions of module `npm` compute.
use Rattle.std.specs.Prelude.{◌&&◌, Bool, List}
use Rattle.std.specs.List.{list_any}
use Rattle.semver_core.specs.Cuts.{Span, holds}
use Rattle.semver_core.specs.Values.Order.{precedence}
use Rattle.semver_core.specs.Values.Versions.{VersionValue}
use Rattle.nodejs_semver.specs.Ranges.Unions.{says_all}
use Rattle.semver_core.specs.Values.Gate.{lets_in}
use Rattle.nodejs_semver.specs.Ranges.View.{span_of}

-- one of these spans says all of t
abbrev pub is_said : {V : Type 0} → (V → VersionValue) → List (Span V) → Span V → Bool
is_said value these t = list_any (λ s. says_all (span_of value s) (span_of value t)) these

-- the span holds the version and lets it in
abbrev pub admits : Span VersionValue → VersionValue → Bool
admits s v = holds precedence s v && lets_in s v

-- the span admits one of these versions
abbrev pub is_used : {V W : Type 0} → (V → VersionValue) → (W → VersionValue) → List W → Span V → Bool
is_used value other versions s = list_any (λ w. admits (span_of value s) (other w)) versions
