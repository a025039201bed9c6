use Rattle.std.proofs.Common.{◌≡◌, ◌+◌, ◌++◌, ◌∙◌, ℕ, List, ap, arith, length, length-append, min}
use Rattle.semver_core.specs.Keys.{number_key, pre_key}
use Rattle.semver_core.specs.Text.Identifiers.{Id}
use Rattle.semver_core.specs.Values.Versions.{VersionValue}
use Rattle.semver_core.proofs.keys.length.key_len.Goals as goal

-- how long four parts are together
together : (a b c d : List ℕ) (i j k n limit : ℕ) → i ≡ length a → j ≡ length b → k ≡ length c → n ≡ min (length d) limit
    → min (((i + j) + k) + n) limit ≡ min (length (a ++ (b ++ (c ++ d)))) limit
together a b c d i j k n limit p q r s = simp length-append (omega (arith, p, q, r, s))

pub returns : goal.returns
returns g c = let v : VersionValue = g.V.Versioned.value c.args.version.now in
    c.saturating_add.ensures ∙ together (number_key v.major) (number_key v.minor) (number_key v.patch) (pre_key v.pre_release) _ _ _ _ _
    (c.number_len.ensures.exact ∙ ap (λ (n : ℕ). length (number_key n)) c.major.ensures)
    (c.number_len-2.ensures.exact ∙ ap (λ (n : ℕ). length (number_key n)) c.minor.ensures)
    (c.number_len-3.ensures.exact ∙ ap (λ (n : ℕ). length (number_key n)) c.patch.ensures)
    (c.pre_len.ensures ∙ ap (λ (ids : List Id). min (length (pre_key ids)) 18446744073709551615) c.pre_release.ensures)
