-- What is said of the one range of a set of versions.
use Rattle.key_spans.specs.Ranges.{IsSimple}
use Rattle.nodejs_semver.specs.Printing.Text.{range_text}
use Rattle.nodejs_semver.specs.Ranges.Gate.{accepts}
use Rattle.npm_semver.specs.Subcommands.{Answers, IsRange, IsShown, IsSimplified, Range, Said, reply}
use Rattle.npm_semver.specs.Subcommands as Spec
use Rattle.semver_core.specs.Failures.{NoValue}
use Rattle.semver_core.specs.Values.Versions.{IsVersion, VersionValue}
use Rattle.std.proofs.Common.{◌≡◌, ◌∙◌, ◌∷◌, [], ℕ, true, false, true≢false, List, None, Option, Some, codes, is_some, option_map, sym}
use Rattle.std.specs.Prelude.{IfNone, IfSome}

is_shown : (r : Range) (found : Option Range)
    → IfSome found (λ s. (v : VersionValue) → IsVersion v → accepts s v false ≡ accepts r v false)
    → IfSome found (λ s. (v : VersionValue) × IsVersion v × (accepts r v false ≡ true))
    → IsShown found (reply (is_some found) (option_map range_text found))
is_shown r None same some = Spec.none None (λ v e. true≢false (sym e))
is_shown r (Some s) same some = Spec.some s some.0 (same some.0 some.1 ∙ some.2)

is_simplified : (r : Range) (found : Option Range)
    → IfSome found (λ s. (v : VersionValue) → IsVersion v → accepts s v false ≡ accepts r v false) → IfSome found (IsSimple false)
    → IfNone found ((v : VersionValue) → IsVersion v → accepts r v false ≡ false) → IsSimplified r found
is_simplified r None same simple none = record { same = λ v h. sym (none v h); simple = simple }
is_simplified r (Some s) same simple none = record { same = same; simple = simple }

pub simplified_said : (a : List ℕ) (r : Range) (found : Option Range) (said : Said) → IsRange a r
    → IfSome found (λ s. (v : VersionValue) → IsVersion v → accepts s v false ≡ accepts r v false) → IfSome found (IsSimple false)
    → IfSome found (λ s. (v : VersionValue) × IsVersion v × (accepts r v false ≡ true))
    → IfNone found ((v : VersionValue) → IsVersion v → accepts r v false ≡ false)
    → said ≡ reply (is_some found) (option_map range_text found) → Answers (codes "simplify" ∷ a ∷ []) said
simplified_said a r found said is same simple some none says =
    rw says (Spec.simplify a r found (reply (is_some found) (option_map range_text found)) is (is_simplified r found same simple none) (is_shown r found same some))

pub no_simplified : (a : List ℕ) → NoValue (IsRange a) → NoValue (Answers (codes "simplify" ∷ a ∷ []))
no_simplified a none said (Spec.simplify x r found s is simple shown) = none r is
