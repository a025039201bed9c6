use Rattle.nodejs_semver.proofs.Common.{Before, Bound, VersionValue, arith, bound_of, ◌∙◌, ◌≡◌}
use Rattle.nodejs_semver.proofs.range.least.start.Goals as goal

not_before : {V : Type 0} (value : V → VersionValue) (b : Bound V) → ((x : V) → b ≡ Before x → ⊥) → (v : VersionValue) → bound_of value b ≡ Before v → ⊥
not_before value b h v e = grind arith

pub returns-in_default : goal.returns-in_default
returns-in_default g c = record {
  some = tt;
  none = not_before g.V.Versioned.value c.args.interval.now.lower (λ x f. c.in_default.not-Before x (c.lower.ensures.value ∙ f));
}
