use Rattle.std.proofs.Common.{◌∙◌, IfNone, IfSome, false, inl, inr, subst, sym}
use Rattle.lock_check.specs.Internal.Overriding.{IsOwnRange}
use Rattle.lock_check.proofs.Overriding.{no_rule-unread}
use Rattle.lock_files.proofs.Parts.{filled}
use Rattle.npm_reading.specs.Ranges.{IsRangeIn}
use Rattle.npm_words.specs.Alternatives.{HasAlternativesIn}
use Rattle.semver_core.specs.Failures.{NoValue}
use Rattle.semver_core.specs.declared.TheConstants.{MAX_SAFE_INTEGER}
use Rattle.lock_check.proofs.overrides.Rule.of.Goals.{in-text}
use Rattle.lock_check.proofs.overrides.Rule.of.Goals.{in_default-wanted+in_ok-range-in_default-wanted+in-Some-2}
use Rattle.lock_check.proofs.overrides.Rule.of.Goals as goal

pub returns-in-None-clause-none : goal.returns-in-None-clause-none
returns-in-None-clause-none c =
    let range = c.split_key.result.1.now in
    no_rule-unread c.args.key.now c.split_key.result.0.now range _ c.split_key.ensures c.in_default-wanted.not-text
    (subst (λ r. IfNone r (NoValue (HasAlternativesIn false MAX_SAFE_INTEGER false range))) c.in-None.is
    c.in_ok-range-in_default-wanted.ensures.none)

pub returns-clause-some : goal.returns-clause-some
returns-clause-some c = (
  c.in-Some.text.now,
  record {
    range = c.split_key.result.1.now;
    named = c.split_key.ensures;
    filled = filled c.split_key.result.0.now (sym c.is_empty.ensures ∙ c.if-is_empty.false);
    read = elim c.match-wanted.branch [
      | in-text w ↦ inl w.in-text.is
      | in_default-wanted+in_ok-range-in_default-wanted+in-Some-2 w ↦ inr (
        _,
        subst (λ r. IfSome r (IsRangeIn false MAX_SAFE_INTEGER false c.split_key.result.1.now)) w.in-Some-2.is
            w.in_ok-range-in_default-wanted.ensures.some,
      )
    ];
    is = sym c.in-Some.ensures;
  },
  c.of-replacement.ensures,
  elim c.match-wanted.branch [
    | in-text w ↦ subst (IsOwnRange c.split_key.result.1.now) (sym w.range-is) w.in-text.is
    | in_default-wanted+in_ok-range-in_default-wanted+in-Some-2 w ↦
        subst (IsOwnRange c.split_key.result.1.now) (sym w.range-is) (
          w.in_default-wanted.not-text,
          subst (λ r. IfSome r (IsRangeIn false MAX_SAFE_INTEGER false c.split_key.result.1.now)) w.in-Some-2.is
              w.in_ok-range-in_default-wanted.ensures.some,
        )
  ],
)
