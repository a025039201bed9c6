use Rattle.semver_core.proofs.Common.{[], arith, sym, ◌∙◌, ◌≡◌}
use Rattle.semver_core.specs.{Words.option_copied, declared.increment.IdentifierBase.TheVariants.Value}
use Rattle.std.{proofs.lemmas.Grind.common_steps, specs.Prelude.unwrap_or}
use Rattle.semver_core.proofs.increment.next_of.Goals as goal
use Rattle.semver_core.proofs.increment.next_of.Goals.{then-starts_with+in_ok-check, else-starts_with}

pub returns : goal.returns
returns c =
    let id : c.unwrap_or-id.result.now ≡ unwrap_or (option_copied c.args.identifier) [] = grind (arith, common_steps) in
    let base : c.unwrap_or_default-base.result ≡ unwrap_or c.args.base (Value 0) = grind (arith, common_steps) in
    let begins = rw c.as_bytes.ensures.value at c.starts_with.ensures.value in
    let said = rw (id, base) at c.by_word.ensures in
    elim c.if-starts_with.branch [
      | then-starts_with+in_ok-check w ↦
          rw (sym begins ∙ w.if-starts_with.true, rw (id, base) at w.in_ok-check.ensures.value) said
      | else-starts_with w ↦ rw (sym begins ∙ w.if-starts_with.false) said
    ]
