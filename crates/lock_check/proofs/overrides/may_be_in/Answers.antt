use Rattle.std.proofs.Common.{◌∙◌, subst, sym}
use Rattle.lock_check.proofs.Reaching.{range-in, tag-in, unknown-out}
use Rattle.lock_check.specs.Overrides.MayBeIn.{range, tag}
use Rattle.lock_check.specs.Readings.{IsNpmRange}
use Rattle.lock_check.proofs.overrides.may_be_in.Goals as goal

pub returns-in-Read : goal.returns-in-Read
returns-in-Read c =
    let is = subst (IsNpmRange c.args.text.now) c.in-Read.is c.in_ok-wanted.ensures.read in (
      λ on. range c.in-Read.wanted is (sym c.allows_any.ensures ∙ on),
      λ may. c.allows_any.ensures ∙ range-in c.args.own.now c.args.text.now c.in-Read.wanted c.utf8.text is may,
    )

pub returns-in-Rejected : goal.returns-in-Rejected
returns-in-Rejected c =
    let is = subst (IsNpmRange c.args.text.now) c.in-Rejected.is c.in_ok-wanted.ensures.read in (
      λ on. tag is (c.is_tag.ensures.0 on),
      λ may. c.is_tag.ensures.1 (tag-in c.args.own.now c.args.text.now is may),
    )

pub returns-in-Unsure : goal.returns-in-Unsure
returns-in-Unsure c =
    let is = subst (IsNpmRange c.args.text.now) c.in-Unsure.is c.in_ok-wanted.ensures.read in (
      λ on. absurd (cc),
      λ may. absurd (unknown-out c.args.own.now c.args.text.now is may),
    )
