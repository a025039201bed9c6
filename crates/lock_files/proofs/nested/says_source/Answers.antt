use Rattle.std.proofs.Common.{◌∙◌, sym}
use Rattle.serde_json.specs.View.{view}
use Rattle.lock_files.specs.Nested.SaysSource.{asked}
use Rattle.lock_files.proofs.Nesting.{found-map, says-range}
use Rattle.lock_files.proofs.nested.says_source.Goals as goal

pub returns-in-Some : goal.returns-in-Some
returns-in-Some c = (
  λ range. asked c.in-Some.from c.in-Some.ensures (sym c.is_range.ensures ∙ range),
  λ says. c.is_range.ensures ∙ says-range (view c.args.entry.now) c.args.version c.in-Some.from
      (found-map (λ v. view v.now) c.get.result _ c.get.ensures ∙ sym c.is_some.ensures ∙ c.if-is_some.false)
      (sym c.is_repository.ensures ∙ c.if-is_repository.false) c.in-Some.ensures says,
)
