use Rattle.{npm_words.proofs.{Common.{refl, sym, ◌∙◌}, Grammar.PartialLaw.over_qualified}, semver_core.proofs.Text.Ends.nothing_listed}
use Rattle.npm_words.proofs.places.qualified_partial.Goals as goal

pub long_partial-requires-clause-pre_release : goal.long_partial-requires-clause-pre_release
long_partial-requires-clause-pre_release c = nothing_listed

pub long_partial-requires-clause-build : goal.long_partial-requires-clause-build
long_partial-requires-clause-build c = nothing_listed

pub returns-then-is_over : goal.returns-then-is_over
returns-then-is_over c =
    rw (
      over_qualified c.args.loose c.args.major c.args.minor c.args.patch c.args.text.now (sym c.is_over.ensures ∙ c.if-is_over.true),
      sym c.long_partial.ensures,
    ) refl
