use Rattle.nodejs_semver.proofs.Common.{IfSome, list_any-map, spans_of, subst, ◌∙◌}
use Rattle.nodejs_semver.specs.Internal.Index.{IsIndexOf}
use Rattle.nodejs_semver.proofs.range.unions.is_said.Goals as goal

pub returns-in-Some-say_all : goal.returns-in-Some-say_all
returns-in-Some-say_all g c =
    let of_these = subst (λ o. IfSome o (IsIndexOf (spans_of g.V.Versioned.value c.args.these.now))) c.in-Some.is c.requires in
    c.in-Some-say_all.ensures (spans_of g.V.Versioned.value c.args.these.now) of_these ∙ list_any-map _ _ c.args.these.now
