use Rattle.nodejs_semver.proofs.{Common.{precedence, rules, span_of, ◌∙◌, ◌≡◌}, Questions.Unions.covers-values}
use Rattle.semver_core.specs.Cuts.{covers}
use Rattle.nodejs_semver.proofs.range.unions.says_all.Goals as goal

pub returns-then-not-keeps_out : goal.returns-then-not-keeps_out
returns-then-not-keeps_out g c =
    let value = g.V.Versioned.value in
    let covered : c.covers.result ≡ covers precedence (span_of value c.args.interval.now) (span_of value c.args.other.now) =
    c.covers.ensures ∙ covers-values _ value g.met.V.VersionPoint.ordered c.args.interval.now c.args.other.now in
    search (rules, covered)

pub returns-else-not-keeps_out : goal.returns-else-not-keeps_out
returns-else-not-keeps_out g c =
    let value = g.V.Versioned.value in
    let covered : c.covers.result ≡ covers precedence (span_of value c.args.interval.now) (span_of value c.args.other.now) =
    c.covers.ensures ∙ covers-values _ value g.met.V.VersionPoint.ordered c.args.interval.now c.args.other.now in
    search (rules, covered)
