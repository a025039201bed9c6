use Rattle.nodejs_semver.proofs.Common.{ap, arith, common_steps, sym, ◌∙◌}
use Rattle.npm_reading.proofs.Grammar.RangeReads.{ends-as, hyphen-alternative}
use Rattle.npm_reading.specs.Internal.Reads.{valid_alternative}
use Rattle.npm_words.proofs.Common.{Ended, alternative_of, are_normal, end_view, hyphen_ends, hyphen_of}
use Rattle.{npm_words.proofs.{Common.valid_one, Grammar.Hyphens.hyphen-normal}, semver_core.specs.Internal.Reading.◌>>?◌}
use Rattle.npm_reading.proofs.ranges.alternative.Goals as goal

pub between-requires : goal.between-requires
between-requires c =
    let v = ends-as (hyphen_ends c.args.loose c.args.text.now) (end_view c.in-Some.lower, end_view c.in-Some.upper) c.in-Some.ensures in
    let n = hyphen-normal c.args.loose c.args.text.now v.0 v.1 in
    record { lower = ap (λ (x : Ended × Ended). are_normal x.0.1) v.2 ∙ n.0; upper = ap (λ (x : Ended × Ended). are_normal x.1.1) v.2 ∙ n.1 }

pub returns-in-Some : goal.returns-in-Some
returns-in-Some c =
    let v = ends-as (hyphen_ends c.args.loose c.args.text.now) (end_view c.in-Some.lower, end_view c.in-Some.upper) c.in-Some.ensures in
    rw (hyphen-alternative c.args.loose c.args.include c.args.text.now v.0 v.1
    ∙ ap (λ (x : Ended × Ended). hyphen_of c.args.loose c.args.include x >>? valid_one) (sym v.2)) c.between.ensures

pub returns-in-None : goal.returns-in-None
unfolding valid_alternative alternative_of
returns-in-None c = grind (arith, common_steps)
