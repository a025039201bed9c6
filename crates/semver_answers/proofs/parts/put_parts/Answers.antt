use Rattle.std.proofs.Common.{ap, append-nil, append_assoc, arith, false, ◌++◌, ◌+◌, ◌-◌, ◌∙◌, drop, sym, take}
use Rattle.semver_answers.proofs.Growth.{any_step, combined_none, taken_on, text_step}
use Rattle.std.specs.Option.{is_some}
use Rattle.semver_answers.specs.Internal.Parts.{combined, text_behind}
use Rattle.semver_answers.proofs.parts.put_parts.Goals as goal

pub parts-init : goal.parts-init
parts-init c =
    let none = combined_none c.args.asked c.args.s.now in
    let nothing = ap (λ l. c.args.output.now ++ text_behind false l) none ∙ append-nil c.args.output.now in
    record { within = omega arith; forth = omega arith; some = sym (ap is_some none); grown = sym nothing }

pub parts-preserved : goal.parts-preserved
parts-preserved c =
    let i = c.parts.at in
    let these = c.args.these.now in
    let both = taken_on these i c.min.result (i + c.min.result - i) (omega arith) in
    let old = c.args.output.now in
    let so_far = c.parts.invariant in
    let next = text_step c.args.asked (take i these) _ _ c.args.s.now c.parts.any both so_far.some in
    record {
      within = omega arith;
      forth = c.count_behind-at_once.ensures;
      some = any_step c.args.asked (take i these) _ _ c.args.s.now c.parts.any _ both so_far.some c.in_ok-any.ensures.any;
      grown =
          c.in_ok-any.ensures.ok ∙ ap (λ l. l ++ text_behind c.parts.any (combined c.args.asked (take (i + c.min.result - i) (drop i these)) c.args.s.now)) so_far.grown
          ∙ append_assoc old _ _ ∙ ap (λ l. old ++ l) (sym next);
    }
