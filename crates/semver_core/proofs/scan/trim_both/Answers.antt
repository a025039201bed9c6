use Rattle.semver_core.proofs.Common.{IsCharBoundary-start, ap, drop, encode_utf8, length, refl, rules, sym, ◌++◌, ◌∙◌}
use Rattle.semver_core.proofs.Text.Trims.{shortened_more, shortened_out, shortened_stop, trim_in_two}
use Rattle.semver_core.proofs.scan.trim_both.Goals as goal

pub skip_whitespace-start-requires : goal.skip_whitespace-start-requires
skip_whitespace-start-requires c = IsCharBoundary-start c.args.text.now c.utf8.text

pub returns-then-not-is_whitespace_code : goal.returns-then-not-is_whitespace_code
returns-then-not-is_whitespace_code c =
    let text = c.args.text.now in
    let start = c.skip_whitespace-start.result in
    let left = shortened_stop (drop start text) c.spaces.rest.now c.next_back.new.self.rest.now c.in-Some.character
    c.spaces.invariant.shortened (search rules) (sym c.spaces.invariant.left ∙ c.in-Some.ensures.steps)
    (sym (rw c.from.ensures at c.if-not-is_whitespace_code.ensures)) in
    record { middle = trim_in_two text (drop start text) c.spaces.rest.now start c.utf8.text c.skip_whitespace-start.ensures refl left }

pub spaces-preserved : goal.spaces-preserved
spaces-preserved c = record {
  shortened =
      shortened_more _ c.spaces.rest.now _ c.in-Some.character c.spaces.invariant.shortened c.as_str-rest.utf8
      (sym c.spaces.invariant.left ∙ c.in-Some.ensures.steps ∙ ap (λ t. t ++ encode_utf8 c.in-Some.character) (sym c.as_str-rest.ensures))
      (sym (rw c.from.ensures at c.if-not-is_whitespace_code.ensures));
  left = sym c.as_str-rest.ensures;
}

pub returns : goal.returns
returns c =
    let text = c.args.text.now in
    let start = c.skip_whitespace-start.result in
    let left = shortened_out (drop start text) c.spaces.rest.now c.spaces.invariant.shortened
    (ap length (sym c.spaces.invariant.left) ∙ c.in_default.ensures.steps.0) in
    record { middle = trim_in_two text (drop start text) c.spaces.rest.now start c.utf8.text c.skip_whitespace-start.ensures refl left }
