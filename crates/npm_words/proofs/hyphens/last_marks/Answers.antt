use Rattle.npm_words.proofs.Common.{ap, arith, drop, is_mark, length, nat_tests, take_rest, ℕ, ◌-◌, ◌∙◌, ◌≡◌}
use Rattle.std.{proofs.lemmas.List.Sums.suffix_len_is, specs.List.suffix_len}
use Rattle.npm_words.proofs.hyphens.last_marks.Goals as goal

pub returns-clause-value : goal.returns-clause-value
returns-clause-value c =
    let marks = c.args.marks.now in
    let size = suffix_len_is is_mark marks c.marks.start 0 c.marks.invariant.fits c.marks.invariant.each (λ some. grind (arith, nat_tests)) in
    let at : c.marks.start ≡ length marks - suffix_len is_mark marks = omega (arith, size, c.marks.invariant.fits) in
    take_rest marks c.marks.start ∙ ap (λ (n : ℕ). drop n marks) at
