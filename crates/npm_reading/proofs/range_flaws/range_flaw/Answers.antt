use Rattle.{nodejs_semver.proofs.Common.{None, arith, false, nat_tests, refl, rules, ◌≡◌}, npm_reading.proofs.FlawPlaces.Ranges.flawed-none}
use Rattle.{npm_reading.proofs.FlawPlaces.Ranges.{one_range_flaw, right_here, wrong_here}, npm_words.proofs.FlawPlaces.Ranges.{next-utf8, passed_all}}
use Rattle.std.{proofs.lemmas.Str.IsCharBoundary-start, specs.Prelude.is_none}
use Rattle.npm_reading.proofs.range_flaws.range_flaw.Goals as goal

pub skip_whitespace-requires : goal.skip_whitespace-requires
skip_whitespace-requires c =
    IsCharBoundary-start c.cut_part.result.0.now (next-utf8 _ _ _ _ (rw c.in-Some.is at c.pieces.invariant) c.cut_part.ensures c.utf8.text)

pub returns-then-is_none-clause-flaw : goal.returns-then-is_none-clause-flaw
returns-then-is_none-clause-flaw c =
    let empty : c.alternative.result ≡ None = grind (arith, nat_tests) in
    wrong_here _ _ _ _ (rw c.in-Some.is at c.pieces.invariant) c.cut_part.ensures _ _ _ _ _ _ c.utf8.text c.skip_whitespace.ensures
    c.trim-part.ensures.middle c.as_bytes-bytes.ensures.value (rw empty at c.alternative.ensures) c.malformed_part-word_start.ensures.part
    refl refl refl refl

pub returns-then-is_none-clause-none : goal.returns-then-is_none-clause-none
returns-then-is_none-clause-none c =
    (λ e. cc e, λ h. absurd (flawed-none c.args.include_prerelease c.args.text.now _ (returns-then-is_none-clause-flaw c) h.0 h.1))

pub returns-then-is_none-clause-only : goal.returns-then-is_none-clause-only
returns-then-is_none-clause-only c = λ g y.
    cc (one_range_flaw c.args.include_prerelease c.args.text.now _ g c.utf8.text (returns-then-is_none-clause-flaw c) y)

pub pieces-preserved : goal.pieces-preserved
pieces-preserved c =
    let some : is_none c.alternative.result ≡ false = first_of (search rules, grind arith) in
    right_here _ _ _ _ (rw c.in-Some.is at c.pieces.invariant) c.cut_part.ensures _ _ _ c.utf8.text c.trim-part.ensures.middle
    c.as_bytes-bytes.ensures.value c.alternative.ensures some

pub returns-clause-none : goal.returns-clause-none
returns-clause-none c = (λ e. passed_all c.args.include_prerelease c.args.text.now (rw c.in_default.is at c.pieces.invariant), λ h. refl)

pub returns-clause-only : goal.returns-clause-only
returns-clause-only c = λ g y.
    let ls = (returns-clause-none c).0 refl in absurd (flawed-none c.args.include_prerelease c.args.text.now g y ls.0 ls.1)
