use Rattle.std.proofs.Common.{◌≡◌, ◌<◌, [], sym, ap, arith, length, refl, rules}
use Rattle.std.proofs.lemmas.List.{nil_from_length}
use Rattle.std.proofs.lemmas.Result.{err_from_is_err_and}
use Rattle.semver_answers.proofs.Firsts.{behind_shorter, ends_none, whole_has, whole_next}
use Rattle.semver_answers.proofs.Steps.{taken_line, taken_none, taken_stop, took_end}
use Rattle.semver_answers.proofs.run.Lines.take.Goals as goal

pub lines-init : goal.lines-init
lines-init c = record {
  utf8 = ([], (refl, refl));
  whole = ends_none;
  pending = c.requires;
  empty = λ some. absurd (omega (arith, some));
  taken = taken_none _ _ _ c.truncate.ensures;
}

pub returns-in_default : goal.returns-in_default
returns-in_default c =
    let empty : length c.lines.text.now ≡ 0 = search rules in
    took_end c.extend_from_slice.result _ _ _ _ _ _ (rw (nil_from_length c.lines.text.now empty) at c.lines.invariant.taken) c.in_default.ensures.none
    c.extend_from_slice.ensures.items

pub returns-in_err-end_line : goal.returns-in_err-end_line
returns-in_err-end_line c =
    let p = err_from_is_err_and c.from_residual.result c.from_residual.ensures.1 in
    rw (p.1, c.in_err-end_line.ensures.err) (taken_stop _ _ _ _ _ c.lines.invariant.taken)

pub lines-preserved-then-is_empty : goal.lines-preserved-then-is_empty
lines-preserved-then-is_empty c =
    let empty : length c.lines.text.now ≡ 0 = search rules in
    let cut = c.in-Some.ensures in
    let before = rw (nil_from_length c.lines.text.now empty) at c.lines.invariant.taken in
    let ended = c.in_ok-end_line.ensures in
    let after = taken_line _ _ _ _ _ _ c.in-Some.line.now _ _ before cut.some cut.feed ended.ok ended.ended in
    record {
      utf8 = c.front_lines.ensures.utf8;
      whole = c.front_lines.ensures.lines;
      pending = rw ended.ended refl;
      empty = λ some. ended.ended;
      taken = rw (sym c.front_lines.ensures.whole) (rw cut.last at after);
    }

pub answer_text-requires : goal.answer_text-requires
answer_text-requires c =
    let some : 0 < length c.lines.text.now = search rules in
    whole_has c.lines.text.now c.lines.invariant.whole some

pub returns-in_err-text : goal.returns-in_err-text
returns-in_err-text c =
    let p = err_from_is_err_and c.from_residual-in_err-text.result c.from_residual-in_err-text.ensures.1 in
    rw (p.1, c.in_err-text.ensures.err) (taken_stop _ _ _ _ _ c.lines.invariant.taken)

pub lines-smaller : goal.lines-smaller
lines-smaller c =
    let some : 0 < length c.lines.text.now = search rules in
    let shorter = behind_shorter c.lines.text.now (whole_has c.lines.text.now c.lines.invariant.whole some) in
    omega (arith, ap length c.in_ok-text.ensures.next.0, shorter)

pub lines-preserved : goal.lines-preserved
lines-preserved c =
    let some : 0 < length c.lines.text.now = search rules in
    let text = c.lines.text.now in
    let feed = whole_has text c.lines.invariant.whole some in
    let none = c.lines.invariant.empty some in
    let n = c.in_ok-text.ensures.next in
    record {
      utf8 = n.1;
      whole = rw n.0 (whole_next text c.lines.invariant.whole);
      pending = c.lines.invariant.pending;
      empty = λ more. none;
      taken = rw n.0 (taken_line _ _ _ _ _ _ text _ _ c.lines.invariant.taken refl feed (rw none c.in_ok-text.ensures.ok) none);
    }
