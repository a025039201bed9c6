use Rattle.std.proofs.Common.{◌+◌, ◌-◌, ap, arith, length, ◌≡◌}
use Rattle.std.proofs.lemmas.List.{take_rest}
use Rattle.semver_answers.proofs.Firsts.{ends_cut, feed_boundary, front_cut}
use Rattle.semver_answers.proofs.run.front_lines.Goals as goal

pub range-requires-clause-end_boundary : goal.range-requires-clause-end_boundary
range-requires-clause-end_boundary c =
    let found = rw (c.in-Some.is, c.as_bytes.ensures.value) at c.memrchr.ensures in
    feed_boundary c.text_front-text.result.now c.in-Some.at c.text_front-text.utf8 found.0.high found.1

pub returns-in-Some : goal.returns-in-Some
returns-in-Some c =
    let found = rw (c.in-Some.is, c.as_bytes.ensures.value) at c.memrchr.ensures in
    let whole : c.in-Some.at + 1 - 0 ≡ c.in-Some.at + 1 = omega arith in
    let longest = c.text_front-text.ensures.longest in
    let cut = front_cut c.args.bytes.now _ (c.in-Some.at + 1) (omega (arith, found.0.high, ap length longest)) in
    record {
      whole = rw (take_rest, c.range.ensures.value, whole, longest) cut;
      lines = rw (c.range.ensures.value, whole) (ends_cut c.text_front-text.result.now c.in-Some.at found.0.high found.1);
      utf8 = c.range.utf8;
    }
