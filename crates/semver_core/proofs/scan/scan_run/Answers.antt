use Rattle.semver_core.proofs.Common.{Some, drop-cons, false, get_or, is_ascii_digit, is_identifier_char, sym, take_rest, ◌∙◌, ◌≡◌}
use Rattle.semver_core.proofs.Text.Digits.{begins_before_end, run_of_number, run_step}
use Rattle.semver_core.proofs.scan.scan_run.Goals as goal

pub bounds-bytes-start : goal.bounds-bytes-start
bounds-bytes-start c = begins_before_end is_identifier_char c.args.bytes.now c.args.start c.requires.here

pub returns-in-Some : goal.returns-in-Some
returns-in-Some c =
    run_of_number c.args.bytes.now c.args.start c.in-Some.number c.in-Some.end c.in-Some.ensures.found
    (rw (take_rest c.args.bytes.now c.in-Some.end) at (sym c.if-not-begins_identifier.ensures))

pub returns-in-None : goal.returns-in-None
returns-in-None c =
    let inside = begins_before_end is_identifier_char c.args.bytes.now c.args.start c.requires.here in
    let here = rw (drop-cons c.args.bytes.now c.args.start 0) at c.requires.here in
    let digit : is_ascii_digit (get_or c.args.bytes.now c.args.start 0) ≡ false = sym c.is_ascii_digit.ensures.value ∙ c.if-not-is_ascii_digit.true in
    rw (run_step (Some 0) c.args.bytes.now c.args.start inside here, digit) c.run_end.ensures
