use Rattle.nodejs_semver.proofs.Common.{MAX_SAFE_INTEGER, arith, refl, ◌∙◌}
use Rattle.nodejs_semver.proofs.Printing.{prints_again, same_back, Reread, reread, reread_read}
use Rattle.nodejs_semver.proofs.laws.printing.reread_range.Goals as goal

pub returns-in-Ok : goal.returns-in-Ok
returns-in-Ok c =
    let list = c.args.range.now in
    let h : Reread MAX_SAFE_INTEGER c.deref.result.now list = record {
      utf8 = c.deref.utf8;
      small = omega arith;
      range = c.intervals-intervals.ensures.valid;
      printable = c.requires;
      printed = c.deref.ensures ∙ c.in-Ok.ensures.ok;
    } in record {
      equal = reread _ _ _ list _ h (same_back list) c.parse.ensures.ok;
      builds = reread _ _ _ list _ h refl c.parse.ensures.ok;
      text = reread _ _ _ list _ h (prints_again list) c.parse.ensures.ok;
      never_refused = reread_read _ _ _ list h c.parse.ensures.refused;
    }
