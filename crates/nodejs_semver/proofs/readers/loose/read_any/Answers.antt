use Rattle.nodejs_semver.proofs.Common.{◌≡◌, ◌<◌, ◌++◌, ◌∙◌, [], List, OnOk, Span, VersionValue, ap, arith, common_steps, length, rules, subst}
use Rattle.nodejs_semver.proofs.Common.{MAX_SAFE_INTEGER, denotes, part_denotes}
use Rattle.nodejs_semver.proofs.Dividing.MeaningLaw.{one_part}
use Rattle.semver_core.proofs.Reading.Bytes.{trim-starts}
use Rattle.std.proofs.Common.{OnErr}
use Rattle.nodejs_semver.proofs.readers.loose.read_any.Goals as goal
use Rattle.nodejs_semver.proofs.readers.loose.read_any.Goals.{else-not-is_empty, then-not-is_empty}

pub add_part-requires : goal.add_part-requires
add_part-requires c = trim-starts c.args.text.now c.trim.result.now c.trim.ensures.middle

-- what the one part adds to no intervals is what the text means
added-is : (c : goal.After-add_part) → c.if-not-is_empty.found.items ++ part_denotes MAX_SAFE_INTEGER c.trim.result.now ≡ denotes MAX_SAFE_INTEGER c.args.text.now
added-is c =
    let none : c.if-not-is_empty.found.items ≡ [] = elim c.if-not-is_empty.branch [
      | then-not-is_empty w ↦ search rules
      | else-not-is_empty w ↦ grind (arith, common_steps)
    ] in
    ap (λ (l : List (Span VersionValue)). l ++ part_denotes MAX_SAFE_INTEGER c.trim.result.now) none
    ∙ one_part MAX_SAFE_INTEGER c.args.text.now c.trim.result.now (c.requires c.if-barred.false) c.trim.ensures.middle

pub returns-else-barred-clause-read : goal.returns-else-barred-clause-read
returns-else-barred-clause-read c =
    subst (λ (l : List (Span VersionValue)). OnOk c.add_part.result (c.add_part.new.found.items ≡ l)) (added-is c) c.add_part.ensures.added

pub returns-else-barred-clause-memory : goal.returns-else-barred-clause-memory
returns-else-barred-clause-memory c =
    subst (λ (l : List (Span VersionValue)). OnErr c.add_part.result (1 < length l)) (added-is c) c.add_part.ensures.memory
