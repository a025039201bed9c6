use Rattle.semver_core.proofs.{Common.{MAX_SAFE_INTEGER, arith, ◌∙◌, ◌≡◌, version_text}, Printing.Returns.reread_same}
use Rattle.semver_core.proofs.laws.printing.reread.Goals as goal

pub returns-clause-same : goal.returns-clause-same
returns-clause-same c =
    let is : c.as_str-text.result.now ≡ version_text c.args.version.now = c.as_str-text.ensures.value ∙ c.in_ok-text.ensures.ok in
    reread_same MAX_SAFE_INTEGER c.as_str-text.result.now c.parse.result c.args.version.now
    (λ w. c.printed_versions_come_back.ensures.only MAX_SAFE_INTEGER c.args.version.now w
    (omega arith) is c.requires.readable) c.parse.ensures.ok
