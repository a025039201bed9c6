use Rattle.semver_core.proofs.{Common.MAX_SAFE_INTEGER, Text.Digits.{number_found, number_none}}
use Rattle.semver_core.proofs.scan.number_in.Goals as goal

pub returns-clause-found : goal.returns-clause-found
returns-clause-found c = number_found MAX_SAFE_INTEGER c.args.bytes.now c.args.at c.digits.result c.digits.ensures.found

pub returns-clause-none : goal.returns-clause-none
returns-clause-none c = number_none MAX_SAFE_INTEGER c.args.bytes.now c.args.at c.digits.result c.digits.ensures.found
