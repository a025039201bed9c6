use Rattle.nodejs_semver.proofs.Common.{MAX_SAFE_INTEGER, [], arith, common_steps, denotes, length, rules, sym, ◌<◌, ◌≡◌}
use Rattle.nodejs_semver.proofs.{Dividing.MeaningLaw.{meant, meant_so}, Everyday.Whole.{denoted_range}}
use Rattle.nodejs_semver.proofs.range.parse.read_loose.Goals as goal

pub returns-in_err-read_any-clause-memory : goal.returns-in_err-read_any-clause-memory
returns-in_err-read_any-clause-memory c =
    let e = c.from_residual.ensures in
    let h = meant_so (λ r. 1 < length r) MAX_SAFE_INTEGER c.args.text.now c.utf8.text c.in_err-read_any.ensures.memory in
    search rules

pub returns-then-is_empty-clause-refused : goal.returns-then-is_empty-clause-refused
returns-then-is_empty-clause-refused c =
    let none : denotes MAX_SAFE_INTEGER c.args.text.now ≡ [] = grind (arith, common_steps) in
    meant MAX_SAFE_INTEGER c.args.text.now [] c.utf8.text (sym none)

pub returns-clause-ok : goal.returns-clause-ok
returns-clause-ok c = meant MAX_SAFE_INTEGER c.args.text.now c.read_any.new.found.items c.utf8.text c.in_ok-read_any.ensures.read

pub returns-clause-range : goal.returns-clause-range
returns-clause-range c =
    let some : 0 < length c.read_any.new.found.items = grind arith in
    denoted_range MAX_SAFE_INTEGER c.args.text.now c.read_any.new.found.items c.in_ok-read_any.ensures.read some
