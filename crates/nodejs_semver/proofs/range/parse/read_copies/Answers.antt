use Rattle.nodejs_semver.proofs.Common.{List, MAX_SAFE_INTEGER, Means, Span, TakesMemory, VersionValue, arith, common_steps, rules, subst, sym}
use Rattle.nodejs_semver.proofs.Dividing.MeaningLaw.{one_meaning, same_meaning}
use Rattle.nodejs_semver.proofs.range.parse.read_copies.Goals as goal

pub returns-clause-read : goal.returns-clause-read
returns-clause-read c =
    let text = c.args.text.now in
    let meant = sym ((one_meaning MAX_SAFE_INTEGER text c.read_loose.new.found.items c.utf8.text).1 c.in_ok-read_loose.ensures.ok) in
    cc (meant, c.in_ok-found.ensures.whole, c.deref.ensures)

pub returns-in_err-found-clause-memory : goal.returns-in_err-found-clause-memory
returns-in_err-found-clause-memory c =
    let text = c.args.text.now in
    let e = c.from_residual-in_err-found.ensures in
    let takes : TakesMemory c.read_loose.new.found.items = grind (arith, common_steps) in
    let h : (r : List (Span VersionValue)) → Means MAX_SAFE_INTEGER text r → TakesMemory r =
    λ r m. subst TakesMemory (same_meaning MAX_SAFE_INTEGER text c.read_loose.new.found.items r c.utf8.text c.in_ok-read_loose.ensures.ok m) takes in
    search rules
