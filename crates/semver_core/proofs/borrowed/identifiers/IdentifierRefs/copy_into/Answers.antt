use Rattle.semver_core.proofs.Common.{arith, is_listed, length, listed, nat_tests, true, ◌<◌, ◌≡◌}
use Rattle.semver_core.proofs.Text.Listed.{listed_all, listed_utf8}
use Rattle.semver_core.proofs.borrowed.identifiers.IdentifierRefs.copy_into.Goals as goal

pub returns-in_ok-_end-in-Text : goal.returns-in_ok-_end-in-Text
returns-in_ok-_end-in-Text c =
    let text = c.in-Text.text.now in
    let some : 0 < length text = grind (arith, nat_tests) in
    let is : is_listed text ≡ true = grind arith in
    let utf8 = listed_utf8 text is in
    let whole : c.text_front.result.now ≡ text = grind (arith, c.text_front.ensures.whole, utf8) in
    let read = c.in_ok-_end-in-Text.ensures.exact in
    let all = listed_all text _ _ is some (rw whole at read.exact) in
    let left : c.args.self.now ≡ listed text = grind arith in
    grind (arith, read.added, all, left)
