use Rattle.std.proofs.Common.{arith, ◌+◌, ◌++◌}
use Rattle.std.specs.Fmt.{decimal}
use Rattle.semver_answers.specs.Internal.Puts.{part_text}
use Rattle.semver_answers.proofs.Bytes.{short_text}
use Rattle.semver_answers.proofs.put.put_release.Goals as goal

pub returns-then-patch-lt100-clause-ok : goal.returns-then-patch-lt100-clause-ok
returns-then-patch-lt100-clause-ok c =
    let a = c.args in
    let inner = c.before-then-patch-lt100.ensures.value (decimal a.patch) c.digits.ensures.value in
    let outer = c.before-text.ensures.value (part_text a.minor ++ decimal a.patch) inner in
    let len = c.width.result + c.width-then-patch-lt100.result + c.width-then-patch-lt100-2.result + 2 in
    rw (
      c.to_le_bytes.ensures,
      short_text a.major a.minor a.patch _ len c.if-major-lt100.true c.if-minor-lt100.true c.if-patch-lt100.true outer
          (omega (arith, c.width.ensures.value, c.width-then-patch-lt100.ensures.value, c.width-then-patch-lt100-2.ensures.value))
          (omega (arith, c.width.ensures.small, c.width-then-patch-lt100.ensures.small, c.width-then-patch-lt100-2.ensures.small)),
    ) at c.put_front.ensures.ok
