use Rattle.std.proofs.Common.{append-nil, arith}
use Rattle.std.proofs.lemmas.Bool.Decides.{nat_tests}
use Rattle.std.proofs.lemmas.List.Elements.{filter_more}
use Rattle.semver_core.proofs.Encoding.Texts.{is_low, text_back}
use Rattle.semver_core.proofs.keys.read.read_text.Goals.{then-byte-lt255, else-byte-lt255}
use Rattle.semver_core.proofs.keys.read.read_text.Goals as goal

pub unwrap-requires : goal.unwrap-requires
unwrap-requires c =
    let back = text_back _ _ _ _ _ c.requires c.loop-byte.invariant.kept c.loop-byte-test.false c.pop.ensures.rest c.loop-byte.text.ok.0 in
    c.from_utf8.ensures.succeeds back.0

pub returns : goal.returns
returns c =
    let back = text_back _ _ _ _ _ c.requires c.loop-byte.invariant.kept c.loop-byte-test.false c.pop.ensures.rest c.loop-byte.text.ok.0 in
    cc (rw c.unwrap.ensures at c.from_utf8.ensures.ok)

pub loop-byte-preserved : goal.loop-byte-preserved
loop-byte-preserved c =
    let step = filter_more is_low c.args.key.now c.loop-byte.byte-index 0 c.loop-byte-test.true in
    elim c.if-byte-lt255.branch [
      | then-byte-lt255 w ↦
          rw w.text-is (record { kept = grind (arith, nat_tests); within = omega arith; room = omega arith })
      | else-byte-lt255 w ↦
          rw w.text-is (record { kept = grind (arith, nat_tests, append-nil); within = omega arith; room = omega arith })
    ]
