use Rattle.npm_words.proofs.{Common.{arith, sym, true, ◌≡◌}, VersionTexts.Versions.patch_some}
use Rattle.npm_words.proofs.versions.patch_front.Goals as goal

pub returns : goal.returns
returns c =
    let loose : c.args.loose ≡ true = grind (arith, c.if-not-loose.false) in
    rw loose (sym (patch_some _ _ _ _ _ c.patch_len-len.ensures.value c.in_ok-number.ensures.found))
