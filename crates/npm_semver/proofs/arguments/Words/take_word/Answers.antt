use Rattle.std.proofs.Common.{arith}
use Rattle.std.proofs.lemmas.Str.Pattern.{split_parts}
use Rattle.npm_semver.proofs.Cuts.{cut_front, uncut_word}
use Rattle.npm_semver.proofs.arguments.Words.take_word.Goals as goal

pub returns-in-Some-clause-some : goal.returns-in-Some-clause-some
returns-in-Some-clause-some c =
    let parts = split_parts 61 _ _ c.split_once.ensures.cases (omega arith) in
    let (cut, uncut) = rw c.in-Some.is at parts in
    cut_front _ _ _ _ _ c.in_ok-argument.ensures.some cut uncut

pub returns-in-None-clause-some : goal.returns-in-None-clause-some
returns-in-None-clause-some c =
    let parts = split_parts 61 _ _ c.split_once.ensures.cases (omega arith) in
    uncut_word _ _ _ c.in_ok-argument.ensures.some (rw c.in-None.is at parts)
