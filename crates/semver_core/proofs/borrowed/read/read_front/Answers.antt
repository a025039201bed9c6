use Rattle.semver_core.proofs.Common.{listed, MAX_SAFE_INTEGER, [], sym}
use Rattle.semver_core.proofs.Text.{Ends.nothing_listed, Fronts.{front_found, front_not, front_whole}}
use Rattle.semver_core.proofs.borrowed.read.read_front.Goals as goal

pub returns-in_err-major-clause-none : goal.returns-in_err-major-clause-none
returns-in_err-major-clause-none g c =
    rw c.from_residual.ensures (front_not MAX_SAFE_INTEGER c.args.text.now c.in_err-major.ensures.found)

pub from_texts-requires : goal.from_texts-requires
from_texts-requires g c = record { pre_release = nothing_listed; build = nothing_listed }

pub returns-then-not-begins_lists-clause-some : goal.returns-then-not-begins_lists-clause-some
unfolding listed
returns-then-not-begins_lists-clause-some g c =
    let m = c.in_ok-major in
    front_found MAX_SAFE_INTEGER c.args.text.now m.major m.minor m.patch m.end [] [] m.end _ m.ensures.found
    (sym (c.begins_lists.ensures c.if-not-begins_lists.true)) c.from_texts.ensures (g.met.R.Reach.within c.args.text.now _ m.ensures.place)

pub returns-then-not-begins_lists-clause-whole : goal.returns-then-not-begins_lists-clause-whole
returns-then-not-begins_lists-clause-whole g c =
    front_whole MAX_SAFE_INTEGER c.args.text.now _ c.in_ok-major.end (returns-then-not-begins_lists-clause-some g c)

pub returns-clause-some : goal.returns-clause-some
returns-clause-some g c =
    let m = c.in_ok-major in
    let l = c.some_lists-end in
    front_found MAX_SAFE_INTEGER c.args.text.now m.major m.minor m.patch m.end _ _ l.result.2 _ m.ensures.found
    l.ensures.found c.from_texts-version.ensures (g.met.R.Reach.within c.args.text.now _ l.ensures.place)

pub returns-clause-whole : goal.returns-clause-whole
returns-clause-whole g c =
    front_whole MAX_SAFE_INTEGER c.args.text.now _ c.some_lists-end.result.2 (returns-clause-some g c)
