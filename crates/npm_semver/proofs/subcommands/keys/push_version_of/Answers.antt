use Rattle.std.proofs.Common.{Bool, refl, rules}
use Rattle.npm_semver.proofs.Keyed.{no_version_read, ok_then}
use Rattle.semver_core.specs.Printing.Text.{version_text}
use Rattle.semver_core.specs.Values.Versions.{IsVersion}
use Rattle.npm_semver.proofs.subcommands.keys.push_version_of.Goals as goal

pub returns-in-Some-clause-some : goal.returns-in-Some-clause-some
returns-in-Some-clause-some c =
    let valid : IsVersion c.in-Some.version = search rules in
    let bytes = rw c.in-Some.is at c.in_ok-version.ensures.some in
    let bare = rw c.in-Some.is at c.in_ok-version.ensures.no_build in
    ok_then c.push_read.result _ _ (λ (has : Bool) reads on. let is = reads on in (
      version_text c.in-Some.version,
      record { version = c.in-Some.version; is = valid; bytes = bytes; no_build = bare; printed = refl; read = is.0 },
      is.1,
    )) c.push_read.ensures.some

pub returns-in-Some-clause-none : goal.returns-in-Some-clause-none
returns-in-Some-clause-none c =
    let valid : IsVersion c.in-Some.version = search rules in
    let bytes = rw c.in-Some.is at c.in_ok-version.ensures.some in
    let bare = rw c.in-Some.is at c.in_ok-version.ensures.no_build in
    ok_then c.push_read.result _ _ (λ (has : Bool) not off. no_version_read c.args.text.now _ c.in-Some.version bytes bare valid refl (not off)) c.push_read.ensures.none
