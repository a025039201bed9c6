use Rattle.std.proofs.Common.{◌∙◌, ap, not}
use Rattle.std.proofs.lemmas.Bool.{iff_false}
use Rattle.std.specs.List.{after_first, before_first}
use Rattle.lock_files.specs.Paths.{is_slash}
use Rattle.lock_files.specs.Specifiers.{host_in}
use Rattle.lock_files.proofs.Addresses.{page-below, page-known, page-unknown}
use Rattle.lock_files.proofs.Patterns.{front-off}
use Rattle.lock_files.proofs.specifier.is_page.Goals as goal

pub returns-then-not-is_one_of : goal.returns-then-not-is_one_of
returns-then-not-is_one_of c =
    let target = c.args.target.now in
    let place = front-off target c.trim_start_matches.result.now c.trim_start_matches.ensures.matches in
    let host = c.host_in-host.ensures ∙ ap host_in (c.divided.ensures.before ∙ ap (before_first is_slash) place) in
    let path = c.divided.ensures.behind ∙ ap (after_first is_slash) place in
    let never = iff_false c.is_one_of.ensures c.if-not-is_one_of.true in (
      λ is. page-unknown target c.host_in-host.result.now c.divided.result.1.now host path
          never,
      λ is. ap not c.if-not-is_one_of.true,
    )

pub returns-then-eq_ignore_ascii_case : goal.returns-then-eq_ignore_ascii_case
returns-then-eq_ignore_ascii_case c =
    let target = c.args.target.now in
    let place = front-off target c.trim_start_matches.result.now c.trim_start_matches.ensures.matches in
    let host = c.host_in-host.ensures ∙ ap host_in (c.divided.ensures.before ∙ ap (before_first is_slash) place) in
    let path = c.divided.ensures.behind ∙ ap (after_first is_slash) place in
    let known = c.is_one_of.ensures.0 c.if-not-is_one_of.false in (
      λ is. page-below target c.host_in-host.result.now c.divided.result.1.now host path
          (c.eq_ignore_ascii_case.ensures.test.0 c.if-eq_ignore_ascii_case.true) (c.is_below_project.ensures.0 is),
      λ is. c.is_below_project.ensures.1
          (page-known target c.host_in-host.result.now c.divided.result.1.now host path known is).1,
    )

pub returns-else-eq_ignore_ascii_case : goal.returns-else-eq_ignore_ascii_case
returns-else-eq_ignore_ascii_case c =
    let target = c.args.target.now in
    let place = front-off target c.trim_start_matches.result.now c.trim_start_matches.ensures.matches in
    let host = c.host_in-host.ensures ∙ ap host_in (c.divided.ensures.before ∙ ap (before_first is_slash) place) in
    let path = c.divided.ensures.behind ∙ ap (after_first is_slash) place in
    let known = c.is_one_of.ensures.0 c.if-not-is_one_of.false in
    let no = c.if-eq_ignore_ascii_case.false in (
      λ is. absurd (cc),
      λ is. c.eq_ignore_ascii_case.ensures.test.1
          (page-known target c.host_in-host.result.now c.divided.result.1.now host path known is).0,
    )
