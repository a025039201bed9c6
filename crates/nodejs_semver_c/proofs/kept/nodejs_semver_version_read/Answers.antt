use Rattle.std.proofs.Common.{inl, sym, ◌∙◌}
use Rattle.nodejs_semver_c.proofs.Keeping.{read_back}
use Rattle.nodejs_semver_c.proofs.Reading.{list_printed}
use Rattle.nodejs_semver_c.proofs.kept.nodejs_semver_version_read.Goals as goal

pub tell_printed-requires-clause-pre_release : goal.tell_printed-requires-clause-pre_release
tell_printed-requires-clause-pre_release c =
    list_printed _ c.in-Some.ensures.1 (sym c.is_printed.ensures ∙ c.if-is_printed.true)

pub tell_printed-requires-clause-build : goal.tell_printed-requires-clause-build
tell_printed-requires-clause-build c =
    list_printed _ c.in-Some.ensures.2 (sym c.is_printed-2.ensures ∙ c.if-is_printed-2.true)

pub returns : goal.returns
returns c =
    inl (_, c.in-Some.ensures.0, (read_back _ _ _ c.in-Some.ensures.0, c.tell_printed.ensures))

pub returns-in-Ok : goal.returns-in-Ok
returns-in-Ok c = inl (c.in-Ok.version, c.in-Ok.ensures.ok, (read_back _ _ _ c.in-Ok.ensures.ok, c.tell.ensures))
