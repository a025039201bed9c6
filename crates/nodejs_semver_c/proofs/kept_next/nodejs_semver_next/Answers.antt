use Rattle.std.proofs.Common.{inl, inr, refl, sym, ◌∙◌}
use Rattle.std.proofs.lemmas.Str.{IsUtf8-nil}
use Rattle.nodejs_semver_c.proofs.Nexts.{by_base, next_back}
use Rattle.nodejs_semver_c.proofs.Reading.{list_printed, no_text, nothing_printed}
use Rattle.nodejs_semver_c.specs.Kept.{kept_value}
use Rattle.nodejs_semver_c.proofs.kept_next.nodejs_semver_next.Goals as goal

pub tell_printed-requires-clause-pre_release : goal.tell_printed-requires-clause-pre_release
tell_printed-requires-clause-pre_release c = nothing_printed _ c.in-Some.ensures.1

pub tell_printed-requires-clause-build : goal.tell_printed-requires-clause-build
tell_printed-requires-clause-build c =
    rw c.in-Some.ensures.2 (list_printed _ c.in_default.ensures.ok.1 (sym c.is_printed.ensures ∙ c.if-is_printed.true))

pub returns : goal.returns
returns c =
    let kept = c.in_default.ensures.ok in
    let none = no_text c.args.identifier.now (rw c.is_empty.ensures at c.if-is_empty.true) in
    let some = rw (c.is_some.ensures, c.base_of.ensures) at c.if-is_some.true in
    inl (
      kept_value c.args.version.now,
      kept,
      inl (
        c.in-Some.ensures.0,
        inl (
          rw none IsUtf8-nil,
          (
            by_base _ _ _ _ _ _ _ _ some (c.in-Some.ensures.3 c.args.identifier.now) c.tell_printed.ensures,
            λ single base. next_back c.args.identifier.now base single c.args.version.now _ c.args.word.now kept,
          ),
        ),
      ),
    )

pub returns-in-Err-text : goal.returns-in-Err-text
returns-in-Err-text c =
    inl (kept_value c.args.version.now, c.in_default.ensures.ok, inr (c.in-Err-text.ensures.refused, (refl, refl)))

pub returns-2 : goal.returns-2
returns-2 c =
    let kept = c.in_default.ensures.ok in
    let word = c.in-Ok.ensures.ok in
    let id = c.in-Ok-text.ensures.ok in
    inl (
      kept_value c.args.version.now,
      kept,
      inl (
        word.1,
        inl (
          id.1,
          (
            rw (word.0, id.0, c.lent-version.ensures) at c.tell_by_base.ensures,
            λ single base. next_back c.args.identifier.now base single c.args.version.now _ c.args.word.now kept,
          ),
        ),
      ),
    )
