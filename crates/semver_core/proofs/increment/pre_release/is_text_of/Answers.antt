use Rattle.semver_core.proofs.Common.{ap, has_numeric, refl, sym, ◌∙◌}
use Rattle.semver_core.proofs.Increments.Texts.{no_mark, none_left, other_word, whole_left, word_behind}
use Rattle.semver_core.proofs.increment.pre_release.is_text_of.Goals as goal

pub ids-init : goal.ids-init
ids-init c = (
  rw (c.as_bytes-rest.ensures.value, c.as_slice-mark.ensures, c.copy-others.ensures, whole_left c.args.ids.now) refl,
  ap has_numeric c.copy-others.ensures ∙ c.requires,
)

pub returns-in_default-strip_prefix : goal.returns-in_default-strip_prefix
returns-in_default-strip_prefix c =
    let e = rw c.in-AlphaNumeric.is at c.in-Some.ensures.steps in
    sym (no_mark _ _ _ _ _ e c.in_default-strip_prefix.ensures.cases) ∙ c.ids.invariant.0

pub returns-in_default-strip_prefix-2 : goal.returns-in_default-strip_prefix-2
returns-in_default-strip_prefix-2 c =
    let e = rw c.in-AlphaNumeric.is at c.in-Some.ensures.steps in
    let behind = c.in-Some-strip_prefix.ensures.cases in
    let other = rw c.as_bytes-word.ensures.value at c.in_default-strip_prefix-2.ensures.cases in
    sym (other_word _ _ _ _ _ e _ behind.1 other) ∙ c.ids.invariant.0

pub ids-preserved : goal.ids-preserved
ids-preserved c =
    let e = rw c.in-AlphaNumeric.is at c.in-Some.ensures.steps in
    let behind = c.in-Some-strip_prefix.ensures.cases in
    let ahead = rw c.as_bytes-word.ensures.value at c.in-Some-strip_prefix-2.ensures.cases in (
      rw c.as_slice-mark-in-Some.ensures (word_behind _ _ _ _ _ e _ _ behind.0 behind.1 ahead.0 ahead.1 ∙ c.ids.invariant.0),
      ap has_numeric (sym e) ∙ c.ids.invariant.1,
    )

pub returns : goal.returns
returns c =
    c.is_empty.ensures ∙ none_left c.ids.mark.now c.ids.rest.now c.ids.others c.in_default.ensures.steps.0 ∙ c.ids.invariant.0
