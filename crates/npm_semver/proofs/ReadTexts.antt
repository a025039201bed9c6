-- The versions that texts are, by how they are read.
use Rattle.npm_semver.specs.{Readings.{IsFoundIn, IsVersionAs, IsVersionIn, found, not_found, part_by, strict}, declared.reading.ReadOptions.ReadOptions}
use Rattle.{npm_words.specs.VersionText.IsVersionText, semver_core.specs.{Failures.NoValue, Values.Versions.VersionValue}}
use Rattle.{semver_core.specs.declared.TheConstants.MAX_SAFE_INTEGER, std.proofs.Common.{Err, IfErr, IfNone, IfOk, IfSome, List, Ok, Option, Result}}
use Rattle.std.{proofs.Common.{None, Some, arith, false, sym, true, ℕ, ◌∙◌, ◌≡◌}, proofs.lemmas.Option.same_Some, specs.Result.result_ok}

module _ (r : ReadOptions) (text : List ℕ) where
  no_strict : r.is_coerced ≡ false → NoValue (IsVersionText MAX_SAFE_INTEGER text) → NoValue (IsVersionAs r text)
  no_strict plain none v (strict p is) = none v is
  no_strict plain none v (found p is) = absurd (grind (arith, plain, p))
  no_strict plain none v (not_found p lacks is) = none v is

  no_coerced : NoValue (IsFoundIn r text) → NoValue (IsVersionText MAX_SAFE_INTEGER text) → NoValue (IsVersionAs r text)
  no_coerced lacks none v (strict p is) = none v is
  no_coerced lacks none v (found p is) = lacks v is
  no_coerced lacks none v (not_found p n is) = none v is

  pub none_strict : {E : Type 0} (answer : Result VersionValue E) (o : Option VersionValue) → o ≡ result_ok answer → r.is_coerced ≡ false
      → IfErr answer (λ _. NoValue (IsVersionText MAX_SAFE_INTEGER text)) → IfNone o (NoValue (IsVersionAs r text))
  none_strict (Ok v) o e plain none = rw e tt
  none_strict (Err error) o e plain none = rw e (no_strict plain none)

  pub none_coerced : {E : Type 0} (answer : Result VersionValue E) (o : Option VersionValue) → o ≡ result_ok answer → NoValue (IsFoundIn r text)
      → IfErr answer (λ _. NoValue (IsVersionText MAX_SAFE_INTEGER text)) → IfNone o (NoValue (IsVersionAs r text))
  none_coerced (Ok v) o e lacks none = rw e tt
  none_coerced (Err error) o e lacks none = rw e (no_coerced lacks none)

  pub some_coerced : {E : Type 0} (answer : Result VersionValue E) (o : Option VersionValue) → o ≡ result_ok answer → r.is_coerced ≡ true
      → NoValue (IsFoundIn r text) → IfOk answer (IsVersionText MAX_SAFE_INTEGER text) → IfSome o (IsVersionAs r text)
  some_coerced (Ok v) o e is_coerced lacks is = rw e (not_found is_coerced lacks is)
  some_coerced (Err error) o e is_coerced lacks is = rw e tt

-- a part that is no version stands in a text that is none
pub no_version_in : (r : ReadOptions) (text part : List ℕ) (o : Option VersionValue) → Some part ≡ part_by r.field text
    → IfNone o (NoValue (IsVersionAs r part)) → IfNone o (NoValue (IsVersionIn r text))
no_version_in r text part None has lacks = λ v is.
    let same : is.part ≡ part = same_Some is.part part (sym is.has ∙ sym has) in lacks v (rw same at is.is)
no_version_in r text part (Some v) has lacks = tt
