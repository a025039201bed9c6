-- What is told where an increment returns no version.
use Rattle.std.proofs.Common.{◌≢◌, ◌∷◌, ◌&&◌, ◌-◌, ◌^◌, ◌==◌, ℕ, List, [], Result, Ok, Err, Option, Some, None, ap, inl, inr, refl}
use Rattle.std.proofs.lemmas.Bool.{cond_both}
use Rattle.std.specs.List.{join_with_byte}
use Rattle.std.specs.Prelude.{if◌then◌else◌, IfErr, IfOk, map, unwrap_or}
use Rattle.std.specs.Str.{bytes_eq}
use Rattle.semver_core.specs.Increments.Table.{◌>>=◌, Fault, Overflow, advance, has_numeric, identify, is_false, one_more}
use Rattle.semver_core.specs.Increments.Table.{next_patch, pre_step, raise_last}
use Rattle.semver_core.specs.Printing.Text.{id_text}
use Rattle.semver_core.specs.Text.Identifiers.{Id, Numeric, AlphaNumeric}
use Rattle.semver_core.specs.Values.Versions.{HasIdentifiers, VersionValue, is_release}
use Rattle.semver_core.specs.declared.increment.IdentifierBase.{IdentifierBase}
use Rattle.nodejs_semver_c.specs.Answers.{FailsBy}
use Rattle.nodejs_semver_c.specs.Internal.Failures.{IsLate, IsMisuse}
use Rattle.nodejs_semver_c.specs.declared.TheConstants.{NO_MEMORY}

pub fails_memory : (answer : Result VersionValue Fault) (told : Option ℕ) → (answer ≢ Err Overflow) × IfOk answer HasIdentifiers
    → IsMisuse answer told → FailsBy answer (unwrap_or told NO_MEMORY)
fails_memory (Ok v) None memory late = (refl, memory.1)
fails_memory (Ok v) (Some status) memory misuse = absurd misuse.0
fails_memory (Err fault) None memory late = elim late [ inl e ↦ absurd (memory.0 (ap Err e)) | inr e ↦ inr (refl, e) ]
fails_memory (Err fault) (Some status) memory misuse = inl misuse.1

-- the words of the table fail only late
abbrev pub Late : {A : Type 0} → Result A Fault → Type 0
Late r = IfErr r IsLate

late_then : {A B : Type 0} (r : Result A Fault) (f : A → Result B Fault) → Late r → ((x : A) → Late (f x))
    → Late (r >>= f)
late_then (Ok x) f h more = more x
late_then (Err fault) f h more = h

one_more_late : (n : ℕ) → Late (one_more n)
one_more_late n = cond_both (n == 2 ^ 64 - 1) _ _ Late (λ e. inl refl) (λ e. tt)

raised_late : (list : List Id) → Late (raise_last list)
raised_late [] = tt
raised_late (AlphaNumeric text ∷ rest) = late_then (raise_last rest) (λ list. Ok (AlphaNumeric text ∷ list)) (raised_late rest) (λ list. tt)
raised_late (Numeric n ∷ rest) = cond_both (has_numeric rest) _ _ Late
    (λ e. late_then (raise_last rest) (λ list. Ok (Numeric n ∷ list)) (raised_late rest) (λ list. tt))
    (λ e. late_then (one_more n) (λ more. Ok (Numeric more ∷ rest)) (one_more_late n) (λ more. tt))

advanced_late : (list : List Id) (id : List ℕ) (base : IdentifierBase) → Late (advance list id base)
advanced_late [] id base = tt
advanced_late (x ∷ xs) id base = cond_both (has_numeric (x ∷ xs)) _ _ Late (λ e. raised_late (x ∷ xs))
    (λ e. cond_both (is_false base && bytes_eq id (join_with_byte 46 (map id_text (x ∷ xs)))) _ _ Late (λ e. inr refl) (λ e. tt))

-- a number that rises, alone or before the pre step
pub raises_late : (n : ℕ) (f : ℕ → VersionValue) → Late (one_more n >>= λ more. Ok (f more))
raises_late n f = late_then (one_more n) (λ more. Ok (f more)) (one_more_late n) (λ more. tt)

module _ (id : List ℕ) (base : IdentifierBase) where
  pub pre_late : (v : VersionValue) → Late (pre_step id base v)
  pre_late v = late_then (advance v.pre_release id base) (λ list. Ok (record v { pre_release = identify id base list }))
      (advanced_late v.pre_release id base) (λ list. tt)

  pub raised_pre_late : (n : ℕ) (f : ℕ → VersionValue) → Late ((one_more n >>= λ more. Ok (f more)) >>= pre_step id base)
  raised_pre_late n f = late_then (one_more n >>= λ more. Ok (f more)) (pre_step id base) (raises_late n f) pre_late

  pub prerelease_late : (v : VersionValue) → Late (if is_release v then (next_patch v >>= pre_step id base) else pre_step id base v)
  prerelease_late v = cond_both (is_release v) _ _ Late
      (λ e. raised_pre_late v.patch (λ n. record v { patch = n; pre_release = [] })) (λ e. pre_late v)
