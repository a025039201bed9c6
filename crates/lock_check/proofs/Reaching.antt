-- Which dependencies the range of a rule reaches.
use Rattle.std.proofs.Common.{◌≡◌, ◌∙◌, Bool, IsUtf8, List, Some, ap, false, inr, not, refl, subst, sym, true, ℕ}
use Rattle.std.specs.Prelude.{◌↔◌, IsTrue, is_some}
use Rattle.nodejs_semver.specs.Cuts.{Span}
use Rattle.nodejs_semver.specs.Ranges.Algebra.{intersection}
use Rattle.nodejs_semver.specs.Versions.{VersionValue}
use Rattle.npm_reading.specs.Ranges.{IsRangeIn, intervals_in}
use Rattle.npm_words.proofs.Grammar.AlternativeLaw.{alternatives_once}
use Rattle.semver_core.specs.declared.TheConstants.{MAX_SAFE_INTEGER}
use Rattle.lock_check.specs.Internal.Overriding.{IsAboutIf, IsMissedBy, IsReachedBy}
use Rattle.lock_check.specs.Overrides.{IsReached, MayBeIn}
use Rattle.lock_check.specs.Overrides.MayBeIn.{range, tag}
use Rattle.lock_check.specs.Readings.{IsNotWanted, IsUnknown, IsWanted}
use Rattle.lock_check.specs.Readings.IsUnknown.{differs, great}
use Rattle.lock_check.specs.Readings.IsWanted.{loose, strict}
use Rattle.lock_files.specs.Specifiers.{IsTag}
use Rattle.lock_files.specs.Wanted.{IsWantedAs}
use Rattle.lock_files.specs.declared.lock.Dependency.{Dependency}
use Rattle.lock_check.specs.declared.overrides.Rule.{Rule}
use Rattle.lock_files.specs.declared.specifier.Specifier.{Specifier}

one-range : (l : Bool) (text : List ℕ) (a b : List (Span VersionValue)) → IsUtf8 text → IsRangeIn l MAX_SAFE_INTEGER false text a
    → IsRangeIn l MAX_SAFE_INTEGER false text b → a ≡ b
one-range l text a b utf8 is so = is.is
    ∙ (ap (λ x. intervals_in false x) (alternatives_once l MAX_SAFE_INTEGER false text is.alternatives so.alternatives utf8 is.has so.has)
    ∙ sym so.is)

-- a text has one range
one-wanted : (text : List ℕ) (a b : List (Span VersionValue)) → IsUtf8 text → IsWanted MAX_SAFE_INTEGER text a
    → IsWanted MAX_SAFE_INTEGER text b → a ≡ b
one-wanted text a b utf8 (strict is) (strict so) = one-range false text a b utf8 is so
one-wanted text a b utf8 (loose none same is) (loose never also so) = one-range true text a b utf8 is so
one-wanted text a b utf8 (strict is) (loose none same so) = absurd (none is.alternatives is.has)
one-wanted text a b utf8 (loose none same is) (strict so) = absurd (none so.alternatives so.has)

no-range : (text : List ℕ) (a : List (Span VersionValue)) → IsNotWanted MAX_SAFE_INTEGER text → ¬ (IsWanted MAX_SAFE_INTEGER text a)
no-range text a none (strict is) = none.0 is.alternatives is.has
no-range text a none (loose never same is) = none.1 is.alternatives is.has

pub range-in : (own : List (Span VersionValue)) (text : List ℕ) (read : List (Span VersionValue)) → IsUtf8 text
    → IsWanted MAX_SAFE_INTEGER text read → MayBeIn own text → is_some (intersection read own) ≡ true
range-in own text read utf8 is (range other so meets) =
    subst (λ r. is_some (intersection r own) ≡ true) (one-wanted text other read utf8 so is) meets
range-in own text read utf8 is (tag none so) = absurd (no-range text read none is)

pub tag-in : (own : List (Span VersionValue)) (text : List ℕ) → IsNotWanted MAX_SAFE_INTEGER text → MayBeIn own text → IsTag text
tag-in own text none (range read so meets) = absurd (no-range text read none so)
tag-in own text none (tag never is) = is

pub unknown-out : (own : List (Span VersionValue)) (text : List ℕ) → IsUnknown MAX_SAFE_INTEGER text → ¬ (MayBeIn own text)
unknown-out own text (differs none may) (range read (strict is) meets) = none is.alternatives is.has
unknown-out own text (differs none may) (range read (loose never same is) meets) = same may
unknown-out own text (differs none may) (tag never is) = never.2 may
unknown-out own text (great none never is) (range read (strict so) meets) = none so.alternatives so.has
unknown-out own text (great none never is) (range read (loose off same so) meets) = never so.alternatives so.has
unknown-out own text (great none never is) (tag off so) = let zero = off.3 in absurd (cc)

-- a rule of this name with a range is about what that reaches
pub about-if : (d : Dependency) (r : Rule) (own : List (Span VersionValue)) (s : Specifier) → r.name.now ≡ d.name.now
    → r.range ≡ Some own → IsWantedAs d.wanted s → (b : Bool) → (IsTrue b ↔ IsReached own s) → IsAboutIf d r b
about-if d r own s name same is true how =
    (name, subst (λ o. IsReachedBy o d.wanted) (sym same) (s, is, how.0 refl))
about-if d r own s name same is false how =
    inr (name, subst (λ o. IsMissedBy o d.wanted) (sym same) (s, is, λ h. absurd (let on = how.1 h in cc)))

pub not-false : (b : Bool) → not b ≡ false → b ≡ true
not-false true is = refl
not-false false is = absurd (cc)
