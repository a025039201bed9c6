-- Texts of releases: npm reads them as the numbers that stand there.
use Rattle.std.proofs.Common.{◌≡◌, ◌==◌, ◌≤◌, ◌++◌, ◌∷◌, ◌∙◌, Bool, List, [], Some, ap, append-nil, arith, false, inl, length, refl, subst, suc, sym, true, zero, ℕ}
use Rattle.std.proofs.Common.{IfSome, None, Option, is_some}
use Rattle.std.proofs.lemmas.Bool.{false≢true}
use Rattle.std.proofs.lemmas.Str.{IsUtf8-append}
use Rattle.std.specs.List.{list_all}
use Rattle.std.specs.Prelude.{IsUtf8}
use Rattle.std.specs.Str.{chars, encode_utf8_all}
use Rattle.semver_core.specs.Internal.CommonReading.{is_plain}
use Rattle.semver_core.specs.Internal.Fronts.{dotted_with, number_with}
use Rattle.semver_core.specs.Text.Characters.{IsTrim}
use Rattle.semver_core.specs.Printing.Text.{version_text}
use Rattle.semver_core.specs.Text.Identifiers.{is_listed, listed}
use Rattle.semver_core.specs.Text.Parsing.{Parses}
use Rattle.semver_core.specs.Text.VersionText as Text
use Rattle.semver_core.specs.Text.VersionText.{Reads, no_mark}
use Rattle.semver_core.specs.Values.Versions.{VersionValue}
use Rattle.semver_core.specs.declared.TheConstants.{MAX_LENGTH, MAX_SAFE_INTEGER}
use Rattle.npm_words.proofs.FlawPlaces.Read.{plain-encodes, plain-middle, plain-trim}
use Rattle.npm_words.proofs.Grammar.VersionLaw.{characters-fit, dotted-found, number_printed, strict-found}
use Rattle.npm_words.specs.Grammar.{IsStrictNumber, no_build, no_pre_release, written}
use Rattle.npm_words.specs.VersionText.{IsLooseVersion, IsStrictVersion, IsVersionTextIn}
use Rattle.nodejs_semver_c.proofs.Reading.{marked_utf8, no_text, number_utf8}
use Rattle.nodejs_semver_c.specs.Answers.{IsVersionOf}
use Rattle.nodejs_semver_c.specs.Internal.Common.{IsCommonText, IsReleaseAt, IsReleaseText}
use Rattle.nodejs_semver_c.specs.Kept.{kept_value}
use Rattle.nodejs_semver_c.specs.declared.kept.Version.{Version}
use Rattle.nodejs_semver_c.specs.declared.TheConstants.{READING_NPM_LOOSE, READING_PORT}

-- what is behind a dot
behind_dot : (text : List ℕ) (n : ℕ) (rest : List ℕ) → dotted_with false MAX_SAFE_INTEGER text ≡ Some (n, rest)
    → (x : List ℕ) × (text ≡ 46 ∷ (x ++ rest)) × IsStrictNumber MAX_SAFE_INTEGER x n
unfolding dotted_with
behind_dot text n rest h =
    dotted-found (IsStrictNumber MAX_SAFE_INTEGER) (λ t. number_with false MAX_SAFE_INTEGER t) text n rest
    (λ t k. strict-found MAX_SAFE_INTEGER t n rest k) h

trimmed : (text : List ℕ) → list_all is_plain text ≡ true → IsTrim text text
trimmed text h =
    subst (λ (t : List ℕ). IsTrim t text) (ap encode_utf8_all (append-nil text) ∙ plain-encodes text h) (plain-trim [] text [] refl h refl)

in_both : (text : List ℕ) (v : VersionValue) → length (chars text) ≤ MAX_LENGTH → IsTrim text text → IsStrictVersion MAX_SAFE_INTEGER text v
    → IsLooseVersion MAX_SAFE_INTEGER text v → (loose : Bool) → IsVersionTextIn loose MAX_SAFE_INTEGER text v
in_both text v short trim strict loosely false = (short, text, trim, strict)
in_both text v short trim strict loosely true = (short, text, trim, loosely)

module _ (text r s t : List ℕ) (major minor patch : ℕ) (first : number_with false MAX_SAFE_INTEGER text ≡ Some (major, r))
    (second : dotted_with false MAX_SAFE_INTEGER r ≡ Some (minor, s))
    (third : dotted_with false MAX_SAFE_INTEGER s ≡ Some (patch, t)) (last : (length t == 0) ≡ true) where
  abbrev value : VersionValue
  value = record { major = major; minor = minor; patch = patch; pre_release = listed []; build = listed [] }

  pub release_read : length text ≤ MAX_LENGTH → IsUtf8 text × Parses MAX_SAFE_INTEGER text value
      × ((loose : Bool) → IsVersionTextIn loose MAX_SAFE_INTEGER text value) × (version_text value ≡ text)
      × (is_listed [] ≡ true) × (is_listed [] ≡ true)
  unfolding listed is_listed
  release_read short =
      let x = strict-found MAX_SAFE_INTEGER text major r first in
      let (y, after, y_is) = behind_dot r minor s second in
      let (z, behind, z_is) = behind_dot s patch [] (rw (no_text t last) at third) in
      let whole : text ≡ x.piece ++ 46 ∷ (y ++ 46 ∷ (z ++ [])) = cc (x.split, after, behind) in
      let dotted : (n : List ℕ) (m : List ℕ) → IsUtf8 n → IsUtf8 m → IsUtf8 (n ++ 46 ∷ m) =
      λ n m u w. IsUtf8-append n (46 ∷ m) u (marked_utf8 46 m (omega arith) w) in
      let end : IsUtf8 (z ++ []) = rw (append-nil z) (number_utf8 _ z _ z_is.0) in
      let utf8 : IsUtf8 text = rw whole (dotted x.piece _ (number_utf8 _ x.piece _ x.is.0) (dotted y _ (number_utf8 _ y _ y_is.0) end)) in
      let strict : IsStrictVersion MAX_SAFE_INTEGER text value = rw whole
      (written [] x.piece y z [] [] value (inl refl) x.is y_is z_is no_pre_release no_build) in
      let loosely : IsLooseVersion MAX_SAFE_INTEGER text value = rw whole
      (written [] x.piece y z [] [] value ([], refl, refl) x.is.0 y_is.0 z_is.0 no_pre_release no_build) in
      let characters : length (chars text) ≤ MAX_LENGTH = omega (arith, short, characters-fit text utf8) in
      let trim = trimmed text (plain-middle MAX_SAFE_INTEGER text value strict) in
      let reads : Reads MAX_SAFE_INTEGER text value = record {
        mark = [];
        blank = [];
        major = x.piece;
        minor = y;
        patch = z;
        pre_release = [];
        build = [];
        rest = [];
        divided = whole;
        mark_is = no_mark;
        blank_is = record { characters = []; each = refl; spelled = refl };
        major_is = x.is.0;
        minor_is = y_is.0;
        patch_is = record { number = z_is.0; ended = refl };
        pre_release_is = Text.no_pre_release [] refl;
        build_is = Text.no_build [] refl;
      } in
      let printed : version_text value ≡ text = rw (
        number_printed x.piece major x.is,
        number_printed y minor y_is,
        number_printed z patch z_is,
      ) (sym whole) in
      (utf8, record { short = short; reads = reads }, in_both text value characters trim strict loosely, printed, refl, refl)

pub release_is : (text rest : List ℕ) (p : Version) → IsReleaseAt text p rest → (length rest == 0) ≡ true → IsReleaseText text p
release_is text rest p (short, no_pre, unbuilt, r, s, first, second, third) last =
    rw (no_pre, unbuilt) (release_read text r s rest p.major p.minor p.patch first second third last short)

-- it is so in each reading
in_each : (reading : ℕ) (text : List ℕ) (p : Version) → reading ≤ READING_NPM_LOOSE → IsReleaseText text p → IsVersionOf reading text (kept_value p)
in_each zero text p few (u, port, npm, printed, pre, build) = (u, port)
in_each (suc zero) text p few (u, port, npm, printed, pre, build) = (u, npm false)
in_each (suc (suc zero)) text p few (u, port, npm, printed, pre, build) = (u, npm true)
in_each (suc (suc (suc n))) text p few is = absurd (omega (arith, few))

pub found_in_each : (reading : ℕ) (text : List ℕ) (found : Option Version) → reading ≤ READING_NPM_LOOSE → IfSome found (IsReleaseText text)
    → IfSome found (λ p. IsVersionOf reading text (kept_value p) × (is_listed p.pre_release.now ≡ true) × (is_listed p.build.now ≡ true))
found_in_each reading text None few h = h
found_in_each reading text (Some p) few (u, port, npm, printed, pre, build) = (in_each reading text p few (u, port, npm, printed, pre, build), pre, build)

pub port_found : (reading : ℕ) (text : List ℕ) (found : Option Version) → reading ≡ READING_PORT → IfSome found (IsCommonText text)
    → IfSome found (λ p. IsVersionOf reading text (kept_value p) × (is_listed p.pre_release.now ≡ true) × (is_listed p.build.now ≡ true))
port_found reading text None e h = h
port_found reading text (Some p) e (u, port, pre, build) = rw e ((u, port), pre, build)

-- and it prints as the text
pub prints : (reading : ℕ) (text : List ℕ) (found : Option Version) → reading ≤ READING_NPM_LOOSE → IfSome found (IsReleaseText text)
    → is_some found ≡ true → (v : VersionValue) × IsVersionOf reading text v × (version_text v ≡ text)
prints reading text None few h some = absurd (false≢true some)
prints reading text (Some p) few (u, port, npm, printed, pre, build) some =
    (kept_value p, in_each reading text p few (u, port, npm, printed, pre, build), printed)
