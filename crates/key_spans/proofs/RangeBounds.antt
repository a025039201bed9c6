-- The bounds of a range are versions.
use Rattle.std.proofs.Common.{ℕ, ◌≡◌, ◌<◌, ◌^◌, ◌+◌, ◌&&◌, ◌∷◌, List, [], true, arith}
use Rattle.std.specs.Prelude.{All, nat_lt, length}
use Rattle.std.specs.List.{list_all}
use Rattle.std.specs.Str.{IsAscii}
use borrow.Author.Tests.{ltb-true}
use Rattle.std.proofs.lemmas.Bool.{and_parts}
use Rattle.std.proofs.lemmas.Bool.Decides.{nat_tests}
use Rattle.std.proofs.lemmas.List.Elements.{All-cons, All-nil}
use Rattle.std.proofs.lemmas.Str.{IsUtf8-from_ascii}
use Rattle.std.proofs.lemmas.Str.Ascii.{IsAscii-cons, IsAscii-nil}
use Rattle.semver_core.specs.Cuts.{Span, is_interval}
use Rattle.semver_core.specs.Internal.Readable.{readable}
use Rattle.semver_core.specs.Printing.RoundTrip.{is_normal, is_readable}
use Rattle.semver_core.specs.Text.Characters.{is_identifier_char}
use Rattle.semver_core.specs.Text.Identifiers.{AlphaNumeric, Id, Numeric, is_identifier}
use Rattle.semver_core.specs.Values.Order.{precedence}
use Rattle.semver_core.specs.Values.Versions.{IsId, IsVersion, VersionValue}
use Rattle.semver_core.specs.declared.cuts.bound.Bound.{Bound}
use Rattle.semver_core.specs.declared.cuts.bound.Bound.TheVariants.{Unbounded, Before, After}
use Rattle.nodejs_semver.specs.Ranges.View.{IsRange}
use Rattle.semver_core.specs.Values.Gate.{is_range_bound}
use Rattle.key_spans.specs.Internal.Places.{IsEnd, IsSpan}

small_char : (c : ℕ) → is_identifier_char c ≡ true → c < 128
small_char c h = grind (arith, nat_tests)

ascii : (text : List ℕ) → list_all is_identifier_char text ≡ true → IsAscii text
ascii [] h = IsAscii-nil
ascii (c ∷ rest) h =
    let both = and_parts (is_identifier_char c) (list_all is_identifier_char rest) h in
    IsAscii-cons c rest (small_char c both.0) (ascii rest both.1)

normal_id : (id : Id) → is_normal id ≡ true → IsId id
normal_id (Numeric n) h = ltb-true n (2 ^ 64) h
normal_id (AlphaNumeric text) h =
    let parts = and_parts (is_identifier text) _ h in
    IsUtf8-from_ascii text (ascii text (and_parts (nat_lt 0 (length text)) (list_all is_identifier_char text) parts.0).1)

normal_ids : (ids : List Id) → list_all is_normal ids ≡ true → All IsId ids
normal_ids [] h = All-nil IsId
normal_ids (x ∷ xs) h =
    let both = and_parts (is_normal x) (list_all is_normal xs) h in
    All-cons IsId x xs (normal_id x both.0) (normal_ids xs both.1)

version : (limit : ℕ) (v : VersionValue) → limit < 2 ^ 64 → is_readable limit v ≡ true → IsVersion v
version limit v h e =
    let r = readable limit v e in
    record {
      major = omega (arith, r.major);
      minor = omega (arith, r.minor);
      patch = omega (arith, r.patch);
      pre_release = normal_ids v.pre_release r.pre_release;
      build = normal_ids v.build r.build;
    }

bound_end : (limit : ℕ) (b : Bound VersionValue) → limit < 2 ^ 64 → is_range_bound limit b ≡ true → IsEnd b
bound_end limit Unbounded h e = tt
bound_end limit (Before v) h e = version limit v h e
bound_end limit (After v) h e = version limit v h e

spans_by : (limit : ℕ) (ss : List (Span VersionValue)) → limit < 2 ^ 64
    → list_all (λ s. is_interval precedence s && (is_range_bound limit s.lower && is_range_bound limit s.upper)) ss ≡ true
    → All IsSpan ss
spans_by limit [] h e = All-nil IsSpan
spans_by limit (s ∷ ss) h e =
    let both = and_parts (is_interval precedence s && (is_range_bound limit s.lower && is_range_bound limit s.upper)) _ e in
    let ends = and_parts (is_interval precedence s) (is_range_bound limit s.lower && is_range_bound limit s.upper) both.0 in
    let each = and_parts (is_range_bound limit s.lower) (is_range_bound limit s.upper) ends.1 in
    All-cons IsSpan s ss
    (record { lower = bound_end limit s.lower h each.0; upper = bound_end limit s.upper h each.1 })
    (spans_by limit ss h both.1)

-- each interval of a range is between versions
pub range_spans : (limit : ℕ) (ss : List (Span VersionValue)) → limit + 1 < 2 ^ 64 → IsRange limit ss → All IsSpan ss
range_spans limit ss h range = spans_by (limit + 1) ss h range.each
