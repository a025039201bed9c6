-- Statement. What is told of the spans of keys of a range that is kept.
use Rattle.std.specs.Prelude.{◌≡◌, ◌<◌, ◌≤◌, ◌*◌, ◌^◌, ◌++◌, ◌⊎◌, All, Bool, ℕ, List, drop, length, map, true}
use Rattle.std.specs.List.{flat_map}
use Rattle.key_spans.specs.Spans.{HasEnds, in_spans, is_sorted}
use Rattle.key_spans.specs.declared.KeySpan.{KeySpan}
use Rattle.nodejs_semver.specs.Ranges.Gate.{accepts}
use Rattle.semver_core.specs.Cuts.{Span}
use Rattle.semver_core.specs.Keys.{key}
use Rattle.semver_core.specs.Values.Versions.{IsVersion, VersionValue}
use Rattle.nodejs_semver_c.specs.KeptRanges.{RangeKept}
use Rattle.nodejs_semver_c.specs.declared.kept_spans.SpanParts.{SpanParts}
use Rattle.nodejs_semver_c.specs.declared.TheConstants.{NO_MEMORY, OK, TOO_LONG, TOO_SMALL}

-- the spans are those of the keys of what a range accepts: they are sorted, with keys of versions at their
-- ends, and at most three for each interval
pub record AreSpansOf (r : List (Span VersionValue)) (include : Bool) (spans : List KeySpan) : Type 0 where
  pub exact : (v : VersionValue) → IsVersion v → in_spans spans (key v) ≡ accepts r v include
  pub sorted : is_sorted spans ≡ true
  pub ends : All (HasEnds include) spans
  pub few : length spans ≤ 3 * length r

-- how long the ends of a span are; and the ends of all, one behind another
abbrev pub span_parts : KeySpan → SpanParts
span_parts s = record {
  start_len = length s.start.items;
  stop_len = length s.stop.items;
  releases_only = s.releases_only;
}

abbrev pub span_bytes : List KeySpan → List ℕ
span_bytes spans = flat_map (λ s. s.start.items ++ s.stop.items) spans

-- the spans are told, and their ends put in front of a buffer, if there is room for all; the number and the
-- length are told in any case. Or the ends are longer than memory.
abbrev pub PutsSpans : List KeySpan → (told_old told_new : List SpanParts) → (count_old count_new : ℕ)
    → (old new : List ℕ) → (len_old len_new status : ℕ) → Type 0
PutsSpans spans told_old told_new count_old count_new old new len_old len_new status =
    ((count_new ≡ length spans) × (len_new ≡ length (span_bytes spans))
    × (((status ≡ OK) × (told_new ≡ map span_parts spans ++ drop (length spans) told_old)
    × (new ≡ span_bytes spans ++ drop (length (span_bytes spans)) old))
    ⊎ ((status ≡ TOO_SMALL) × ((length told_old < length spans) ⊎ (length old < length (span_bytes spans)))
    × (told_new ≡ told_old) × (new ≡ old))))
    ⊎ ((status ≡ TOO_LONG) × (2 ^ 63 ≤ length (span_bytes spans))
    × RangeKept told_old told_new count_old count_new old new len_old len_new)

-- the spans of a range are told; or memory is missing, and all is as it was
abbrev pub TellsSpans : List (Span VersionValue) → Bool → (told_old told_new : List SpanParts)
    → (count_old count_new : ℕ) → (old new : List ℕ) → (len_old len_new status : ℕ) → Type 0
TellsSpans r include told_old told_new count_old count_new old new len_old len_new status =
    ((spans : List KeySpan) × AreSpansOf r include spans
    × PutsSpans spans told_old told_new count_old count_new old new len_old len_new status)
    ⊎ ((status ≡ NO_MEMORY) × RangeKept told_old told_new count_old count_new old new len_old len_new)
