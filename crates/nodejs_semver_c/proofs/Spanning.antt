-- Spans of keys, as more of them are told.
use Rattle.std.proofs.Common.{◌≡◌, ◌<◌, ◌≤◌, ◌+◌, ◌-◌, ◌^◌, ◌++◌, ◌∷◌, ◌∙◌, ◌⊎◌, List, [], ap, append-nil, arith, drop, get_or, inl, inr}
use Rattle.std.proofs.Common.{length, map, min, refl, set, sym, take, ℕ}
use Rattle.std.proofs.lemmas.Grind.{flat_map-append}
use Rattle.std.proofs.lemmas.List.{length-map, length-take-le, take_more}
use Rattle.key_spans.specs.declared.KeySpan.{KeySpan}
use Rattle.nodejs_semver.proofs.Values.{map-further}
use Rattle.nodejs_semver_c.proofs.Places.{filled}
use Rattle.nodejs_semver_c.proofs.Putting.{put_first}
use Rattle.nodejs_semver_c.specs.Internal.Pieces.{Adds}
use Rattle.nodejs_semver_c.specs.KeptSpans.{PutsSpans, span_bytes, span_parts}
use Rattle.nodejs_semver_c.specs.declared.kept_spans.SpanParts.{SpanParts}

-- the ends, and the parts, of one more span
pub bytes_more : (spans : List KeySpan) (i : ℕ) (s : KeySpan) → i < length spans → s ≡ get_or spans i s
    → span_bytes (take i spans) ++ (s.start.items ++ s.stop.items) ≡ span_bytes (take (i + 1) spans)
bytes_more spans i s lt is =
    let taken : take (i + 1) spans ≡ take i spans ++ s ∷ [] = take_more spans i s lt ∙ ap (λ t. take i spans ++ t ∷ []) (sym is) in
    rw (taken, flat_map-append, append-nil) refl

pub spans_more : (spans : List KeySpan) (at : ℕ) (s : KeySpan) (x : SpanParts) (old now : List SpanParts) → at < length spans
    → s ≡ get_or spans at s → x ≡ span_parts s → length spans ≤ length old → now ≡ map span_parts (take at spans) ++ drop at old
    → set now at x ≡ map span_parts (take (at + 1) spans) ++ drop (at + 1) old
spans_more spans at s x old now lt is e room told =
    let counted : length (map span_parts (take at spans)) ≡ at =
    length-map (take at spans) span_parts ∙ length-take-le at spans (omega (arith, lt)) in
    rw (told, e, map-further span_parts spans at s lt is)
    (filled (map span_parts (take at spans)) old (span_parts s) (span_parts s) at counted (omega (arith, lt, room)))

-- all of them, or only their number and the length of their ends
module _ (spans : List KeySpan) (told : List SpanParts) (old : List ℕ) (needed count_old len_old : ℕ)
    (e : needed ≡ min (length (span_bytes spans)) (2 ^ 64 - 1)) (small : needed < 2 ^ 63) where
  counted : needed ≡ length (span_bytes spans)
  counted = grind (arith, e, small)

  pub spans_short : (length told < length spans) ⊎ (length old < needed)
      → PutsSpans spans told told count_old (length spans) old old len_old needed 2
  spans_short short =
      let some : (length told < length spans) ⊎ (length old < length (span_bytes spans)) = rw counted at short in
      rw counted (inl (refl, refl, inr (refl, some, refl, refl)))

  pub spans_put : (now : List SpanParts) (new : List ℕ) (end : ℕ) → needed ≤ length old
      → now ≡ map span_parts spans ++ drop (length spans) told → Adds (span_bytes spans) old new 0 end
      → PutsSpans spans told now count_old (length spans) old new len_old needed 0
  spans_put now new end fits put adds =
      let front = (put_first (span_bytes spans) old new end adds).front (omega (arith, counted, fits)) (omega (arith, counted, small)) in
      rw counted (inl (refl, refl, inl (refl, put, front)))
