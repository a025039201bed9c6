-- The malformed word of a range text, and its first alternative that is malformed.
use Rattle.nodejs_semver.proofs.Common.{Bool, IsAfterBlank, IsTrim, IsUtf8, List, MAX_SAFE_INTEGER, None, Option, Some, [], ap}
use Rattle.nodejs_semver.proofs.Common.{append_assoc, arith, bind_some, cond_some, false, length, list_all, middle_is_trim, refl, sym, trim, ℕ, ◌++◌}
use Rattle.nodejs_semver.proofs.{Common.{◌+◌, ◌-◌, ◌∙◌, ◌∷◌, ◌≡◌}, Diagnosing.IgnoredParts.sizes_of}
use Rattle.npm_reading.{proofs.Grammar.RangeReads.found-some, specs.{Internal.Reads.{IsFound, valid_alternative}, RangeFlaws.IsRangeFlaw}}
use Rattle.{npm_reading.specs.declared.{alternatives.Alternative.Alternative, range_flaws.RangeFlaw.RangeFlaw}, npm_words.proofs.Common.Comparison}
use Rattle.npm_words.proofs.{Common.{HasAlternativesIn, alternative_of, is_valid, valid_one}, FlawPlaces.Ranges.{IsPiece, Passed}}
use Rattle.npm_words.proofs.FlawPlaces.Ranges.{bytes-append, front-divides, kept-strict, middle, next-divides, next-utf8, one-piece}
use Rattle.npm_words.proofs.{FlawPlaces.{Ends.one_malformed_part, Ranges.right-all}, Grammar.AlternativeLaw.{alternative-found, alternative-read}}
use Rattle.{npm_words.specs.{MalformedEnds.IsMalformedPart, RangeFlaws.{IsAlternativeText, bytes_of}}, semver_core.proofs.Dividing.BarLemmas.parts_after}
use Rattle.semver_core.proofs.{Dividing.BarsDivide.{bars_once, pieces-utf8}, Reading.Boundaries.trim-utf8, Text.Trims.one_after_blank}
use Rattle.{semver_core.specs.{Failures.NoValue, Internal.Parts.front_part}, std.proofs.lemmas.List.Elements.{All-from_recursion, All-push}}
use Rattle.std.{proofs.lemmas.List.Elements.recursion_from_All, specs.Prelude.is_none}

module _ (include : Bool) where
  piece_right : (piece part : List ℕ) (a : Alternative) → IsUtf8 piece → IsTrim piece part
      → IsFound include (valid_alternative false include part) (Some a) → IsPiece include piece
  unfolding valid_alternative
  piece_right piece part a u t h =
      let f = found-some include (valid_alternative false include part) a h in
      let b = bind_some (alternative_of false include part) valid_one f.0 f.1 in
      let valid = cond_some (list_all (is_valid MAX_SAFE_INTEGER) b.0.1) b.0 f.0 b.2 in
      let is = alternative-found false include part b.0 (trim-utf8 piece part u t) b.1 in
      (b.0.1, record { middle = part; trimmed = t; is = rw (kept-strict include part b.0.0 b.0.1 is) at is; valid = valid.0 })

  piece_wrong : (piece part : List ℕ) → IsUtf8 piece → IsTrim piece part
      → IsFound include (valid_alternative false include part) None → NoValue (IsAlternativeText MAX_SAFE_INTEGER include piece)
  unfolding valid_alternative
  piece_wrong piece part u t h = λ cs w.
      let same : w.middle ≡ part = middle_is_trim _ _ w.trimmed ∙ sym (middle_is_trim _ _ t) in
      let read : alternative_of false include part ≡ Some (false, cs) = rw (← same) (alternative-read _ _ _ _ _ (trim-utf8 _ _ u w.trimmed) w.is) in
      let some : valid_alternative false include part ≡ Some (false, cs) = rw (read, w.valid) refl in rw some at h

  pub flawed-none : (text : List ℕ) (flaw : RangeFlaw) → IsRangeFlaw MAX_SAFE_INTEGER include text flaw
      → (ls : List (List Comparison)) → HasAlternativesIn false MAX_SAFE_INTEGER include text ls → ⊥
  flawed-none text flaw x ls h =
      let same : h.parts ≡ x.front ++ x.piece ∷ x.behind = bars_once _ _ h.divided ∙ sym (bars_once _ _ x.divided) in
      let p = middle (IsPiece include) x.front x.piece x.behind (rw (← same) (right-all include h.parts ls h.each h.valid)) in x.wrong p.0 p.1

  pub one_range_flaw : (text : List ℕ) (f g : RangeFlaw) → IsUtf8 text → IsRangeFlaw MAX_SAFE_INTEGER include text f
      → IsRangeFlaw MAX_SAFE_INTEGER include text g → f ≡ g
  one_range_flaw text f g u x y =
      let same = one-piece include _ _ _ _ _ _ x.right y.right x.wrong y.wrong (bars_once _ _ x.divided ∙ sym (bars_once _ _ y.divided)) in
      let utf8 = middle IsUtf8 x.front x.piece x.behind (pieces-utf8 _ _ x.divided u) in
      let blank : x.blank ≡ y.blank = one_after_blank x.piece 0 x.blank y.blank utf8 x.after_blank (rw same.1 y.after_blank) in
      let middle : x.middle ≡ y.middle = middle_is_trim _ _ x.trimmed ∙ (ap trim same.1 ∙ sym (middle_is_trim _ _ y.trimmed)) in
      let start : f.start ≡ g.start = omega (arith, x.start, y.start, ap bytes_of same.0, blank) in
      let end : f.end ≡ g.end = omega (arith, x.end, y.end, start, ap length middle) in
      let word = one_malformed_part include x.middle (trim-utf8 _ _ utf8 x.trimmed) _ _ y.at y.to x.word (rw middle y.word) in
      grind arith

-- ---- the loop: what is read of the next piece

module _ (include : Bool) (text rest : List ℕ) (c : List ℕ × Option (List ℕ)) (h : Passed include text (Some rest)) (e : c ≡ front_part rest) where
  pub wrong_here : (part bytes : List ℕ) (blank at to : ℕ) (flaw : RangeFlaw) → IsUtf8 text → IsAfterBlank c.0 0 blank → IsTrim c.0 part
      → bytes ≡ part → IsFound include (valid_alternative false include bytes) None → IsMalformedPart MAX_SAFE_INTEGER include bytes at to
      → flaw.start ≡ length text - length rest + blank → flaw.end ≡ flaw.start + length part
      → flaw.word_start ≡ flaw.start + at → flaw.word_end ≡ flaw.start + to → IsRangeFlaw MAX_SAFE_INTEGER include text flaw
  wrong_here part bytes blank at to flaw u a t same found word start end word_start word_end = record {
    front = h.front;
    piece = c.0;
    behind = parts_after c.1;
    divided = next-divides include text rest c h e;
    right = h.right;
    wrong = piece_wrong include _ _ (next-utf8 include text rest c h e u) t (rw same at found);
    blank = blank;
    after_blank = a;
    middle = part;
    trimmed = t;
    start = omega (arith, start, h.leaves rest refl);
    end = end;
    at = at;
    to = to;
    word = rw same at word;
    word_start = word_start;
    word_end = word_end;
  }

  pub right_here : (part bytes : List ℕ) (found : Option Alternative) → IsUtf8 text → IsTrim c.0 part → bytes ≡ part
      → IsFound include (valid_alternative false include bytes) found → is_none found ≡ false → Passed include text c.1
  right_here part bytes None u t same found empty = cc empty
  right_here part bytes (Some x) u t same found empty =
      let all = All-from_recursion (IsPiece include) h.front h.right in
      let more = All-push (IsPiece include) h.front c.0 all (piece_right include _ _ _ (next-utf8 include text rest c h e u) t (rw same at found)) in
      record {
        front = h.front ++ c.0 ∷ [];
        divided = front-divides include text rest c h e ∙ sym (append_assoc h.front (c.0 ∷ []) (parts_after c.1));
        right = recursion_from_All (IsPiece include) _ more;
        leaves = λ left k. omega (arith, bytes-append h.front c.0, (sizes_of rest c e).behind left k, h.leaves rest refl);
      }
