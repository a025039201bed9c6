-- Everyday parts between bars denote their intervals: the parts are cut at the bars and are trimmed to themselves.
use Rattle.nodejs_semver.proofs.Common.{AreCommonParts, List, Some, Span, VersionValue, Word, [], after_spaces, and_parts, ap, append-nil}
use Rattle.nodejs_semver.proofs.Common.{append_assoc, arith, begins, common_steps, cut_bars, denotes, drop_end_spaces, drop_spaces, drop_spaces-none}
use Rattle.nodejs_semver.proofs.Common.{ends, eqb-true, false, flat_map, inl, is_bar, is_empty, length, list_all, map, nat_tests, part_denotes, parts}
use Rattle.nodejs_semver.proofs.{Common.{refl, space_len, sym, table, trim, true, ℕ, ◌++◌, ◌<◌, ◌∙◌, ◌∷◌, ◌≡◌}, Everyday.Words.{Compact, Tidy}}
use Rattle.nodejs_semver.proofs.Everyday.Words.{caret-tidy, compact-partial, compact-signed, compared-tidy, hyphen-tidy, is_part_byte, no-greater}
use Rattle.nodejs_semver.proofs.{Everyday.Words.{plain-tidy, space-gone, tilde-tidy, two-tidy}, Reading.PartialLaw.components-begin}
use Rattle.nodejs_semver.specs.Text.Common.{IsCommonPart, IsCommonWord, IsGap, caret_word, compare_word, comparison, hyphen_word, more_parts}
use Rattle.nodejs_semver.specs.Text.Common.{one_part, one_word, plain_word, tilde_greater_word, tilde_word, two_comparisons}
use Rattle.semver_core.proofs.{Reading.Bytes.{all-join, is_solid, solid-dark}, Text.Trims.keep_byte}

-- ---- trimming

solid-kept : (b : ℕ) (rest : List ℕ) → is_solid b ≡ true → drop_spaces (b ∷ rest) ≡ b ∷ rest
solid-kept b rest h = drop_spaces-none (b ∷ rest) (solid-dark (b ∷ rest) h)

-- more than spaces is left of what ends in a character
left-over : (text gap : List ℕ) → list_all is_part_byte text ≡ true → ends is_solid text ≡ true
    → is_empty (drop_spaces (text ++ gap)) ≡ false
left-over [] gap h e = cc e
left-over (b ∷ []) gap h e = ap is_empty (solid-kept b gap e)
left-over (b ∷ c ∷ text) gap h e =
    grind (arith, solid-kept b ((c ∷ text) ++ gap), space-gone, eqb-true b 32, left-over (c ∷ text) gap)

gap-gone : (gap : List ℕ) → IsGap gap → drop_end_spaces gap ≡ []
unfolding drop_end_spaces after_spaces space_len
gap-gone gap h = grind arith

end-kept : (text gap : List ℕ) → IsGap gap → list_all is_part_byte text ≡ true → ends is_solid text ≡ true
    → drop_end_spaces (text ++ gap) ≡ text
end-kept [] gap g h e = cc e
end-kept (b ∷ []) gap g h e = rw (keep_byte b gap (left-over (b ∷ []) gap h e), gap-gone gap g) refl
end-kept (b ∷ c ∷ text) gap g h e = grind (arith, keep_byte, left-over (b ∷ c ∷ text), end-kept (c ∷ text) gap g)

front-kept : (text gap : List ℕ) → begins is_solid text ≡ true → drop_spaces (text ++ gap) ≡ text ++ gap
front-kept text gap h = grind (arith, solid-kept)

gap-passed : (before text : List ℕ) → IsGap before → drop_spaces (before ++ text) ≡ drop_spaces text
gap-passed before text h = grind (arith, space-gone)

-- a compact text with a space or none on each side is trimmed to itself
pub compact-trim : (before text after : List ℕ) → IsGap before → IsGap after → Compact text → trim (before ++ (text ++ after)) ≡ text
compact-trim before text after g k c = grind (arith, nat_tests, common_steps, gap-passed, front-kept, end-kept)

-- ---- cutting at bars

no-bar : (b : ℕ) → is_part_byte b ≡ true → is_bar b ≡ false
no-bar b h = grind (arith, nat_tests)

pub cut-last : (piece : List ℕ) → list_all is_part_byte piece ≡ true → cut_bars false piece ≡ piece ∷ []
unfolding cut_bars
cut-last [] h = refl
cut-last (b ∷ piece) h = grind (arith, nat_tests, common_steps, and_parts, no-bar, cut-last piece)

pub cut-first : (piece rest : List ℕ) → list_all is_part_byte piece ≡ true → cut_bars false (piece ++ 124 ∷ (124 ∷ rest)) ≡ piece ∷ cut_bars false rest
unfolding cut_bars
cut-first [] rest h = refl
cut-first (b ∷ piece) rest h = grind (arith, no-bar, cut-first piece rest)

-- ---- the whole text

-- parts with bars between them, and one space or none on each side of the bars
pub data AreTidy (limit : ℕ) : List ℕ → List (Span VersionValue) → Type 0 where
  one_tidy : (part : List ℕ) (s : Span VersionValue) → Tidy limit part s → AreTidy limit part (s ∷ [])
  more_tidy : (part before after text : List ℕ) (s : Span VersionValue) (list : List (Span VersionValue)) → Tidy limit part s
      → IsGap before → IsGap after → AreTidy limit text list
      → AreTidy limit (part ++ (before ++ 124 ∷ (124 ∷ (after ++ text)))) (s ∷ list)

-- what the parts of a text are, where its first part is not empty
record Denoted (limit : ℕ) (pieces : List (List ℕ)) (list : List (Span VersionValue)) : Type 0 where
  intervals : flat_map (part_denotes limit) (map trim pieces) ≡ list
  filled : list_all is_empty (map trim pieces) ≡ false

denoted-on : (limit : ℕ) (piece part : List ℕ) (pieces : List (List ℕ)) (s : Span VersionValue) (list : List (Span VersionValue))
    → trim piece ≡ part → Tidy limit part s
    → flat_map (part_denotes limit) (map trim pieces) ≡ list → Denoted limit (piece ∷ pieces) (s ∷ list)
denoted-on limit piece part pieces s list t tidy h = grind arith

denoted : (limit : ℕ) (text : List ℕ) (list : List (Span VersionValue)) (gap : List ℕ) → IsGap gap → AreTidy limit text list
    → Denoted limit (cut_bars false (gap ++ text)) list
denoted limit text list gap g (one_tidy part s tidy) =
    grind (arith, nat_tests, compact-trim gap part [] g (inl refl) tidy.compact, append-nil, denoted-on, cut-last, all-join)
denoted limit text list gap g (more_tidy part before after rest s others tidy b a more) =
    let piece = gap ++ (part ++ before) in
    let behind = 124 ∷ (124 ∷ (after ++ rest)) in
    let whole : gap ++ (part ++ (before ++ behind)) ≡ piece ++ behind =
    sym (append_assoc gap (part ++ before) behind ∙ ap (λ (t : List ℕ). gap ++ t) (append_assoc part before behind)) in
    let next = denoted limit rest others after a more in
    grind (arith, all-join, cut-first, compact-trim)

pub tidy-denotes : (limit : ℕ) (text : List ℕ) (list : List (Span VersionValue)) → AreTidy limit text list
    → (denotes limit text ≡ list) × (list_all is_empty (parts text) ≡ false)
tidy-denotes limit text list h = grind (arith, nat_tests, denoted limit text list [] (inl refl) h)

-- ---- common texts

word-tidy : (limit : ℕ) (x : List ℕ) (w : Word) (s : Span VersionValue) → IsCommonWord limit x w → table limit w ≡ Some s
    → Tidy limit x s
word-tidy limit x w s (plain_word text p h) bounds = plain-tidy limit text p s h bounds
word-tidy limit x w s (compare_word text word (comparison c sign rest p is h)) bounds =
    compared-tidy limit c sign rest p s is h bounds
word-tidy limit x w s (tilde_word text p h) bounds =
    grind (arith, components-begin, compact-partial, tilde-tidy, drop_spaces-none, solid-dark, no-greater)
word-tidy limit x w s (tilde_greater_word text p h) bounds =
    search (arith, compact-signed, compact-partial, tilde-tidy, drop_spaces-none, solid-dark)
word-tidy limit x w s (caret_word text p h) bounds = caret-tidy limit text p s h bounds
word-tidy limit x w s (hyphen_word first second p q h k) bounds = hyphen-tidy limit first second p q s h k bounds

pub part-tidy : (limit : ℕ) (x : List ℕ) (s : Span VersionValue) → IsCommonPart limit x s → Tidy limit x s
part-tidy limit x s (one_word text word span is bounds) = word-tidy limit text word span is bounds
part-tidy limit x s (two_comparisons u v a b c d both (comparison f sign t p is h) (comparison g sign' t' q is' k) e e' m) =
    two-tidy limit f g sign sign' t t' p q c d both is h is' k e e' m

common-tidy : (limit : ℕ) (text : List ℕ) (list : List (Span VersionValue)) → AreCommonParts limit text list
    → AreTidy limit text list
common-tidy limit text list (one_part part s is) = one_tidy part s (part-tidy limit part s is)
common-tidy limit text list (more_parts part before after rest s others is b a more) =
    more_tidy part before after rest s others (part-tidy limit part s is) b a (common-tidy limit rest others more)

pub list-some : (limit : ℕ) (text : List ℕ) (list : List (Span VersionValue)) → AreCommonParts limit text list → 0 < length list
list-some limit text list h = grind arith

pub common_parts_are_denoted : (limit : ℕ) (text : List ℕ) (list : List (Span VersionValue)) → AreCommonParts limit text list
    → (denotes limit text ≡ list) × (0 < length list) × (list_all is_empty (parts text) ≡ false)
common_parts_are_denoted limit text list h = grind (arith, nat_tests, common_steps, tidy-denotes, common-tidy, list-some)
