-- The range that the fast reader makes of the intervals of a common text.
use Rattle.nodejs_semver.proofs.Common.{nat_tests, ◌≡◌, ℕ, ◌<◌, ◌+◌, List, [], length, sym, arith, true, Some, subst, list_all}
use Rattle.nodejs_semver.proofs.Common.{is_range_span, Span, if_any, VersionValue, AreCommonParts, denotes, Means, IsRange, Option, IfSome}
use Rattle.nodejs_semver.proofs.Common.{IsUtf8, IfNone}
use Rattle.nodejs_semver.proofs.{Bounds.Table.{denotes-bounded}, Dividing.MeaningLaw.{meant, one_meaning}}
use Rattle.nodejs_semver.proofs.Everyday.{Parts.{parts-utf8}, Texts.{common_parts_are_denoted, list-some}}
use Rattle.nodejs_semver.proofs.Common.{Bool, None, false, has_bars, list_any, refl, suc, take, zero, ◌==◌, ◌∷◌, ◌||◌}
use Rattle.memchr.specs.Find.{IsFirstByte, is_byte3}
use Rattle.std.proofs.lemmas.Bool.{false_from_ne_true}
use Rattle.std.specs.Prelude.{slice_index, unwrap_or}

pub common_bounded : (limit : ℕ) (text : List ℕ) (list : List (Span VersionValue)) → AreCommonParts limit text list → list_all (is_range_span (limit + 1)) list ≡ true
common_bounded limit text list h = grind (arith, common_parts_are_denoted, denotes-bounded)

pub common_list : (limit : ℕ) (text : List ℕ) (list : List (Span VersionValue)) → AreCommonParts limit text list → list ≡ denotes limit text
common_list limit text list h = sym (common_parts_are_denoted limit text list h).0

pub common_means : (limit : ℕ) (text : List ℕ) (list : List (Span VersionValue)) (o : Option (List (Span VersionValue)))
    → IsUtf8 text → AreCommonParts limit text list → o ≡ if_any list → IfSome o (Means limit text)
common_means limit text list o u h e = grind (arith, meant, common_list)

pub if-some : {A : Type 0} (P : A → Type 0) (o : Option A) (x : A) → o ≡ Some x → IfSome o P → P x
if-some {A} P o x e h = subst (λ (q : Option A). IfSome q P) e h

-- the intervals that a text denotes are a range, where there are some
pub denoted_range : (limit : ℕ) (text : List ℕ) (list : List (Span VersionValue)) → list ≡ denotes limit text → 0 < length list → IsRange limit list
denoted_range limit text list h some = grind (arith, nat_tests, denotes-bounded limit text)

-- the loose reader returns the range of a common text
pub fast_read : (limit : ℕ) (text : List ℕ) (list : List (Span VersionValue)) (o : Option (List (Span VersionValue)))
    → IsUtf8 text → AreCommonParts limit text list
    → IfSome o (λ range. Means limit text range × (0 < length range)) → IfNone o (Means limit text []) → Some list ≡ o
fast_read limit text list o h k m n = grind (arith, common_list, one_meaning)

-- the range of common parts, as a reader has found them
pub common_is_range : (limit : ℕ) (text : List ℕ) (list : List (Span VersionValue)) → AreCommonParts limit text list → IsRange limit list
common_is_range limit text list h = denoted_range limit text list (common_list limit text list h) (list-some limit text list h)

pub common_is_meant : (limit : ℕ) (text : List ℕ) (list : List (Span VersionValue)) → AreCommonParts limit text list → Means limit text list
common_is_meant limit text list h = meant limit text list (parts-utf8 limit text list h) (common_list limit text list h)

-- none of the bytes before the first one that passes does
none-below : (p : ℕ → Bool) (text : List ℕ) (n : ℕ) → ((k : ℕ) → k < n → p (slice_index text k) ≡ true → ⊥)
    → list_any p (take n text) ≡ false
none-below p text zero h = refl
none-below p [] (suc n) h = refl
none-below p (b ∷ text) (suc n) h =
    let first : p b ≡ false = false_from_ne_true _ (h zero (omega arith)) in
    rw (first, none-below p text n (λ k lt. h (suc k) (omega arith))) refl

pub before-first : (p : ℕ → Bool) (text : List ℕ) (r : Option ℕ) → IsFirstByte p text r
    → list_any p (take (unwrap_or r (length text)) text) ≡ false
before-first p text None h = none-below p text (length text) (λ k lt. h k (omega arith) lt)
before-first p text (Some n) h = none-below p text n (λ k lt. h.0.before k (omega arith) lt)

-- where neither a bar nor what ends a field stands
pub no_end : (text : List ℕ) → list_any (is_byte3 124 59 10) text ≡ false → list_any (λ b. b == 59 || b == 10) text ≡ false
no_end [] h = refl
no_end (b ∷ rest) h = grind (arith, nat_tests, no_end rest)

pub no_bars : (text : List ℕ) → list_any (is_byte3 124 59 10) text ≡ false → has_bars text ≡ false
no_bars [] h = refl
no_bars (b ∷ rest) h = grind (arith, nat_tests, no_bars rest)
