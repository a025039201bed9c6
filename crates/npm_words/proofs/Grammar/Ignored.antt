-- How far a malformed word goes: the function that looks for its end finds exactly what the statement has.
use Rattle.npm_words.proofs.Common.{Bool, IsIgnored, IsUtf8, List, [], after_spaces, ap, arith, behind_ignored, cases_Bool, drop_spaces, encode_utf8}
use Rattle.npm_words.proofs.Common.{false, from_boundary, if◌then◌else◌, inl, inr, is_boundary, len_utf8_bounds, length, length-append, length-drop}
use Rattle.npm_words.proofs.Common.{length-encode, length-take-le, nat_tests, refl, space_len, space_len-nil, subst, suc, take, true, zero, ℕ, ◌-◌}
use Rattle.npm_words.proofs.{Common.{◌<◌, ◌∙◌, ◌∷◌, ◌≡◌, ◌≤◌}, Grammar.Inside.{not-taken, taken-found, taken-not, taken-read}}
use Rattle.npm_words.{proofs.Grammar.{PartialLaw.front-text, Runs.{steps-go, steps-stop}}, specs.{Internal.Words.takes_on, Malformed.goes_on}}
use Rattle.{npm_words.specs.Malformed.stops, semver_core.proofs.Reading.Boundaries.{boundary-le, boundary-utf8, first-is, first-of, skips-is}}
use Rattle.semver_core.proofs.{Reading.Boundaries.{skips-of, skips-utf8, spaces-le}, Text.Spaces.after_spaces-drop}
use Rattle.semver_core.specs.Text.{Boundaries.IsFirstBoundary, Characters.BeginsBlank}

-- ---- the loop that looks for the end

-- what stands behind the first piece belongs to it
abbrev goes : List ℕ → Bool
goes text = takes_on (take (length text - length (from_boundary text)) text) (drop_spaces (from_boundary text))

pub taken-less : (text : List ℕ) → goes text ≡ true → length (drop_spaces (from_boundary text)) < length text
unfolding takes_on
taken-less text h =
    let n = length text - length (from_boundary text) in
    let some : 0 < length (take n text) = grind arith in
    omega (arith, some, length-take-le n text, spaces-le (from_boundary text), boundary-le text)

nil-end : behind_ignored 0 [] ≡ from_boundary []
unfolding behind_ignored from_boundary
nil-end = refl

step : (n : ℕ) (text : List ℕ) → behind_ignored (suc n) text ≡ (if goes text then behind_ignored n (drop_spaces (from_boundary text)) else from_boundary text)
unfolding behind_ignored
step n text = refl

pub stop : (text : List ℕ) → goes text ≡ false → behind_ignored (length text) text ≡ from_boundary text
stop = steps-stop behind_ignored _ _ _ nil-end step taken-less

pub go : (text : List ℕ) → goes text ≡ true
    → behind_ignored (length text) text ≡ (let rest = drop_spaces (from_boundary text) in behind_ignored (length rest) rest)
go = steps-go behind_ignored _ _ _ nil-end step taken-less

-- ---- what is written is read

-- a piece is what stands before the boundary
piece-is : (text behind : List ℕ) (f : IsFirstBoundary text behind) → take (length text - length behind) text ≡ f.0
piece-is text behind f = ap (λ (t : List ℕ). take (length t - length behind) t) f.1 ∙ front-text f.0 behind

behind-utf8 : (text : List ℕ) → IsUtf8 text → (behind : List ℕ) → IsFirstBoundary text behind → IsUtf8 behind
behind-utf8 text u behind f = boundary-utf8 f.0 behind (subst (λ (t : List ℕ). IsUtf8 t) f.1 u) f.2

pub ignored-read : (text end : List ℕ) → IsUtf8 text → IsIgnored text end → behind_ignored (length text) text ≡ end
ignored-read text end u (stops t behind rest f s h) =
    let e = first-of t behind u f in
    stop t (rw (e, skips-of behind rest (behind-utf8 t u behind f) s, piece-is t behind f) (taken-not f.0 rest h)) ∙ e
ignored-read text end u (goes_on t behind rest e f s h more) =
    let v = behind-utf8 t u behind f in
    let ends = first-of t behind u f in
    let next = skips-of behind rest v s in
    go t (rw (ends, next, piece-is t behind f) (taken-read f.0 rest h)) ∙ rw (ends, next) (ignored-read rest e (skips-utf8 behind rest s v) more)

-- ---- what is read is written

-- whitespace is some characters
spaces-less : (text : List ℕ) → 0 < space_len text → length (drop_spaces text) < length text
unfolding after_spaces
spaces-less [] some = absurd (omega (arith, some, space_len-nil))
spaces-less (b ∷ text) some = grind (arith, after_spaces-drop, length-drop, spaces-le)

boundary-less : (text : List ℕ) → length (drop_spaces (from_boundary text)) ≤ length text - 1
unfolding from_boundary is_boundary
boundary-less [] = omega (arith, spaces-le [])
boundary-less (b ∷ text) = grind (arith, nat_tests, spaces-less (b ∷ text), spaces-le (from_boundary text), boundary-le text)

pub record IgnoredAt (text end : List ℕ) : Type 0 where
  pub is : IsIgnored text end
  pub utf8 : IsUtf8 end
  pub less : length (drop_spaces end) ≤ length text - 1

pub no-blank : BeginsBlank [] → ⊥
no-blank h = omega (arith, ap length h.spelled, length-append (encode_utf8 h.character) h.rest, length-encode h.character, (len_utf8_bounds h.character).0)

-- where the word goes on, if what stands there is known
found-with : (text : List ℕ) → IsUtf8 text
    → (let rest = drop_spaces (from_boundary text) in goes text ≡ true → IsUtf8 rest → IgnoredAt rest (behind_ignored (length rest) rest))
    → IgnoredAt text (behind_ignored (length text) text)
found-with text u more =
    let behind = from_boundary text in
    let rest = drop_spaces behind in
    let f = first-is [] text u in
    let v = behind-utf8 text u behind f in
    let s = skips-is behind v in
    elim (cases_Bool (goes text)) [
      | inr off ↦ rw (stop text off) (record {
        is = stops text behind rest f s (not-taken f.0 rest (rw (piece-is text behind f) at off));
        utf8 = v;
        less = boundary-less text;
      })
      | inl on ↦
          let r = more on (skips-utf8 behind rest s v) in
          rw (go text on) (record {
            is = goes_on text behind rest (behind_ignored (length rest) rest) f s (taken-found f.0 rest (rw (piece-is text behind f) at on)) r.is;
            utf8 = r.utf8;
            less = omega (arith, r.less, taken-less text on);
          })
    ]

ignored-within : (n : ℕ) (text : List ℕ) → IsUtf8 text → length text ≤ n → IgnoredAt text (behind_ignored (length text) text)
ignored-within zero text u le = found-with text u (λ on v. absurd (omega (arith, taken-less text on, le)))
ignored-within (suc n) text u le = found-with text u (λ on v. ignored-within n _ v (omega (arith, taken-less text on, le)))

pub ignored-found : (text : List ℕ) → IsUtf8 text → IgnoredAt text (behind_ignored (length text) text)
ignored-found text u = ignored-within (length text) text u (omega arith)

pub ruleset pieces_passed = (stop, go, taken-less, boundary-le)
