-- What the fast reader finds is the parts of a common text, and it finds each of them.
use Rattle.nodejs_semver.proofs.Common.{AreCommonParts, AreComponents, Bound, Comparator, Front, IsSign, IsSomeAnd, List, None, Option, Partial, Some}
use Rattle.nodejs_semver.proofs.Common.{Span, Unbounded, VersionValue, Word, [], above, ap, append-nil, append_assoc, arith, at_most, begins}
use Rattle.nodejs_semver.proofs.Common.{begins_second, below, bind_some, cases_Bool, common_steps, comparison_front, comparisons_front, drop}
use Rattle.nodejs_semver.proofs.Common.{eqb-true, false, has_bars, hyphen, if_any, if◌then◌else◌, inl, inr, interval, is_sign, length}
use Rattle.nodejs_semver.proofs.Common.{Bool, IsUtf8, all_weaker, list_all, list_all-append, list_any, take, ◌-◌, ◌||◌}
use Rattle.std.proofs.{Math.Seq.{drop-append_seam, take-append_seam}, lemmas.Str.{Ascii.{IsAscii-cons, IsAscii-nil}, IsUtf8-from_ascii}}
use Rattle.std.specs.Str.{IsAscii}
use Rattle.nodejs_semver.proofs.Common.{length-append, meet, nat_tests, passed, plain, precedence, refl, same_Some, suc, table, tilde, tilde_sign}
use Rattle.nodejs_semver.proofs.{Common.{true, word_read, zero, ℕ, ◌++◌, ◌<◌, ◌==◌, ◌↔◌, ◌∙◌, ◌∷◌, ◌≡◌, ◌≤◌}, Everyday.Texts.list-some}
use Rattle.nodejs_semver.proofs.{Everyday.{Texts.part-tidy, Words.{no-equal, no-greater, sign-begins}}, Reading.PartialLaw.{components-begin, components-bytes, is_partial_byte}}
use Rattle.nodejs_semver.proofs.Reading.{PartialLaw.{components-read, components-then}, WordLaw.{Signed, sign-is, tilde-cases}}
use Rattle.nodejs_semver.specs.Internal.CommonFronts.{bare_front, begins_dash, both_of, caret_front, common_fronts, common_parts, common_range, fronts_within, onto, part_before}
use Rattle.nodejs_semver.specs.Internal.{CommonFronts.{part_front, part_read, partials_front, tilde_front}, Words.comparator_at}
use Rattle.nodejs_semver.specs.Text.Common.{IsCommonPart, IsCommonRange, IsCommonWord, IsComparison, IsGap, caret_word, compare_word, comparison}
use Rattle.nodejs_semver.specs.Text.Common.{hyphen_word, more_parts, one_part, one_word, plain_word, tilde_greater_word, tilde_word, two_comparisons}
use Rattle.{nodejs_semver.specs.Text.WordText.{above_sign, below_sign, caret}, semver_core.proofs.Reading.Bytes.{Stop, begins-on, begins_component, is_component_byte}}
use Rattle.semver_core.{proofs.Reading.Bytes.{is_solid, quiet-before, stop-bar, stop-nil, stop-space}, specs.Failures.NoValue}
use Rattle.semver_core.specs.{Internal.{Fronts.after_byte, Parts.{after_bars, after_gap}, Reading.◌>>?◌}, Text.Comparators.at_least}
use Rattle.semver_core.proofs.Reading.Numbers.{number-read, number_first}
use Rattle.nodejs_semver.specs.Internal.Fronts as Spec
use Rattle.semver_core.specs.Internal.Fronts.{component_front, dotted_front, is_wildcard}
use Rattle.semver_core.specs.Text.Numbers.{IsNumber, IsTriple}
use Rattle.{nodejs_semver.specs.Internal.Fronts.patch_front, std.specs.Char.is_ascii_digit}

-- it is read at the front
pub bare-exact : (limit : ℕ) (x more : List ℕ) (p : Partial) → AreComponents limit x p → Stop more → bare_front limit (x ++ more) ≡ Some (p, more)
unfolding bare_front
bare-exact limit x more p h stop =
    let a = components-then limit x more p h (quiet-before x more stop.digit) in rw (a.1, a.2.exact stop) refl

-- and what is read there is one
component_read : (limit : ℕ) (run more : List ℕ) (n : ℕ) → IsNumber limit run n → begins is_ascii_digit more ≡ false
    → component_front limit (run ++ more) ≡ Some (Some n, more)
component_read limit run more n is stop = number_first limit (run ++ more) more n (number-read limit run more n is stop)

dotted_read : (limit : ℕ) (run more : List ℕ) (n : ℕ) → IsNumber limit run n → begins is_ascii_digit more ≡ false
    → dotted_front limit (46 ∷ (run ++ more)) ≡ Some (Some n, more)
unfolding dotted_front
dotted_read limit run more n is stop = component_read limit run more n is stop

-- a partial of three numbers
pub bare_triple : (limit : ℕ) (text : List ℕ) (M m p : ℕ) (rest : List ℕ) → IsTriple limit text M m p rest
    → Some (patch_front (Some M) (Some m) [] (Some (Some p, rest))) ≡ bare_front limit text
unfolding bare_front
bare_triple limit text M m p rest is = grind (arith, component_read, dotted_read)

-- no partial begins otherwise
pub bare_nothing : (limit : ℕ) (text : List ℕ) → begins (λ b. is_wildcard b || is_ascii_digit b) text ≡ false → None ≡ bare_front limit text
unfolding bare_front component_front Spec.number_of
bare_nothing limit text h = grind arith

pub bare-sound : (limit : ℕ) (text : List ℕ) (p : Partial) (more : List ℕ) → bare_front limit text ≡ Some (p, more) → (x : List ℕ)
    × (text ≡ x ++ more) × AreComponents limit x p
unfolding bare_front
bare-sound limit text p more h = grind (arith, components-read)

-- ---- what the fast reader finds is the parts of a common text, and it finds each of them

-- what may follow a part: the end, or bars with one space or none before them
pub record Ends (more : List ℕ) : Type 0 where
  pub stop : Stop more
  pub second : begins_second more ≡ false
  pub dash : begins_dash more ≡ false

pub ends-nil : Ends []
ends-nil = record { stop = stop-nil; second = refl; dash = refl }

pub ends-bar : (z : List ℕ) → Ends (124 ∷ z)
ends-bar z = record { stop = stop-bar z; second = refl; dash = grind arith }

pub ends-space : (z : List ℕ) → Ends (32 ∷ 124 ∷ z)
ends-space z = record { stop = stop-space (124 ∷ z); second = refl; dash = grind arith }

-- ---- words

comparator-of : (c : Comparator) (sign text : List ℕ) → IsSign c sign → begins_component text ≡ true
    → comparator_at (sign ++ text) ≡ Some (c, text)
comparator-of c sign text above_sign h = ap Some (no-equal above at_least text h)
comparator-of c sign text below_sign h = ap Some (no-equal below at_most text h)
comparator-of c sign text is h = refl

comparison-exact : (limit : ℕ) (x : List ℕ) (w : Word) (more : List ℕ) → IsComparison limit x w → Stop more → comparison_front limit (x ++ more) ≡ Some (w, more)
unfolding comparison_front
comparison-exact limit x w more h stop = grind (arith, comparator-of, components-begin, append_assoc, bare-exact)

-- a comparison at the front
abbrev Compared : ℕ → List ℕ → Word × List ℕ → Type 0
Compared limit text r = (x : List ℕ) × (text ≡ x ++ r.1) × IsComparison limit x r.0

comparison-sound : (limit : ℕ) (text : List ℕ) (r : Word × List ℕ) → comparison_front limit text ≡ Some r → Compared limit text r
unfolding comparison_front
comparison-sound limit text r h =
    let c = bind_some (comparator_at text) _ r h in
    let p = bind_some (bare_front limit c.0.1) _ r c.2 in
    let s : Signed text c.0 = sign-is text c.0 c.1 in
    let b = bare-sound limit c.0.1 p.0.0 p.0.1 p.1 in
    rw (← same_Some _ _ p.2) (s.0 ++ b.0, rw (append_assoc, ← b.1) s.2, comparison c.0.0 s.0 b.0 p.0.0 s.1 b.2)

-- a word at the front
abbrev Worded : ℕ → List ℕ → Word × List ℕ → Type 0
Worded limit text r = (x : List ℕ) × (text ≡ x ++ r.1) × IsCommonWord limit x r.0

caret-sound : (limit : ℕ) (text : List ℕ) (r : Word × List ℕ) → caret_front limit text ≡ Some r → Worded limit (94 ∷ text) r
unfolding caret_front
caret-sound limit text r h =
    let p = bind_some (bare_front limit text) _ r h in
    let b = bare-sound limit text p.0.0 p.0.1 p.1 in
    rw (← same_Some _ _ p.2) (94 ∷ b.0, rw (← b.1) refl, caret_word b.0 p.0.0 b.2)

-- what stands behind a tilde
tilde-by : (limit : ℕ) (text : List ℕ) (p : Partial) (x more : List ℕ) → (tilde_sign text).1 ≡ x ++ more → AreComponents limit x p
    → Worded limit (126 ∷ text) (tilde (tilde_sign text).0 p, more)
tilde-by limit text p x more e h = grind (arith, tilde-cases, tilde_word, tilde_greater_word)

tilde-sound : (limit : ℕ) (text : List ℕ) (r : Word × List ℕ) → tilde_front limit text ≡ Some r → Worded limit (126 ∷ text) r
unfolding tilde_front
tilde-sound limit text r h =
    let p = bind_some (bare_front limit (tilde_sign text).1) _ r h in
    let b = bare-sound limit (tilde_sign text).1 p.0.0 p.0.1 p.1 in
    rw (← same_Some _ _ p.2) (tilde-by limit text p.0.0 b.0 p.0.1 b.1 b.2)

dash-is : (text : List ℕ) → begins_dash text ≡ true → text ≡ 32 ∷ 45 ∷ 32 ∷ drop 3 text
dash-is text h = grind arith

partials-sound : (limit : ℕ) (text : List ℕ) (r : Word × List ℕ) → partials_front limit text ≡ Some r → Worded limit text r
unfolding partials_front
partials-sound limit text r h =
    let p = bind_some (bare_front limit text) _ r h in
    let a = bare-sound limit text p.0.0 p.0.1 p.1 in
    elim (cases_Bool (begins_dash p.0.1)) [
      | inl dash ↦
          let q = bind_some (bare_front limit (drop 3 p.0.1)) (λ q. Some (hyphen p.0.0 q.0, q.1)) r (rw dash at p.2) in
          let b = bare-sound limit (drop 3 p.0.1) q.0.0 q.0.1 q.1 in
          let whole = a.1 ∙ ap (λ (t : List ℕ). a.0 ++ t) (dash-is p.0.1 dash ∙ ap (λ (t : List ℕ). 32 ∷ 45 ∷ 32 ∷ t) b.1) in
          rw (← same_Some _ _ q.2) (a.0 ++ (32 ∷ 45 ∷ 32 ∷ b.0), rw append_assoc whole, hyphen_word a.0 b.0 p.0.0 q.0.0 a.2 b.2)
      | inr none ↦
          let last : (plain p.0.0, p.0.1) ≡ r = same_Some _ _ (rw none at p.2) in
          rw (← last) (a.0, a.1, plain_word a.0 p.0.0 a.2)
    ]

-- ---- parts

part-is : (rest : List ℕ) (o : Option (Span VersionValue)) (r : Span VersionValue × List ℕ) → part_read rest o ≡ Some r
    → (o ≡ Some r.0) × (rest ≡ r.1)
part-is rest o r h = grind arith

read-sound : (limit : ℕ) (read : Front Word) (r : Span VersionValue × List ℕ) → word_read limit read ≡ Some r
    → (w : Word) × (read ≡ Some (w, r.1)) × (table limit w ≡ Some r.0)
read-sound limit read r h = grind arith

-- the first byte decides the form
partials-part : (limit : ℕ) (text : List ℕ) → begins_component text ≡ true → part_front limit text ≡ word_read limit (partials_front limit text)
unfolding part_front
partials-part limit text h = grind (arith, nat_tests)

-- a comparison begins with a sign
comparison-begins : (limit : ℕ) (x : List ℕ) (w : Word) → IsComparison limit x w → begins is_sign x ≡ true
comparison-begins limit x w (comparison c sign text p is bare) = (sign-begins c sign text is).0

comparisons-part : (limit : ℕ) (text : List ℕ) → begins is_sign text ≡ true → part_front limit text ≡ comparisons_front limit text
unfolding part_front
comparisons-part limit text h = grind arith

word-exact : (limit : ℕ) (x : List ℕ) (w : Word) (s : Span VersionValue) (more : List ℕ) → IsCommonWord limit x w → table limit w ≡ Some s → Ends more
    → part_front limit (x ++ more) ≡ Some (s, more)
unfolding part_front tilde_front caret_front partials_front comparisons_front
word-exact limit x w s more (plain_word text p h) bounds e = grind (arith, begins-on, components-begin, partials-part, bare-exact)
word-exact limit x w s more (compare_word text word is) bounds e =
    grind (arith, begins-on, comparison-begins, comparisons-part, comparison-exact)
word-exact limit x w s more (tilde_word text p h) bounds e = grind (arith, begins-on, components-begin, no-greater, bare-exact)
word-exact limit x w s more (tilde_greater_word text p h) bounds e = rw (bare-exact limit text more p h e.stop, bounds) refl
word-exact limit x w s more (caret_word text p h) bounds e = rw (bare-exact limit text more p h e.stop, bounds) refl
word-exact limit x w s more (hyphen_word u v p q h k) bounds e =
    grind (arith, begins-on, components-begin, bare-exact, stop-space, append_assoc, partials-part)

-- a part that ends there is read whole
pub part-exact : (limit : ℕ) (x : List ℕ) (s : Span VersionValue) (more : List ℕ) → IsCommonPart limit x s → Ends more → part_front limit (x ++ more) ≡ Some (s, more)
unfolding comparisons_front
part-exact limit x s more (one_word text word span is bounds) e = word-exact limit text word span more is bounds e
part-exact limit x s more (two_comparisons u v a b c d both is other h k m) e =
    grind (arith, begins-on, comparison-begins, comparison-exact, stop-space, append_assoc, comparisons-part)

-- a part at the front
abbrev pub Parted : ℕ → List ℕ → Span VersionValue × List ℕ → Type 0
Parted limit text r = (x : List ℕ) × (text ≡ x ++ r.1) × IsCommonPart limit x r.0

word-sound : (limit : ℕ) (text : List ℕ) (read : Front Word) (r : Span VersionValue × List ℕ)
    → ((x : Word × List ℕ) → read ≡ Some x → Worded limit text x) → word_read limit read ≡ Some r → Parted limit text r
word-sound limit text read r sound h =
    grind (arith, nat_tests, common_steps, read-sound, one_word)

second-is : (text : List ℕ) → begins_second text ≡ true → text ≡ 32 ∷ drop 1 text
second-is text h = grind arith

comparisons-sound : (limit : ℕ) (text : List ℕ) (r : Span VersionValue × List ℕ) → comparisons_front limit text ≡ Some r
    → Parted limit text r
unfolding comparisons_front
comparisons-sound limit text r h =
    let a = bind_some (word_read limit (comparison_front limit text)) _ r h in
    let v = read-sound limit (comparison_front limit text) a.0 a.1 in
    let one = comparison-sound limit text (v.0, a.0.1) v.1 in
    elim (cases_Bool (begins_second a.0.1)) [
      | inl second ↦
          let rest = drop 1 a.0.1 in
          let read = word_read limit (comparison_front limit rest) in
          let b = bind_some read (λ t. part_read t.1 (meet precedence a.0.0 t.0)) r (rw second at a.2) in
          let w = read-sound limit (comparison_front limit rest) b.0 b.1 in
          let two = comparison-sound limit rest (w.0, b.0.1) w.1 in
          let p = part-is b.0.1 (meet precedence a.0.0 b.0.0) r b.2 in
          let back = two.1 ∙ ap (λ (t : List ℕ). two.0 ++ t) p.1 in
          let whole = one.1 ∙ ap (λ (t : List ℕ). one.0 ++ t) (second-is a.0.1 second ∙ ap (λ (t : List ℕ). 32 ∷ t) back) in
          let is = two_comparisons one.0 two.0 v.0 w.0 a.0.0 b.0.0 r.0 one.2 two.2 v.2 w.2 p.0 in
          (one.0 ++ (32 ∷ two.0), rw append_assoc whole, is)
      | inr none ↦
          let last : a.0 ≡ r = same_Some _ _ (rw none at a.2) in
          rw (← last) (one.0, one.1, one_word one.0 v.0 a.0.0 (compare_word one.0 v.0 one.2) v.2)
    ]

-- what is read at the front is a part, where no build follows it
pub part-sound : (limit : ℕ) (text : List ℕ) (r : Span VersionValue × List ℕ) → part_front limit text ≡ Some r
    → Parted limit text r
unfolding part_front
part-sound limit [] r h = cc h
part-sound limit (b ∷ rest) r h =
    grind (arith, nat_tests, comparisons-sound limit (b ∷ rest) r, partials-sound limit (b ∷ rest), caret-sound limit rest, tilde-sound limit rest, word-sound limit (126 ∷ rest) (tilde_front limit rest) r (tilde-sound limit rest), word-sound limit (94 ∷ rest) (caret_front limit rest) r (caret-sound limit rest), word-sound limit (b ∷ rest) (partials_front limit (b ∷ rest)) r (partials-sound limit (b ∷ rest)), eqb-true)

-- a caret, or a tilde, with a partial behind it
pub caret-part : (limit : ℕ) (text more : List ℕ) (p : Partial) (s : Span VersionValue) → bare_front limit text ≡ Some (p, more)
    → table limit (caret p) ≡ Some s → part_front limit (94 ∷ text) ≡ Some (s, more)
unfolding part_front caret_front
caret-part limit text more p s read bounds = rw (read, bounds) refl

pub tilde-part : (limit : ℕ) (text more : List ℕ) (p : Partial) (s : Span VersionValue) → bare_front limit text ≡ Some (p, more)
    → table limit (tilde false p) ≡ Some s → part_front limit (126 ∷ text) ≡ Some (s, more)
unfolding part_front tilde_front
tilde-part limit text more p s read bounds =
    let b = bare-sound limit text p more read in
    let begins : begins_component text ≡ true = rw b.1 (begins-on is_component_byte b.0 more (components-begin limit b.0 p b.2)) in
    rw (no-greater text begins, read, bounds) refl

-- ---- the bars between parts

-- bars with their spaces, and what stands behind them
pub record Barred (more next : List ℕ) : Type 0 where
  pub before : List ℕ
  pub after : List ℕ
  pub is_before : IsGap before
  pub is_after : IsGap after
  pub divided : more ≡ before ++ 124 ∷ (124 ∷ (after ++ next))

gap-is : (text : List ℕ) → (gap : List ℕ) × IsGap gap × (text ≡ gap ++ after_gap text)
gap-is [] = ([], inl refl, refl)
gap-is (b ∷ text) = elim (cases_Bool (b == 32)) [
  | inl space ↦ (32 ∷ [], inr refl, rw space (rw (eqb-true b 32 space) refl))
  | inr other ↦ ([], inl refl, rw other refl)
]

pub bars-sound : (more next : List ℕ) → after_bars more ≡ Some next → Barred more next
unfolding after_bars
bars-sound more next h =
    let one = bind_some (after_byte 124 (after_gap more)) _ next h in
    let two = bind_some (after_byte 124 one.0) (λ t. Some (after_gap t)) next one.2 in
    let before = gap-is more in
    let after = gap-is two.0 in
    grind arith

ends-behind : (gap rest : List ℕ) → IsGap gap → Ends (gap ++ 124 ∷ rest)
ends-behind gap rest (inl none) = rw none (ends-bar rest)
ends-behind gap rest (inr space) = rw space (ends-space rest)

bars-exact : (before after next : List ℕ) → IsGap before → IsGap after → begins is_solid next ≡ true
    → after_bars (before ++ 124 ∷ (124 ∷ (after ++ next))) ≡ Some next
unfolding after_bars
bars-exact before after next b a h = grind (arith, nat_tests)

-- ---- all parts

range-begins : (limit : ℕ) (text : List ℕ) (list : List (Span VersionValue)) → AreCommonParts limit text list → begins is_solid text ≡ true
range-begins limit text list h = grind (arith, part-tidy)

-- parts at the front, and what follows them
abbrev pub Fronted : ℕ → List ℕ → List (Span VersionValue) × List ℕ → Type 0
Fronted limit text f = (x : List ℕ) × (text ≡ x ++ f.1) × AreCommonParts limit x f.0

-- the last part
last-sound : (limit : ℕ) (text : List ℕ) (s : Span VersionValue) (more : List ℕ) → part_front limit text ≡ Some (s, more)
    → Fronted limit text (s ∷ [], more)
last-sound limit text s more h = grind (arith, part-sound, one_part)

-- a part before others
next-sound : (limit : ℕ) (text : List ℕ) (s : Span VersionValue) (more next : List ℕ) (f : List (Span VersionValue) × List ℕ)
    → part_front limit text ≡ Some (s, more) → after_bars more ≡ Some next → Fronted limit next f
    → Fronted limit text (s ∷ f.0, f.1)
next-sound limit text s more next f h k r =
    let p = part-sound limit text (s, more) h in
    let b = bars-sound more next k in
    let x = p.0 ++ (b.before ++ 124 ∷ (124 ∷ (b.after ++ r.0))) in
    let whole : text ≡ x ++ f.1 = grind (arith, append_assoc) in
    (x, whole, more_parts p.0 b.before b.after r.0 s f.0 p.2 b.is_before b.is_after r.2)

-- less is left behind the bars
next-shorter : (limit : ℕ) (text next : List ℕ) (p : Span VersionValue × List ℕ) → part_front limit text ≡ Some p
    → after_bars p.1 ≡ Some next → length next < length text
next-shorter limit text next p h k = grind (arith, nat_tests, length-append, bars-sound p.1 next k, part-sound)

-- what follows a part, and the parts behind it, which are read so
behind-sound : (limit : ℕ) (text : List ℕ) (f : List (Span VersionValue) × List ℕ) (p : Span VersionValue × List ℕ) → part_front limit text ≡ Some p
    → (o : Option (List ℕ)) (others : List ℕ → Front (List (Span VersionValue)))
    → ((next : List ℕ) (more : List (Span VersionValue) × List ℕ) → others next ≡ Some more → Fronted limit next more)
    → after_bars p.1 ≡ o → part_before p.0 p.1 o others ≡ Some f → Fronted limit text f
behind-sound limit text f p h None others sound k e = rw (← same_Some _ _ e) (last-sound limit text p.0 p.1 h)
behind-sound limit text f p h (Some next) others sound k e =
    let more = bind_some (others next) (λ more. Some (onto p.0 more.0, more.1)) f e in
    rw (← same_Some _ _ more.2) (next-sound limit text p.0 p.1 next more.0 h k (sound next more.0 more.1))

fronts-sound : (limit n : ℕ) (text : List ℕ) (f : List (Span VersionValue) × List ℕ) → fronts_within limit n text ≡ Some f
    → Fronted limit text f
unfolding fronts_within
fronts-sound limit zero text f h = cc h
fronts-sound limit (suc n) text f h =
    let p = bind_some (part_front limit text) _ f h in
    behind-sound limit text f p.0 p.1 (after_bars p.0.1) (λ next. fronts_within limit n next)
    (λ next more e. fronts-sound limit n next more e) refl p.2

-- how many parts are allowed for does not matter, where there is room for each byte
fronts-enough : (limit n m : ℕ) (text : List ℕ) → length text ≤ n → length text ≤ m
    → fronts_within limit n text ≡ fronts_within limit m text
unfolding fronts_within part_front
fronts-enough limit zero zero text a b = refl
fronts-enough limit zero (suc m) [] a b = refl
fronts-enough limit zero (suc m) (c ∷ text) a b = absurd (omega arith)
fronts-enough limit (suc n) zero [] a b = refl
fronts-enough limit (suc n) zero (c ∷ text) a b = absurd (omega arith)
fronts-enough limit (suc n) (suc m) text a b = grind (arith, next-shorter, fronts-enough limit n m)

-- the intervals of a text are that of the part at its front, and those of what follows its bars
fronts-step : (limit : ℕ) (text : List ℕ) → common_fronts limit text
    ≡ (part_front limit text >>? λ part. part_before part.0 part.1 (after_bars part.1) (λ next. common_fronts limit next))
unfolding fronts_within
fronts-step limit text =
    fronts-enough limit (length text) (suc (length text)) text (omega arith) (omega arith)
    ∙ grind (arith, next-shorter, fronts-enough limit (length text))

pub front_is_read : (limit : ℕ) (text : List ℕ) (f : List (Span VersionValue) × List ℕ) → common_fronts limit text ≡ Some f
    → Fronted limit text f
front_is_read limit text f h = fronts-sound limit (length text) text f h

-- all parts of a text are read
bars-none : after_bars [] ≡ None
unfolding after_bars
bars-none = refl

read-once : (limit : ℕ) (text : List ℕ) (list : List (Span VersionValue)) → AreCommonParts limit text list
    → common_fronts limit text ≡ Some (list, [])
read-once limit text list (one_part part s is) =
    grind (arith, fronts-step limit part, part-exact limit part s [] is ends-nil, append-nil, bars-none)
read-once limit text list (more_parts part before after rest s others is b a h) =
    grind (arith, nat_tests, common_steps, fronts-step, part-exact, ends-behind, bars-exact, range-begins, read-once limit rest others h)

all-read : (limit : ℕ) (text : List ℕ) (list : List (Span VersionValue)) → common_parts limit text ≡ Some list → AreCommonParts limit text list
all-read limit text list h = grind (arith, front_is_read, append-nil)

pub common_parts_are_read : (limit : ℕ) (text : List ℕ) (list : List (Span VersionValue)) → (common_parts limit text ≡ Some list) ↔ AreCommonParts limit text list
common_parts_are_read limit text list = grind (arith, all-read, read-once)

-- what was read at the front is the whole text exactly where nothing follows it
pub whole-read : (limit : ℕ) (text : List ℕ) (list : List (Span VersionValue)) (rest : List ℕ) → common_fronts limit text ≡ Some (list, rest)
    → length rest ≡ 0 → AreCommonParts limit text list
whole-read limit text list rest h none = grind (arith, nat_tests, common_steps, front_is_read, append-nil)

pub part-read : (limit : ℕ) (text : List ℕ) (list : List (Span VersionValue)) (rest : List ℕ) → common_fronts limit text ≡ Some (list, rest)
    → 0 < length rest → NoValue (AreCommonParts limit text)
part-read limit text list rest h some other is = grind (arith, read-once)

pub none-read : (limit : ℕ) (text : List ℕ) → common_fronts limit text ≡ None → NoValue (AreCommonParts limit text)
none-read limit text h list is = cc (h, read-once limit text list is)

pub common_ranges_are_read : (limit : ℕ) (text : List ℕ) (list : List (Span VersionValue)) → (common_range limit text ≡ Some list) ↔ IsCommonRange limit text list
common_ranges_are_read limit text list = grind (arith, common_parts_are_read)

-- ---- the interval of a part and what follows it, as the fast reader makes them

-- two comparisons of which the first has no upper and the second no lower bound
pub half_open : (a b : Bound VersionValue)
    → both_of (record { lower = a; upper = Unbounded }) (record { lower = Unbounded; upper = b }) ≡ interval precedence (record { lower = a; upper = b })
half_open a b = grind arith

-- what follows a part, and the list with its interval
abbrev pub Behind : Type 0
Behind = Option (List ℕ) × List (Span VersionValue)

abbrev pub behind : Option (List ℕ) → List (Span VersionValue) → Behind
behind r list = (r, list)

-- the step behind the first comparison
abbrev behind-first : ℕ → Span VersionValue × List ℕ → Front (Span VersionValue)
behind-first limit s =
    if begins_second s.1
    then (word_read limit (comparison_front limit (drop 1 s.1)) >>? λ t. part_read t.1 (meet precedence s.0 t.0))
    else Some s

-- one comparison
pub first-read : (limit : ℕ) (text : List ℕ) (a : Span VersionValue) (rest : List ℕ)
    → part_read rest (interval precedence a) ≡ word_read limit (comparison_front limit text) → begins_second rest ≡ false
    → part_read rest (interval precedence a) ≡ comparisons_front limit text
unfolding comparisons_front
first-read limit text a rest h second = grind (arith, nat_tests, common_steps)

-- no second comparison is read
pub none-second : (limit : ℕ) (text : List ℕ) (a : Span VersionValue) (rest : List ℕ)
    → part_read rest (interval precedence a) ≡ word_read limit (comparison_front limit text) → begins_second rest ≡ true
    → word_read limit (comparison_front limit (drop 1 rest)) ≡ None → comparisons_front limit text ≡ None
unfolding comparisons_front
none-second limit text a rest h second k = rw (← h) (go (interval precedence a))
  where
    go : (o : Option (Span VersionValue)) → (part_read rest o >>? λ s. behind-first limit s) ≡ None
    go o = grind arith

-- two comparisons
pub second-read : (limit : ℕ) (text : List ℕ) (a b : Span VersionValue) (rest more : List ℕ) → part_read rest (interval precedence a) ≡ word_read limit (comparison_front limit text)
    → begins_second rest ≡ true → part_read more (interval precedence b) ≡ word_read limit (comparison_front limit (drop 1 rest))
    → comparisons_front limit text ≡ part_read more (both_of a b)
unfolding comparisons_front
second-read limit text a b rest more h second k = rw (← h) (go (interval precedence a))
  where
    last : (s : Span VersionValue) (o : Option (Span VersionValue))
        → (part_read more o >>? λ t. part_read t.1 (meet precedence s t.0)) ≡ part_read more (o >>? λ t. meet precedence s t)
    last s o = grind arith

    go : (o : Option (Span VersionValue))
        → (part_read rest o >>? λ s. behind-first limit s)
        ≡ part_read more (o >>? λ s. interval precedence b >>? λ t. meet precedence s t)
    go o = grind (arith, last)

-- ---- one part of a common text after another

abbrev pub HasBars : List ℕ → Type 0
HasBars text = has_bars text ≡ true

pub behind-bars : (front rest : List ℕ) → HasBars rest → HasBars (front ++ rest)
behind-bars [] rest h = h
behind-bars (b ∷ front) rest h = grind (arith, behind-bars front rest h)

-- the intervals that were found, and those that are read in what is left of the text, are those of the whole text
pub record Reaches (limit : ℕ) (text : List ℕ) (found : List (Span VersionValue)) (rest : List ℕ) : Type 0 where
  pub whole : (common_fronts limit rest >>? λ tail. Some (found ++ tail.0, tail.1)) ≡ common_fronts limit text
  pub within : HasBars rest → HasBars text

pub loop-starts : (limit : ℕ) (text rest : List ℕ) (found : List (Span VersionValue)) → rest ≡ text → found ≡ []
    → Reaches limit text found rest
loop-starts limit text rest found e f = grind arith

-- the reader was at a place, and found no part there
pub loop-no_part : (limit : ℕ) (text : List ℕ) (found new : List (Span VersionValue)) (rest : List ℕ)
    → behind None new ≡ passed found (part_front limit rest) → Reaches limit text found rest
    → common_fronts limit text ≡ None
loop-no_part limit text found new rest h r = grind (arith, fronts-step limit rest)

-- it added the interval of a part, which no bars follow
pub loop-ends : (limit : ℕ) (text : List ℕ) (found new : List (Span VersionValue)) (rest left : List ℕ)
    → behind (Some left) new ≡ passed found (part_front limit rest) → after_bars left ≡ None
    → Reaches limit text found rest → common_fronts limit text ≡ Some (new, left)
loop-ends limit text found new rest left added none r = grind (arith, fronts-step limit rest)

-- bars stand behind it
bars-there : (limit : ℕ) (rest next : List ℕ) (p : Span VersionValue × List ℕ) → part_front limit rest ≡ Some p
    → after_bars p.1 ≡ Some next → HasBars rest
bars-there limit rest next p h k = grind (arith, nat_tests, behind-bars, bars-sound p.1 next k, part-sound limit rest p h)

pub loop-bars : (limit : ℕ) (text : List ℕ) (found new : List (Span VersionValue)) (rest left next : List ℕ)
    → behind (Some left) new ≡ passed found (part_front limit rest) → after_bars left ≡ Some next
    → Reaches limit text found rest → HasBars text
loop-bars limit text found new rest left next added bars r = grind (arith, nat_tests, bars-there)

pub loop-goes : (limit : ℕ) (text : List ℕ) (found new : List (Span VersionValue)) (rest left next : List ℕ)
    → behind (Some left) new ≡ passed found (part_front limit rest) → after_bars left ≡ Some next
    → Reaches limit text found rest → Reaches limit text new next
loop-goes limit text found new rest left next added bars r =
    grind (arith, append_assoc, fronts-step limit rest, loop-bars limit text found new rest left next added bars r)

pub loop-shorter : (limit : ℕ) (found new : List (Span VersionValue)) (rest left next : List ℕ)
    → behind (Some left) new ≡ passed found (part_front limit rest) → after_bars left ≡ Some next
    → length next < length rest
loop-shorter limit found new rest left next added bars = grind (arith, nat_tests, next-shorter)

-- what holds of the list of a common text holds of a list that it means
pub common_so : (P : List (Span VersionValue) → Type 0) (limit : ℕ) (text : List ℕ) (list : List (Span VersionValue))
    → IsCommonRange limit text list → IsSomeAnd (if_any list) P
    → (r : List (Span VersionValue)) × IsCommonRange limit text r × P r
common_so P limit text list is h = grind (arith, nat_tests, common_steps, list-some)

-- ---- a text at whose front parts stand

-- the parts take the bytes that do not follow them
taken-is : (text x rest : List ℕ) → text ≡ x ++ rest → take (length text - length rest) text ≡ x
taken-is text x rest h =
    let n : length text - length rest ≡ length x = omega (arith, ap length h, length-append x rest) in
    rw (n, h) (take-append_seam x rest)

pub front-taken : (limit : ℕ) (text : List ℕ) (list : List (Span VersionValue)) (rest : List ℕ) → common_fronts limit text ≡ Some (list, rest)
    → (length rest ≤ length text) × AreCommonParts limit (take (length text - length rest) text) list
front-taken limit text list rest h = grind (arith, front_is_read, length-append, taken-is)

-- the bytes of the parts: those of partials, spaces and bars
abbrev is_range_byte : ℕ → Bool
is_range_byte b = is_partial_byte b || (b == 32 || b == 124)

sign-bytes : (c : Comparator) (sign : List ℕ) → IsSign c sign → list_all is_range_byte sign ≡ true
sign-bytes c sign is = grind arith

comparison-bytes : (limit : ℕ) (x : List ℕ) (w : Word) → IsComparison limit x w → list_all is_range_byte x ≡ true
comparison-bytes limit x w (comparison c sign text p is h) =
    grind (arith, all_weaker, list_all-append, sign-bytes c sign is, components-bytes limit text p h)

word-bytes : (limit : ℕ) (x : List ℕ) (w : Word) → IsCommonWord limit x w → list_all is_range_byte x ≡ true
word-bytes limit x w h = grind (arith, all_weaker, list_all-append, components-bytes, comparison-bytes)

part-bytes : (limit : ℕ) (x : List ℕ) (s : Span VersionValue) → IsCommonPart limit x s → list_all is_range_byte x ≡ true
part-bytes limit x s h = grind (arith, list_all-append, word-bytes, comparison-bytes)

range-bytes : (limit : ℕ) (text : List ℕ) (list : List (Span VersionValue)) → AreCommonParts limit text list
    → list_all is_range_byte text ≡ true
range-bytes limit text list (one_part part s is) = part-bytes limit part s is
range-bytes limit text list (more_parts part before after rest s others is b a more) =
    grind (arith, list_all-append, part-bytes limit part s is, range-bytes limit rest others more)

plain-bytes : (text : List ℕ) → list_all is_range_byte text ≡ true → list_any (λ b. b == 59 || b == 10) text ≡ false
plain-bytes [] h = refl
plain-bytes (b ∷ text) h = grind (arith, nat_tests, plain-bytes text)

pub parts-plain : (limit : ℕ) (text : List ℕ) (list : List (Span VersionValue)) → AreCommonParts limit text list
    → list_any (λ b. b == 59 || b == 10) text ≡ false
parts-plain limit text list h = plain-bytes text (range-bytes limit text list h)

bytes-ascii : (text : List ℕ) → list_all is_range_byte text ≡ true → IsAscii text
bytes-ascii [] h = IsAscii-nil
bytes-ascii (b ∷ text) h = grind (arith, nat_tests, IsAscii-cons, bytes-ascii text)

pub parts-utf8 : (limit : ℕ) (text : List ℕ) (list : List (Span VersionValue)) → AreCommonParts limit text list → IsUtf8 text
parts-utf8 limit text list h = IsUtf8-from_ascii text (bytes-ascii text (range-bytes limit text list h))

-- a part with the end of a field behind it
pub part-taken : (limit : ℕ) (text : List ℕ) (s : Span VersionValue) (rest : List ℕ) → part_front limit text ≡ Some (s, rest)
    → (length rest ≤ length text) × AreCommonParts limit (take (length text - length rest) text) (s ∷ [])
    × (drop (length text - length rest) text ≡ rest)
part-taken limit text s rest h =
    let p = last-sound limit text s rest h in
    let long : length rest ≤ length text = omega (arith, ap length p.1, length-append p.0 rest) in
    let n : length text - length rest ≡ length p.0 = omega (arith, ap length p.1, length-append p.0 rest) in
    (long, rw (taken-is text p.0 rest p.1) p.2, ap (λ k. drop k text) n ∙ (ap (drop (length p.0)) p.1 ∙ drop-append_seam p.0 rest))
