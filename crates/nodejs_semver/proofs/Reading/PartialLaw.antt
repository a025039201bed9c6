-- The partial that is read at the front of a text is the longest one that is written there.
use Rattle.nodejs_semver.proofs.Common.{AreComponents, Bool, Front, Id, IsBuild, IsIdentifiers, IsNumber, IsPreRelease, IsUtf8, List, None, Option}
use Rattle.nodejs_semver.proofs.Common.{Partial, Sign, Some, Word, [], all_weaker, ap, append-nil, append_assoc, arith, begins, bind_some, cases_Bool}
use Rattle.nodejs_semver.proofs.Common.{common_steps, component_front, cond_some, drop, drop_at, drop_spaces, drop_spaces-blank, drop_spaces-none}
use Rattle.nodejs_semver.proofs.Common.{encode_utf8_all, eqb-true, false, from_boundary, inl, inr, is_ascii_digit, is_boundary, is_whitespace, length}
use Rattle.nodejs_semver.proofs.Common.{length-append, list_all, nat_lt, nat_tests, not, partial_front, pieces, refl, same_Some, sign_at, space_len}
use Rattle.nodejs_semver.proofs.Common.{suc, sym, take_at, tilde_sign, true, upper_of, word_at, words, words_within, zero, ℕ, ◌&&◌, ◌++◌, ◌<◌, ◌==◌}
use Rattle.nodejs_semver.{proofs.Common.{◌↔◌, ◌∙◌, ◌∷◌, ◌≡◌, ◌≤◌, ◌⊎◌}, specs.Internal.{Fronts.{minor_front, patch_front}, Words.behind_sign}}
use Rattle.nodejs_semver.specs.{Internal.Words.{unsigned, word_behind}, Text.{LongestText.{BeginsPartial, IsLongestPartial}, PartialText.IsComponent}}
use Rattle.{nodejs_semver.specs.Text.PartialText.{IsPartial, number, one, three, two, wildcard}, semver_core.proofs.Reading.Boundaries.boundary-le}
use Rattle.semver_core.proofs.Reading.{Boundaries.{front-dark, no-boundary, spaced, spaces-gone, spaces-le, tail-utf8}, Bytes.{Quiet, Stop, all-end}}
use Rattle.semver_core.proofs.Reading.Bytes.{all-join, begins-on, begins-some, begins_component, is_component_byte, is_solid, quiet-append}
use Rattle.semver_core.proofs.Reading.Bytes.{quiet-before, quiet-behind, quiet-both, quiet-dotted, quiet-front, quiet-further, quiet-last, stop-nil}
use Rattle.semver_core.proofs.Reading.{Numbers.{number-found, number-read, number_first, wildcard-no_digit}, Qualifiers.{build-read, build_front-le}}
use Rattle.semver_core.proofs.{Reading.Qualifiers.{pre-read, pre_release_front-le, qualifier-passed}, Text.Pieces.{first_char, runs_tail, tail_onto}}
use Rattle.semver_core.{proofs.Text.{Pieces.tail_runs, SpaceLaw.space_len-white}, specs.Internal.{Boundaries.after_some_space, Fronts.after_byte}}
use Rattle.semver_core.specs.Internal.Fronts.{begins_wildcard, build_front, dotted_front, drop_v, number_front, pre_release_front}

-- ---- one component

component-some : (limit : ℕ) (c : List ℕ) (v : Option ℕ) → IsComponent limit c v → 0 < length c
component-some limit c v h = grind arith

pub components-begin : (limit : ℕ) (x : List ℕ) (p : Partial) → AreComponents limit x p → begins_component x ≡ true
components-begin limit x p h = grind (arith, begins-on)

component-then : (limit : ℕ) (c more : List ℕ) (v : Option ℕ) → IsComponent limit c v → Quiet c more
    → component_front limit (c ++ more) ≡ Some (v, more)
unfolding component_front
component-then limit c more v (wildcard b h) quiet = rw h refl
component-then limit c more v (number digits n h) quiet =
    let stop : begins is_ascii_digit more ≡ false = rw (all-end is_ascii_digit digits h.some h.each) at quiet in
    number_first limit (digits ++ more) more n (number-read limit digits more n h stop)

dotted-then : (limit : ℕ) (c more : List ℕ) (v : Option ℕ) → IsComponent limit c v → Quiet c more
    → dotted_front limit (46 ∷ (c ++ more)) ≡ Some (v, more)
unfolding dotted_front
dotted-then limit c more v h quiet = component-then limit c more v h quiet

record Component (limit : ℕ) (x c r : List ℕ) (v : Option ℕ) : Type 0 where
  pub split : x ≡ c ++ r
  pub is : IsComponent limit c v
  pub quiet : Quiet c r

component-read : (limit : ℕ) (x : List ℕ) (a : Option ℕ × List ℕ) → component_front limit x ≡ Some a
    → (c : List ℕ) × Component limit x c a.1 a.0
unfolding component_front
component-read limit x a h = elim (cases_Bool (begins_wildcard x)) [
  | inl wild ↦ wild_case x wild (rw wild at h)
  | inr other ↦
      let n = bind_some (number_front limit x) (λ n. Some (Some n.0, n.1)) a (rw other at h) in
      let f = number-found limit x n.0.0 n.0.1 n.1 in
      let quiet = quiet-before f.run n.0.1 f.ended in
      rw (← same_Some _ _ n.2) (f.run, record { split = f.split; is = number f.run n.0.0 f.is; quiet = quiet })
]
  where
    wild_case : (x : List ℕ) → begins_wildcard x ≡ true → ◌≡◌ {A = Front (Option ℕ)} (Some (None, drop 1 x)) (Some a)
        → (c : List ℕ) × Component limit x c a.1 a.0
    wild_case [] w k = cc w
    wild_case (b ∷ y) w k =
        rw (← same_Some _ _ k) (b ∷ [], record { split = refl; is = wildcard b w; quiet = rw (wildcard-no_digit b w) refl })

dotted-read : (limit : ℕ) (x : List ℕ) (v : Option ℕ) (r : List ℕ) → dotted_front limit x ≡ Some (v, r) → (c : List ℕ)
    × (x ≡ 46 ∷ (c ++ r)) × Component limit (c ++ r) c r v
unfolding dotted_front
dotted-read limit x v r h = grind (arith, component-read)

-- ---- what is read is written

pub record Read (limit : ℕ) (x s left : List ℕ) (p : Partial) : Type 0 where
  pub split : x ≡ s ++ left
  pub is : AreComponents limit s p
  pub quiet : Quiet s left

patch-read : (limit : ℕ) (a b : Option ℕ) (x c d y : List ℕ) (o : Front (Option ℕ)) → dotted_front limit y ≡ o
    → x ≡ c ++ (46 ∷ (d ++ y)) → IsComponent limit c a
    → IsComponent limit d b → Quiet d y → (s : List ℕ) × Read limit x s (patch_front a b y o).1 (patch_front a b y o).0
patch-read limit a b x c d y None e whole h k quiet =
    let split = rw (← append_assoc c (46 ∷ d) y) at whole in
    (c ++ (46 ∷ d), record { split = split; is = two c d a b h k; quiet = quiet-dotted c d y (component-some limit d b k) quiet })
patch-read limit a b x c d y (Some o) e whole h k quiet =
    let t = dotted-read limit y o.0 o.1 e in
    let pre = pre-read o.1 in
    let build = build-read (pre_release_front o.1).1 in
    let left = (build_front (pre_release_front o.1).1).1 in
    let q = pre.0 ++ build.0 in
    let tail = t.0 ++ q in
    let third : Quiet t.0 (q ++ left) = rw (append_assoc, ← build.1.split, ← pre.1.split) t.2.quiet in
    let behind : Quiet q left = quiet-both pre.0 build.0 left (rw build.1.split at pre.1.stop) build.1.stop in
    let some : 0 < length tail = grind (arith, component-some limit t.0 o.0 t.2.is, length-append t.0 q) in (
      c ++ (46 ∷ (d ++ (46 ∷ tail))),
      record {
        split = simp append_assoc (cc (whole, t.1, pre.1.split, build.1.split));
        is = three c d t.0 pre.0 build.0 (patch_front a b y (Some o)).0 h k t.2.is (quiet-front t.0 q left third)
            (pre.1.is build.0 build.1.goes build.1.pre) build.1.is;
        quiet = quiet-dotted c (d ++ (46 ∷ tail)) left (omega (arith, length-append d (46 ∷ tail)))
            (quiet-dotted d tail left some (quiet-both t.0 q left third behind));
      },
    )

minor-read : (limit : ℕ) (a : Option ℕ) (x c y : List ℕ) (o : Front (Option ℕ)) → dotted_front limit y ≡ o
    → Component limit x c y a → (s : List ℕ) × Read limit x s (minor_front limit a y o).1 (minor_front limit a y o).0
minor-read limit a x c y None e m = (c, record { split = m.split; is = one c a m.is; quiet = m.quiet })
minor-read limit a x c y (Some o) e m =
    let t = dotted-read limit y o.0 o.1 e in
    patch-read limit a o.0 x c t.0 o.1 (dotted_front limit o.1) refl
    (m.split ∙ ap (λ (u : List ℕ). c ++ u) t.1) m.is t.2.is t.2.quiet

pub components-read : (limit : ℕ) (x : List ℕ) (a : Option ℕ × List ℕ) → component_front limit x ≡ Some a
    → (s : List ℕ) × Read limit x s (minor_front limit a.0 a.1 (dotted_front limit a.1)).1
    (minor_front limit a.0 a.1 (dotted_front limit a.1)).0
components-read limit x a h =
    let c = component-read limit x a h in
    minor-read limit a.0 x c.0 a.1 (dotted_front limit a.1) refl c.1

-- ---- what is written is read: no more is left, and just that where nothing goes on there

dotted_front-le : (limit : ℕ) (x : List ℕ) (v : Option ℕ) (r : List ℕ) → dotted_front limit x ≡ Some (v, r) → length r ≤ length x
dotted_front-le limit x v r h = let c = dotted-read limit x v r h in omega (arith, ap length c.1, length-append c.0 r)

patch_front-le : (limit : ℕ) (a b : Option ℕ) (x : List ℕ) (o : Front (Option ℕ)) → dotted_front limit x ≡ o
    → length (patch_front a b x o).1 ≤ length x
patch_front-le limit a b x None h = omega arith
patch_front-le limit a b x (Some c) h =
    omega (arith, dotted_front-le limit x c.0 c.1 h, pre_release_front-le c.1, build_front-le (pre_release_front c.1).1)

pub minor_front-le : (limit : ℕ) (a : Option ℕ) (x : List ℕ) (o : Front (Option ℕ)) → dotted_front limit x ≡ o
    → length (minor_front limit a x o).1 ≤ length x
minor_front-le limit a x None h = omega arith
minor_front-le limit a x (Some b) h =
    omega (arith, dotted_front-le limit x b.0 b.1 h, patch_front-le limit a b.0 b.1 (dotted_front limit b.1) refl)

pub record Passes (r : Partial × List ℕ) (p : Partial) (more : List ℕ) : Type 0 where
  pub le : length r.1 ≤ length more
  pub exact : Stop more → r ≡ (p, more)

pub components-then : (limit : ℕ) (x more : List ℕ) (p : Partial) → AreComponents limit x p → Quiet x more
    → (a : Option ℕ × List ℕ) × (component_front limit (x ++ more) ≡ Some a)
    × Passes (minor_front limit a.0 a.1 (dotted_front limit a.1)) p more
components-then limit x more p (one c a h) quiet =
    grind (arith, nat_tests, component-then limit c more a h quiet, minor_front-le limit a more (dotted_front limit more) refl)
components-then limit x more p (two c d a b h k) quiet =
    let last = quiet-behind c d more (component-some limit d b k) quiet in (
      (a, 46 ∷ (d ++ more)),
      rw (append_assoc c (46 ∷ d) more) (component-then limit c (46 ∷ (d ++ more)) a h (quiet-before c (46 ∷ (d ++ more)) refl)),
      rw (dotted-then limit d more b k last)
          (record {
            le = patch_front-le limit a b more (dotted_front limit more) refl;
            exact =
                λ stop. rw (stop.dot limit) refl;
          }),
    )
components-then limit x more p (three c d e pre build q h k l quiet_e m n) quiet =
    let tail = e ++ (pre ++ build) in
    let some : 0 < length tail = let one = component-some limit e q.patch l in omega (arith, length-append e (pre ++ build)) in
    let second : dotted_front limit (46 ∷ ((d ++ (46 ∷ tail)) ++ more)) ≡ Some (q.minor, 46 ∷ (tail ++ more)) =
    rw (append_assoc d (46 ∷ tail) more)
    (dotted-then limit d (46 ∷ (tail ++ more)) q.minor k (quiet-before d (46 ∷ (tail ++ more)) refl)) in
    let first : component_front limit ((c ++ (46 ∷ (d ++ (46 ∷ tail)))) ++ more)
    ≡ Some (q.major, 46 ∷ ((d ++ (46 ∷ tail)) ++ more)) =
    rw (append_assoc c (46 ∷ (d ++ (46 ∷ tail))) more)
    (component-then limit c (46 ∷ ((d ++ (46 ∷ tail)) ++ more)) q.major h
    (quiet-before c (46 ∷ ((d ++ (46 ∷ tail)) ++ more)) refl)) in
    let passed = qualifier-passed pre build more q.pre_release q.build m n in
    grind (arith, length-append, quiet-behind, append_assoc, dotted-then, quiet-further)

-- ---- the bytes of a partial

-- a visible character of ASCII other than the bar and the `;`
abbrev pub is_partial_byte : ℕ → Bool
is_partial_byte b = is_solid b && not (b == 59)

identifiers-bytes : (text : List ℕ) → tail_runs (pieces text) ≡ true → list_all is_partial_byte text ≡ true
identifiers-bytes [] h = refl
identifiers-bytes (b ∷ rest) h = grind (arith, nat_tests, common_steps, runs_tail, first_char, tail_onto, identifiers-bytes rest)

list-bytes : (text : List ℕ) (l : List Id) → IsIdentifiers text l → list_all is_partial_byte text ≡ true
list-bytes text l h = identifiers-bytes text (runs_tail (pieces text) h.runs)

number-bytes : (limit : ℕ) (x : List ℕ) (v : Option ℕ) → IsComponent limit x v → list_all is_partial_byte x ≡ true
number-bytes limit x v h = grind (arith, all_weaker)

pre-bytes : (p rest : List ℕ) (l : List Id) → IsPreRelease p rest l → list_all is_partial_byte p ≡ true
pre-bytes p rest l h = grind (arith, list-bytes)

build-bytes : (b rest : List ℕ) (l : List Id) → IsBuild b rest l → list_all is_partial_byte b ≡ true
build-bytes b rest l h = grind (arith, list-bytes)

pub components-bytes : (limit : ℕ) (x : List ℕ) (p : Partial) → AreComponents limit x p → list_all is_partial_byte x ≡ true
components-bytes limit x p h = grind (arith, number-bytes, all-join, pre-bytes, build-bytes)

pub digits-solid : (limit : ℕ) (d : List ℕ) (n : ℕ) → IsNumber limit d n → list_all is_solid d ≡ true
digits-solid limit d n h = grind (arith, all_weaker)

pub pre-solid : (p rest : List ℕ) (l : List Id) → IsPreRelease p rest l → list_all is_solid p ≡ true
pre-solid p rest l h = grind (arith, all_weaker, pre-bytes)

pub build-solid : (b rest : List ℕ) (l : List Id) → IsBuild b rest l → list_all is_solid b ≡ true
build-solid b rest l h = grind (arith, all_weaker, build-bytes)

-- ---- each word takes a byte or more, so the list of words is a recursion

pub front-read : (limit : ℕ) (text : List ℕ) (p : Partial) (rest : List ℕ) → partial_front limit text ≡ Some (p, rest)
    → (s : List ℕ) × Read limit (drop_spaces (drop_v text)) s rest p
unfolding partial_front
front-read limit text p rest h = grind (arith, components-read)

partial-shorter : (limit : ℕ) (text : List ℕ) (r : Partial × List ℕ) → partial_front limit text ≡ Some r
    → length r.1 < length text
partial-shorter limit text r h =
    let s = front-read limit text r.0 r.1 h in
    let some = begins-some is_component_byte s.0 (components-begin limit s.0 r.0 s.1.is) in
    let mark : length (drop_v text) ≤ length text = grind arith in
    omega (arith, some, mark, spaces-le (drop_v text), ap length s.1.split, length-append s.0 r.1)

some-space-le : (text r : List ℕ) → after_some_space text ≡ Some r → length r ≤ length text
some-space-le text r h = omega (arith, ap length (cond_some (nat_lt 0 (space_len text)) (drop_spaces text) r h).1, spaces-le text)

byte-le : (c : ℕ) (text r : List ℕ) → after_byte c text ≡ Some r → length r ≤ length text
byte-le c text r h = grind arith

upper-le : (limit : ℕ) (s : Sign) (text : List ℕ) (q : Partial × List ℕ) → upper_of limit s text ≡ Some q
    → length q.1 ≤ length text
upper-le limit unsigned text q h =
    let sign = bind_some (after_some_space text) _ q h in
    let gap = bind_some (after_byte 45 sign.0) _ q sign.2 in
    let second = bind_some (after_some_space gap.0) _ q gap.2 in
    let read = bind_some (partial_front limit second.0) _ q second.2 in
    let same : read.0 ≡ q = (cond_some (is_boundary read.0.1) read.0 q read.2).1 in
    let less = partial-shorter limit second.0 read.0 read.1 in
    let len = ap (λ (x : Partial × List ℕ). length x.1) same in
    omega (arith, some-space-le text sign.0 sign.1, byte-le 45 sign.0 gap.0 gap.1, some-space-le gap.0 second.0 second.1, less, len)
upper-le limit s text q h = cc h

word_behind-le : (limit : ℕ) (s : Sign) (p : Partial) (rest : List ℕ) (x : Word) (r : List ℕ)
    → word_behind limit s p rest ≡ Some (x, r) → length r ≤ length rest
word_behind-le limit s p rest x r h = grind (arith, upper-le)

sign-le : (rest : List ℕ) → length (tilde_sign rest).1 ≤ length rest
sign-le rest = grind arith

sign_at-le : (text : List ℕ) → length (sign_at text).1 ≤ length text
sign_at-le text = grind (arith, spaces-le, sign-le)

form-shorter : (limit : ℕ) (text : List ℕ) (x : Word) (r : List ℕ) → behind_sign limit (sign_at text) ≡ Some (x, r)
    → length r < length text
form-shorter limit text x r h =
    grind (arith, bind_some, sign_at-le text, partial-shorter, word_behind-le)

-- a word that begins with no whitespace takes a byte or more
pub word-shorter : (limit b : ℕ) (rest : List ℕ) → space_len (b ∷ rest) ≡ 0 → length (word_at limit (b ∷ rest)).1 < length (b ∷ rest)
unfolding word_at from_boundary
word-shorter limit b rest h = go (behind_sign limit (sign_at (b ∷ rest))) refl
  where
    go : (o : Front Word) → behind_sign limit (sign_at (b ∷ rest)) ≡ o → length (word_at limit (b ∷ rest)).1 < length (b ∷ rest)
    go (Some x) e = rw e (form-shorter limit (b ∷ rest) x.0 x.1 e)
    go None e = rw (e, from_boundary, no-boundary b rest h) (omega (arith, boundary-le rest))

-- how many words are allowed for does not matter, where there is room for each byte
pub words-enough : (limit n m : ℕ) (text : List ℕ) → space_len text ≡ 0 → length text ≤ n → length text ≤ m → words_within limit n text ≡ words_within limit m text
unfolding words_within
words-enough limit zero zero text h a b = refl
words-enough limit zero (suc m) (c ∷ text) h a b = absurd (omega arith)
words-enough limit (suc n) zero (c ∷ text) h a b = absurd (omega arith)
words-enough limit (suc n) (suc m) (c ∷ text) h a b =
    grind (arith, word-shorter, spaces-le, spaces-gone, words-enough limit n m (drop_spaces (word_at limit (c ∷ text)).1))
words-enough limit n m text h a b = refl

-- the words of a text are the word at its front, and the words of what follows it
pub words-step : (limit : ℕ) (text : List ℕ) → 0 < length text → space_len text ≡ 0
    → words limit text ≡ (word_at limit text).0 ∷ words limit (drop_spaces (word_at limit text).1)
unfolding words_within
words-step limit text h k = grind (arith, word-shorter, spaces-le, words-enough, spaces-gone)

-- ---- a text that begins with a component has neither `v` nor whitespace in front

front-kept : (text : List ℕ) → begins_component text ≡ true → drop_spaces (drop_v text) ≡ text
front-kept text h = grind (arith, drop_spaces-none, front-dark)

-- ---- the mark and the whitespace

-- a text that begins with whitespace or a component has no mark
unmarked-blank : (text : List ℕ) → 0 < space_len text → drop_v text ≡ text
unfolding space_len
unmarked-blank text h = grind (arith, nat_tests)

unmarked : (cs text : List ℕ) → list_all is_whitespace cs ≡ true → begins_component text ≡ true → drop_v (encode_utf8_all cs ++ text) ≡ encode_utf8_all cs ++ text
unmarked [] [] each h = refl
unmarked [] (b ∷ rest) each h = grind (arith, nat_tests)
unmarked (c ∷ cs) text each h = grind (arith, space_len-white, append_assoc, unmarked-blank)

-- the mark, and the text behind it, which is UTF-8 again
record Marked (text left : List ℕ) : Type 0 where
  mark : List ℕ
  is : (mark ≡ []) ⊎ (mark ≡ 118 ∷ [])
  divided : text ≡ mark ++ left
  behind : IsUtf8 left

marked : (text : List ℕ) → IsUtf8 text → Marked text (drop_v text)
marked [] u = record { mark = []; is = inl refl; divided = refl; behind = u }
marked (b ∷ rest) u = elim (cases_Bool (b == 118)) [
  | inl v ↦
      let is = eqb-true b 118 v in
      rw (v, is) (record { mark = 118 ∷ []; is = inr refl; divided = refl; behind = tail-utf8 118 rest (omega arith) (rw is at u) })
  | inr other ↦ rw other (record { mark = []; is = inl refl; divided = refl; behind = u })
]

-- ---- what is read is written, and what is written is read

front-begins : (limit : ℕ) (text : List ℕ) (p : Partial) (rest : List ℕ) → IsUtf8 text → partial_front limit text ≡ Some (p, rest)
    → (front : List ℕ) × BeginsPartial limit text front p rest
front-begins limit text p rest u h =
    let m = marked text u in
    let b = spaced (drop_v text) m.behind in
    let s = front-read limit text p rest h in
    let some = begins-some is_component_byte s.0 (components-begin limit s.0 p s.1.is) in
    let x = b.0 ++ s.0 in (
      m.mark ++ x,
      (
        simp append_assoc (cc (m.divided, b.2, s.1.split)),
        (m.mark, b.0, s.0, refl, m.is, b.1, s.1.is),
        quiet-append m.mark x rest (omega (arith, length-append b.0 s.0)) (quiet-append b.0 s.0 rest some s.1.quiet),
      ),
    )

front-passes : (limit : ℕ) (t more : List ℕ) (p : Partial) → IsPartial limit t p → Quiet t more
    → (r : Partial × List ℕ) × (partial_front limit (t ++ more) ≡ Some r) × Passes r p more
unfolding partial_front
front-passes limit t more p (mark, blank, x, divided, mark_is, blank_is, are) quiet =
    grind (arith, nat_tests, common_steps, components-begin, append_assoc, quiet-last, begins-some, components-then, unmarked, drop_spaces-blank, drop_spaces-none, front-dark)

-- components alone are read exactly where nothing goes on
pub front-exact : (limit : ℕ) (x more : List ℕ) (p : Partial) → AreComponents limit x p → Stop more
    → partial_front limit (x ++ more) ≡ Some (p, more)
unfolding partial_front
front-exact limit x more p h stop =
    let begins = begins-on is_component_byte x more (components-begin limit x p h) in
    let a = components-then limit x more p h (quiet-before x more stop.digit) in
    rw (front-kept (x ++ more) begins, a.1) (ap Some (a.2.exact stop))

whole-of : (limit : ℕ) (t : List ℕ) (p : Partial) → IsPartial limit t p → partial_front limit t ≡ Some (p, [])
whole-of limit t p h =
    grind (arith, nat_tests, quiet-before t [] refl, front-passes limit t [] p h (quiet-before t [] refl), append-nil, stop-nil)

pub partials_are : (limit : ℕ) (text : List ℕ) (p : Partial) → IsUtf8 text → (partial_front limit text ≡ Some (p, []))
    ↔ IsPartial limit text p
partials_are limit text p u = grind (arith, nat_tests, front-begins, append-nil, whole-of limit text p)

-- ---- the longest partial

longest-is : (limit : ℕ) (text : List ℕ) (p : Partial) (rest : List ℕ) → IsUtf8 text → partial_front limit text ≡ Some (p, rest)
    → IsLongestPartial limit text p rest
longest-is limit text p rest u h = let f = front-begins limit text p rest u h in
    (f.0, f.1, no_longer f.0 f.1.0)
  where
    no_longer : (front : List ℕ) → text ≡ front ++ rest → (other behind : List ℕ) (q : Partial)
        → BeginsPartial limit text other q behind
        → length other ≤ length front
    no_longer front whole other behind q k =
        let far = front-passes limit other behind q k.1 k.2 in
        let same = same_Some (p, rest) far.0 (sym h ∙ (ap (λ (t : List ℕ). partial_front limit t) k.0 ∙ far.1)) in
        grind (arith, far.2.le, same, length-append front rest, length-append other behind, whole, k.0)

longest-of : (limit : ℕ) (text : List ℕ) (p : Partial) (rest : List ℕ) → IsUtf8 text → IsLongestPartial limit text p rest
    → partial_front limit text ≡ Some (p, rest)
longest-of limit text p rest u h =
    let far = front-passes limit h.0 rest p h.1.1 h.1.2 in
    let read : partial_front limit text ≡ Some far.0 = ap (λ (t : List ℕ). partial_front limit t) h.1.0 ∙ far.1 in
    let near = front-begins limit text far.0.0 far.0.1 u read in
    let n = length h.0 in
    let same : length near.0 ≡ n =
    omega (arith, h.2 near.0 far.0.1 far.0.0 near.1, far.2.le, ap length h.1.0, ap length near.1.0, length-append {A = ℕ}) in
    let whole : near.0 ++ far.0.1 ≡ h.0 ++ rest = sym near.1.0 ∙ h.1.0 in
    let front : near.0 ≡ h.0 = cc (whole, take_at near.0 far.0.1 n same, take_at h.0 rest n refl) in
    let behind : far.0.1 ≡ rest = cc (whole, drop_at near.0 far.0.1 n same, drop_at h.0 rest n refl) in
    grind (arith, whole-of limit near.0 far.0.0 near.1.1, whole-of limit h.0 p h.1.1)

pub longest_are : (limit : ℕ) (text : List ℕ) (p : Partial) (rest : List ℕ) → IsUtf8 text
    → (partial_front limit text ≡ Some (p, rest)) ↔ IsLongestPartial limit text p rest
longest_are limit text p rest u = (longest-is limit text p rest u, longest-of limit text p rest u)
