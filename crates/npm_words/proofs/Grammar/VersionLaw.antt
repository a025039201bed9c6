-- Version texts of the strict reading: numbers without leading zeros, pre-releases, builds and whole texts. What is read is written, and what is
-- written is read.
use Rattle.npm_words.proofs.Common.{Bool, Id, IsIdentifiers, IsPieceAt, IsStrictBuild, IsStrictNumber, IsUtf8, IsWholeNumber, List, MAX_SAFE_INTEGER}
use Rattle.npm_words.proofs.Common.{None, Some, [], after_byte, and-false, and_from, and_parts, append-nil, arith, bare, begins, begins_byte}
use Rattle.npm_words.proofs.Common.{begins_identifier, begins_padded, begins_undashed, bind_some, build_front, cases_Bool, chars, chars_from_encodes}
use Rattle.npm_words.proofs.Common.{common_steps, dashed, decimal, digits_value, drop, empty_is, false, goes_on, has_leading_zero, if◌then◌else◌, inl}
use Rattle.npm_words.proofs.Common.{inr, is_ascii_digit, is_empty, is_identifier_char, length, list_all, list_len, listed, nat_tests, no_build}
use Rattle.npm_words.proofs.Common.{no_pre_release, not, number_front, number_with, plus, pre_front, pre_release_front, pre_release_with, refl, sym}
use Rattle.npm_words.proofs.Common.{take, take-append-drop, take_rest, true, ℕ, ◌&&◌, ◌++◌, ◌-◌, ◌<◌, ◌==◌, ◌>>?◌, ◌^◌, ◌||◌, ◌∷◌, ◌≡◌, ◌≤◌, ◌⊎◌}
use Rattle.{npm_words.specs.Grammar.{IsPreRelease, IsWritten, written}, semver_core.proofs.Reading.{Boundaries.byte-is, Bytes.is_solid}}
use Rattle.semver_core.proofs.Reading.{IdentifierLists.{front-identifiers, written-begins, written-exact, written-spelled}, Numbers.number-found}
use Rattle.semver_core.proofs.{Reading.{Numbers.number-read, Qualifiers.byte-begins}, Text.{Pieces.list_ended, Runs.{list_len_stop, numerals}}}
use Rattle.{semver_core.specs.Internal.Fronts.{Front, marked_list}, std.proofs.lemmas.Fmt.{decimal-digits_value, length-decimal-le}}
use Rattle.std.proofs.lemmas.Str.{encodes-chars, length-le-encodes}

-- ---- the number that the code finds

pub strict_is : (limit : ℕ) (text : List ℕ) → number_with false limit text ≡ (if begins_padded text then None else number_front limit text)
unfolding number_with
strict_is limit text = refl

-- ---- a number is written where one is read, and read where one is written

pub padded-same : (digits rest : List ℕ) → list_all is_ascii_digit digits ≡ true → begins is_ascii_digit rest ≡ false
    → begins_padded (digits ++ rest) ≡ has_leading_zero digits
padded-same digits rest h k = grind (arith, nat_tests, common_steps)

-- a text begins with a piece that is this, and goes on so
pub record At {A : Type 0} (Is : List ℕ → A → Type 0) (text : List ℕ) (a : A) (rest : List ℕ) : Type 0 where
  pub piece : List ℕ
  pub split : text ≡ piece ++ rest
  pub is : Is piece a

pub strict-found : (limit : ℕ) (text : List ℕ) (n : ℕ) (rest : List ℕ) → number_with false limit text ≡ Some (n, rest) → At (IsStrictNumber limit) text n rest
unfolding number_with
strict-found limit text n rest h =
    let k : number_front limit text ≡ Some (n, rest) = grind arith in
    let f = number-found limit text n rest k in grind (arith, nat_tests, common_steps, padded-same)

pub strict-read : (limit : ℕ) (digits rest : List ℕ) (n : ℕ) → IsStrictNumber limit digits n → begins is_ascii_digit rest ≡ false
    → number_with false limit (digits ++ rest) ≡ Some (n, rest)
unfolding number_with
strict-read limit digits rest n h stop = rw (padded-same digits rest h.0.each stop, h.1) (number-read limit digits rest n h.0 stop)

-- what is read behind a dot
pub dotted-found : {A : Type 0} (Is : List ℕ → A → Type 0) (read : List ℕ → Front A) (text : List ℕ) (a : A) (rest : List ℕ)
    → ((t : List ℕ) → read t ≡ Some (a, rest) → At Is t a rest) → (after_byte 46 text >>? read) ≡ Some (a, rest)
    → (x : List ℕ) × (text ≡ 46 ∷ (x ++ rest)) × Is x a
dotted-found Is read text a rest found h = grind (arith, nat_tests, common_steps, bind_some, byte-is)

-- ---- a number prints as it is written, and one up to the limit is short

pub digits_printed : (ds : List ℕ) → list_all is_ascii_digit ds ≡ true → 0 < length ds → has_leading_zero ds ≡ false → digits_value 10 ds < 2 ^ 64
    → decimal (digits_value 10 ds) ≡ ds
digits_printed ds each some h small = decimal-digits_value numerals ds each some (λ e. grind (arith, nat_tests, common_steps)) small

pub number_printed : (ds : List ℕ) (n : ℕ) → IsStrictNumber MAX_SAFE_INTEGER ds n → decimal n ≡ ds
number_printed ds n h = grind (arith, nat_tests, common_steps, digits_printed)

pub number-short : (digits : List ℕ) (n : ℕ) → IsStrictNumber MAX_SAFE_INTEGER digits n → length digits ≤ 20
number-short digits n h = rw (number_printed digits n h) at (length-decimal-le 20 n (omega arith) (omega arith) (omega (arith, h.0.safe)))

-- ---- what is read is written

-- identifiers behind a mark, or nothing of the text
mark-found : (c : ℕ) (text : List ℕ) (f : List ℕ × List ℕ) → f ≡ (if begins_byte c text then marked_list text (drop 1 text) else ([], text))
    → (f ≡ ([], text)) ⊎ ((text ≡ c ∷ (f.0 ++ f.1)) × IsIdentifiers f.0 (listed f.0))
mark-found c text f e = grind (arith, nat_tests, common_steps, front-identifiers, take-append-drop, byte-begins)

pub build-found : (text : List ℕ) → (piece : List ℕ) × (text ≡ piece ++ (build_front text).1) × IsStrictBuild piece (listed (build_front text).0)
    × (drop 1 piece ≡ (build_front text).0)
unfolding build_front listed
build-found text = elim (mark-found 43 text (build_front text) refl) [
  | inl none ↦ rw none ([], refl, no_build, refl)
  | inr some ↦ (43 ∷ (build_front text).0, some.0, plus _ _ some.1, refl)
]

-- ---- what is written is read, where nothing goes on behind it

-- nothing goes on in a list of identifiers, and none begins
abbrev pub Ends : List ℕ → Type 0
Ends rest = begins (λ b. is_identifier_char b || b == 46) rest ≡ false

pub build-ends : (b more : List ℕ) (l : List Id) → IsStrictBuild b l → begins is_solid more ≡ false → Ends (b ++ more)
build-ends b more l no_build e = grind (arith, nat_tests)
build-ends b more l (plus t list h) e = refl

pub ends-list : (rest : List ℕ) → Ends rest → list_len rest ≡ 0
ends-list rest e = list_len_stop rest (grind (arith, nat_tests))

pub build-taken : (b more : List ℕ) (l : List Id) → IsStrictBuild b l → begins is_solid more ≡ false
    → (build_front (b ++ more) ≡ (drop 1 b, more)) × (listed (drop 1 b) ≡ l)
unfolding build_front listed
build-taken b more l no_build e = (grind (arith, nat_tests, common_steps), refl)
build-taken b more l (plus t list h) e =
    (rw (written-begins t more list h) (written-exact t more list h (ends-list more (build-ends [] more [] no_build e))), written-spelled t list h)

-- ---- pre-releases, strict or loose

undashed-begins : (wild : Bool) (text : List ℕ) → begins_undashed wild text ≡ true → begins_identifier text ≡ true
undashed-begins wild text h = grind (arith, nat_tests)

pub letter-on : (wild : Bool) (text more : List ℕ) → begins_undashed wild text ≡ true → begins_identifier more ≡ false
    → begins_undashed wild (text ++ more) ≡ true
letter-on wild [] more h k = cc h
letter-on wild (c ∷ text) more h k = grind (arith, nat_tests, common_steps)

-- the letters that begin it stand in its list of identifiers
letter-off : (wild : Bool) (text more : List ℕ) → begins_undashed wild (text ++ more) ≡ true → goes_on more ≡ false → begins_undashed wild text ≡ true
letter-off wild text more h k = grind (arith, nat_tests)

-- a pre-release at the front of a text, of which this is read
abbrev pub PreFound : Bool → Bool → (List ℕ → Bool) → List ℕ → List ℕ → List ℕ → Type 0
PreFound loose wild fits text read rest = (piece : List ℕ) × (text ≡ piece ++ rest) × IsPreRelease loose wild fits piece (listed read)

pub dashed-found : (loose wild : Bool) (fits : List ℕ → Bool) (text : List ℕ) → fits (pre_release_with true text).0 ≡ true
    → PreFound loose wild fits text (pre_release_with true text).0 (pre_release_with true text).1
unfolding pre_release_with pre_release_front listed
dashed-found loose wild fits text h = elim (mark-found 45 text (pre_release_with true text) (grind (arith, common_steps))) [
  | inl none ↦ rw none ([], refl, no_pre_release)
  | inr some ↦ (45 ∷ (pre_release_with true text).0, some.0, dashed _ _ some.1 h)
]

pub pre-found : (loose wild : Bool) (fits : List ℕ → Bool) (text : List ℕ) → fits (pre_front loose wild text).0 ≡ true
    → PreFound loose wild fits text (pre_front loose wild text).0 (pre_front loose wild text).1
unfolding pre_front
pre-found loose wild fits text h = elim (cases_Bool (loose && begins_undashed wild text)) [
  | inr other ↦ rw other (dashed-found loose wild fits text (rw other at h))
  | inl letter ↦
      let is = and_parts loose (begins_undashed wild text) letter in
      let begins = undashed-begins wild text is.1 in
      let n = list_len text in
      let letters = letter-off wild (take n text) (drop n text) (rw take-append-drop is.1) (list_ended text) in
      rw (letter, begins) (
        take n text,
        sym (take-append-drop n text),
        bare (take n text) _ (front-identifiers text begins) (rw (letter, begins) at h) (and_from loose _ is.0 letters),
      )
]

-- what stands behind a third place: no digit and no dot, or loosely one digit before a dot
abbrev pub Follows : Bool → List ℕ → Type 0
Follows loose rest = (begins_byte 46 rest || begins is_ascii_digit rest && not (loose && begins_byte 46 (drop 1 rest))) ≡ false

pub pre-follows : (loose : Bool) (fits : List ℕ → Bool) (p behind : List ℕ) (l : List Id) → IsPreRelease loose false fits p l → Ends behind
    → Follows loose (p ++ behind)
pre-follows loose fits p behind l no_pre_release e = grind (arith, nat_tests)
pre-follows loose fits p behind l (dashed t list h s) e = refl
pre-follows loose fits p behind l (bare t list h s x) e = grind (arith, nat_tests, common_steps)

-- the text is the pre-release and this rest, and its identifiers fit
pub pre-taken : (loose wild : Bool) (fits : List ℕ → Bool) (p behind : List ℕ) (l : List Id) → fits [] ≡ true → IsPreRelease loose wild fits p l
    → Ends behind → (ids : List ℕ) × (pre_front loose wild (p ++ behind) ≡ (ids, behind)) × (listed ids ≡ l) × (fits ids ≡ true)
unfolding pre_front pre_release_with pre_release_front listed
pre-taken loose wild fits p behind l none no_pre_release e = ([], grind (arith, nat_tests, common_steps), refl, none)
pre-taken loose wild fits p behind l none (dashed t list h s) e =
    (t, rw (written-begins t behind list h, and-false loose) (written-exact t behind list h (ends-list behind e)), written-spelled t list h, s)
pre-taken loose wild fits p behind l none (bare t list h s x) e =
    let is = and_parts loose (begins_undashed wild t) x in
    let on = letter-on wild t behind is.1 (grind (arith, nat_tests)) in (
      t,
      rw (is.0, on, undashed-begins wild (t ++ behind) on) (written-exact t behind list h (ends-list behind e)),
      written-spelled t list h,
      s,
    )

-- ---- what is read is written

-- the text behind a mark and three numbers is a pre-release and a build
pub ended-found : (Marks : List ℕ → Type 0) (Number : List ℕ → ℕ → Type 0) (loose : Bool) (fits : List ℕ → Bool) (mark x y z text : List ℕ)
    (a b c : ℕ) (pre : List ℕ × List ℕ) → Marks mark → Number x a → Number y b → Number z c → PreFound loose false fits text pre.0 pre.1
    → is_empty (build_front pre.1).1 ≡ true → IsWritten Marks Number (IsPreRelease loose false fits) (mark ++ (x ++ 46 ∷ (y ++ 46 ∷ (z ++ text))))
    (record { major = a; minor = b; patch = c; pre_release = listed pre.0; build = listed (build_front pre.1).0 })
ended-found Marks Number loose fits mark x y z text a b c pre m i j k p whole =
    let q = build-found pre.1 in
    let split : text ≡ p.0 ++ q.0 = cc (p.1, q.1, empty_is (build_front pre.1).1 whole, append-nil q.0) in
    rw split (written mark x y z p.0 q.0 _ m i j k p.2 q.2)

-- ---- a text has no more characters than bytes, and as many as its iterator counts

pub characters-fit : (text : List ℕ) → IsUtf8 text → length (chars text) ≤ length text
characters-fit text h = rw (encodes-chars text h) at (length-le-encodes (chars text))

pub ruleset characters_counted = (characters-fit, chars_from_encodes)
