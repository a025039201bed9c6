-- Version texts, strict or loose: the function that reads them finds exactly what the statement has.
use Rattle.npm_words.proofs.Common.{AreMarks, Bool, IsClean, IsNumber, IsPieceAt, IsStrictBuild, IsStrictNumber, IsTrim, IsUtf8, IsVersionText}
use Rattle.npm_words.proofs.Common.{IsWholeNumber, List, MAX_LENGTH, NoPieceAt, NoValue, None, Some, VersionValue, [], after_byte, and_parts, ap}
use Rattle.npm_words.proofs.Common.{append-nil, arith, begins, begins_byte, bind_some, build_front, cases_Bool, chars, common_steps, cond_some, drop}
use Rattle.npm_words.proofs.Common.{drop_at, encode_utf8_all, false, inl, inr, is_ascii_digit, is_empty, is_mark, length, list_all, middle_is_trim}
use Rattle.npm_words.proofs.Common.{nat_tests, number_front, number_of, number_with, or_right, patch_front, pre_front, prefix_len, qualified_version}
use Rattle.npm_words.proofs.Common.{refl, same_Some, subst, sym, take, take-append-drop, take_at, take_rest, true, whole_version, ℕ, ◌&&◌, ◌++◌, ◌-◌}
use Rattle.npm_words.proofs.{Common.{◌<◌, ◌>>?◌, ◌∙◌, ◌∷◌, ◌≡◌, ◌≤◌, ◌⊎◌}, Grammar.{Hyphens.{ends-found, ends-read}, PartialLaw.patch-exact}}
use Rattle.npm_words.proofs.Grammar.{PartialLaw.prefix-of, VersionLaw.{At, Follows, build-ends, build-taken, ended-found, pre-follows, pre-found}}
use Rattle.npm_words.{proofs.Grammar.VersionLaw.{pre-taken, strict-found, strict-read}, specs.Grammar.{IsPreRelease, IsWritten, written}}
use Rattle.npm_words.specs.{Internal.Versions.{fits, patch_len, unmarked}, VersionText.IsVersionTextIn}
use Rattle.semver_core.proofs.Reading.{Boundaries.byte-is, Bytes.{component-solid, solid-dark}, Numbers.{digits-taken, front_none, front_some}}
use Rattle.semver_core.proofs.Reading.Numbers.{number-found, number-is, number-of, number-read}

-- ---- the patch number that the code finds

patch-digits : (text : List ℕ) → list_all is_ascii_digit (take (patch_len text) text) ≡ true
patch-digits text = prefix-of is_ascii_digit (patch_len text) text (grind (arith, nat_tests, common_steps))

-- a number at the front of digits alone is that of all of them
digits-front : (limit : ℕ) (text : List ℕ) → list_all is_ascii_digit text ≡ true
    → number_front limit text ≡ (number_of limit text >>? λ n. Some (n, []))
digits-front limit text each =
    let whole : prefix_len is_ascii_digit text ≡ length text = rw append-nil at (digits-taken text [] each refl) in
    grind (arith, nat_tests, common_steps)

pub patch_some : (limit : ℕ) (rest : List ℕ) (n end len : ℕ) → len ≡ patch_len rest
    → IsPieceAt (λ digits rest. IsWholeNumber limit digits rest n) (take len rest) 0 end
    → patch_front true limit rest ≡ Some (n, take (length rest - len) (drop len rest))
unfolding patch_front
patch_some limit rest n end len e s =
    let f = front_some limit (take len rest) n end s in grind (arith, common_steps, digits-front, patch-digits, take_rest)

pub patch_none : (limit : ℕ) (rest : List ℕ) (len : ℕ) → len ≡ patch_len rest
    → ((n : ℕ) → NoPieceAt (λ digits rest. IsWholeNumber limit digits rest n) (take len rest) 0) → patch_front true limit rest ≡ None
unfolding patch_front
patch_none limit rest len e stuck = let f = front_none limit (take len rest) stuck in grind (arith, common_steps, digits-front, patch-digits)

pub patch_strict : (limit : ℕ) (rest : List ℕ) → patch_front false limit rest ≡ number_with false limit rest
unfolding patch_front
patch_strict limit rest = refl

pub ruleset patches = (patch_none, patch_strict)

-- ---- marks and numbers by the flag

abbrev Marks : Bool → List ℕ → Type 0
Marks loose = elim loose [ false ↦ λ mark. (mark ≡ []) ⊎ (mark ≡ 118 ∷ []) | true ↦ AreMarks ]

abbrev Number : Bool → ℕ → List ℕ → ℕ → Type 0
Number loose limit = elim loose [ false ↦ IsStrictNumber limit | true ↦ IsNumber limit ]

-- the version that the statement has, strictly or loosely
abbrev Version : Bool → ℕ → List ℕ → VersionValue → Type 0
Version loose limit = IsWritten (Marks loose) (Number loose limit) (IsPreRelease loose false (fits loose))

digits-all : (loose : Bool) (limit : ℕ) (digits : List ℕ) (n : ℕ) → Number loose limit digits n → IsNumber limit digits n
digits-all false limit digits n h = h.0
digits-all true limit digits n h = h

-- ---- what is read is written

marks-found : (loose : Bool) (text : List ℕ) → IsUtf8 text → (mark : List ℕ) × (text ≡ mark ++ unmarked loose text) × Marks loose mark
marks-found true text u = let m = ends-found text u in (encode_utf8_all m.characters, m.split, (m.characters, refl, m.each))
marks-found false text u = elim (cases_Bool (begins_byte 118 text)) [
  | inl v ↦ (118 ∷ [], grind (arith, nat_tests), inr refl)
  | inr none ↦ ([], grind (arith, nat_tests), inl refl)
]

front-found : (loose : Bool) (limit : ℕ) (text : List ℕ) (n : ℕ) (rest : List ℕ) → number_with loose limit text ≡ Some (n, rest)
    → At (Number loose limit) text n rest
unfolding number_with
front-found false limit text n rest h = strict-found limit text n rest h
front-found true limit text n rest h = let f = number-found limit text n rest h in record { piece = f.run; split = f.split; is = f.is }

patch-found : (loose : Bool) (limit : ℕ) (text : List ℕ) (n : ℕ) (rest : List ℕ) → patch_front loose limit text ≡ Some (n, rest)
    → At (Number loose limit) text n rest
unfolding patch_front
patch-found false limit text n rest h = strict-found limit text n rest h
patch-found true limit text n rest h =
    let b = bind_some (number_of limit (take (patch_len text) text)) _ (n, rest) h in
    let is = number-is limit (take (patch_len text) text) b.0 b.1 in
    let same = same_Some _ _ b.2 in
    subst (λ (p : ℕ × List ℕ). At (IsNumber limit) text p.0 p.1) same
    (record { piece = take (patch_len text) text; split = sym (take-append-drop (patch_len text) text); is = is })

whole-found : (loose : Bool) (limit : ℕ) (text : List ℕ) (v : VersionValue) → IsUtf8 text → whole_version loose limit text ≡ Some v
    → Version loose limit text v
unfolding whole_version qualified_version
whole-found loose limit text v u h =
    let m = marks-found loose text u in
    let a = bind_some (number_with loose limit (unmarked loose text)) _ v h in
    let s = bind_some (after_byte 46 a.0.1) _ v a.2 in
    let b = bind_some (number_with loose limit s.0) _ v s.2 in
    let t = bind_some (after_byte 46 b.0.1) _ v b.2 in
    let c = bind_some (patch_front loose limit t.0) _ v t.2 in
    let x = front-found loose limit (unmarked loose text) a.0.0 a.0.1 a.1 in
    let y = front-found loose limit s.0 b.0.0 b.0.1 b.1 in
    let z = patch-found loose limit t.0 c.0.0 c.0.1 c.1 in
    let pre = pre_front loose false c.0.1 in
    let split : text ≡ m.0 ++ (x.piece ++ 46 ∷ (y.piece ++ 46 ∷ (z.piece ++ c.0.1))) =
    cc (m.1, x.split, byte-is 46 a.0.1 s.0 s.1, y.split, byte-is 46 b.0.1 t.0 t.1, z.split) in
    let d = cond_some (is_empty (build_front pre.1).1 && fits loose pre.0) _ v c.2 in
    let both = and_parts (is_empty (build_front pre.1).1) (fits loose pre.0) d.0 in
    rw split (subst (Version loose limit _) d.1 (ended-found _ _ loose (fits loose) m.0 x.piece y.piece z.piece c.0.1 _ _ _ pre m.2 x.is y.is z.is
    (pre-found loose false (fits loose) c.0.1 both.1) both.0))

-- ---- what is written is read

front-read : (loose : Bool) (limit : ℕ) (digits rest : List ℕ) (n : ℕ) → Number loose limit digits n → begins is_ascii_digit rest ≡ false
    → number_with loose limit (digits ++ rest) ≡ Some (n, rest)
unfolding number_with
front-read false limit = strict-read limit
front-read true limit = number-read limit

patch-read : (loose : Bool) (limit : ℕ) (digits rest : List ℕ) (n : ℕ) → Number loose limit digits n → Follows loose rest
    → patch_front loose limit (digits ++ rest) ≡ Some (n, rest)
unfolding patch_front
patch-read false limit digits rest n h follows = strict-read limit digits rest n h (grind (arith, nat_tests))
patch-read true limit digits rest n h follows =
    let is : IsNumber limit digits n = h in grind (arith, patch-exact true digits rest is.each follows, take_at, drop_at, number-of limit digits n is)

marks-read : (loose : Bool) (mark digits rest : List ℕ) → Marks loose mark → 0 < length digits → list_all is_ascii_digit digits ≡ true
    → unmarked loose (mark ++ (digits ++ rest)) ≡ digits ++ rest
marks-read loose mark [] rest m some each = absurd (omega (arith, some))
marks-read loose mark (c ∷ digits) rest m some each = grind (arith, nat_tests, common_steps, and_parts, ends-read, solid-dark, component-solid, or_right)

qualified-read : (loose : Bool) (p b : List ℕ) (v : VersionValue) → IsPreRelease loose false (fits loose) p v.pre_release → IsStrictBuild b v.build
    → qualified_version loose v.major v.minor v.patch (p ++ b) ≡ Some v
unfolding qualified_version
qualified-read loose p b v h k =
    grind (arith, nat_tests, common_steps, append-nil, build-ends b [] v.build k, build-taken b [] v.build k, pre-taken)

whole-read : (loose : Bool) (limit : ℕ) (text : List ℕ) (v : VersionValue) → Version loose limit text v → whole_version loose limit text ≡ Some v
unfolding whole_version
whole-read loose limit text v (written mark x y z pre build w m i j k p q) =
    let last = pre ++ build in
    let follows = pre-follows loose (fits loose) pre build w.pre_release p (rw append-nil at (build-ends build [] w.build q refl)) in
    let d = digits-all loose limit x w.major i in
    grind (arith, marks-read, front-read, patch-read, qualified-read, d.some, d.each, follows)

-- ---- whole texts

pub text_read : (loose : Bool) (limit : ℕ) (text middle : List ℕ) (v : VersionValue) → length (chars text) ≤ MAX_LENGTH → IsTrim text middle
    → IsUtf8 middle → whole_version loose limit middle ≡ Some v → IsVersionTextIn loose limit text v
text_read false limit text middle v short trimmed u e = (short, middle, trimmed, whole-found false limit middle v u e)
text_read true limit text middle v short trimmed u e = (short, middle, trimmed, whole-found true limit middle v u e)

-- a version text is read, without the whitespace around it
pub text-is : (loose : Bool) (limit : ℕ) (text middle : List ℕ) (v : VersionValue) → IsTrim text middle → IsVersionTextIn loose limit text v
    → whole_version loose limit middle ≡ Some v
text-is false limit text middle v trimmed w =
    let same = middle_is_trim text middle trimmed ∙ sym (middle_is_trim text w.1 w.2) in rw same (whole-read false limit w.1 v w.3)
text-is true limit text middle v trimmed w =
    let same = middle_is_trim text middle trimmed ∙ sym (middle_is_trim text w.1 w.2) in rw same (whole-read true limit w.1 v w.3)

pub text_rejected : (loose : Bool) (limit : ℕ) (text middle : List ℕ) → IsTrim text middle → whole_version loose limit middle ≡ None
    → NoValue (IsVersionTextIn loose limit text)
text_rejected loose limit text middle trimmed h = λ v w. cc (text-is loose limit text middle v trimmed w, h)

pub version_once : (limit : ℕ) (text : List ℕ) (v w : VersionValue) → IsVersionText limit text v → IsVersionText limit text w → v ≡ w
version_once limit text v w h k = same_Some v w (sym (text-is false limit text h.1 v h.2 h) ∙ text-is false limit text h.1 w h.2 k)

-- a text is no clean version, if what is left of it without whitespace and marks is no version
pub clean_refused : (limit : ℕ) (text middle rest : List ℕ) → IsTrim text middle → rest ≡ drop (prefix_len is_mark middle) middle
    → NoValue (IsVersionText limit rest) → NoValue (IsClean limit text)
clean_refused limit text middle rest trimmed e none = λ v w.
    let same : w.0 ≡ middle = middle_is_trim text w.0 w.1 ∙ sym (middle_is_trim text middle trimmed) in
    none v (subst (λ (t : List ℕ). IsVersionText limit t v) (ap (λ (m : List ℕ). drop (prefix_len is_mark m) m) same ∙ sym e) w.2)
