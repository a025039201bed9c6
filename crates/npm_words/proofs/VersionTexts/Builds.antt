-- The build of a version text, as it is written: what stands behind the first `+`, since none stands in front of the build.
use Rattle.npm_words.proofs.Common.{AreMarks, Bool, Id, IsIdentifiers, IsNumber, IsStrictBuild, IsStrictVersion, IsTrim, List, VersionValue, []}
use Rattle.npm_words.proofs.Common.{all_weaker, arith, common_steps, false, is_ascii_digit, is_identifier, is_identifier_char, join_with_byte}
use Rattle.npm_words.proofs.Common.{list_all, listed, middle_is_trim, nat_tests, not, pieces, refl, subst, sym, true, ℕ, ◌++◌, ◌==◌, ◌∙◌, ◌∷◌, ◌≡◌}
use Rattle.npm_words.{proofs.Grammar.{Runs.encoded-all, VersionLaw.build-taken}, specs.{Builds.IsBuildText, Grammar.{IsPreRelease, IsWritten}}}
use Rattle.{npm_words.specs.{Grammar.written, VersionText.{IsLooseVersion, IsVersionTextIn, IsWhole}}, semver_core.proofs.Reading.Bytes.all-join}
use Rattle.semver_core.{proofs.Text.Ends.{is_spelled, nothing_listed}, specs.Text.Identifiers.is_listed}
use Rattle.std.{proofs.lemmas.List.Splits.join_with_byte-slice_split, specs.List.after_first}

-- ---- no `+` stands in front of a build

abbrev is_other : ℕ → Bool
is_other b = not (b == 43)

abbrev NoPlus : List ℕ → Type 0
NoPlus text = list_all is_other text ≡ true

number-other : (limit : ℕ) (x : List ℕ) (n : ℕ) → IsNumber limit x n → NoPlus x
number-other limit x n h = all_weaker is_ascii_digit is_other (λ b k. grind (arith, nat_tests)) x h.each

identifier-other : (p : List ℕ) → is_identifier p ≡ true → NoPlus p
identifier-other p h = all_weaker is_identifier_char is_other (λ b k. grind (arith, nat_tests)) p (grind arith)

joined-other : (ps : List (List ℕ)) → list_all is_identifier ps ≡ true → NoPlus (join_with_byte 46 ps)
joined-other [] h = refl
joined-other (p ∷ ps) h = grind (arith, common_steps, all-join, identifier-other p, joined-other ps)

identifiers-other : (t : List ℕ) (l : List Id) → IsIdentifiers t l → NoPlus t
identifiers-other t l h = rw (join_with_byte-slice_split 46 t) at (joined-other (pieces t) h.runs)

pre-other : (loose wild : Bool) (fits : List ℕ → Bool) (p : List ℕ) (l : List Id) → IsPreRelease loose wild fits p l → NoPlus p
pre-other loose wild fits p l h = grind (arith, nat_tests, common_steps, identifiers-other)

marks-other : (mark : List ℕ) → AreMarks mark → NoPlus mark
marks-other mark h = rw h.1 (encoded-all _ is_other (λ n k. grind (arith, nat_tests)) (λ c k e. grind (arith, nat_tests)) h.0 h.2)

-- ---- what stands behind the first `+`

-- it spells the build, or it is empty and there is none
abbrev Spells : List ℕ → List Id → Type 0
Spells text l = (is_listed text ≡ true) × (listed text ≡ l)

behind-front : (front rest : List ℕ) → NoPlus front → after_first (λ b. b == 43) (front ++ rest) ≡ after_first (λ b. b == 43) rest
behind-front [] rest h = refl
behind-front (c ∷ front) rest h = grind (arith, nat_tests, common_steps, behind-front front rest)

build-spells : (b : List ℕ) (l : List Id) → IsStrictBuild b l → Spells (after_first (λ b. b == 43) b) l
build-spells b l h = grind (arith, nothing_listed, is_spelled, build-taken b [] l h)

-- in every reading, the marks and numbers of which have no `+`
written-spells : (Marks : List ℕ → Type 0) (Number : List ℕ → ℕ → Type 0) (loose : Bool) (fits : List ℕ → Bool)
    → ((m : List ℕ) → Marks m → NoPlus m) → ((x : List ℕ) (n : ℕ) → Number x n → NoPlus x) → (text : List ℕ) (v : VersionValue)
    → IsWritten Marks Number (IsPreRelease loose false fits) text v → Spells (after_first (λ b. b == 43) text) v.build
written-spells Marks Number loose fits marks numbers text v (written mark x y z pre build w m i j k p q) =
    let dot = behind-front (46 ∷ []) in
    grind (arith, behind-front, pre-other, marks, numbers, build-spells)

-- ---- whole texts

build-text : (Is : List ℕ → VersionValue → Type 0)
    → ((t : List ℕ) (v : VersionValue) → Is t v → Spells (after_first (λ b. b == 43) t) v.build) → (text middle build : List ℕ) (v : VersionValue)
    → IsWhole Is text v → IsTrim text middle → build ≡ after_first (λ b. b == 43) middle → IsBuildText (IsWhole Is) text build
build-text Is law text middle build v w trimmed e =
    let same : w.1 ≡ middle = middle_is_trim text w.1 w.2 ∙ sym (middle_is_trim text middle trimmed) in
    let spells : Spells build v.build = rw e (subst (λ (t : List ℕ). Spells (after_first (λ b. b == 43) t) v.build) same (law w.1 v w.3)) in
    record {
      version = v;
      is = w;
      middle = middle;
      trimmed = trimmed;
      written = e;
      identifiers = spells.0;
      spelled = spells.1;
    }

pub build-written : (loose : Bool) (limit : ℕ) (text middle build : List ℕ) (v : VersionValue) → IsVersionTextIn loose limit text v
    → IsTrim text middle → build ≡ after_first (λ b. b == 43) middle → IsBuildText (IsVersionTextIn loose limit) text build
build-written false limit = build-text (IsStrictVersion limit)
    (written-spells _ _ _ _ (λ m k. grind (arith, nat_tests, common_steps)) (λ x n k. number-other limit x n k.0))
build-written true limit = build-text (IsLooseVersion limit) (written-spells _ _ _ _ marks-other (number-other limit))
