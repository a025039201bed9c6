-- A pre-release and a build at the front of a text: what is read is written, and what is written is read.
use Rattle.semver_core.proofs.Common.{list_len, Id, goes_on, listed, IsBuild, IsPreRelease, bare}
use Rattle.semver_core.proofs.Common.{begins_pre_release, dashed, no_build, no_pre_release, plus, [], List, ap}
use Rattle.semver_core.proofs.Common.{append-nil, append_assoc, arith, drop, false, inl, inr, length, refl, sym}
use Rattle.semver_core.proofs.Common.{take, true, ℕ, ◌++◌, ◌∷◌, ◌≡◌, ◌≤◌, nat_tests, cases_Bool, take-append-drop}
use Rattle.semver_core.proofs.Reading.Bytes.{Quiet, Stop, quiet-before}
use Rattle.semver_core.proofs.Reading.IdentifierLists.{front-identifiers, written-begins, written-exact, written-le, written-spelled}
use Rattle.semver_core.proofs.Text.Pieces.{list_ended}
use Rattle.semver_core.specs.Internal.Fronts.{begins_byte, begins_identifier, build_front, pre_release_front}
use Rattle.std.proofs.Common.{length-append}

-- ---- what is read is written

ended-quiet : (front text : List ℕ) → Quiet front (drop (list_len text) text)
ended-quiet front text =
    let stop = list_ended text in quiet-before front (drop (list_len text) text) (grind (arith, nat_tests))

pub record PreRead (x p left read : List ℕ) : Type 0 where
  pub split : x ≡ p ++ left
  pub is : (b : List ℕ) → goes_on b ≡ false → begins_pre_release b ≡ false → IsPreRelease p b (listed read)
  pub stop : Quiet p left

nothing-read : (x : List ℕ) → PreRead x [] x []
unfolding listed
nothing-read x = record { split = refl; is = λ b g h. no_pre_release b h; stop = refl }

begins-take : (n : ℕ) (x : List ℕ) → begins_byte 45 x ≡ false → begins_byte 45 (take n x) ≡ false
begins-take n x h = grind arith

pub byte-begins : (c : ℕ) (x : List ℕ) → begins_byte c x ≡ true → x ≡ c ∷ drop 1 x
byte-begins c x h = grind arith

pub pre-read : (x : List ℕ) → (p : List ℕ) × PreRead x p (pre_release_front x).1 (pre_release_front x).0
unfolding pre_release_front
pre-read x = elim (cases_Bool (begins_byte 45 x)) [
  | inl dash ↦ let y = drop 1 x in elim (cases_Bool (begins_identifier y)) [
    | inl some ↦ rw (dash, some, byte-begins 45 x dash) (
      45 ∷ take (list_len y) y,
      record {
        split = ap (λ (t : List ℕ). 45 ∷ t) (sym (take-append-drop (list_len y) y));
        is = λ b g k. dashed _ b _ (record { identifiers = front-identifiers y some; ended = g });
        stop = ended-quiet (45 ∷ take (list_len y) y) y;
      },
    )
    | inr none ↦ rw (dash, none) ([], nothing-read x)
  ]
  | inr other ↦ elim (cases_Bool (begins_identifier x)) [
    | inl some ↦ rw (other, some) (
      take (list_len x) x,
      record {
        split = sym (take-append-drop (list_len x) x);
        is = λ b g k. bare _ b _ (record { identifiers = front-identifiers x some; ended = g }) (begins-take (list_len x) x other);
        stop = ended-quiet (take (list_len x) x) x;
      },
    )
    | inr none ↦ rw (other, none) ([], nothing-read x)
  ]
]

pub record BuildRead (y b left read : List ℕ) : Type 0 where
  pub split : y ≡ b ++ left
  pub is : IsBuild b [] (listed read)
  pub goes : goes_on b ≡ false
  pub pre : begins_pre_release b ≡ false
  pub stop : Quiet b left

nothing-built : (y : List ℕ) → BuildRead y [] y []
unfolding listed
nothing-built y = record { split = refl; is = no_build [] refl; goes = refl; pre = refl; stop = refl }

pub build-read : (y : List ℕ) → (b : List ℕ) × BuildRead y b (build_front y).1 (build_front y).0
unfolding build_front
build-read y = elim (cases_Bool (begins_byte 43 y)) [
  | inl mark ↦ let z = drop 1 y in elim (cases_Bool (begins_identifier z)) [
    | inl some ↦ rw (mark, some, byte-begins 43 y mark) (
      43 ∷ take (list_len z) z,
      record {
        split = ap (λ (t : List ℕ). 43 ∷ t) (sym (take-append-drop (list_len z) z));
        is = plus _ [] _ (record { identifiers = front-identifiers z some; ended = refl });
        goes = refl;
        pre = refl;
        stop = ended-quiet (43 ∷ take (list_len z) z) z;
      },
    )
    | inr none ↦ rw (mark, none) ([], nothing-built y)
  ]
  | inr other ↦ rw other ([], nothing-built y)
]

-- ---- what is written is read

pub pre_release_front-le : (x : List ℕ) → length (pre_release_front x).1 ≤ length x
pre_release_front-le x = let r = pre-read x in omega (arith, ap length r.1.split, length-append r.0 (pre_release_front x).1)

pub build_front-le : (x : List ℕ) → length (build_front x).1 ≤ length x
build_front-le x = let r = build-read x in omega (arith, ap length r.1.split, length-append r.0 (build_front x).1)

-- a pair of the text of a list, and what is left
record Taken (front : List ℕ × List ℕ) (y : List ℕ) (l : List Id) : Type 0 where
  pub text : List ℕ
  pub is : front ≡ (text, y)
  pub list : listed text ≡ l

record PreWritten (p y : List ℕ) (l : List Id) : Type 0 where
  pub le : length (pre_release_front (p ++ y)).1 ≤ length y
  pub exact : list_len y ≡ 0 → begins_byte 45 y ≡ false → begins_identifier y ≡ false → Taken (pre_release_front (p ++ y)) y l

pre-written : (p y b : List ℕ) (l : List Id) → IsPreRelease p b l → PreWritten p y l
unfolding pre_release_front listed
pre-written p y b l (dashed t r list h) =
    let begins = written-begins t y list h.identifiers in
    record {
      le = rw begins (written-le t y list h.identifiers);
      exact = λ run d i. record
          { text = t; is = rw begins (written-exact t y list h.identifiers run); list = written-spelled t list h.identifiers };
    }
pre-written p y b l (bare t r list h d) =
    let begins = written-begins t y list h.identifiers in
    let some = written-begins t [] list h.identifiers in
    let plain : begins_byte 45 (t ++ y) ≡ false = grind (arith, append-nil) in
    record {
      le = rw (begins, plain) (written-le t y list h.identifiers);
      exact = λ run d i. record
          { text = t; is = rw (begins, plain) (written-exact t y list h.identifiers run); list = written-spelled t list h.identifiers };
    }
pre-written p y b l (no_pre_release r h) = grind (arith, pre_release_front-le)

-- the qualifier of a partial is passed, and no more is where nothing goes on
pub record QualifierRead (text more : List ℕ) (l m : List Id) : Type 0 where
  pub pre : listed (pre_release_front text).0 ≡ l
  pub build : listed (build_front (pre_release_front text).1).0 ≡ m
  pub rest : (build_front (pre_release_front text).1).1 ≡ more

pub record QualifierPassed (text more : List ℕ) (l m : List Id) : Type 0 where
  pub le : length (build_front (pre_release_front text).1).1 ≤ length more
  pub exact : Stop more → QualifierRead text more l m

read-as : (text y more : List ℕ) (l m : List Id) → Taken (pre_release_front text) y l → Taken (build_front y) more m
    → QualifierRead text more l m
read-as text y more l m p b = grind arith

pub qualifier-passed : (pre build more : List ℕ) (l m : List Id) → IsPreRelease pre build l → IsBuild build [] m
    → QualifierPassed ((pre ++ build) ++ more) more l m
unfolding build_front listed list_len
qualifier-passed pre build more l m h (plus z r list k) =
    let p = (pre-written pre (43 ∷ (z ++ more)) (43 ∷ z) l h).exact refl refl refl in
    let begins = written-begins z more list k.identifiers in
    let whole = append_assoc pre (43 ∷ z) more in
    rw whole
    (record {
      le = rw (p.is, begins) (written-le z more list k.identifiers);
      exact = λ stop. read-as (pre ++ (43 ∷ (z ++ more))) (43 ∷ (z ++ more)) more l list p
          (record {
            text = z;
            is = rw begins (written-exact z more list k.identifiers stop.run);
            list =
                written-spelled z list k.identifiers;
          });
    })
qualifier-passed pre build more l m h (no_build r k) =
    grind (arith, nat_tests, build_front-le, pre-written pre more [] l h, append-nil)
