-- A partial inside a malformed word: what the functions find at the front of a text is one, and no longer one stands there.
use Rattle.npm_words.proofs.Common.{Bool, Id, IsIdentifiers, IsNumber, IsPlace, IsStrictBuild, List, None, Option, Some, VersionValue, [], and-false}
use Rattle.npm_words.proofs.Common.{and_parts, ap, append_assoc, ap₂, arith, bare, begins, begins_byte, begins_identifier, begins_undashed}
use Rattle.npm_words.proofs.Common.{begins_wildcard, build_front, cases_Bool, common_steps, dashed, digits_value, drop, drop_at, false}
use Rattle.npm_words.proofs.Common.{has_leading_zero, if◌then◌else◌, inl, inr, is_ascii_digit, is_none, is_strict_list, length, length-append}
use Rattle.npm_words.proofs.Common.{length-drop, list_all, listed, nat_le, nat_lt, nat_tests, no_build, no_pre_release, not, one, pieces, plus}
use Rattle.npm_words.proofs.Common.{prefix_len, refl, subst, suc, sym, take, take-append-drop, three, true, two, zero, ℕ, ◌&&◌, ◌++◌, ◌<◌, ◌==◌, ◌||◌}
use Rattle.npm_words.proofs.{Common.{◌∙◌, ◌∷◌, ◌≡◌, ◌≤◌, ◌⊎◌}, Grammar.InsideIds.{Behind, are_good, drop-le, ids-begin, ids-ends, ids-found, ids-le}}
use Rattle.npm_words.proofs.Grammar.{InsideIds.is_good, PartialLaw.{prefix-of, run-number}, Runs.run-many, VersionLaw.build-found}
use Rattle.npm_words.specs.{Grammar.{IsPreRelease, written}, Internal.Inside.{begins_dotted, behind_ids, behind_partial, behind_place, behind_places}}
use Rattle.npm_words.specs.{Internal.Inside.{behind_pre_release, behind_qualifier, capped, is_single, most, starts}, Malformed.{IsInside, are_found}}
use Rattle.{npm_words.specs.{Malformed.{partial, version}, Partials.{any, number}}, semver_core.proofs.Reading.IdentifierLists.written-begins}
use Rattle.semver_core.proofs.Reading.{IdentifierLists.written-le, Numbers.digits-taken, Qualifiers.{build_front-le, byte-begins}}
use Rattle.{semver_core.specs.Text.Identifiers.{goes_on, is_identifier}, std.proofs.lemmas.List.{Sums.prefix_len-le-length, length-take-le}}
use Rattle.std.specs.Char.{is_ascii_alphabetic}

-- ---- which identifiers may stand there

-- the texts of identifiers of a pre-release
abbrev fits : Bool → List ℕ → Bool
fits strict ids = (not strict || is_strict_list ids) && are_found ids

-- each piece is good where the list passes the three tests
each-good : (strict : Bool) (ps : List (List ℕ)) → list_all (is_good strict) ps ≡ (list_all is_identifier ps
    && ((not strict || list_all (λ id. not (list_all is_ascii_digit id && has_leading_zero id)) ps)
    && list_all (λ id. list_all is_ascii_digit id || not (begins is_ascii_digit id)) ps))
each-good strict [] = grind arith
each-good strict (p ∷ ps) = grind (arith, each-good strict ps)

fits-good : (strict : Bool) (ids : List ℕ) (list : List Id) → IsIdentifiers ids list → fits strict ids ≡ true → are_good strict ids ≡ true
fits-good strict ids list i f = each-good strict (pieces ids) ∙ rw (i.runs, f) refl

good-fits : (strict : Bool) (ids : List ℕ) → are_good strict ids ≡ true → IsIdentifiers ids (listed ids) × (fits strict ids ≡ true)
unfolding listed
good-fits strict [] g = cc g
good-fits strict (c ∷ ids) g = let each = each-good strict (pieces (c ∷ ids)) in (record { runs = grind arith; spelled = refl }, grind arith)

-- ---- a pre-release

abbrev is_dashed : List ℕ → Bool
is_dashed text = begins_byte 45 text && begins_identifier (drop 1 text)

abbrev is_bare : Bool → List ℕ → Bool
is_bare strict text = not strict && (begins is_ascii_alphabetic text || begins_byte 45 text)

-- what is read is a pre-release
pre-found : (strict wild : Bool) (text : List ℕ) → (pre : List ℕ) × (ids : List Id) × (text ≡ pre ++ behind_pre_release strict text)
    × (begins is_ascii_digit pre ≡ false) × IsPreRelease (not strict) (strict && wild) (fits strict) pre ids
unfolding behind_pre_release
pre-found strict wild text = elim (cases_Bool (is_dashed text)) [
  | inl dash ↦
      let p = and_parts (begins_byte 45 text) (begins_identifier (drop 1 text)) dash in
      let r = ids-found (length (drop 1 text)) strict (drop 1 text) p.1 (omega arith) in
      let b = good-fits strict r.piece r.is in
      rw dash (45 ∷ r.piece, _, byte-begins 45 text p.0 ∙ ap (λ (t : List ℕ). 45 ∷ t) r.split, refl, dashed r.piece _ b.0 b.1)
  | inr other ↦ elim (cases_Bool (is_bare strict text)) [
    | inr off ↦ rw (other, off) ([], [], refl, refl, no_pre_release)
    | inl on ↦
        let t = and_parts (not strict) (begins is_ascii_alphabetic text || begins_byte 45 text) on in
        let r = ids-found (length text) strict text (grind (arith, nat_tests, t.1)) (omega arith) in
        let b = good-fits strict r.piece r.is in
        let u = bare-parts r.piece (behind_ids (length text) strict text) r.is (rw r.split at t.1) (rw r.split at other) in
        rw (other, on) (r.piece, _, r.split, u.1, bare r.piece _ b.0 b.1 (ap₂ ◌&&◌ t.0 (u.0 (strict && wild))))
  ]
]
  where
    bare-parts : (ids rest : List ℕ) → are_good strict ids ≡ true → (let all = ids ++ rest in begins is_ascii_alphabetic all || begins_byte 45 all) ≡ true
        → is_dashed (ids ++ rest) ≡ false → ((wild : Bool) → begins_undashed wild ids ≡ true) × (begins is_ascii_digit ids ≡ false)
    bare-parts ids rest g h k = (λ wild. grind (arith, nat_tests), grind (arith, nat_tests))

pre-le : (strict : Bool) (text : List ℕ) → length (behind_pre_release strict text) ≤ length text
pre-le strict text =
    let (pre, _, split, _, _) = pre-found strict false text in omega (arith, ap length split, length-append pre (behind_pre_release strict text))

qualifier-le : (strict : Bool) (text : List ℕ) → length (behind_qualifier strict text) ≤ length text
qualifier-le strict text = omega (arith, build_front-le (behind_pre_release strict text), pre-le strict text)

-- a text in which no identifiers go on begins no pre-release
none-read : (strict : Bool) (rest : List ℕ) → goes_on rest ≡ false → behind_pre_release strict rest ≡ rest
unfolding behind_pre_release
none-read strict rest g = grind (arith, nat_tests, and-false)

pre-end : (strict wild : Bool) (pre rest : List ℕ) (l : List Id) → IsPreRelease (not strict) (strict && wild) (fits strict) pre l
    → begins is_ascii_digit pre ≡ false → Behind goes_on rest (behind_pre_release strict (pre ++ rest))
unfolding behind_pre_release
pre-end strict wild pre rest l no_pre_release q = record { le = pre-le strict rest; exact = none-read strict rest }
pre-end strict wild pre rest l (dashed t list i h) q =
    let g = fits-good strict t list i h in rw (ids-begin strict t rest g) (ids-ends strict t rest g)
pre-end true wild pre rest l (bare t list i h x) q = cc x
pre-end false wild pre rest l (bare [] list i h x) q = cc x
pre-end false wild pre rest l (bare (c ∷ t) list i h x) q =
    let whole = ids-ends false (c ∷ t) rest (fits-good false (c ∷ t) list i h) in
    let some = ids-le (length rest) false rest in
    grind (arith, nat_tests)

qualifier-max : (strict wild : Bool) (pre build rest : List ℕ) (l m : List Id) → IsPreRelease (not strict) (strict && wild) (fits strict) pre l
    → begins is_ascii_digit pre ≡ false → IsStrictBuild build m → length (behind_qualifier strict (pre ++ (build ++ rest))) ≤ length rest
unfolding build_front
qualifier-max strict wild pre build rest l m p q no_build =
    omega (arith, build_front-le (behind_pre_release strict (pre ++ rest)), (pre-end strict wild pre rest l p q).le)
qualifier-max strict wild pre build rest l m p q (plus t list i) =
    subst (λ (u : List ℕ). length (build_front u).1 ≤ length rest) (sym ((pre-end strict wild pre (43 ∷ (t ++ rest)) l p q).exact refl))
    (rw (written-begins t rest list i) (written-le t rest list i))

-- ---- places

-- what the functions read as one place, wherever it stands
record Placed (strict : Bool) (x : List ℕ) : Type 0 where
  max : (rest : List ℕ) → length (behind_place strict (x ++ rest)) ≤ length rest
  exact : (rest : List ℕ) → begins is_ascii_digit rest ≡ false → behind_place strict (x ++ rest) ≡ rest
  begin : (rest : List ℕ) → starts strict (x ++ rest) ≡ true

-- digits that are one number
run-placed : (strict : Bool) (c : ℕ) (run : List ℕ) → list_all is_ascii_digit (c ∷ run) ≡ true → is_single strict (c ∷ run) ≡ false
    → nat_le (length (c ∷ run)) (most strict) ≡ true → Placed strict (c ∷ run)
unfolding behind_place
run-placed strict c run each plain short = record {
  max = λ rest. rw plain (drop-le _ (c ∷ run) rest (capped-is _ _ (omega (arith, run-many is_ascii_digit (c ∷ run) rest each)) short).0);
  exact = λ rest stop. rw (plain, digits-taken (c ∷ run) rest each stop, (capped-is _ (length (c ∷ run)) (omega arith) short).1)
      (drop_at (c ∷ run) rest (length (c ∷ run)) refl);
  begin = λ rest. rw (and_parts (is_ascii_digit c) (list_all is_ascii_digit run) each).0 refl;
}
  where
    capped-is : (n m : ℕ) → n ≤ m → nat_le n (most strict) ≡ true → (n ≤ capped strict m) × (capped strict n ≡ n)
    capped-is n m h k = (grind (arith, nat_tests), grind (arith, nat_tests))

-- a number of a version
abbrev IsShort : List ℕ → ℕ → Type 0
IsShort x n = IsNumber n x n × (length x ≤ 256)

number-placed : (x : List ℕ) (n : ℕ) → IsShort x n → Placed false x
number-placed [] n h = absurd (omega (arith, h.0.some))
number-placed (c ∷ x) n h = let short = h.1 in run-placed false c x h.0.each refl (grind (arith, nat_tests))

single-placed : (c : ℕ) → is_single true (c ∷ []) ≡ true → Placed true (c ∷ [])
unfolding behind_place
single-placed c h = record { max = λ rest. rw h (omega arith); exact = λ rest q. rw h refl; begin = λ rest. grind (arith, nat_tests) }

place-placed : (x : List ℕ) (a : Option ℕ) → IsPlace false x a → Placed true x
place-placed x a (any b h) = single-placed b (grind arith)
place-placed x a (number [] n k spelled short) = absurd (omega (arith, k.some))
place-placed x a (number (c ∷ []) n k spelled short) = elim (cases_Bool (is_single true (c ∷ []))) [
  | inl single ↦ single-placed c single
  | inr plain ↦ run-placed true c [] k.each plain short
]
place-placed x a (number (c ∷ d ∷ run) n k spelled short) = run-placed true c (d ∷ run) k.each (grind (arith, nat_tests, k.each)) short

-- what is read is a place: loosely a number
abbrev IsPart : Bool → List ℕ → Option ℕ → Type 0
IsPart true x a = IsPlace false x a
IsPart false x a = IsShort x (digits_value 10 x)

run-part : (strict : Bool) (k c : ℕ) (text : List ℕ) → 0 < k → k ≤ prefix_len is_ascii_digit (c ∷ text) → nat_le k (most strict) ≡ true
    → is_single strict (c ∷ text) ≡ false → (let x = take k (c ∷ text) in IsPart strict x (Some (digits_value 10 x)))
run-part strict zero c text some le short plain = absurd (omega arith)
run-part false (suc k) c text some le short plain =
    let len = length-take-le (suc k) (c ∷ text) (omega (arith, le, prefix_len-le-length is_ascii_digit (c ∷ text))) in
    let fits : suc k ≤ 256 = grind (arith, nat_tests) in
    (run-number (c ∷ take k text) (omega arith) (prefix-of is_ascii_digit (suc k) (c ∷ text) le), omega (arith, len, fits))
run-part true (suc k) c text some le short plain =
    let len = length-take-le (suc k) (c ∷ text) (omega (arith, le, prefix_len-le-length is_ascii_digit (c ∷ text))) in
    let first : has_leading_zero (c ∷ take k text) ≡ false = grind arith in
    number (c ∷ take k text) _ (run-number (c ∷ take k text) (omega arith) (prefix-of is_ascii_digit (suc k) (c ∷ text) le)) (rw first refl) (rw len short)

single-part : (strict : Bool) (c : ℕ) (text : List ℕ) → is_single strict (c ∷ text) ≡ true → (a : Option ℕ) × IsPart strict (c ∷ []) a
single-part false c text h = cc h
single-part true c text h = elim (cases_Bool (c == 48)) [
  | inr other ↦ (None, any c (rw other at h))
  | inl null ↦ (Some (digits_value 10 (c ∷ [])), number (c ∷ []) _ (run-number (c ∷ []) (omega arith) (grind (arith, nat_tests))) refl refl)
]

place-found : (strict : Bool) (text : List ℕ) → starts strict text ≡ true → (x : List ℕ) × (a : Option ℕ) × (text ≡ x ++ behind_place strict text)
    × IsPart strict x a × (length (behind_place strict text) < length text)
unfolding behind_place
place-found strict [] h = cc (and-false strict, h)
place-found strict (c ∷ text) h = elim (cases_Bool (is_single strict (c ∷ text))) [
  | inl single ↦ (let p = single-part strict c text single in rw single (c ∷ [], p.0, refl, p.1, omega arith))
  | inr run ↦
      let k = capped strict (prefix_len is_ascii_digit (c ∷ text)) in
      let digit : is_ascii_digit c ≡ true = grind arith in
      let f = capped-fits (prefix_len is_ascii_digit (c ∷ text)) (rw digit (omega arith)) in
      let less : length (drop k (c ∷ text)) < length (c ∷ text) = omega (arith, f.0, length-drop k (c ∷ text)) in
      rw run (take k (c ∷ text), _, sym (take-append-drop k (c ∷ text)), run-part strict k c text f.0 f.1 f.2 run, less)
]
  where
    capped-fits : (n : ℕ) → 0 < n → (0 < capped strict n) × (capped strict n ≤ n) × (nat_le (capped strict n) (most strict) ≡ true)
    capped-fits n h = (grind (arith, nat_tests), grind (arith, nat_tests), grind (arith, nat_tests))

dotted-le : (text : List ℕ) → length (behind_place true (drop 1 text)) ≤ length text
unfolding behind_place
dotted-le text = grind (arith, nat_tests, length-drop)

-- ---- up to three of them

-- strictly no more is left than behind the first place, and behind the second one
one-le : (text : List ℕ) → length (behind_places true text) ≤ length (behind_place true text)
unfolding behind_places
one-le text = grind (arith, nat_tests, dotted-le, qualifier-le)

two-max : (x y rest : List ℕ) → Placed true x → Placed true y → length (behind_places true (x ++ 46 ∷ (y ++ rest))) ≤ length rest
unfolding behind_places
two-max x y rest i j =
    let two = behind_place true (y ++ rest) in
    let stop = j.max rest in
    let third = dotted-le two in
    let last = qualifier-le true (behind_place true (drop 1 two)) in
    rw (i.exact (46 ∷ (y ++ rest)) refl, j.begin rest) (grind arith)

three-append : (x y z pre build rest : List ℕ)
    → (x ++ 46 ∷ (y ++ 46 ∷ (z ++ (pre ++ build)))) ++ rest ≡ x ++ 46 ∷ (y ++ 46 ∷ (z ++ (pre ++ (build ++ rest))))
three-append x y z pre build rest = simp append_assoc

three-max : (strict wild : Bool) (x y z pre build rest : List ℕ) (l m : List Id) → Placed strict x → Placed strict y → Placed strict z
    → IsPreRelease (not strict) (strict && wild) (fits strict) pre l → begins is_ascii_digit pre ≡ false → IsStrictBuild build m
    → length (behind_places strict (x ++ 46 ∷ (y ++ 46 ∷ (z ++ (pre ++ (build ++ rest)))))) ≤ length rest
unfolding behind_places
three-max strict wild x y z pre build rest l m i j k p q b =
    let tail = pre ++ (build ++ rest) in
    rw (i.exact (46 ∷ (y ++ 46 ∷ (z ++ tail))) refl, j.begin (46 ∷ (z ++ tail)), j.exact (46 ∷ (z ++ tail)) refl, k.begin tail)
    (elim (cases_Bool (begins is_ascii_digit tail)) [
      | inr quiet ↦ rw (k.exact tail quiet) (qualifier-max strict wild pre build rest l m p q b)
      | inl digit ↦
          let none = nothing-there pre build q b digit in
          omega (arith, qualifier-le strict (behind_place strict (z ++ tail)), k.max tail, ap length none)
    ])
  where
    -- a digit stands there only where neither a pre-release nor build metadata does
    nothing-there : (pre build : List ℕ) {m : List Id} → begins is_ascii_digit pre ≡ false → IsStrictBuild build m
        → begins is_ascii_digit (pre ++ (build ++ rest)) ≡ true → pre ++ (build ++ rest) ≡ rest
    nothing-there [] build q no_build h = refl
    nothing-there [] build q (plus t l i) h = cc h
    nothing-there (c ∷ pre) build q k h = cc (q, h)

-- ---- what is read is a partial

pub record InsideAt (text rest : List ℕ) : Type 0 where
  pub piece : List ℕ
  pub split : text ≡ piece ++ rest
  pub is : IsInside piece

three-inside : (strict : Bool) (x y z pre build : List ℕ) (a b c : Option ℕ) (ids builds : List Id) → IsPart strict x a → IsPart strict y b
    → IsPart strict z c → begins is_ascii_digit pre ≡ false → IsPreRelease (not strict) (strict && is_none c) (fits strict) pre ids → IsStrictBuild build builds
    → IsInside (x ++ 46 ∷ (y ++ 46 ∷ (z ++ (pre ++ build))))
three-inside true x y z pre build a b c ids builds i j k q p t = partial _ _ (three x y z pre build a b c ids builds i j k p t refl)
three-inside false x y z pre build a b c ids builds i j k q p t =
    let v : VersionValue = record { major = digits_value 10 x; minor = digits_value 10 y; patch = digits_value 10 z; pre_release = ids; build = builds } in
    version _ v (written [] x y z pre build v refl i j k (q, p) t)

-- a partial ends before its third place strictly alone
stopped : (strict : Bool) (text piece rest : List ℕ) → text ≡ piece ++ rest → (strict ≡ true → IsInside piece)
    → let left = if strict then rest else text in (left ≡ text) ⊎ InsideAt text left
stopped false text piece rest e f = inl refl
stopped true text piece rest e f = inr (record { piece = piece; split = e; is = f refl })

places-found : (strict : Bool) (text : List ℕ) → starts strict text ≡ true
    → (behind_places strict text ≡ text) ⊎ InsideAt text (behind_places strict text)
unfolding behind_places
places-found strict text h =
    let first = behind_place strict text in
    let (x, a, to_first, i, _) = place-found strict text h in
    elim (cases_Bool (begins_dotted strict first)) [
      | inr stop ↦ rw stop (stopped strict text x first to_first (λ s. partial x _ (one x a (strictly s i))))
      | inl on ↦
          let d = and_parts (begins_byte 46 first) (starts strict (drop 1 first)) on in
          let second = behind_place strict (drop 1 first) in
          let (y, b, from_first, j, _) = place-found strict (drop 1 first) d.1 in
          let to_second : text ≡ x ++ 46 ∷ (y ++ second) =
          to_first ∙ ap (λ (t : List ℕ). x ++ t) (byte-begins 46 first d.0 ∙ ap (λ (t : List ℕ). 46 ∷ t) from_first) in
          elim (cases_Bool (begins_dotted strict second)) [
            | inr stop ↦ rw (on, stop) (stopped strict text (x ++ 46 ∷ y) second (to_second ∙ sym (append_assoc x (46 ∷ y) second))
                (λ s. partial (x ++ 46 ∷ y) _ (two x y a b (strictly s i) (strictly s j))))
            | inl goes ↦
                let e = and_parts (begins_byte 46 second) (starts strict (drop 1 second)) goes in
                let third = behind_place strict (drop 1 second) in
                let (z, c, from_second, k, _) = place-found strict (drop 1 second) e.1 in
                let (pre, ids, from_third, quiet, p) = pre-found strict (is_none c) third in
                let (build, from_pre, q, _) = build-found (behind_pre_release strict third) in
                let tail : second ≡ 46 ∷ (z ++ (pre ++ (build ++ behind_qualifier strict third))) = byte-begins 46 second e.0
                ∙ ap (λ (t : List ℕ). 46 ∷ t) (from_second ∙ ap (λ (t : List ℕ). z ++ t) (from_third ∙ ap (λ (t : List ℕ). pre ++ t) from_pre)) in
                rw (on, goes) (inr (record {
                  piece = x ++ 46 ∷ (y ++ 46 ∷ (z ++ (pre ++ build)));
                  split = to_second ∙ ap (λ (t : List ℕ). x ++ 46 ∷ (y ++ t)) tail ∙ sym (three-append x y z pre build _);
                  is = three-inside strict x y z pre build a b c ids _ i j k quiet p q;
                }))
          ]
    ]
  where
    strictly : {x : List ℕ} {a : Option ℕ} → strict ≡ true → IsPart strict x a → IsPlace false x a
    strictly s i = rw s at i

-- ---- the longer one

-- what is left behind it is one of the two rests, and no longer than either
which : (text : List ℕ) → (strict : Bool) × (behind_partial text ≡ behind_places strict text)
unfolding behind_partial
which text = (not (nat_le (length (behind_places false text)) (length (behind_places true text))), grind arith)

partial-le : (strict : Bool) (text : List ℕ) (n : ℕ) → length (behind_places strict text) ≤ n → length (behind_partial text) ≤ n
unfolding behind_partial
partial-le strict text n h = grind (arith, nat_tests)

-- a number or a wildcard is at the front
abbrev pub starts_place : List ℕ → Bool
starts_place text = begins is_ascii_digit text || begins_wildcard text

-- a partial begins with a place, and no partial that stands there is longer
reads : (text rest : List ℕ) → IsInside text → (starts_place (text ++ rest) ≡ true) × (length (behind_partial (text ++ rest)) ≤ length rest)
reads text rest (version t v (written (c ∷ mark) x y z pre build w m i j k p b)) = cc m
reads text rest (version t v (written [] x y z pre build w m i j k p b)) =
    let first = (number-placed x _ i).begin (46 ∷ (y ++ 46 ∷ (z ++ (pre ++ (build ++ rest))))) in
    rw (three-append x y z pre build rest) (
      grind arith,
      partial-le false _ _
          (three-max false false x y z pre build rest w.pre_release w.build (number-placed x _ i) (number-placed y _ j) (number-placed z _ k) p.1 p.0 b),
    )
reads text rest (partial t p (one x a h)) =
    let place = place-placed x a h in (place.begin rest, partial-le true _ _ (omega (arith, one-le (x ++ rest), place.max rest)))
reads text rest (partial t p (two x y a b h k)) =
    let place = place-placed x a h in
    rw (append_assoc x (46 ∷ y) rest) (place.begin (46 ∷ (y ++ rest)), partial-le true _ _ (two-max x y rest place (place-placed y b k)))
reads text rest (partial t p (three x y z pre build a b c ids builds h k l m n g)) =
    let place = place-placed x a h in
    rw (three-append x y z pre build rest) (
      place.begin (46 ∷ (y ++ 46 ∷ (z ++ (pre ++ (build ++ rest))))),
      partial-le true _ _
          (three-max true (is_none c) x y z pre build rest ids builds place (place-placed y b k) (place-placed z c l) m (quiet m) n),
    )
  where
    quiet : {wild : Bool} {fits : List ℕ → Bool} {pre : List ℕ} {l : List Id} → IsPreRelease false wild fits pre l → begins is_ascii_digit pre ≡ false
    quiet h = grind (arith, nat_tests, common_steps)

pub inside-starts : (text rest : List ℕ) → IsInside text → starts_place (text ++ rest) ≡ true
inside-starts text rest i = (reads text rest i).0

pub partial-max : (text rest : List ℕ) → IsInside text → length (behind_partial (text ++ rest)) ≤ length rest
partial-max text rest i = (reads text rest i).1

-- something is read, and it is a partial
pub partial-less : (text : List ℕ) → starts_place text ≡ true → length (behind_partial text) < length text
partial-less text h =
    let (_, _, _, _, less) = place-found true text h in
    omega (arith, partial-le true text (length (behind_place true text)) (one-le text), less)

-- loosely nothing is read at a wildcard
nothing-read : (strict : Bool) (text : List ℕ) → starts_place text ≡ true → starts strict text ≡ false → behind_places strict text ≡ text
unfolding behind_places behind_place
nothing-read strict text h k = grind (arith, nat_tests)

pub partial-found : (text : List ℕ) → starts_place text ≡ true → InsideAt text (behind_partial text)
partial-found text h =
    let (strict, is) = which text in
    grind (arith, places-found strict text, partial-less text h, nothing-read strict text h)

-- ---- the digits that count

prefix-take : (F : ℕ → Bool) (k : ℕ) (text : List ℕ) → prefix_len F (take k text) ≡ (if nat_lt k (prefix_len F text) then k else prefix_len F text)
prefix-take F zero text = grind (arith, nat_tests)
prefix-take F (suc k) [] = grind (arith, nat_tests)
prefix-take F (suc k) (c ∷ text) = grind (arith, nat_tests, prefix-take F k text)

pub digits_most : (strict : Bool) (k : ℕ) (text : List ℕ) → k ≡ (if nat_lt (most strict) (length text) then most strict else length text)
    → prefix_len is_ascii_digit (take k text) ≡ capped strict (prefix_len is_ascii_digit text)
digits_most strict k text e = let le = prefix_len-le-length is_ascii_digit text in rw e (grind (arith, nat_tests, prefix-take))
