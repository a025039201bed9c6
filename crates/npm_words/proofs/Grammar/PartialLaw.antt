-- Places and partial versions of node-semver's range texts: what is read is written, and what is written is read; also by the code, which has each number
-- past the limit as the limit + 1.
use Rattle.npm_words.proofs.Common.{Bool, Front, Id, IsNumber, IsPlace, IsPlaces, IsStrictBuild, List, MAX_SAFE_INTEGER, None, Option, Some, []}
use Rattle.npm_words.proofs.Common.{and-false, and_parts, ap, append-nil, append_assoc, arith, begins, begins_byte, begins_padded, begins_wildcard}
use Rattle.npm_words.proofs.Common.{bind_some, build_front, capped_one, capped_partial, cases_Bool, common_steps, digits_value, dotted_patch}
use Rattle.npm_words.proofs.Common.{dotted_place, drop, drop-append-add, drop_at, false, first_as, has_leading_zero, if◌then◌else◌, inl, inr}
use Rattle.npm_words.proofs.Common.{is_ascii_digit, is_boundary, is_empty, is_none, is_spelled, length, length-append, length-prefix_len, list_all}
use Rattle.npm_words.proofs.Common.{listed, may_stand, nat_le, nat_lt, nat_tests, not, number_front, number_of, number_with, one, partial_of}
use Rattle.npm_words.proofs.Common.{patch_place, place_front, pre_front, pre_release_with, prefix_len, qualified_partial, refl, run_place, same_Some}
use Rattle.npm_words.proofs.Common.{subst, suc, take, take-append-drop, take_at, take_rest, take_while, three, true, two, zero, ℕ, ◌&&◌, ◌++◌, ◌+◌}
use Rattle.npm_words.proofs.{Common.{◌-◌, ◌<◌, ◌>>?◌, ◌||◌, ◌∙◌, ◌∷◌, ◌≡◌, ◌≤◌}, Grammar.{Runs.run-many, VersionLaw.{At, Ends, Follows, build-ends}}}
use Rattle.npm_words.proofs.Grammar.VersionLaw.{build-found, build-taken, dotted-found, number-short, padded-same, pre-follows, pre-found, pre-taken}
use Rattle.npm_words.{proofs.Grammar.VersionLaw.strict_is, specs.{Grammar.IsPreRelease, Internal.Words.{are_short_builds, is_over, places_front}}}
use Rattle.{npm_words.specs.{Internal.Words.third_front, Table.Partial}, semver_core.proofs.Reading.Bytes.{is_solid, solid-dark}}
use Rattle.semver_core.proofs.Reading.{Numbers.{digits-taken, number-found, number-is, number-no_wildcard}, Steps.option-cases}
use Rattle.{semver_core.proofs.Text.Runs.prefix_each, std.proofs.lemmas.List.Sums.{prefix_len-drop_all, prefix_len-drop_no, prefix_len-drop_yes}}
use Rattle.npm_words.specs.Partials as Text

pub ruleset prefix_steps = (prefix_len-drop_all, prefix_len-drop_no, prefix_len-drop_yes)

-- ---- runs of digits

some-run : (run : List ℕ) → 1 ≤ length run → not (is_empty run) ≡ true
some-run run h = grind (arith, nat_tests, common_steps)

pub digits-begin : (digits : List ℕ) → 0 < length digits → list_all is_ascii_digit digits ≡ true → begins is_ascii_digit digits ≡ true
digits-begin digits some each = grind arith

pub prefix-of : (p : ℕ → Bool) (k : ℕ) (text : List ℕ) → k ≤ prefix_len p text → list_all p (take k text) ≡ true
prefix-of p zero text h = refl
prefix-of p (suc k) [] h = refl
prefix-of p (suc k) (c ∷ text) h = grind (arith, nat_tests, common_steps, prefix-of p k text)

pub digits_all : (text : List ℕ) → nat_lt (prefix_len is_ascii_digit text) (length text) ≡ not (list_all is_ascii_digit text)
digits_all [] = refl
digits_all (c ∷ text) = grind (arith, nat_tests, common_steps, digits_all text)

-- ---- what is written is read

place-read : (loose : Bool) (x more : List ℕ) (a : Option ℕ) → IsPlace loose x a → begins is_ascii_digit more ≡ false
    → place_front loose (x ++ more) ≡ Some (a, more)
unfolding place_front
place-read loose x more a (Text.any b h) stop = rw h refl
place-read loose x more a (Text.number digits n k spelled short) stop =
    grind (arith, nat_tests, common_steps, number-no_wildcard, digits-begin, digits-taken, take_at, drop_at)

-- how many digits a third place takes
pub patch-exact : (loose : Bool) (run rest : List ℕ) → list_all is_ascii_digit run ≡ true → Follows loose rest
    → (if loose && begins_byte 46 (drop (prefix_len is_ascii_digit (run ++ rest)) (run ++ rest)) then prefix_len is_ascii_digit (run ++ rest) - 1
    else prefix_len is_ascii_digit (run ++ rest)) ≡ length run
patch-exact loose run rest each f =
    rw (run-many is_ascii_digit run rest each, drop-append-add) (grind (arith, nat_tests, common_steps))

patch-read : (loose : Bool) (run rest : List ℕ) (n : ℕ) → IsNumber n run n → is_spelled loose run ≡ true → (loose || nat_le (length run) 257) ≡ true
    → Follows loose rest → patch_place loose (run ++ rest) ≡ Some (Some n, rest)
unfolding patch_place place_front
patch-read loose run rest n k spelled short f =
    let text = run ++ rest in
    let dark = number-no_wildcard run rest (digits-begin run k.some k.each) in
    let fits : run_place loose run rest ≡ Some (Some n, rest) = grind (arith, nat_tests, common_steps, k.some, k.value) in
    let len = patch-exact loose run rest k.each f in
    let front = take_at run rest (length run) refl in
    let behind = drop_at run rest (length run) refl in
    elim (cases_Bool (loose && begins_byte 46 (drop (prefix_len is_ascii_digit text) text))) [
      | inl cut ↦ rw (cut, rw cut at len, front, behind) fits
      | inr whole ↦ rw (whole, dark, rw whole at len, front, behind) fits
    ]

-- behind a wildcard anything may stand
third-read : (loose : Bool) (fits : List ℕ → Bool) (z pre behind : List ℕ) (c : Option ℕ) (l : List Id) → IsPlace loose z c
    → IsPreRelease loose (is_none c) fits pre l → Ends behind → dotted_patch loose (46 ∷ (z ++ (pre ++ behind))) ≡ Some (c, pre ++ behind)
unfolding dotted_patch patch_place place_front
third-read loose fits z pre behind None l (Text.any b w) h e = grind (arith, nat_tests, common_steps)
third-read loose fits z pre behind (Some n) l (Text.number run m k spelled short) h e =
    patch-read loose run (pre ++ behind) n k spelled short (pre-follows loose fits pre behind l h e)

-- ---- what is read is written

-- digits are the number that they spell
pub run-number : (run : List ℕ) → 0 < length run → list_all is_ascii_digit run ≡ true → IsNumber (digits_value 10 run) run (digits_value 10 run)
run-number run some each = record { some = some; each = each; value = refl; safe = omega arith }

run-place : (loose : Bool) (run : List ℕ) → list_all is_ascii_digit run ≡ true
    → (not (is_empty run) && (loose || nat_le (length run) 257) && is_spelled loose run) ≡ true → IsPlace loose run (Some (digits_value 10 run))
run-place loose [] each h = cc h
run-place loose (c ∷ run) each h =
    let p = and_parts (loose || nat_le (length (c ∷ run)) 257) (is_spelled loose (c ∷ run)) h in
    Text.number (c ∷ run) _ (run-number (c ∷ run) (omega arith) each) p.1 p.0

-- a run of digits that is a place, and what stands behind it
cut-found : (loose : Bool) (k : ℕ) (text : List ℕ) (a : Option ℕ) (rest : List ℕ) → k ≤ prefix_len is_ascii_digit text
    → run_place loose (take k text) (drop k text) ≡ Some (a, rest) → At (IsPlace loose) text a rest
cut-found loose k text a rest h e =
    let run = take k text in
    elim (cases_Bool (not (is_empty run) && (loose || nat_le (length run) 257) && is_spelled loose run)) [
      | inr none ↦ cc (rw none at e)
      | inl good ↦
          let f = run-place loose run (prefix-of is_ascii_digit k text h) good in
          grind (arith, take-append-drop k text)
    ]

place-found : (loose : Bool) (text : List ℕ) (a : Option ℕ) (rest : List ℕ) → place_front loose text ≡ Some (a, rest)
    → At (IsPlace loose) text a rest
unfolding place_front
place-found loose [] a rest h = cc h
place-found loose (c ∷ text) a rest h = elim (cases_Bool (begins_wildcard (c ∷ text))) [
  | inl wild ↦ (let is : IsPlace loose (c ∷ []) None = Text.any c wild in grind (arith, nat_tests, common_steps))
  | inr dark ↦ cut-found loose (prefix_len is_ascii_digit (c ∷ text)) (c ∷ text) a rest (omega arith) (rw dark at h)
]

patch-found : (loose : Bool) (text : List ℕ) (a : Option ℕ) (rest : List ℕ) → patch_place loose text ≡ Some (a, rest)
    → At (IsPlace loose) text a rest
unfolding patch_place
patch-found loose text a rest h =
    let cut = cut-found loose (prefix_len is_ascii_digit text - 1) text a rest (omega arith) in grind (arith, place-found)

-- ---- nothing goes on at a boundary

pub boundary-quiet : (more : List ℕ) → is_boundary more ≡ true → begins is_solid more ≡ false
unfolding is_boundary
boundary-quiet more h = grind (arith, nat_tests, common_steps, is_solid, solid-dark)

-- ---- what is written is read

pub front-text : (front rest : List ℕ) → take (length (front ++ rest) - length rest) (front ++ rest) ≡ front
front-text front rest = grind (arith, take_at, length-append)

qualified-read : (loose : Bool) (a b c : Option ℕ) (pre build more : List ℕ) (l m : List Id)
    → IsPreRelease loose (is_none c) (may_stand loose) pre l → IsStrictBuild build m → are_short_builds (drop 1 build) ≡ true
    → begins is_solid more ≡ false → qualified_partial loose a b c (pre ++ (build ++ more)) ≡ Some (partial_of a b c l m, more)
unfolding qualified_partial
qualified-read loose a b c pre build more l m h k t quiet =
    let e = build-ends build more m k quiet in grind (arith, nat_tests, common_steps, build-taken, pre-taken)

pub places-read : (loose : Bool) (x more : List ℕ) (p : Partial) → IsPlaces loose x p → begins is_solid more ≡ false
    → places_front loose (x ++ more) ≡ Some (p, more)
unfolding places_front dotted_patch dotted_place
places-read loose x more p (one x1 a h) quiet = grind (arith, nat_tests, common_steps, place-read)
places-read loose x more p (two x1 y a b h k) quiet = grind (arith, nat_tests, common_steps, append_assoc, place-read)
places-read loose x more p (three x1 y z pre build a b c ids builds h k l m n t) quiet =
    let read = qualified-read loose a b c pre build more ids builds m n t quiet in
    let third = third-read loose (may_stand loose) z pre (build ++ more) c ids l m (build-ends build more builds n quiet) in
    grind (arith, append_assoc, place-read)

-- ---- what is read is written

qualified-found : (loose : Bool) (a b c : Option ℕ) (x y z text : List ℕ) (p : Partial) (rest : List ℕ) → IsPlace loose x a → IsPlace loose y b
    → IsPlace loose z c → qualified_partial loose a b c text ≡ Some (p, rest) → At (IsPlaces loose) (x ++ 46 ∷ (y ++ 46 ∷ (z ++ text))) p rest
unfolding qualified_partial
qualified-found loose a b c x y z text p rest i j k h =
    let front = pre_front loose (is_none c) text in
    let last = build_front front.1 in
    elim (cases_Bool (may_stand loose front.0 && are_short_builds last.0)) [
      | inr other ↦ cc (rw other at h)
      | inl good ↦
          let parts = and_parts (may_stand loose front.0) (are_short_builds last.0) good in
          let f = pre-found loose (is_none c) (may_stand loose) text parts.0 in
          let g = build-found front.1 in
          let is = three x y z f.0 g.0 a b c _ _ i j k f.2 g.2 (rw g.3 parts.1) in
          let same : ◌≡◌ {A = Front Partial} (Some (partial_of a b c (listed front.0) (listed last.0), last.1)) (Some (p, rest)) = rw good at h in
          subst (λ (q : Partial × List ℕ). At (IsPlaces loose) (x ++ 46 ∷ (y ++ 46 ∷ (z ++ text))) q.0 q.1) (same_Some _ _ same) (record {
            piece = x ++ 46 ∷ (y ++ 46 ∷ (z ++ (f.0 ++ g.0)));
            split = ap (λ (t : List ℕ). x ++ 46 ∷ (y ++ 46 ∷ (z ++ t))) (f.1 ∙ ap (λ (t : List ℕ). f.0 ++ t) g.1) ∙ grind (arith, append_assoc);
            is = is;
          })
    ]

pub places-found : (loose : Bool) (text : List ℕ) (p : Partial) (rest : List ℕ) → places_front loose text ≡ Some (p, rest)
    → At (IsPlaces loose) text p rest
unfolding places_front dotted_place dotted_patch
places-found loose text p rest h =
    let a = bind_some (place_front loose text) _ (p, rest) h in
    let x = place-found loose text a.0.0 a.0.1 a.1 in
    elim (option-cases (dotted_place loose a.0.1)) [
      | inl none ↦
          let is : IsPlaces loose x.piece (partial_of a.0.0 None None [] []) = one x.piece a.0.0 x.is in
          grind arith
      | inr b ↦
          let y = dotted-found (IsPlace loose) (place_front loose) a.0.1 b.0.0 b.0.1 (λ t e. place-found loose t b.0.0 b.0.1 e) b.1 in
          let third = rw b.1 at a.2 in
          elim (option-cases (dotted_patch loose b.0.1)) [
            | inl none ↦
                let is : IsPlaces loose (x.piece ++ 46 ∷ y.0) (partial_of a.0.0 b.0.0 None [] []) = two x.piece y.0 a.0.0 b.0.0 x.is y.2 in
                grind (arith, append_assoc)
            | inr c ↦
                let z = dotted-found (IsPlace loose) (patch_place loose) b.0.1 c.0.0 c.0.1 (λ t e. patch-found loose t c.0.0 c.0.1 e) c.1 in
                let whole : x.piece ++ 46 ∷ (y.0 ++ 46 ∷ (z.0 ++ c.0.1)) ≡ text = cc (x.split, y.1, z.1) in
                subst (λ (t : List ℕ). At (IsPlaces loose) t p rest) whole
                (qualified-found loose a.0.0 b.0.0 c.0.0 x.piece y.0 z.0 c.0.1 p rest x.is y.2 z.2 (rw c.1 at third))
          ]
    ]

-- ---- places as the code has them

-- of a text that begins with no wildcard
pub place_run : (loose : Bool) (text : List ℕ) → begins_wildcard text ≡ false
    → place_front loose text ≡ run_place loose (take_while is_ascii_digit text) (drop (prefix_len is_ascii_digit text) text)
unfolding place_front
place_run loose text h = rw h refl

pub run-leading : (text : List ℕ) → has_leading_zero (take_while is_ascii_digit text) ≡ begins_padded text
run-leading text = grind (arith, nat_tests, common_steps)

-- a number up to the limit
pub number-valued : (loose : Bool) (text : List ℕ) (n : ℕ) (rest : List ℕ) → number_front MAX_SAFE_INTEGER text ≡ Some (n, rest)
    → (not loose && begins_padded text) ≡ false → (loose || nat_le (prefix_len is_ascii_digit text) 257) ≡ true
    → (place_front loose text ≡ Some (Some n, rest)) × (nat_le n MAX_SAFE_INTEGER ≡ true)
number-valued loose text n rest h spelled short =
    let f = number-found MAX_SAFE_INTEGER text n rest h in
    let same : IsNumber n f.run n = record { some = f.is.some; each = f.is.each; value = f.is.value; safe = omega arith } in
    let few : (loose || nat_le (length f.run) 257) ≡ true = grind (arith, digits-taken) in
    let place : IsPlace loose f.run (Some n) = Text.number f.run n same (grind (arith, nat_tests, padded-same)) few in
    (grind (arith, nat_tests, common_steps, place-read), grind (arith, nat_tests, f.is.safe))

-- without leading zeros
pub number-read : (loose : Bool) (text : List ℕ) (n : ℕ) (rest : List ℕ) → number_with false MAX_SAFE_INTEGER text ≡ Some (n, rest)
    → (place_front loose text ≡ Some (Some n, rest)) × (nat_le n MAX_SAFE_INTEGER ≡ true)
number-read loose text n rest h =
    let bare : begins_padded text ≡ false = grind (arith, strict_is) in
    let k : number_front MAX_SAFE_INTEGER text ≡ Some (n, rest) = grind (arith, strict_is) in
    let run = take_while is_ascii_digit text in
    let i = number-is MAX_SAFE_INTEGER run n (grind arith) in
    let short = number-short run n (i, run-leading text ∙ bare) in
    number-valued loose text n rest k (rw bare (and-false (not loose))) (grind (arith, nat_tests, short, length-prefix_len is_ascii_digit text))

pub wildcard_read : (loose : Bool) (text : List ℕ) → begins_wildcard text ≡ true → place_front loose text ≡ Some (None, drop 1 text)
unfolding place_front
wildcard_read loose text h = rw h refl

pub great_placed : (loose : Bool) (text : List ℕ) (at : ℕ) → number_front MAX_SAFE_INTEGER text ≡ None → begins_wildcard text ≡ false
    → (not loose && begins_padded text) ≡ false → at ≡ prefix_len is_ascii_digit text → 1 ≤ at → (loose || nat_le at 257) ≡ true
    → first_as capped_one (place_front loose text) ≡ Some (Some (MAX_SAFE_INTEGER + 1), take (length text - at) (drop at text))
unfolding number_of
great_placed loose text at front dark bare is first last =
    grind (arith, nat_tests, common_steps, place_run, run-leading, length-prefix_len, prefix_each, some-run, take_rest)

pub ruleset places_found = (number-read, wildcard_read)

pub ruleset padded_places = (number-valued, strict_is, run-leading, place_run, length-prefix_len, nat_tests)

-- ---- the third place

run-alone : (loose : Bool) (run rest : List ℕ) → list_all is_ascii_digit run ≡ true
    → run_place loose run rest ≡ (place_front loose run >>? λ p. Some (p.0, rest))
unfolding place_front
run-alone loose run rest h =
    let n : prefix_len is_ascii_digit run ≡ length run = rw append-nil at (digits-taken run [] h refl) in
    grind (arith, nat_tests, common_steps)

-- the last digit is not its own
pub patch_cut : (loose : Bool) (text : List ℕ) (at own : ℕ) (o : Front (Option ℕ)) → at ≡ prefix_len is_ascii_digit text
    → (loose && begins_byte 46 (drop at text)) ≡ true → own ≡ at - 1 → o ≡ first_as capped_one (place_front loose (take own text))
    → (o >>? λ p. Some (p.0, take (length text - own) (drop own text))) ≡ first_as capped_one (patch_place loose text)
unfolding patch_place
patch_cut loose text at own o e h less is = grind (arith, nat_tests, common_steps, prefix-of is_ascii_digit, run-alone, take_rest)

-- ---- partial versions as the code has them

-- what the code has at the front is of what stands there
pub front-as : {A : Type 0} (f : A → A) (o : Front A) (x : A × List ℕ) → Some x ≡ first_as f o → (v : A × List ℕ) × (o ≡ Some v) × (x ≡ (f v.0, v.1))
front-as f None x h = cc h
front-as f (Some v) x h = (v, refl, same_Some _ _ h)

pub front-none : {A : Type 0} (f : A → A) (o : Front A) → None ≡ first_as f o → o ≡ None
front-none f o h = grind arith

pub front-some : {A : Type 0} (f : A → A) (o : Front A) → is_none (first_as f o) ≡ is_none o
front-some f o = grind arith

of-capped : (a b c : Option ℕ) (l m : List Id)
    → partial_of (capped_one a) (capped_one b) (capped_one c) l m ≡ capped_partial (partial_of a b c l m)
of-capped a b c l m = grind (arith, nat_tests, common_steps)

qualified-capped : (loose : Bool) (a b c : Option ℕ) (text : List ℕ)
    → qualified_partial loose (capped_one a) (capped_one b) (capped_one c) text ≡ first_as capped_partial (qualified_partial loose a b c text)
unfolding qualified_partial
qualified-capped loose a b c text =
    let wild : is_none (capped_one c) ≡ is_none c = grind arith in rw wild (grind (arith, nat_tests, common_steps, of-capped))

-- the partial of no place, of one, and of more
module _ (loose : Bool) (text : List ℕ) where
  pub none-capped : None ≡ first_as capped_one (place_front loose text) → None ≡ first_as capped_partial (places_front loose text)
  unfolding places_front
  none-capped h = grind (arith, common_steps)

  pub one-capped : (a : Option ℕ) (rest : List ℕ) → Some (a, rest) ≡ first_as capped_one (place_front loose text)
      → None ≡ first_as capped_one (dotted_place loose rest)
      → Some (partial_of a None None [] [], rest) ≡ first_as capped_partial (places_front loose text)
  unfolding places_front
  one-capped a rest h k = grind (arith, nat_tests, common_steps, of-capped)

  pub more-capped : (a : Option ℕ) (rest : List ℕ) (b : Option ℕ) (more : List ℕ) → Some (a, rest) ≡ first_as capped_one (place_front loose text)
      → Some (b, more) ≡ first_as capped_one (dotted_place loose rest)
      → third_front loose a b more (first_as capped_one (dotted_patch loose more)) ≡ first_as capped_partial (places_front loose text)
  unfolding places_front
  more-capped a rest b more h k = grind (arith, nat_tests, common_steps, of-capped, qualified-capped)

-- ---- nothing stands behind the numbers

pub over_qualified : (loose : Bool) (a b c : Option ℕ) (text : List ℕ) → is_over text ≡ true
    → qualified_partial loose a b c text ≡ Some (partial_of a b c (listed []) (listed []), text)
unfolding qualified_partial pre_front pre_release_with build_front
over_qualified loose a b c text h = grind (arith, nat_tests, common_steps)
