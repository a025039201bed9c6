-- The tuple that `coerce` looks for: the longest at a place with what it goes on with, the leftmost and the one that ends last; and its version.
use Rattle.npm_words.proofs.Common.{Bool, Id, IfNone, IfSome, IsLastBefore, IsNumber, IsRun, IsTuple, List, MAX_LENGTH, MAX_SAFE_INTEGER, NoValue}
use Rattle.npm_words.proofs.Common.{None, Option, Some, VersionValue, [], ap, append-nil, append_assoc, arith, begins, bind_some, cases_Bool}
use Rattle.npm_words.proofs.Common.{cases_lt, common_steps, drop, drop-append-add, drop_at, ends, eqb-true, false, get_or, if◌then◌else◌, inl, inr}
use Rattle.npm_words.proofs.Common.{is_ascii_digit, length, length-append, length-prefix_len, length-take-le, list_all, listed, nat_le, nat_tests}
use Rattle.npm_words.proofs.Common.{number_front, number_with, option_map, prefix_len, refl, same_Some, subst, sym, take, take-append-drop, take_at}
use Rattle.npm_words.proofs.Common.{take_rest, true, tuple_len, tuple_release, ℕ, ◌++◌, ◌+◌, ◌-◌, ◌<◌, ◌==◌, ◌>>?◌, ◌∙◌, ◌∷◌, ◌≡◌, ◌≤◌}
use Rattle.npm_words.proofs.Grammar.{Characters.last-byte, PartialLaw.prefix-of, VersionLaw.{padded-same, strict-read}}
use Rattle.npm_words.{proofs.VersionTexts.Lists.{marked-found, marked-read}, specs.Coerced.{IsChosenFrom, IsCoerced, IsContinuedIn, IsMarkedList}}
use Rattle.npm_words.specs.{Coerced.{IsNumberIn, IsRelease, absent, marked, one, three, two, unmarked}, Internal.Tuples.{BeginsAfter, IsChosenPlace}}
use Rattle.npm_words.specs.Internal.Tuples.{absent_len, build_len, dotted_len, end_at, marked_len, pre_len, qualified, run_len, tuple_len_at}
use Rattle.{npm_words.specs.Internal.Tuples.version_front, semver_core.proofs.Reading.Numbers.{digits-taken, number-is, number-read, run-ends}}
use Rattle.{semver_core.proofs.Text.Pieces.rest_at, std.proofs.{Math.Seq.{drop-append_seam, take-append_seam}, lemmas.List.Sums.sum_by-append}}
use Rattle.std.specs.List.{count_by}
use Rattle.npm_words.specs.Coerced as Npm

-- ---- runs

-- a run at the front, and what stands behind it
record RunAt (text : List ℕ) : Type 0 where
  run : List ℕ
  rest : List ℕ
  split : text ≡ run ++ rest
  is : IsRun run
  ended : begins is_ascii_digit rest ≡ false

run-at : (text : List ℕ) → 0 < run_len text → RunAt text
run-at text some =
    let n = prefix_len is_ascii_digit text in
    let is : IsRun (take n text) = grind (arith, nat_tests, common_steps, length-prefix_len, prefix-of is_ascii_digit) in
    record { run = take n text; rest = drop n text; split = sym (take-append-drop n text); is = is; ended = run-ends text }

run-long : (a z : List ℕ) → IsRun a → begins is_ascii_digit z ≡ false → run_len (a ++ z) ≡ length a
run-long a z h stop = grind (arith, nat_tests, common_steps, digits-taken)

-- a dot and a run
dotted-at : (text : List ℕ) → 0 < dotted_len text → (rest : List ℕ) × (text ≡ 46 ∷ rest) × RunAt rest
dotted-at [] some = absurd (omega arith)
dotted-at (b ∷ text) some = (text, grind (arith, nat_tests, eqb-true), run-at text (grind (arith, nat_tests)))

-- ---- the longest tuple at the front

span-two : (a b z : List ℕ) → IsRun a → IsRun b → begins is_ascii_digit z ≡ false → tuple_len ((a ++ (46 ∷ b)) ++ z) ≡ length (a ++ (46 ∷ b)) + dotted_len z
unfolding tuple_len
span-two a b z h k stop = grind (arith, nat_tests, common_steps, append_assoc, run-long, drop_at, length-append, drop-append-add)

span-three : (a b c z : List ℕ) → IsRun a → IsRun b → IsRun c → begins is_ascii_digit z ≡ false
    → tuple_len ((a ++ (46 ∷ (b ++ (46 ∷ c)))) ++ z) ≡ length (a ++ (46 ∷ (b ++ (46 ∷ c))))
span-three a b c z h k m stop = let e = span-two a b (46 ∷ (c ++ z)) h k refl in grind (arith, nat_tests, common_steps, append_assoc, run-long, length-append)

-- none is longer than a tuple with no dot and run behind it
span : (y z : List ℕ) (runs : List (List ℕ)) → IsTuple y runs → begins is_ascii_digit z ≡ false
    → (0 < length y) × (length y ≤ tuple_len (y ++ z)) × (dotted_len z ≡ 0 → tuple_len (y ++ z) ≡ length y)
unfolding tuple_len
span y z runs (one a h) stop = grind (arith, nat_tests, common_steps, run-long, drop_at)
span y z runs (two a b h k) stop = grind (arith, span-two, length-append)
span y z runs (three a b c h k m) stop = grind (arith, span-three a b c z h k m stop, length-append)

record SpanAt (text : List ℕ) : Type 0 where
  tuple : List ℕ
  rest : List ℕ
  runs : List (List ℕ)
  split : text ≡ tuple ++ rest
  is : IsTuple tuple runs
  long : tuple_len text ≡ length tuple
  ended : begins is_ascii_digit rest ≡ false

whole-span : (y z : List ℕ) (runs : List (List ℕ)) → IsTuple y runs → begins is_ascii_digit z ≡ false → tuple_len (y ++ z) ≡ length y → SpanAt (y ++ z)
whole-span y z runs is stop e = record { tuple = y; rest = z; runs = runs; split = refl; is = is; long = e; ended = stop }

-- a tuple is the longest, or goes on with a dot and a run
longer-span : (y z : List ℕ) (runs : List (List ℕ)) → IsTuple y runs → begins is_ascii_digit z ≡ false
    → ((b v : List ℕ) → IsRun b → begins is_ascii_digit v ≡ false → SpanAt (y ++ (46 ∷ (b ++ v)))) → SpanAt (y ++ z)
longer-span y z runs is stop more = elim (cases_Bool (dotted_len z == 0)) [
  | inl none ↦ whole-span y z runs is stop ((span y z runs is stop).2 (grind (arith, nat_tests)))
  | inr some ↦ let d = dotted-at z (grind (arith, nat_tests)) in rw (d.1, d.2.split) (more d.2.run d.2.rest d.2.is d.2.ended)
]

span-at : (text : List ℕ) → 0 < tuple_len text → SpanAt text
unfolding tuple_len
span-at text some =
    let r = run-at text (grind (arith, nat_tests)) in
    let a = r.run in
    rw r.split (longer-span a r.rest (a ∷ []) (one a r.is) r.ended (λ b z k stop.
    rw (← (append_assoc a (46 ∷ b) z)) (longer-span (a ++ (46 ∷ b)) z (a ∷ b ∷ []) (two a b r.is k) stop (λ c v m quiet.
    let same : (a ++ (46 ∷ b)) ++ (46 ∷ (c ++ v)) ≡ (a ++ (46 ∷ (b ++ (46 ∷ c)))) ++ v = simp append_assoc in
    rw same (whole-span _ v (a ∷ b ∷ c ∷ []) (three a b c r.is k m) quiet (span-three a b c v r.is k m quiet))))))

-- ---- the longest tuple at a place

pub last_before : (text : List ℕ) (at d : ℕ) → 0 < at → at ≤ length text → is_ascii_digit (get_or text (at - 1) d) ≡ ends is_ascii_digit (take at text)
last_before text at d some fits =
    let long = length-take-le at text fits in
    rw (take-append-drop at text, long) at (last-byte is_ascii_digit (take at text) (drop at text) d (omega (arith, long, some)))

pub ruleset last_places = (last_before, take_rest)

-- ---- a tuple with what it goes on with

-- no dot begins a list with its mark
unmarked-dot : (included strict : Bool) (mark : ℕ) (p more : List ℕ) (l : List Id) → (mark == 46) ≡ false
    → IsMarkedList included strict mark p more l → 0 < dotted_len (p ++ more) → p ≡ []
unmarked-dot included strict mark p more l other h dot = grind (arith, nat_tests)

module _ {included : Bool} {text x y z : List ℕ} (is : IsContinuedIn included text x y z) where
  abbrev behind : List ℕ
  behind = is.pre ++ (is.build ++ z)

  there : drop (length x) text ≡ is.tuple ++ behind
  there = cc (is.found.divided, drop-append_seam x (is.tuple ++ behind))

  size : length y ≡ length is.tuple + (length is.pre + length is.build)
  size = simp length-append at (ap length is.joined)

  spanned : (0 < length is.tuple) × (length is.tuple ≤ tuple_len (is.tuple ++ behind))
      × (dotted_len behind ≡ 0 → tuple_len (is.tuple ++ behind) ≡ length is.tuple)
  spanned = span is.tuple behind is.found.runs is.found.is is.found.ended

  len-at : tuple_len_at text (length x) ≡ tuple_len (is.tuple ++ behind)
  len-at = grind (arith, nat_tests, common_steps, there)

  pre : (pre_len included behind ≡ length is.pre) × (listed (drop 1 is.pre) ≡ is.pre_ids)
  pre = marked-read included true 45 is.pre (is.build ++ z) is.pre_ids is.pre_is

  build : (marked_len included false 43 (is.build ++ z) ≡ length is.build) × (listed (drop 1 is.build) ≡ is.build_ids)
  build = marked-read included false 43 is.build z is.build_ids is.build_is

  -- what it goes on with is read, if its tuple is the longest there
  exact : tuple_len (is.tuple ++ behind) ≡ length is.tuple → end_at included text (length x) ≡ length x + length y
  exact e = grind (arith, nat_tests, len-at, spanned, rest_at text (length x) _ is.tuple behind there refl, pre, build, drop-append_seam, size)

  -- what is read there reaches as far or farther, and no farther only if its tuple is the longest there
  reaches : (length x + length y ≤ end_at included text (length x))
      × (end_at included text (length x) ≤ length x + length y → tuple_len (is.tuple ++ behind) ≡ length is.tuple)
  reaches = elim (cases_lt (length is.tuple) (tuple_len (is.tuple ++ behind))) [
    | inr le ↦ let e : tuple_len (is.tuple ++ behind) ≡ length is.tuple = omega (arith, le, spanned) in (omega (arith, exact e), λ _. e)
    | inl less ↦
        let dot : 0 < dotted_len behind = grind (arith, spanned.2) in
        let no_pre = unmarked-dot included true 45 is.pre (is.build ++ z) is.pre_ids refl is.pre_is dot in
        let no_build = unmarked-dot included false 43 is.build z is.build_ids refl is.build_is (rw no_pre at dot) in
        grind (arith, nat_tests, size, len-at)
  ]

  seen : (0 < length y) × (length text ≡ length x + (length y + length z)) × (0 < tuple_len_at text (length x))
  seen = (omega (arith, size, spanned), omega (arith, size, simp length-append at (ap length is.found.divided)), rw len-at (omega (arith, spanned)))

-- what is found at a place
pub record Place (included : Bool) (text : List ℕ) (at : ℕ) : Type 0 where
  pub front : List ℕ
  pub whole : List ℕ
  pub back : List ℕ
  pub is : IsContinuedIn included text front whole back
  pub here : length front ≡ at
  pub end : end_at included text (length front) ≡ length front + length whole

place : (included : Bool) (text : List ℕ) (at : ℕ) → at ≤ length text → 0 < tuple_len_at text at → Place included text at
place included text at inside some = elim (cases_Bool (ends is_ascii_digit (take at text))) [
  | inl digit ↦ absurd (omega (arith, rw digit at some))
  | inr dark ↦
      let s = span-at (drop at text) (rw dark at some) in
      let n = pre_len included s.rest in
      let left = drop n s.rest in
      let m = build_len included s.rest in
      let build = marked-found included false 43 left in
      let outer : take n s.rest ++ (take m left ++ drop m left) ≡ s.rest = rw (take-append-drop m left) (take-append-drop n s.rest) in
      let is : IsContinuedIn included text (take at text) (s.tuple ++ (take n s.rest ++ take m left)) (drop m left) = record {
        tuple = s.tuple;
        pre = take n s.rest;
        build = take m left;
        joined = refl;
        found = record {
          divided = rw outer (sym (take-append-drop at text) ∙ ap (λ (t : List ℕ). take at text ++ t) s.split);
          runs = s.runs;
          is = s.is;
          begun = dark;
          ended = rw outer s.ended;
        };
        pre_ids = listed (drop 1 (take n s.rest));
        pre_is = rw (take-append-drop m left) (marked-found included true 45 s.rest).0;
        build_ids = listed (drop 1 (take m left));
        build_is = build.0;
      } in
      record {
        front = take at text;
        whole = s.tuple ++ (take n s.rest ++ take m left);
        back = drop m left;
        is = is;
        here = length-take-le at text inside;
        end = exact is (rw (outer, ← s.split) s.long);
      }
]

-- ---- the leftmost, and the one that ends last

abbrev pub Chosen : Type 1
Chosen = Bool → List ℕ → List ℕ → List ℕ → List ℕ → Type 0

-- what is found at a place is chosen
abbrev pub Chooses : Chosen → Bool → List ℕ → ℕ → Type 0
Chooses C included text at = (p : Place included text at) × C included text p.front p.whole p.back

pub chosen : (included rtl : Bool) (text : List ℕ) (at : ℕ) → IsChosenPlace included rtl text at → Chooses (IsChosenFrom rtl) included text at
chosen included false text at h = let p = place included text at h.inside h.here in (
  p,
  record { first = λ x y z is. grind (arith, seen is, h.first (length x)); longest = λ x y z is same. omega (arith, same, rw same at (reaches is).0, p.end) },
)
chosen included true text at h =
    let some : 0 < end_at included text at = omega (arith, h.is.here, h.some) in
    let p = place included text at h.is.before (grind (arith, nat_tests)) in
    let end : length p.front + length p.whole ≡ h.end = sym p.end ∙ rw p.here (h.is.here h.some) in (
      p,
      record {
        last = λ x y z is. omega (arith, seen p.is, end, seen is, reaches is, h.is.last (length x));
        longest = λ x y z is same.
            let there : end_at included text (length x) ≡ h.end = omega (arith, same, seen p.is, end, seen is, reaches is, h.is.last (length x)) in
            omega (arith, same, seen p.is, end, p.here, seen is, h.is.longest (length x), h.some, there);
      },
    )

-- ---- the numbers of a tuple

front-found : (limit : ℕ) (a rest : List ℕ) (n : ℕ) (r : List ℕ) → IsRun a → begins is_ascii_digit rest ≡ false
    → number_front limit (a ++ rest) ≡ Some (n, r) → IsNumber limit a n × (r ≡ rest)
front-found limit a rest n r h stop e = grind (arith, nat_tests, common_steps, digits-taken, take_at, drop_at, same_Some, number-is)

number-found : (zeros : Bool) (a rest : List ℕ) (n : ℕ) (r : List ℕ) → IsRun a → begins is_ascii_digit rest ≡ false
    → number_with zeros MAX_SAFE_INTEGER (a ++ rest) ≡ Some (n, r) → IsNumberIn zeros a n × (r ≡ rest)
unfolding number_with
number-found true a rest n r h stop e = front-found MAX_SAFE_INTEGER a rest n r h stop e
number-found false a rest n r h stop e = grind (arith, nat_tests, padded-same a rest h.each stop, front-found MAX_SAFE_INTEGER a rest n r h stop)

number-reads : (zeros : Bool) (a rest : List ℕ) (n : ℕ) → IsNumberIn zeros a n → begins is_ascii_digit rest ≡ false
    → number_with zeros MAX_SAFE_INTEGER (a ++ rest) ≡ Some (n, rest)
unfolding number_with
number-reads true = number-read MAX_SAFE_INTEGER
number-reads false = strict-read MAX_SAFE_INTEGER

-- ---- the release of a tuple

-- a number at the front, and what is read behind it
number-first : (zeros : Bool) (t a rest : List ℕ) (v : VersionValue) (f : ℕ × List ℕ → Option VersionValue) → t ≡ a ++ rest → IsRun a
    → begins is_ascii_digit rest ≡ false → (number_with zeros MAX_SAFE_INTEGER t >>? f) ≡ Some v
    → (n : ℕ) × IsNumberIn zeros a n × (f (n, rest) ≡ Some v)
number-first zeros t a rest v f same h stop e = grind (arith, nat_tests, common_steps, bind_some, number-found)

release-found : (zeros : Bool) (t : List ℕ) (runs : List (List ℕ)) (v : VersionValue) → IsTuple t runs
    → tuple_release zeros MAX_SAFE_INTEGER t ≡ Some v → IsRelease (IsNumberIn zeros) runs v
unfolding tuple_release
release-found zeros t runs v (Npm.one a h) e =
    let x = number-first zeros a a [] v _ (sym (append-nil a)) h refl e in
    subst (λ (w : VersionValue). IsRelease (IsNumberIn zeros) runs w) (same_Some _ _ x.2) (Npm.one a x.0 x.1)
release-found zeros t runs v (Npm.two a b h k) e =
    let x = number-first zeros _ a (46 ∷ b) v _ refl h refl e in
    let y = number-first zeros b b [] v _ (sym (append-nil b)) k refl x.2 in
    subst (λ (w : VersionValue). IsRelease (IsNumberIn zeros) runs w) (same_Some _ _ y.2) (Npm.two a b x.0 y.0 x.1 y.1)
release-found zeros t runs v (Npm.three a b c h k m) e =
    let x = number-first zeros _ a (46 ∷ (b ++ (46 ∷ c))) v _ refl h refl e in
    let y = number-first zeros _ b (46 ∷ c) v _ refl k refl x.2 in
    let z = number-first zeros c c [] v _ (sym (append-nil c)) m refl y.2 in
    subst (λ (w : VersionValue). IsRelease (IsNumberIn zeros) runs w) (same_Some _ _ z.2) (Npm.three a b c x.0 y.0 z.0 x.1 y.1 z.1)

release-read : (zeros : Bool) (t : List ℕ) (runs : List (List ℕ)) (v : VersionValue) → IsTuple t runs
    → IsRelease (IsNumberIn zeros) runs v → tuple_release zeros MAX_SAFE_INTEGER t ≡ Some v
unfolding tuple_release
release-read zeros t runs v (Npm.one a h) (Npm.one _ x p) = rw (rw (append-nil a) at (number-reads zeros a [] x p refl)) refl
release-read zeros t runs v (Npm.two a b h k) (Npm.two _ _ x y p q) =
    grind (arith, number-reads zeros a (46 ∷ b) x p refl, rw (append-nil b) at (number-reads zeros b [] y q refl))
release-read zeros t runs v (Npm.three a b c h k m) (Npm.three _ _ _ x y z p q r) =
    grind (arith, number-reads, rw (append-nil c) at (number-reads zeros c [] z r refl))

-- ---- the version of a continued tuple

dots-none : (a : List ℕ) → list_all is_ascii_digit a ≡ true → count_by (λ c. c == 46) a ≡ 0
dots-none [] h = refl
dots-none (c ∷ a) h = grind (arith, nat_tests, common_steps, dots-none a)

absent-len : (t : List ℕ) (runs : List (List ℕ)) → IsTuple t runs → length (absent runs) ≡ absent_len t
absent-len t runs h = grind (arith, nat_tests, common_steps, dots-none, sum_by-append)

module _ {included : Bool} {text x y z : List ℕ} (is : IsContinuedIn included text x y z) (zeros : Bool) where
  version-is : tuple_len (is.tuple ++ behind is) ≡ length is.tuple
      → version_front included zeros MAX_SAFE_INTEGER (drop (length x) text)
      ≡ (if nat_le (length (is.tuple ++ (absent is.found.runs ++ (is.pre ++ is.build)))) MAX_LENGTH
      then option_map (qualified is.pre_ids is.build_ids) (tuple_release zeros MAX_SAFE_INTEGER is.tuple) else None)
  unfolding version_front
  version-is e =
      let short : length (is.tuple ++ behind is) - length z + absent_len is.tuple
      ≡ length (is.tuple ++ (absent is.found.runs ++ (is.pre ++ is.build))) =
      simp length-append (omega (arith, absent-len is.tuple is.found.runs is.found.is)) in
      simp (there is, e, take-append_seam, drop-append_seam, (pre is).0, (build is).0, short, (pre is).1, (build is).1)

-- ---- the version that is looked for

mapped : (f : VersionValue → VersionValue) (o : Option VersionValue) (v : VersionValue) → option_map f o ≡ Some v
    → (r : VersionValue) × (o ≡ Some r) × (v ≡ f r)
mapped f o v e = grind arith

-- all that is chosen begins at one place, and reaches as far as anything there
pub record IsSettled (C : Chosen) : Type 0 where
  pub place : (included : Bool) (text f g h x y z : List ℕ) → IsContinuedIn included text f g h → C included text f g h
      → IsContinuedIn included text x y z → C included text x y z
      → (length f ≡ length x) × (end_at included text (length x) ≤ length x + length y)

module _ (included zeros : Bool) (C : Chosen) (text : List ℕ) where
  abbrev pub Is : VersionValue → Type 0
  Is = IsCoerced included C (IsNumberIn zeros) text

  abbrev pub found-at : ℕ → Option VersionValue
  found-at at = version_front included zeros MAX_SAFE_INTEGER (drop at text)

  -- a version that is looked for is read where it stands
  coerced-read : IsSettled C → (v : VersionValue) (w : Is v) → found-at (length w.front) ≡ Some v
  coerced-read s v w =
      let longest = (reaches w.found).1 (s.place included text _ _ _ _ _ _ w.found w.chosen w.found w.chosen).1 in
      let release = release-read zeros w.found.tuple w.found.found.runs w.release w.found.found.is w.numbers in
      rw (version-is w.found zeros longest, release) (grind (arith, nat_tests, w.short, w.is))

  coerced-found : (at : ℕ) → Chooses C included text at → (v : VersionValue) → found-at at ≡ Some v → Is v
  coerced-found at h v e =
      let is = h.0.is in
      let read = rw (← h.0.here, version-is is zeros ((reaches is).1 (omega (arith, h.0.end)))) at e in
      elim (cases_Bool (nat_le (length (is.tuple ++ (absent is.found.runs ++ (is.pre ++ is.build)))) MAX_LENGTH)) [
        | inr over ↦ cc (rw over at read)
        | inl short ↦
            let r = mapped (qualified is.pre_ids is.build_ids) (tuple_release zeros MAX_SAFE_INTEGER is.tuple) v (rw short at read) in
            record {
              front = h.0.front;
              whole = h.0.whole;
              back = h.0.back;
              found = is;
              chosen = h.1;
              release = r.0;
              numbers = release-found zeros is.tuple is.found.runs r.0 is.found.is r.1;
              is = r.2;
              short = grind (arith, nat_tests);
            }
      ]

-- ---- at most one version is found

-- what stands at the place of another
beside : {included : Bool} {text x y z : List ℕ} → IsContinuedIn included text x y z → Place included text (length x)
beside is = place _ _ _ (omega (arith, seen is)) (seen is).2

pub settled : (rtl : Bool) → IsSettled (IsChosenFrom rtl)
settled false = record {
  place = λ included text f g h x y z of c is d.
      let p = beside is in
      (omega (arith, c.first x y z is, d.first f g h of), omega (arith, p.here, rw p.here at p.end, d.longest p.front p.whole p.back p.is));
}
settled true = record {
  place = λ included text f g h x y z of c is d.
      let p = beside is in (
        omega (arith, c.last x y z is, d.last f g h of, c.longest x y z is, d.longest f g h of, seen of, seen is),
        omega (arith, p.here, rw p.here at p.end, d.last p.front p.whole p.back p.is, seen is, seen p.is),
      );
}

pub coerced-once : (included zeros : Bool) (C : Chosen) (text : List ℕ) (v w : VersionValue) → IsSettled C
    → IsCoerced included C (IsNumberIn zeros) text v → IsCoerced included C (IsNumberIn zeros) text w → v ≡ w
coerced-once included zeros C text v w s h k =
    let same = (s.place included text _ _ _ _ _ _ h.found h.chosen k.found k.chosen).0 in
    same_Some _ _ (sym (rw same at (coerced-read included zeros C text s v h)) ∙ coerced-read included zeros C text s w k)

-- ---- what the code returns, over the bytes of the text

module _ (included zeros : Bool) (C : Chosen) (text bytes : List ℕ) where
  pub coerced : IsSettled C → (o : Option VersionValue) (at : ℕ) → bytes ≡ text → Chooses C included bytes at
      → o ≡ version_front included zeros MAX_SAFE_INTEGER (take (length bytes - at) (drop at bytes))
      → IfSome o (Is included zeros C text) × IfNone o (NoValue (Is included zeros C text))
  coerced s (Some v) at same h e = (rw (← same) (coerced-found included zeros C bytes at h v (rw (take_rest bytes at) at (sym e))), tt)
  coerced s None at same h e = (
    tt,
    rw (← same) (λ v w.
        let none = rw (take_rest bytes at, ← h.0.here, (s.place included bytes _ _ _ _ _ _ h.0.is h.1 w.found w.chosen).0) at e in
        cc (none ∙ coerced-read included zeros C bytes s v w)),
  )

  -- where there is no tuple, nothing is found
  pub coerced_absent : (o : Option VersionValue) → bytes ≡ text → BeginsAfter bytes (length bytes) → IfNone o (NoValue (Is included zeros C text))
  coerced_absent (Some v) same h = tt
  coerced_absent None same h = rw (← same) (λ v w. absurd (omega (arith, seen w.found, h (length w.front))))

pub ruleset absents = (coerced_absent)
