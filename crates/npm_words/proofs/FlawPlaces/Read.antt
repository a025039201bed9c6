-- A text is read to its end, character by character, exactly if it is a version; and what is read of a text goes on to a version.
use Rattle.npm_words.proofs.Common.{Bool, Build, Dash, Digit, Id, IsFront, IsSpelled, IsStrictBuild, IsStrictNumber, IsStrictPreRelease}
use Rattle.npm_words.proofs.Common.{IsStrictVersion, IsTrim, List, None, Number, Option, Padded, Plus, PreRelease, Some, State, VersionValue, Zero}
use Rattle.npm_words.proofs.Common.{[], all_weaker, and_parts, ap, append_assoc, arith, begins, begins_identifier, bind_some, build_front, cases_Bool}
use Rattle.npm_words.proofs.Common.{common_steps, digit_value, digits_grow, digits_value, digits_value_after, drop, encode_ascii, encode_utf8_all}
use Rattle.npm_words.proofs.Common.{encodes_same, eqb-true, false, has_leading_zero, if◌then◌else◌, inl, inr, is_ascii_digit, is_empty}
use Rattle.npm_words.proofs.Common.{is_identifier_char, is_some, is_strict_identifier, is_strict_list, is_whitespace, is_whole, list_all, list_len}
use Rattle.npm_words.proofs.Common.{listed, nat_le, nat_tests, next, not, onto_first, pieces, pre_front, pre_release_front, pre_release_with}
use Rattle.npm_words.proofs.Common.{prefix_len, refl, run, runs_tail, same_Some, suc, sym, take, take-append-drop, take_while, true, zero, ℕ, ◌&&◌}
use Rattle.npm_words.proofs.{Common.{◌*◌, ◌++◌, ◌+◌, ◌<◌, ◌==◌, ◌>>?◌, ◌||◌, ◌∙◌, ◌∷◌, ◌≡◌, ◌≤◌, ◌⊎◌}, Grammar.VersionLaw.{build-ends, build-found}}
use Rattle.npm_words.{proofs.Grammar.VersionLaw.{build-taken, dashed-found, pre-follows, pre-taken}, specs.{Grammar.written, Internal.States.ended}}
use Rattle.{npm_words.specs.declared.flaws.State.TheVariants.{End, Start}, semver_core.proofs.Reading.Bytes.{all-join, is_solid}}
use Rattle.semver_core.{proofs.Text.{Listed.plain_runs, Runs.{prefix_each, prefix_ends}}, specs.Internal.CommonReading.is_plain}
use Rattle.std.{proofs.lemmas.List.reverse-append, specs.Prelude.reverse}

-- ---- the characters of a version are bytes

pub plain-encodes : (cs : List ℕ) → list_all is_plain cs ≡ true → encode_utf8_all cs ≡ cs
plain-encodes [] h = refl
plain-encodes (c ∷ cs) h = grind (arith, nat_tests, common_steps, and_parts, encode_ascii, plain-encodes cs)

qualified-plain : (p b : List ℕ) (l m : List Id) → IsStrictPreRelease p l → IsStrictBuild b m → list_all is_plain (p ++ b) ≡ true
qualified-plain p b l m h k = grind (arith, nat_tests, common_steps, plain_runs, runs_tail, all-join)

pub plain-middle : (limit : ℕ) (middle : List ℕ) (v : VersionValue) → IsStrictVersion limit middle v → list_all is_plain middle ≡ true
plain-middle limit middle v (written s x y z t u w m i j k p q) = grind (arith, nat_tests, common_steps, all_weaker, all-join, qualified-plain)

plain-dark : (cs : List ℕ) → list_all is_plain cs ≡ true → begins is_whitespace cs ≡ false
plain-dark cs h = grind (arith, nat_tests, common_steps)

plain-reverse : (cs : List ℕ) → list_all is_plain cs ≡ true → list_all is_plain (reverse cs) ≡ true
plain-reverse [] h = refl
plain-reverse (c ∷ cs) h = grind (arith, nat_tests, common_steps, and_parts, reverse-append, plain-reverse cs)

pub plain-trim : (w x r : List ℕ) → list_all is_whitespace w ≡ true → list_all is_plain x ≡ true → list_all is_whitespace r ≡ true
    → IsTrim (encode_utf8_all (w ++ (x ++ r))) x
plain-trim w x r before h after = grind (arith, nat_tests, common_steps, plain-encodes, plain-dark, plain-reverse)

-- ---- texts that are read to their end

abbrev ends_whole : Option State → Bool
ends_whole None = false
ends_whole (Some s) = is_whole s

abbrev blank : List ℕ → Bool
blank text = list_all is_whitespace text

-- an identifier may end so behind what is read of it
abbrev may_end : State → List ℕ → Bool
may_end Zero rest = is_empty rest || not (list_all is_ascii_digit rest)
may_end Padded rest = not (list_all is_ascii_digit rest)
may_end s rest = true

-- the first piece is such an end, and the others have no leading zeros
abbrev fit : State → List (List ℕ) → Bool
fit s [] = may_end s []
fit s (p ∷ ps) = may_end s p && list_all is_strict_identifier ps

-- with a character more before the first piece
onto : (c : ℕ) (ps : List (List ℕ)) → (list_all is_strict_identifier (onto_first c ps) ≡ (if c == 48 then fit Zero ps else fit PreRelease ps))
    × (fit Zero (onto_first c ps) ≡ (if is_ascii_digit c then fit Padded ps else fit PreRelease ps))
    × (fit Padded (onto_first c ps) ≡ (if is_ascii_digit c then fit Padded ps else fit PreRelease ps))
    × (fit PreRelease (onto_first c ps) ≡ fit PreRelease ps)
onto c ps = grind (arith, nat_tests, common_steps)

-- digits that are a number
abbrev is_number : ℕ → List ℕ → Bool
is_number limit ds = not (is_empty ds) && (not (has_leading_zero ds) && nat_le (digits_value 10 ds) limit)

-- the longest front of which a test is true
divides : (p : ℕ → Bool) (cs : List ℕ) → (x : List ℕ) × (r : List ℕ) × (cs ≡ x ++ r) × (list_all p x ≡ true) × (begins p r ≡ false)
divides p cs = (take_while p cs, drop (prefix_len p cs) cs, sym (take-append-drop (prefix_len p cs) cs), prefix_each p cs, prefix_ends p cs)

module _ (limit : ℕ) where
  -- the text is read to its end, and is a version
  abbrev pub is_read : State → List ℕ → Bool
  is_read s text = ends_whole (run limit s text)

  abbrev pub Whole : State → List ℕ → Type 0
  Whole s text = is_read s text ≡ true

  -- what is read of a front is read further
  run-then : (s t : State) (xs ys : List ℕ) → run limit s xs ≡ Some t → run limit s (xs ++ ys) ≡ run limit t ys
  unfolding run
  run-then s t [] ys h = ap (λ u. run limit u ys) (same_Some s t h)
  run-then s t (c ∷ xs) ys h = let b = bind_some (next limit s c) _ t h in rw b.1 (run-then b.0 t xs ys b.2)

  pub run-more : (s t : State) (c : ℕ) (xs : List ℕ) → run limit Start xs ≡ Some s → next limit s c ≡ Some t → run limit Start (xs ++ c ∷ []) ≡ Some t
  unfolding run
  run-more s t c xs h k = run-then Start s xs (c ∷ []) h ∙ rw k refl

  -- ---- whitespace

  spaces-start : (w cs : List ℕ) → blank w ≡ true → is_read Start (w ++ cs) ≡ is_read Start cs
  unfolding run next
  spaces-start [] cs h = refl
  spaces-start (c ∷ w) cs h = grind (arith, and_parts, spaces-start w cs)

  spaces-end : (cs : List ℕ) → is_read End cs ≡ blank cs
  unfolding run next
  spaces-end [] = refl
  spaces-end (c ∷ cs) = grind (arith, spaces-end cs)

  -- ---- build metadata

  -- behind a character of an identifier, and behind `+` or a dot
  builds : (x : List ℕ) → (is_read Build x ≡ blank (drop (list_len x) x)) × (is_read Plus x ≡ (begins_identifier x && blank (drop (list_len x) x)))
  unfolding run next list_len
  builds [] = (refl, refl)
  builds (c ∷ x) =
      let later = builds x in
      let e : 1 + list_len x ≡ suc (list_len x) = omega arith in (grind (arith, nat_tests, later, spaces-end x), grind (arith, later))

  -- where no identifier goes on
  ended-read : (c : ℕ) (x : List ℕ) → ends_whole (ended c >>? λ t. run limit t x) ≡ blank (build_front (c ∷ x)).1
  unfolding build_front
  ended-read c x = grind (arith, nat_tests, builds x, spaces-end x)

  -- ---- pre-releases

  abbrev ReadAs : State → List ℕ → Type 0
  ReadAs s x = is_read s x ≡ (fit s (pieces (take (list_len x) x)) && blank (build_front (drop (list_len x) x)).1)

  -- behind `-` or a dot, and behind some characters of an identifier
  identifiers : (x : List ℕ)
      → (is_read Dash x ≡ (begins_identifier x && (is_strict_list (take (list_len x) x) && blank (build_front (drop (list_len x) x)).1)))
      × ReadAs Zero x × ReadAs Padded x × ReadAs PreRelease x
  unfolding run next list_len build_front
  identifiers [] = (refl, refl, refl, refl)
  identifiers (c ∷ x) =
      let later = identifiers x in
      let e : 1 + list_len x ≡ suc (list_len x) = omega arith in
      elim (cases_Bool (is_identifier_char c)) [
        | inl letter ↦
            let on = onto c (pieces (take (list_len x) x)) in
            let apart : (c == 46) ≡ false = grind (arith, nat_tests, letter) in
            rw (letter, e, apart) (
              rw on.0 (grind (arith, later.1, later.3)),
              rw on.1 (grind (arith, later.2, later.3)),
              rw on.2 (grind (arith, later.2, later.3)),
              rw on.3 later.3,
            )
        | inr other ↦ elim (cases_Bool (c == 46)) [
          | inr apart ↦
              let digit : is_ascii_digit c ≡ false = grind (arith, nat_tests, other) in
              rw (other, apart, digit) (grind (arith, nat_tests), ended-read c x, refl, ended-read c x)
          | inl dot ↦ rw (eqb-true c 46 dot) (grind (arith, later.0, e))
        ]
      ]

  -- behind the numbers
  qualified : (x : List ℕ) → is_read (Number 0 0) x ≡ (is_strict_list (pre_release_with true x).0 && blank (build_front (pre_release_with true x).1).1)
  unfolding run next pre_release_with pre_release_front build_front
  qualified [] = refl
  qualified (d ∷ x) = grind (arith, nat_tests, ended-read d x, identifiers x)

  -- ---- numbers

  no-digit : (left n : ℕ) (r : List ℕ) → begins is_ascii_digit r ≡ false → is_read (Number left n) r ≡ is_read (Number left 0) r
  unfolding run next
  no-digit left n r stop = grind (arith, nat_tests)

  digits-on : (left v : ℕ) (ds r : List ℕ) → list_all is_ascii_digit ds ≡ true → begins is_ascii_digit r ≡ false → 0 < v → v ≤ limit
      → is_read (Number left v) (ds ++ r) ≡ (nat_le (digits_value_after 10 v ds) limit && is_read (Number left 0) r)
  unfolding run next
  digits-on left v [] r each stop some safe = grind (arith, nat_tests, no-digit)
  digits-on left v (c ∷ ds) r each stop some safe = grind (arith, nat_tests, common_steps, and_parts, digits_grow, digits-on left (v * 10 + digit_value c) ds r)

  number-on : (left : ℕ) (ds r : List ℕ) → 9 ≤ limit → list_all is_ascii_digit ds ≡ true → begins is_ascii_digit r ≡ false
      → is_read (Digit left) (ds ++ r) ≡ (is_number limit ds && is_read (Number left 0) r)
  unfolding run next
  number-on left [] r nine each stop = grind (arith, nat_tests)
  number-on left (c ∷ ds) r nine each stop =
      let first : 0 * 10 + digit_value c ≡ digit_value c = omega arith in
      grind (arith, nat_tests, and_parts, no-digit, digits-on left (digit_value c) ds r)

  number-found : (left : ℕ) (text : List ℕ) → 9 ≤ limit → Whole (Digit left) text
      → (ds : List ℕ) × (n : ℕ) × (r : List ℕ) × (text ≡ ds ++ r) × IsStrictNumber limit ds n × Whole (Number left 0) r
  number-found left text nine h =
      let d = divides is_ascii_digit text in
      let p = and_parts (is_number limit d.0) _ (sym (number-on left d.0 d.1 nine d.3 d.4) ∙ rw d.2 at h) in
      (d.0, digits_value 10 d.0, d.1, d.2, grind (arith, nat_tests), p.1)

  dot-found : (left : ℕ) (text : List ℕ) → Whole (Number (suc left) 0) text → (r : List ℕ) × (text ≡ 46 ∷ r) × Whole (Digit left) r
  unfolding run next
  dot-found left [] h = absurd (grind (arith, nat_tests))
  dot-found left (c ∷ r) h = grind (arith, nat_tests, common_steps)

  number-read : (less left n : ℕ) (ds r : List ℕ) → 9 ≤ limit → less ≤ limit → IsStrictNumber less ds n → begins is_ascii_digit r ≡ false
      → is_read (Digit left) (ds ++ r) ≡ is_read (Number left 0) r
  number-read less left n ds r nine le h stop = rw (number-on left ds r nine h.0.each stop) (grind (arith, nat_tests))

  -- ---- what is written is read, also with a greater limit

  start-read : (less n : ℕ) (mark ds r : List ℕ) → (mark ≡ []) ⊎ (mark ≡ 118 ∷ []) → IsStrictNumber less ds n
      → is_read Start (mark ++ (ds ++ r)) ≡ is_read (Digit 2) (ds ++ r)
  unfolding run next
  start-read less n mark ds r m h = grind (arith, nat_tests, common_steps)

  version-read : (less : ℕ) (middle r : List ℕ) (v : VersionValue) → 9 ≤ limit → less ≤ limit → blank r ≡ true → IsStrictVersion less middle v
      → Whole Start (middle ++ r)
  unfolding run next pre_front
  version-read less middle r v nine le after (written mark x y z pre build w m i j k p q) =
      let e : begins is_solid r ≡ false = grind (arith, nat_tests) in
      let ends = build-ends build r w.build q e in
      let quiet : begins is_ascii_digit (pre ++ (build ++ r)) ≡ false =
      grind (arith, pre-follows false is_strict_list pre (build ++ r) w.pre_release p ends) in
      let front = pre-taken false false is_strict_list pre (build ++ r) w.pre_release refl p ends in
      let c : Whole (Number 0 0) (pre ++ (build ++ r)) = qualified (pre ++ (build ++ r)) ∙ rw (front.1, front.3, (build-taken build r w.build q e).0) after in
      simp append_assoc (start-read less _ mark x _ m i ∙ number-read less 2 _ x (46 ∷ _) nine le i refl ∙ number-read less 1 _ y (46 ∷ _) nine le j refl
      ∙ number-read less 0 _ z _ nine le k quiet ∙ c)

  pub spelled-read : (less : ℕ) (cs : List ℕ) → 9 ≤ limit → less ≤ limit → IsSpelled less (encode_utf8_all cs) → Whole Start cs
  spelled-read less cs nine le h =
      let t = h.trimmed in
      let middle = encodes_same h.middle t.characters (plain-encodes h.middle (plain-middle less h.middle h.version h.is) ∙ t.middle_is) in
      rw (encodes_same cs (t.before ++ (t.characters ++ t.after)) t.divided, ← middle)
      (spaces-start t.before (h.middle ++ t.after) t.blank_before ∙ version-read less h.middle t.after h.version nine le t.blank_after h.is)

  -- ---- what is read is written

  start-found : (text : List ℕ) → begins is_whitespace text ≡ false → Whole Start text
      → (mark : List ℕ) × (r : List ℕ) × (text ≡ mark ++ r) × ((mark ≡ []) ⊎ (mark ≡ 118 ∷ [])) × Whole (Digit 2) r
  unfolding run next
  start-found [] dark h = cc h
  start-found (c ∷ text) dark h = elim (cases_Bool (c == 118)) [
    | inl mark ↦ (118 ∷ [], text, ap (λ (b : ℕ). b ∷ text) (eqb-true c 118 mark), inr refl, rw (dark, mark) at h)
    | inr other ↦ ([], c ∷ text, refl, inl refl, rw (dark, other) at h)
  ]

  pub read-spelled : (cs : List ℕ) → 9 ≤ limit → Whole Start cs → IsSpelled limit (encode_utf8_all cs)
  read-spelled cs nine h =
      let s = divides is_whitespace cs in
      let m = start-found s.1 s.4 (sym (spaces-start s.0 s.1 s.3) ∙ rw s.2 at h) in
      let x = number-found 2 m.1 nine m.4 in
      let d = dot-found 1 x.2 x.5 in
      let y = number-found 1 d.0 nine d.2 in
      let f = dot-found 0 y.2 y.5 in
      let z = number-found 0 f.0 nine f.2 in
      let c = pre_release_with true z.2 in
      let b = build_front c.1 in
      let e = and_parts (is_strict_list c.0) _ (sym (qualified z.2) ∙ z.5) in
      let p = dashed-found false false is_strict_list z.2 e.0 in
      let q = build-found c.1 in
      let v : VersionValue = record { major = x.1; minor = y.1; patch = z.1; pre_release = listed c.0; build = listed b.0 } in
      let middle : List ℕ = m.0 ++ (x.0 ++ 46 ∷ (y.0 ++ 46 ∷ (z.0 ++ (p.0 ++ q.0)))) in
      let is : IsStrictVersion limit middle v = written m.0 x.0 y.0 z.0 p.0 q.0 v m.3 x.4 y.4 z.4 p.2 q.2 in
      let whole : cs ≡ s.0 ++ (middle ++ b.1) = grind (arith, append_assoc) in
      rw whole (record { version = v; middle = middle; trimmed = plain-trim s.0 middle b.1 s.3 (plain-middle limit middle v is) e.1; is = is })

  -- ---- what is read goes on to a version

  -- what is written behind a number
  numbers : (left n : ℕ) → (more : List ℕ) × Whole (Number left n) more
  unfolding run next
  numbers zero n = ([], refl)
  numbers (suc k) n = let f = numbers k 0 in (46 ∷ 48 ∷ f.0, f.1)

  finish : (s : State) → (more : List ℕ) × Whole s more
  unfolding run next
  finish Start = let f = numbers 2 0 in (48 ∷ f.0, f.1)
  finish (Digit left) = let f = numbers left 0 in (48 ∷ f.0, f.1)
  finish (Number left n) = numbers left n
  finish Dash = (97 ∷ [], refl)
  finish Padded = (97 ∷ [], refl)
  finish Plus = (97 ∷ [], refl)
  finish s = ([], refl)

  pub read-front : (before : List ℕ) (s : State) → 9 ≤ limit → run limit Start before ≡ Some s → IsFront limit before
  read-front before s nine h = let f = finish s in (f.0, read-spelled (before ++ f.0) nine (ap ends_whole (run-then Start s before f.0 h) ∙ f.1))

  -- and what is not read does not
  pub front-goes : (before : List ℕ) (s : State) (c : ℕ) (rest : List ℕ) → run limit Start before ≡ Some s → Whole Start (before ++ c ∷ rest)
      → is_some (next limit s c) ≡ true
  unfolding run
  front-goes before s c rest h w = let k = rw (run-then Start s before (c ∷ rest) h) at w in grind (arith, nat_tests)
