-- Hyphen ranges of node-semver's range texts: the functions that read them find exactly what the statement has, and the code those whose
-- numbers that count are up to the limit.
use Rattle.npm_words.proofs.Common.{AreMarks, AreWords, Bool, Comparison, Ended, Id, IsEnd, IsHyphen, IsPlaces, IsStrictBuild, IsUtf8, IsWord, List}
use Rattle.npm_words.proofs.Common.{MAX_SAFE_INTEGER, Option, Some, VersionValue, [], after_byte, after_ends, all_weaker, and_parts, ap, append_assoc}
use Rattle.npm_words.proofs.Common.{ap₂, are_marks, are_normal, are_whole_marks, arith, begins, bind_some, capped_in, capped_partial, cases_Bool}
use Rattle.npm_words.proofs.Common.{common_steps, compared, cond_some, drop, drop_at, drop_ends, drop_spaces, empty_is, encode_utf8, encode_utf8_all}
use Rattle.npm_words.proofs.Common.{end_front, ended_as, false, first_as, get_or, hyphen_ends, hyphen_of, if◌then◌else◌, inl, inr, is_empty, is_free}
use Rattle.npm_words.proofs.Common.{is_free_lower, is_free_upper, is_mark, is_right, is_right_end, is_valid, is_whitespace, last_end, last_marks}
use Rattle.npm_words.proofs.Common.{le-ltb, len_utf8, len_utf8_bounds, length, length-append, length-drop, length-encode, list_all, list_all-append}
use Rattle.npm_words.proofs.Common.{lower_of, lt-ltb, nat_tests, not, prefix_len, refl, same_Some, space_len, space_len-nil, subst, suc, sym, take}
use Rattle.npm_words.proofs.Common.{true, upper_of, zero, ℕ, ◌&&◌, ◌++◌, ◌+◌, ◌-◌, ◌<◌, ◌==◌, ◌>>?◌, ◌||◌, ◌∙◌, ◌∷◌, ◌≡◌, ◌≤◌}
use Rattle.npm_words.proofs.Grammar.{Characters.{is_signal, sign-signal}, PartialLaw.{boundary-quiet, front-text, places-found, places-read}}
use Rattle.npm_words.proofs.Grammar.{Printed.{capped-valid, lower-invalid, upper-invalid, valid-same}, Runs.{encoded-all, run-exact}, Signs.marks-all}
use Rattle.npm_words.{proofs.Grammar.Words.{marks-dropped, places-begin}, specs.{Grammar.IsPreRelease, Internal.{Reads.valid_one, Words.after_dash}}}
use Rattle.npm_words.specs.{Internal.Words.{end_len, places_front}, MalformedEnds.SkipsDash, RangeText.{formed, ignored, more}, Table.Partial}
use Rattle.{npm_words.specs.Table.whole, semver_core.proofs.{Normal.identifiers-normal, Reading.Boundaries.{blank-len, boundary-of, boundary-utf8}}}
use Rattle.semver_core.proofs.Reading.{Boundaries.{byte-is, front-dark, skips-of, skips-utf8, some_space-is, tail-utf8}, Bytes.all-join}
use Rattle.semver_core.proofs.{Reading.Bytes.{begins_component, is_component_byte, is_solid}, Text.SpaceLaw.front_is_first_character}
use Rattle.semver_core.specs.{Internal.Boundaries.after_some_space, Printing.RoundTrip.is_normal, Text.Boundaries.SkipsBlank}
use Rattle.{semver_core.specs.Text.{Characters.BeginsBlank, Comparators.equal}, std.proofs.lemmas.List.Sums.list_all-from_AllPass}
use Rattle.std.{proofs.lemmas.List.{Sums.{prefix_len_passes, suffix_len-le-length}, get_or-drop, get_or-reverse}, specs.List.suffix_len}
use Rattle.std.specs.Prelude.{reverse}

-- ---- marks and whitespace at the front

after_ends-drop : (n : ℕ) (text : List ℕ) → after_ends n text ≡ drop_ends (drop n text)
unfolding after_ends
after_ends-drop zero text = refl
after_ends-drop (suc n) [] = refl
after_ends-drop (suc n) (b ∷ rest) = after_ends-drop n rest

pub ends_stop : (text : List ℕ) → end_len text ≡ 0 → drop_ends text ≡ text
unfolding after_ends
ends_stop text h = grind (arith, nat_tests, common_steps)

pub ends_step : (text : List ℕ) (len : ℕ) → len ≡ end_len text → 0 < len → drop_ends (drop len text) ≡ drop_ends text
unfolding after_ends
ends_step text len e some = grind (arith, nat_tests, common_steps, space_len-nil, after_ends-drop)

-- a character
abbrev is_end : ℕ → Bool
is_end c = is_mark c || is_whitespace c

first-mark : (c : ℕ) (rest : List ℕ) → begins is_mark (encode_utf8 c ++ rest) ≡ is_mark c
unfolding encode_utf8
first-mark c rest = grind (arith, nat_tests, common_steps, le-ltb, lt-ltb)

end_len-is : (text : List ℕ) → end_len text ≡ (if begins is_mark text then 1 else space_len text)
end_len-is text = grind (arith, space_len-nil)

char-len : (c : ℕ) (rest : List ℕ) → end_len (encode_utf8 c ++ rest) ≡ (if is_end c then len_utf8 c else 0)
char-len c rest = rw (end_len-is, first-mark, front_is_first_character) (grind (arith, nat_tests))

ends-char : (c : ℕ) (rest : List ℕ) → is_end c ≡ true → drop_ends (encode_utf8 c ++ rest) ≡ drop_ends rest
ends-char c rest h =
    sym (ends_step (encode_utf8 c ++ rest) (len_utf8 c) (sym (char-len c rest ∙ rw h refl)) (omega (arith, (len_utf8_bounds c).0)))
    ∙ ap drop_ends (drop_at (encode_utf8 c) rest (len_utf8 c) (length-encode c))

-- what is passed
pub record EndsAt (text : List ℕ) : Type 0 where
  pub characters : List ℕ
  pub each : list_all is_end characters ≡ true
  pub split : text ≡ encode_utf8_all characters ++ drop_ends text

ends-of : (cs : List ℕ) → EndsAt (encode_utf8_all cs)
unfolding after_ends
ends-of [] = record { characters = []; each = refl; split = refl }
ends-of (c ∷ cs) = elim (cases_Bool (is_end c)) [
  | inr other ↦ record { characters = []; each = refl; split = sym (ends_stop _ (char-len c (encode_utf8_all cs) ∙ rw other refl)) }
  | inl passed ↦
      let r = ends-of cs in
      record { characters = c ∷ r.characters; each = rw passed r.each; split = grind (arith, nat_tests, common_steps, ends-char) }
]

pub ends-found : (text : List ℕ) → IsUtf8 text → EndsAt text
ends-found text u = subst EndsAt u.1.1 (ends-of u.0)

pub ends-read : (cs u : List ℕ) → list_all is_end cs ≡ true → begins is_mark u ≡ false → space_len u ≡ 0 → drop_ends (encode_utf8_all cs ++ u) ≡ u
ends-read [] u h other dark = ends_stop u (grind arith)
ends-read (c ∷ cs) u h other dark = grind (arith, nat_tests, common_steps, and_parts, append_assoc, ends-char, ends-read cs u)

-- ---- an end

-- what is read of an end
abbrev pub ended_of : (loose : Bool) (text rest : List ℕ) → IsEnd loose text rest → Ended
ended_of loose text rest h = (h.marks, h.partial, last_marks h.marks ++ h.places)

pub front-is : (text front rest : List ℕ) → text ≡ front ++ rest → take (length text - length rest) text ≡ front
front-is text front rest e = rw e (front-text front rest)

pub end-read : (loose : Bool) (text rest : List ℕ) (h : IsEnd loose text rest) → begins is_solid rest ≡ false
    → end_front loose text ≡ Some (ended_of loose text rest h, rest)
unfolding end_front
end-read loose text rest h quiet = grind (arith, nat_tests, common_steps, ends-read, front-dark, places-begin, places-read, front-is, front-text)

-- an end that was read
abbrev pub EndRead : (loose : Bool) (text : List ℕ) → Ended × List ℕ → Type 0
EndRead loose text e = (h : IsEnd loose text e.1) × (e.0 ≡ ended_of loose text e.1 h)

pub end-found : (loose : Bool) (text : List ℕ) (e : Ended × List ℕ) → IsUtf8 text → end_front loose text ≡ Some e → EndRead loose text e
unfolding end_front
end-found loose text e u h =
    let m = ends-found text u in
    let marks = encode_utf8_all m.characters in
    let p = bind_some (places_front loose (drop_ends text)) _ e h in
    let f = places-found loose (drop_ends text) p.0.0 p.0.1 p.1 in
    let whole : text ≡ marks ++ (f.piece ++ p.0.1) = m.split ∙ ap (λ (t : List ℕ). marks ++ t) f.split in
    let are : AreMarks marks = (m.characters, refl, m.each) in
    let is : IsEnd loose text p.0.1 = record { marks = marks; places = f.piece; partial = p.0.0; divided = whole; are = are; is = f.is } in
    subst (EndRead loose text) (same_Some (ended_as text (drop_ends text) p.0) e p.2) (is, grind (arith, front-is))

-- ---- hyphen ranges

-- what is read of a hyphen range
abbrev pub ends_of : (loose : Bool) (text : List ℕ) → IsHyphen loose text → Ended × Ended
ends_of loose text h = (ended_of loose text h.before h.lower, ended_of loose h.second [] h.upper)

before-utf8 : (loose : Bool) (text rest : List ℕ) (h : IsEnd loose text rest) → IsUtf8 text → BeginsBlank rest → IsUtf8 rest
before-utf8 loose text rest h u blank =
    let whole : text ≡ (h.marks ++ h.places) ++ rest = h.divided ∙ sym (append_assoc h.marks h.places rest) in
    boundary-utf8 (h.marks ++ h.places) rest (subst (λ (t : List ℕ). IsUtf8 t) whole u) (inr blank)

some_space-read : (text rest : List ℕ) → IsUtf8 text → BeginsBlank text → SkipsBlank text rest → after_some_space text ≡ Some rest
some_space-read text rest u b s = rw (lt-ltb 0 (space_len text) (blank-len text b), skips-of text rest u s) refl

-- the dash, and what stands behind it
pub dash-is : (front text second : List ℕ) → IsUtf8 (front ++ text) → after_dash text ≡ Some second → SkipsDash text second × IsUtf8 second
dash-is front text second u h =
    let sign = bind_some (after_some_space text) _ second h in
    let s = some_space-is front text sign.0 u sign.1 in
    let g = bind_some (after_byte 45 sign.0) after_some_space second sign.2 in
    let dash = byte-is 45 sign.0 g.0 g.1 in
    let w = tail-utf8 45 g.0 (omega arith) (rw dash at (skips-utf8 text sign.0 s.2 s.0)) in
    let t = some_space-is [] g.0 second w g.2 in
    ((g.0, s.1, rw dash at s.2, t.1, t.2), skips-utf8 g.0 second t.2 w)

pub dash-of : (text second : List ℕ) → IsUtf8 text → SkipsDash text second → (after_dash text ≡ Some second) × IsUtf8 second
dash-of text second u d =
    let w = tail-utf8 45 d.0 (omega arith) (skips-utf8 text (45 ∷ d.0) d.2 u) in
    (rw (some_space-read text (45 ∷ d.0) u d.1 d.2, some_space-read d.0 second w d.3 d.4) refl, skips-utf8 d.0 second d.4 w)

pub hyphen-read : (loose : Bool) (text : List ℕ) → IsUtf8 text → (h : IsHyphen loose text) → hyphen_ends loose text ≡ Some (ends_of loose text h)
unfolding hyphen_ends
hyphen-read loose text u h =
    let v = before-utf8 loose text h.before h.lower u h.dash.1 in
    let lower = end-read loose text h.before h.lower (boundary-quiet h.before (boundary-of h.before (inr h.dash.1))) in
    rw (lower, (dash-of h.before h.second v h.dash).0, end-read loose h.second [] h.upper refl) refl

pub hyphen-found : (loose : Bool) (text : List ℕ) (e : Ended × Ended) → IsUtf8 text → hyphen_ends loose text ≡ Some e
    → (h : IsHyphen loose text) × (e ≡ ends_of loose text h)
unfolding hyphen_ends
hyphen-found loose text e u h =
    let a = bind_some (end_front loose text) _ e h in
    let q = bind_some (after_dash a.0.1) _ e a.2 in
    let b = bind_some (last_end loose q.0) (λ b. Some (a.0.0, b)) e q.2 in
    let l = bind_some (end_front loose q.0) _ b.0 b.1 in
    let ended = cond_some (is_empty l.0.1) l.0.0 b.0 l.2 in
    let low = end-found loose text a.0 u a.1 in
    let front = low.0.marks ++ low.0.places in
    let whole : text ≡ front ++ a.0.1 = low.0.divided ∙ sym (append_assoc low.0.marks low.0.places a.0.1) in
    let d = dash-is front a.0.1 q.0 (subst (λ (t : List ℕ). IsUtf8 t) whole u) q.1 in
    let up = subst (λ (r : List ℕ). EndRead loose q.0 (l.0.0, r)) (empty_is l.0.1 ended.0) (end-found loose q.0 l.0 d.1 l.1) in (
      record { before = a.0.1; second = q.0; lower = low.0; dash = d.0; upper = up.0 },
      sym (same_Some (a.0.0, b.0) e b.2) ∙ ap₂ (λ (x y : Ended). (x, y)) low.1 (sym ended.1 ∙ up.1),
    )

-- ---- the marks behind the last whitespace

last-marks : (marks : List ℕ) → list_all is_mark (last_marks marks) ≡ true
last-marks marks = list_all-from_AllPass is_mark (last_marks marks) (λ k d l.
    let start = length marks - suffix_len is_mark marks in
    let size = length-drop start marks in
    let back = length marks - 1 - (start + k) in
    let at : length marks - 1 - back ≡ start + k = omega arith in
    ap is_mark (get_or-drop start marks k d ∙ ap (λ (i : ℕ). get_or marks i d) (sym at) ∙ sym (get_or-reverse marks back d (omega arith)))
    ∙ prefix_len_passes is_mark (reverse marks) back d (omega (arith, suffix_len-le-length is_mark marks)))

-- ---- which ends are right

pub free-marks : (changes : VersionValue → Bool) (p : Partial) (marks : List ℕ) → (is_free changes p || are_whole_marks marks)
    ≡ elim p [ whole v ↦ changes v || are_marks false (compared equal) (whole v) marks | _ ↦ true ]
free-marks changes p marks = grind arith

-- the ends that are right are those of the statement
pub right-end : (loose : Bool) (changes : VersionValue → Bool) (text rest : List ℕ) (h : IsEnd loose text rest)
    → is_right loose (is_free changes) (ended_of loose text rest h) ≡ is_right_end loose changes h.partial h.marks h.places
right-end loose changes text rest h =
    rw (marks-dropped loose (last_marks h.marks) h.places h.partial (last-marks h.marks) h.is, free-marks changes h.partial h.marks) refl

-- ---- the ends as the code has them

-- comparators of which some are valid where others are, and then are these
abbrev AreValidAs : List Comparison → List Comparison → Type 0
AreValidAs k l = (list_all (is_valid MAX_SAFE_INTEGER) k ≡ list_all (is_valid MAX_SAFE_INTEGER) l) × (list_all (is_valid MAX_SAFE_INTEGER) k ≡ true → k ≡ l)

joined-valid : (k l w u : List Comparison) → AreValidAs k l → AreValidAs w u → valid_one (false, k ++ w) ≡ valid_one (false, l ++ u)
joined-valid k l w u e f = grind (arith, list_all-append (is_valid MAX_SAFE_INTEGER))

pub free-capped : (include : Bool) (p : Partial)
    → (is_free_lower (capped_partial p) ≡ is_free_lower p) × (is_free_upper include (capped_partial p) ≡ is_free_upper include p)
free-capped include p = (grind arith, grind arith)

-- of a number past the limit only that it is past it counts: such a range is right, and valid, as with the limit + 1 in its place
pub hyphen-capped : (loose include : Bool) (a b : Ended)
    → (hyphen_of loose include (capped_in a, capped_in b) >>? valid_one) ≡ (hyphen_of loose include (a, b) >>? valid_one)
hyphen-capped loose include a b =
    let lower : Partial → List Comparison = λ p. lower_of include (a.0, p, a.2) in
    let upper : Partial → List Comparison = λ p. upper_of include (b.0, p, b.2) in
    let low : AreValidAs (lower (capped_partial a.1)) (lower a.1) =
    (capped-valid lower (λ p. lower-invalid _ include p a.2) a.1, λ h. ap lower (valid-same lower (λ p. lower-invalid _ include p a.2) a.1 h)) in
    let up : AreValidAs (upper (capped_partial b.1)) (upper b.1) =
    (capped-valid upper (λ p. upper-invalid _ include p b.2) b.1, λ h. ap upper (valid-same upper (λ p. upper-invalid _ include p b.2) b.1 h)) in
    rw ((free-capped include a.1).0, (free-capped include b.1).1) (grind (arith, joined-valid _ _ _ _ low up))

-- ---- the identifiers are in normal form

pre-normal : (loose wild : Bool) (fits : List ℕ → Bool) (text : List ℕ) (ids : List Id) → IsPreRelease loose wild fits text ids → list_all is_normal ids ≡ true
pre-normal loose wild fits text ids h = grind (arith, nat_tests, common_steps, identifiers-normal)

build-normal : (text : List ℕ) (ids : List Id) → IsStrictBuild text ids → list_all is_normal ids ≡ true
build-normal text ids h = grind (arith, identifiers-normal)

pub places-normal : (loose : Bool) (text : List ℕ) (p : Partial) → IsPlaces loose text p → are_normal p ≡ true
places-normal loose text p h = grind (arith, nat_tests, common_steps, pre-normal, build-normal)

pub front-normal : (loose : Bool) (text : List ℕ) (p : Partial × List ℕ) → places_front loose text ≡ Some p → are_normal p.0 ≡ true
front-normal loose text p h = let f = places-found loose text p.0 p.1 h in places-normal loose f.piece p.0 f.is

front-le : (loose : Bool) (text : List ℕ) (p : Partial × List ℕ) → places_front loose text ≡ Some p → length p.1 ≤ length text
front-le loose text p h = let f = places-found loose text p.0 p.1 h in omega (arith, ap length f.split, length-append f.piece p.1)

pub normal-capped : (p : Partial) → are_normal (capped_partial p) ≡ are_normal p
normal-capped p = grind arith

pub end-normal : (loose : Bool) (text : List ℕ) (e : Ended × List ℕ) → end_front loose text ≡ Some e → are_normal e.0.1 ≡ true
unfolding end_front
end-normal loose text e h = grind (arith, nat_tests, common_steps, front-normal)

pub hyphen-normal : (loose : Bool) (text : List ℕ) (e : Ended × Ended) → hyphen_ends loose text ≡ Some e
    → (are_normal (capped_partial e.0.1) ≡ true) × (are_normal (capped_partial e.1.1) ≡ true)
unfolding hyphen_ends
hyphen-normal loose text e h =
    let n : (are_normal e.0.1 ≡ true) × (are_normal e.1.1 ≡ true) = grind (arith, end-normal) in
    (normal-capped e.0.1 ∙ n.0, normal-capped e.1.1 ∙ n.1)

-- ---- readers

abbrev pub both_capped : Option (Ended × Ended) → Option (Ended × Ended)
both_capped o = o >>? λ e. Some (capped_in e.0, capped_in e.1)

-- what stands behind a partial is no longer than the text
pub partial-le : (loose : Bool) (text : List ℕ) (p : Partial) (rest : List ℕ) → Some (p, rest) ≡ first_as capped_partial (places_front loose text)
    → length rest ≤ length text
partial-le loose text p rest h = grind (arith, nat_tests, common_steps, front-le)

-- ---- strictly no words are a hyphen range

-- no `-`, and none with which a partial begins
abbrev is_front : ℕ → Bool
is_front b = not (is_component_byte b) && not (b == 45)

-- the partial there, and what stands behind it
abbrev pub WordFront : List ℕ → List ℕ → Type 0
WordFront text behind = (x : List ℕ) × (p : Partial) × IsPlaces false x p × (drop (prefix_len is_front text) text ≡ x ++ behind)

front-of : (text front x behind : List ℕ) (p : Partial) → text ≡ front ++ (x ++ behind) → list_all is_front front ≡ true → IsPlaces false x p
    → WordFront text behind
front-of text front x behind p e h k =
    let first = places-begin false x behind p k in (x, p, k, rw e (run-exact is_front front _ h (grind arith)))

end-at : (text before : List ℕ) → IsEnd false text before → WordFront text before
end-at text before h =
    let front = encoded-all is_end is_front (λ n k. grind (arith, nat_tests)) (λ c k e. grind (arith, nat_tests)) h.are.0 h.are.2 in
    front-of text h.marks h.places before h.partial h.divided (rw h.are.1 front) h.is

pub word-front : (include : Bool) (w x text behind : List ℕ) (cs : List Comparison) → text ≡ w ++ behind → IsWord false include w x cs → WordFront text behind
word-front include w x text behind cs e (IsWord.word signs marks y s p h m n k) =
    front-of text (signs ++ marks) y behind p (e ∙ simp append_assoc refl) (all-join is_front signs marks
    (all_weaker is_signal is_front (λ b k. grind (arith, nat_tests)) signs (sign-signal signs s h))
    (all_weaker is_mark is_front (λ b k. grind (arith, nat_tests)) marks (marks-all false s p marks m))) k

-- it begins with a component
front-begins : (text behind : List ℕ) → WordFront text behind → begins_component (drop (prefix_len is_front text) text) ≡ true
front-begins text behind w = rw w.3 (places-begin false w.0 behind w.1 w.2)

-- the first word ends where the lower end does
pub same-behind : (text before behind : List ℕ) (h : IsEnd false text before) (w : WordFront text behind) → begins is_solid before ≡ false
    → begins is_solid behind ≡ false → behind ≡ before
same-behind text before behind h w quiet stop =
    let v = end-at text before h in
    let r = sym (places-read false w.0 behind w.1 w.2 stop) ∙ ap (places_front false) (sym w.3 ∙ v.3) ∙ places-read false v.0 before v.1 v.2 quiet in
    ap (λ (p : Partial × List ℕ). p.1) (same_Some (w.1, behind) (v.1, before) r)

-- no word begins with `-`
no_dash-words : (include : Bool) (text after : List ℕ) (read : List (Option (List Comparison))) → text ≡ 45 ∷ after → AreWords false include text read → ⊥
no_dash-words include text after read e AreWords.none = cc e
no_dash-words include text after read e (more t rest cs others (ignored behind l some other is skips) k) = cc l
no_dash-words include text after read e (more t rest cs others (formed partial behind ds w short skips) k) =
    cc (front-begins (45 ∷ after) behind (word-front include w.0 partial (45 ∷ after) behind ds (sym e ∙ w.1) w.2))

pub hyphen_none-strict : (include : Bool) (text : List ℕ) (read : List (Option (List Comparison))) → IsUtf8 text → AreWords false include text read
    → IsHyphen false text → ⊥
hyphen_none-strict include text read u AreWords.none h = cc (front-begins [] h.before (end-at [] h.before h.lower))
hyphen_none-strict include text read u (more t rest cs others (ignored behind l some other is skips) k) h = cc l
hyphen_none-strict include text read u (more t rest cs others (formed partial behind ds w short skips) k) h =
    let d = h.dash in
    let front = word-front include w.0 partial t behind ds w.1 w.2 in
    let quiet = boundary-quiet h.before (boundary-of h.before (inr d.1)) in
    let same = same-behind t h.before behind h.lower front quiet (boundary-quiet behind (boundary-of behind w.3)) in
    let v = before-utf8 false t h.before h.lower u d.1 in
    no_dash-words include rest d.0 others (sym (skips-of behind rest (rw (← same) at v) skips) ∙ ap drop_spaces same ∙ skips-of h.before (45 ∷ d.0) v d.2) k
