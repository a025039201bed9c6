-- A version is read exactly where the grammar has it.
use Rattle.semver_core.proofs.Common.{NoValue, list_at, list_of, qualified, triple_at, BeginsBlank, IsAfterBlank, IsBlank}
use Rattle.semver_core.proofs.Common.{begins, is_identifier_char, is_whitespace, Id, IsLongestIdentifiers, IsNumber}
use Rattle.semver_core.proofs.Common.{IsWholeNumber, Reads, begins_pre_release, no_mark, VersionValue, List, None, Option, Some}
use Rattle.semver_core.proofs.Common.{[], ap, append_assoc, arith, drop, eqb, false, inl, inr, length, refl, subst, sym, take}
use Rattle.semver_core.proofs.Common.{true, ℕ, ◌++◌, ◌+◌, ◌<◌, ◌||◌, ◌∙◌, ◌∷◌, ◌≡◌, nat_tests, cases_Bool, take-append-drop}
use Rattle.semver_core.proofs.Common.{is_ascii_digit, encode_utf8, second_so, list_all, IsCharBoundary, IsUtf8}
use Rattle.semver_core.proofs.Common.{encode_utf8_all, ◌==◌, HasOneReading, build_at, list_len, mark_len, number_at, or_nothing}
use Rattle.semver_core.proofs.Common.{pre_release_at, IsPieceAt, IsBuild, IsMark, IsPreRelease, bare, begins_build}
use Rattle.semver_core.proofs.Common.{capital_mark, dashed, no_build, no_pre_release, plus, small_mark, add-zero, slice_range}
use Rattle.semver_core.proofs.Common.{drop_split, IsCharBoundary-after_ascii, IsCharBoundary-start, encode_same, take_rest, ◌-◌}
use Rattle.semver_core.proofs.Common.{drop-drop}
use Rattle.{semver_core.specs.Internal.Reading.{◌>>?◌, part_at, past, version_at}, std.proofs.lemmas.Str.char_from_byte}
use Rattle.semver_core.specs.Text.Numbers.{IsTriple}
use Rattle.semver_core.proofs.Text.Pieces.{some_inside, number_sound, number_complete, list_sound, list_complete}
use Rattle.semver_core.proofs.Text.{Pieces.{list_none, runs_begin}, Runs.{begins_less, drop_next}}

pub bind_some : {A B : Type 0} (o : Option A) (f : A → Option B) (y : B) → (o >>? f) ≡ Some y → (x : A) × (o ≡ Some x) × (f x ≡ Some y)
bind_some None f y e = cc
bind_some (Some x) f y e = (x, refl, e)

-- the text behind a character that stands at a place
marked : (c : ℕ) (text : List ℕ) (at : ℕ) → begins (λ b. b == c) (drop at text) ≡ true → drop at text ≡ c ∷ drop (at + 1) text
marked c text at h = rw (← drop-drop 1 at text) (grind (arith, nat_tests))

past_sound : (c : ℕ) (text : List ℕ) (at next : ℕ) → past c text at ≡ Some next → drop at text ≡ c ∷ drop next text
past_sound c text at next e = grind (arith, marked)

past_complete : (c : ℕ) (text : List ℕ) (at : ℕ) (rest : List ℕ) → drop at text ≡ c ∷ rest → (past c text at ≡ Some (at + 1)) × (drop (at + 1) text ≡ rest)
past_complete c text at rest e = grind (arith, nat_tests, drop_next)

-- a number and the dot behind it
part_sound : (limit : ℕ) (text : List ℕ) (at : ℕ) (q : ℕ × ℕ) → part_at limit text at ≡ Some q
    → (digits : List ℕ) × (drop at text ≡ digits ++ 46 ∷ drop q.1 text) × IsNumber limit digits q.0
part_sound limit text at q e =
    let found = bind_some (number_at limit text at) _ q e in
    let s = number_sound limit text at found.0.0 found.0.1 found.1 in
    (s.0, grind (arith, past_sound), grind arith)

part_complete : (limit : ℕ) (text : List ℕ) (at n : ℕ) (digits rest : List ℕ) → drop at text ≡ digits ++ 46 ∷ rest
    → IsNumber limit digits n
    → (part_at limit text at ≡ Some (n, at + length digits + 1)) × (drop (at + length digits + 1) text ≡ rest)
part_complete limit text at n digits rest e is =
    let a = number_complete limit text at n digits (46 ∷ rest) e (record { number = is; ended = refl }) in
    grind (arith, past_complete 46 text (at + length digits) rest a.1)

pub triple_sound : (limit : ℕ) (text : List ℕ) (at : ℕ) (t : ℕ × ℕ × ℕ × ℕ) → triple_at limit text at ≡ Some t
    → IsTriple limit (drop at text) t.0 t.1 t.2 (drop t.3 text)
triple_sound limit text at t e =
    let a = bind_some (part_at limit text at) _ t e in
    let b = bind_some (part_at limit text a.0.1) _ t a.2 in
    let c = bind_some (number_at limit text b.0.1) _ t b.2 in
    let major = part_sound limit text at a.0 a.1 in
    let minor = part_sound limit text a.0.1 b.0 b.1 in
    let patch = number_sound limit text b.0.1 c.0.0 c.0.1 c.1 in
    rw (← some_inside _ t c.2) (record {
      major = major.0;
      minor = minor.0;
      patch = patch.0;
      divided = grind (arith, major.1, minor.1, patch.1);
      major_is = major.2;
      minor_is = minor.2;
      patch_is = patch.2;
    })

-- the clauses of `triple_front`
pub triple_read : (limit : ℕ) (text : List ℕ) (t : ℕ × ℕ × ℕ × ℕ) → Some t ≡ triple_at limit text 0
    → IsTriple limit text t.0 t.1 t.2 (take (length text - t.3) (drop t.3 text))
triple_read limit text t e = rw (take_rest text t.3) (triple_sound limit text 0 t (sym e))

pub triple_complete : (limit : ℕ) (text : List ℕ) (at M m p : ℕ) (major minor patch rest : List ℕ) → drop at text ≡ major ++ 46 ∷ (minor ++ 46 ∷ (patch ++ rest))
    → IsNumber limit major M → IsNumber limit minor m → IsWholeNumber limit patch rest p
    → (end : ℕ) × (triple_at limit text at ≡ Some (M, m, p, end)) × (drop end text ≡ rest)
triple_complete limit text at M m p major minor patch rest e f g h =
    let a = part_complete limit text at M major (minor ++ 46 ∷ (patch ++ rest)) e f in
    let b = part_complete limit text (at + length major + 1) m minor (patch ++ rest) a.1 g in
    let c = number_complete limit text (at + length major + 1 + length minor + 1) p patch rest b.1 h in
    (at + length major + 1 + length minor + 1 + length patch, rw (a.0, b.0, c.0) refl, c.1)

pub triple_none : (limit : ℕ) (text : List ℕ) → None ≡ triple_at limit text 0 → (M m p : ℕ) (rest : List ℕ) → IsTriple limit text M m p rest → ⊥
triple_none limit text none M m p rest is =
    let found = triple_complete limit text 0 M m p is.major is.minor is.patch rest is.divided is.major_is is.minor_is is.patch_is in
    cc (none, found.1)

-- a list at a place, or none: what is said of either holds of what is found
list_or_none : (text : List ℕ) (at start : ℕ) (lead : List ℕ) (Is : List ℕ → List ℕ → List Id → Type 0)
    → drop at text ≡ lead ++ drop start text
    → ((s r : List ℕ) (ids : List Id) → drop start text ≡ s ++ r → IsLongestIdentifiers s r ids → Is (lead ++ s) r ids)
    → (begins is_identifier_char (drop start text) ≡ false → Is [] (drop at text) [])
    → let found = or_nothing at (list_at text start) in IsPieceAt (λ piece rest. Is piece rest found.0) text at found.1
list_or_none text at start lead Is e some none = elim (cases_Bool (begins is_identifier_char (drop start text))) [
  | inr stop ↦ rw (list_none text start stop) (record { piece = []; divided = refl; is = none stop })
  | inl here ↦
      let l = list_sound text start (list_of (drop start text)) (start + list_len (drop start text)) (rw here refl) in
      let divided = e ∙ ap (λ t. lead ++ t) l.1.1 ∙ sym (append_assoc lead l.1.0 _) in
      rw here (record { piece = lead ++ l.1.0; divided = divided; is = some l.1.0 _ _ l.1.1 l.1.2 })
]

pre_sound : (text : List ℕ) (at : ℕ)
    → IsPieceAt (λ piece rest. IsPreRelease piece rest (pre_release_at text at).0) text at (pre_release_at text at).1
pre_sound text at = elim (cases_Bool (begins (λ b. b == 45) (drop at text))) [
  | inl dash ↦
      let front = marked 45 text at dash in
      rw dash (list_or_none text at (at + 1) (45 ∷ []) IsPreRelease front
      (λ s r ids e l. dashed s r ids l) (λ none. no_pre_release (drop at text) (rw front none)))
  | inr plain ↦
      rw plain (list_or_none text at at [] IsPreRelease refl
      (λ s r ids e l. bare s r ids l (begins_less (λ b. b == 45) s r (rw e at plain)))
      (λ none. no_pre_release (drop at text) (grind arith)))
]

-- nothing stands there
pub none_pre : (text : List ℕ) (at : ℕ) (r : List ℕ) → drop at text ≡ r → begins_pre_release r ≡ false → pre_release_at text at ≡ ([], at)
none_pre text at r e none = grind (arith, list_none, drop_next)

pub none_build : (text : List ℕ) (at : ℕ) (r : List ℕ) → drop at text ≡ r → begins_build r ≡ false → build_at text at ≡ ([], at)
none_build text at r e none = grind (arith, drop_next)

build_sound : (text : List ℕ) (at : ℕ)
    → IsPieceAt (λ piece rest. IsBuild piece rest (build_at text at).0) text at (build_at text at).1
build_sound text at = elim (cases_Bool (begins (λ b. b == 43) (drop at text))) [
  | inl mark ↦
      let front = marked 43 text at mark in
      rw mark (list_or_none text at (at + 1) (43 ∷ []) IsBuild front
      (λ s r ids e l. plus s r ids l) (λ none. no_build (drop at text) (rw front none)))
  | inr plain ↦ rw plain (record { piece = []; divided = refl; is = no_build (drop at text) (grind arith) })
]

pub pre_complete : (text : List ℕ) (at : ℕ) (piece rest : List ℕ) (ids : List Id) → drop at text ≡ piece ++ rest → IsPreRelease piece rest ids
    → (pre_release_at text at ≡ (ids, at + length piece)) × (drop (at + length piece) text ≡ rest)
pre_complete text at piece rest ids e (dashed s r l long) =
    let found = list_complete text (at + 1) s r l (drop_next at text (s ++ r) 45 e) long in
    let sum : at + 1 + length s ≡ at + length (45 ∷ s) = omega arith in
    (rw (e, found.0, sum) refl, rw sum at found.1)
pre_complete text at piece rest ids e (bare s r l long plain) =
    let found = list_complete text at s r l e long in
    let begun = runs_begin s [] long.identifiers.runs in
    let front : begins (λ b. b == 45) (s ++ r) ≡ false = grind arith in
    (rw (e, front, found.0) refl, found.1)
pre_complete text at piece rest ids e (no_pre_release r none) = (rw add-zero (none_pre text at r e none), rw add-zero e)

pub build_complete : (text : List ℕ) (at : ℕ) (piece rest : List ℕ) (ids : List Id) → drop at text ≡ piece ++ rest → IsBuild piece rest ids
    → (build_at text at ≡ (ids, at + length piece)) × (drop (at + length piece) text ≡ rest)
build_complete text at piece rest ids e (plus s r l long) =
    let found = list_complete text (at + 1) s r l (drop_next at text (s ++ r) 43 e) long in
    let sum : at + 1 + length s ≡ at + length (43 ∷ s) = omega arith in
    (rw (e, found.0, sum) refl, rw sum at found.1)
build_complete text at piece rest ids e (no_build r none) = (rw add-zero (none_build text at r e none), rw add-zero e)

-- a division of a text, with this mark, this whitespace and this rest
pub record Division (limit : ℕ) (text mark blank rest : List ℕ) (v : VersionValue) : Type 0 where
  pub reads : Reads limit text v
  pub mark_is : reads.mark ≡ mark
  pub blank_is : reads.blank ≡ blank
  pub rest_is : reads.rest ≡ rest

-- the text behind the build
abbrev pub rest_of : List ℕ → ℕ × ℕ × ℕ × ℕ → List ℕ
rest_of text t = drop (build_at text (pre_release_at text t.3).1).1 text

-- three numbers behind the mark and the whitespace divide the text
pub divided_at : (limit : ℕ) (text mark blank : List ℕ) (at : ℕ) (t : ℕ × ℕ × ℕ × ℕ) → text ≡ mark ++ (blank ++ drop at text) → IsMark mark → IsBlank blank
    → triple_at limit text at ≡ Some t → Division limit text mark blank (rest_of text t) (qualified text t)
divided_at limit text mark blank at t divided m b e =
    let three = triple_sound limit text at t e in
    let pre = pre_sound text t.3 in
    let meta = build_sound text (pre_release_at text t.3).1 in
    let tail = pre.divided ∙ ap (λ r. pre.piece ++ r) meta.divided in
    record {
      reads = record {
        mark = mark;
        blank = blank;
        major = three.major;
        minor = three.minor;
        patch = three.patch;
        pre_release = pre.piece;
        build = meta.piece;
        rest = rest_of text t;
        divided = divided ∙ ap (λ r. mark ++ (blank ++ r)) (three.divided ∙ ap (λ r. three.major ++ 46 ∷ (three.minor ++ 46 ∷ (three.patch ++ r))) tail);
        mark_is = m;
        blank_is = b;
        major_is = three.major_is;
        minor_is = three.minor_is;
        patch_is = (let Q : List ℕ → Type 0 = λ r. IsWholeNumber limit three.patch r t.2 in subst Q tail three.patch_is);
        pre_release_is = subst (λ (r : List ℕ). IsPreRelease pre.piece r (pre_release_at text t.3).0) meta.divided pre.is;
        build_is = meta.is;
      };
      mark_is = refl;
      blank_is = refl;
      rest_is = refl;
    }

-- the numbers, the identifiers and the rest of a version are found where its numbers begin
pub read_at : (limit : ℕ) (text : List ℕ) (at : ℕ) (v : VersionValue) (r : Reads limit text v)
    → drop at text ≡ r.major ++ 46 ∷ (r.minor ++ 46 ∷ (r.patch ++ (r.pre_release ++ (r.build ++ r.rest))))
    → (t : ℕ × ℕ × ℕ × ℕ) × (triple_at limit text at ≡ Some t) × (qualified text t ≡ v) × (rest_of text t ≡ r.rest)
read_at limit text at v r e =
    let three = triple_complete limit text at v.major v.minor v.patch r.major r.minor r.patch (r.pre_release ++ (r.build ++ r.rest)) e r.major_is r.minor_is r.patch_is in
    let pre = pre_complete text three.0 r.pre_release (r.build ++ r.rest) v.pre_release three.2 r.pre_release_is in
    let meta = build_complete text (three.0 + length r.pre_release) r.build r.rest v.build pre.1 r.build_is in
    ((v.major, v.minor, v.patch, three.0), three.1, rw (pre.0, meta.0) refl, rw (pre.0, meta.0) meta.1)

-- ---- the mark and the whitespace

-- the first byte of whitespace is neither a digit nor a mark
blank_byte : (t : List ℕ) → BeginsBlank t → begins (λ b. is_ascii_digit b || b == 118 || b == 86) t ≡ false
blank_byte t b = grind (arith, nat_tests, char_from_byte t b.rest b.character b.spelled)

pub small_digit : (t : List ℕ) → begins is_ascii_digit t ≡ true → BeginsBlank t → ⊥
small_digit t h b = grind (arith, blank_byte t b)

begins_blank : (c : ℕ) (cs D : List ℕ) → list_all is_whitespace (c ∷ cs) ≡ true → BeginsBlank (encode_utf8_all (c ∷ cs) ++ D)
begins_blank c cs D h = record {
  character = c;
  rest = encode_utf8_all cs ++ D;
  passes = grind arith;
  spelled = append_assoc (encode_utf8 c) (encode_utf8_all cs) D;
}

one_blank : (cs ds D E : List ℕ) → list_all is_whitespace cs ≡ true → list_all is_whitespace ds ≡ true → (BeginsBlank D → ⊥) → (BeginsBlank E → ⊥)
    → encode_utf8_all cs ++ D ≡ encode_utf8_all ds ++ E → D ≡ E
one_blank [] [] D E a b no_d no_e e = e
one_blank [] (d ∷ ds) D E a b no_d no_e e = absurd (no_d (rw e (begins_blank d ds E b)))
one_blank (c ∷ cs) [] D E a b no_d no_e e = absurd (no_e (rw (← e) (begins_blank c cs D a)))
one_blank (c ∷ cs) (d ∷ ds) D E a b no_d no_e e =
    let same = encode_same c d (encode_utf8_all cs ++ D) (encode_utf8_all ds ++ E) (simp append_assoc at e) in
    one_blank cs ds D E (second_so (is_whitespace c) (list_all is_whitespace cs) a) (second_so (is_whitespace d) (list_all is_whitespace ds) b) no_d no_e same.1

-- a text may be cut after the mark
pub mark_boundary : (text : List ℕ) (n : ℕ) → IsUtf8 text → n ≡ mark_len text → IsCharBoundary text n
mark_boundary text n u e = grind (arith, nat_tests, IsCharBoundary-start text u, IsCharBoundary-after_ascii text 0 u)

pub mark_is : (text : List ℕ) → IsMark (take (mark_len text) text)
mark_is text = grind (arith, nat_tests, no_mark, small_mark, capital_mark)

pub no_mark_at : (c : ℕ) (t : List ℕ) → ((eqb c 118 || eqb c 86) ≡ true → ⊥) → mark_len (c ∷ t) ≡ 0
no_mark_at c t never = grind arith

-- whitespace and then a digit are no mark
blank_no_mark : (cs D : List ℕ) → list_all is_whitespace cs ≡ true → begins is_ascii_digit D ≡ true → mark_len (encode_utf8_all cs ++ D) ≡ 0
blank_no_mark [] D a h = grind (arith, nat_tests)
blank_no_mark (c ∷ cs) D a h = grind (arith, nat_tests, blank_byte (encode_utf8_all (c ∷ cs) ++ D) (begins_blank c cs D a))

-- past the mark
past_mark : (text mark D : List ℕ) → IsMark mark → text ≡ mark ++ D → mark_len D ≡ 0 → drop (mark_len text) text ≡ D
past_mark text mark D is e none = grind arith

pub number_begins : (d r : List ℕ) → 0 < length d → list_all is_ascii_digit d ≡ true → begins is_ascii_digit (d ++ r) ≡ true
number_begins [] r some each = absurd (omega arith)
number_begins (c ∷ d) r some each = grind arith

-- where the reader stands, behind the mark and the whitespace
pub loose_some : (limit : ℕ) (text : List ℕ) (start : ℕ) (v : VersionValue) → IsAfterBlank text (mark_len text) start → version_at limit text start ≡ Some v → Reads limit text v
loose_some limit text start v a e =
    let k = mark_len text in
    let divided = sym (take-append-drop k text) ∙ ap (λ r. take k text ++ r) (drop_split text k start a.after) in
    let found = bind_some (triple_at limit text start) _ v e in
    rw (← some_inside _ v found.2)
    (divided_at limit text (take k text) (slice_range text k start) start found.0 divided (mark_is text) a.blank found.1).reads

pub loose_at : (limit : ℕ) (text : List ℕ) (start : ℕ) (v : VersionValue) → IsAfterBlank text (mark_len text) start → Reads limit text v → version_at limit text start ≡ Some v
loose_at limit text start v a r =
    let k = mark_len text in
    let D = r.major ++ 46 ∷ (r.minor ++ 46 ∷ (r.patch ++ (r.pre_release ++ (r.build ++ r.rest)))) in
    let digit : begins is_ascii_digit D ≡ true = number_begins r.major _ r.major_is.some r.major_is.each in
    let blank : r.blank ≡ encode_utf8_all r.blank_is.characters = r.blank_is.spelled in
    let none : mark_len (r.blank ++ D) ≡ 0 = rw blank (blank_no_mark r.blank_is.characters D r.blank_is.each digit) in
    let marked : drop k text ≡ r.blank ++ D = past_mark text r.mark (r.blank ++ D) r.mark_is r.divided none in
    let both : encode_utf8_all a.blank.characters ++ drop start text ≡ encode_utf8_all r.blank_is.characters ++ D =
    ap (λ t. t ++ drop start text) (sym a.blank.spelled) ∙ sym (drop_split _ k _ a.after) ∙ marked ∙ ap (λ t. t ++ D) blank in
    let here = read_at limit text start v r (one_blank _ _ _ D a.blank.each r.blank_is.each a.ended (small_digit D digit) both) in
    rw (here.1, here.2) refl

pub loose_none : (limit : ℕ) (text : List ℕ) (start : ℕ) → IsAfterBlank text (mark_len text) start
    → version_at limit text start ≡ None → NoValue (Reads limit text)
loose_none limit text start a e v r = cc (e, loose_at limit text start v a r)

-- one version at most stands at the front of a text
pub one_reading : (text : List ℕ) (start : ℕ) → IsAfterBlank text (mark_len text) start → HasOneReading text
one_reading text start a = λ limit v w r s. some_inside v w (sym (loose_at limit text start v a r) ∙ loose_at limit text start w a s)
