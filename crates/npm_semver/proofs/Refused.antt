-- Texts of which some has to be read, and is not.
use Rattle.std.proofs.Common.{◌≡◌, ◌+◌, ◌<◌, ◌&&◌, ◌||◌, ◌∷◌, ◌++◌, [], ℕ, Bool, zero, suc, true, false, not, List, Option, Some, None, ap, arith, get_or, if◌then◌else◌, inl, inr, is_some, length, refl, sym, take, ◌∙◌}
use Rattle.std.proofs.lemmas.List.{take_more}
use Rattle.std.proofs.lemmas.Bool.{and_parts, cases_Bool}
use Rattle.std.specs.Borrow.{Bor}
use Rattle.std.specs.List.{list_all, list_any}
use Rattle.semver_core.specs.Failures.{NoValue}
use Rattle.semver_core.specs.Lists.{is_empty}
use Rattle.npm_semver.specs.Arguments.{Asked}
use Rattle.npm_semver.specs.Internal.Asked.{texts}
use Rattle.npm_semver.specs.Internal.Texts as Lacking
use Rattle.npm_semver.specs.Internal.Texts.{IsFirstLacking, is_no_version}
use Rattle.npm_semver.specs.Readings.{HasRange, IsFirst, IsVersionIn, SomeText, further, here, later, part_by, this}
use Rattle.npm_semver.specs.Reasons as Reasons
use Rattle.npm_semver.specs.Reasons.{AreLeftOut, AreNoRanges, Told, lacking, lacking_in}
use Rattle.npm_semver.specs.Responses.{HasNoNumber, HasNoVersion, HasUnknown, HasUnread, HasUnshown, IsRefused, Names, NoVersion, UnreadRange, no_number, no_version, stands, unknown, unread, unshown}
use Rattle.npm_semver.specs.Responses.Names.{loosely, range, version}
use Rattle.npm_semver.specs.declared.reading.ReadOptions.{ReadOptions}

or_false : (a b : Bool) → (a || b) ≡ false → (a ≡ false) × (b ≡ false)
or_false true b e = absurd (cc)
or_false false b e = (refl, e)

-- what is told of a text that is no version says that it is none
lacks_version : (part : Option (List ℕ)) (text : List ℕ) → is_no_version (lacking part text) ≡ true
lacks_version None text = refl
lacks_version (Some part) text = refl

not_passed : (part : Option (List ℕ)) (text : List ℕ) → is_no_version (lacking part text) ≡ false → ⊥
not_passed part text e = let bad : true ≡ false = sym (lacks_version part text) ∙ e in absurd (cc)

module _ (r : ReadOptions) where
  pub some_unread : (texts : List (List ℕ)) (told : List Told) → AreNoRanges r texts told → is_empty told ≡ false
      → SomeText (λ text. NoValue (HasRange r text)) texts
  some_unread texts told Reasons.none e = absurd (cc)
  some_unread texts told (Reasons.range text rest a us has are) e = later text rest (some_unread rest us are e)
  some_unread texts told (Reasons.no_range text rest us lacks are) e = here text rest lacks

  pub all_read : (texts : List (List ℕ)) (told : List Told) → AreNoRanges r texts told → is_empty told ≡ true
      → SomeText (λ text. NoValue (HasRange r text)) texts → ⊥
  all_read texts told Reasons.none e some = elim some [ ]
  all_read texts told (Reasons.range text rest a us has are) e (here t ts lacks) = lacks a has
  all_read texts told (Reasons.range text rest a us has are) e (later t ts some) = all_read rest us are e some
  all_read texts told (Reasons.no_range text rest us lacks are) e some = absurd (cc)

module _ (r : ReadOptions) (ranges : List (List ℕ)) where
  pub some_lacks : (texts : List (List ℕ)) (told : List Told) → AreLeftOut r ranges texts told → list_any is_no_version told ≡ true
      → SomeText (λ text. NoValue (IsVersionIn r text)) texts
  some_lacks texts told Reasons.none e = absurd (cc)
  some_lacks texts told (Reasons.accepted text rest v us is say are) e = later text rest (some_lacks rest us are e)
  some_lacks texts told (Reasons.rejected text rest v us is say are) e = later text rest (some_lacks rest us are e)
  some_lacks texts told (Reasons.no_version text rest us lacks are) e = here text rest lacks

  pub all_versions : (texts : List (List ℕ)) (told : List Told) → AreLeftOut r ranges texts told → list_any is_no_version told ≡ false
      → SomeText (λ text. NoValue (IsVersionIn r text)) texts → ⊥
  all_versions texts told Reasons.none e some = elim some [ ]
  all_versions texts told (Reasons.accepted text rest v us is say are) e (here t ts lacks) = lacks v is
  all_versions texts told (Reasons.accepted text rest v us is say are) e (later t ts some) = all_versions rest us are e some
  all_versions texts told (Reasons.rejected text rest v us is say are) e (here t ts lacks) = lacks v is
  all_versions texts told (Reasons.rejected text rest v us is say are) e (later t ts some) = all_versions rest us are e some
  all_versions texts told (Reasons.no_version text rest us lacks are) e some =
      not_passed (part_by r.field text) text (or_false (is_no_version (lacking_in r text)) (list_any is_no_version us) e).0

pub not_refused : (q : Asked) → (HasNoNumber q → ⊥) → (HasUnknown q → ⊥) → (HasUnread q → ⊥) → (HasNoVersion q → ⊥) → (HasUnshown q → ⊥) → NoValue (IsRefused q)
not_refused q number known all versions shown why (no_number e) = number e
not_refused q number known all versions shown why (unknown n e) = known e
not_refused q number known all versions shown why (unread n k some) = all some
not_refused q number known all versions shown why (no_version n k a some) = versions some
not_refused q number known all versions shown why (unshown n k a v some) = shown some

-- in some text a character does not pass
module _ (test : ℕ → Bool) where
  pub some_marked : (xs : List (Bor (List ℕ))) → list_all (λ t. list_all test t.now) xs ≡ false → SomeText (λ text. list_all test text ≡ false) (texts xs)
  some_marked [] e = absurd (grind (arith, e))
  some_marked (x ∷ xs) e = elim (cases_Bool (list_all test x.now)) [
    | inl passes ↦ later x.now (texts xs) (some_marked xs (rw passes at e))
    | inr marked ↦ here x.now (texts xs) marked
  ]

  pub none_marked : (xs : List (Bor (List ℕ))) → list_all (λ t. list_all test t.now) xs ≡ true → SomeText (λ text. list_all test text ≡ false) (texts xs) → ⊥
  none_marked [] e some = elim some [ ]
  none_marked (x ∷ xs) e (here t ts marked) = absurd (grind (arith, (and_parts (list_all test x.now) (list_all (λ t. list_all test t.now) xs) e).0, marked))
  none_marked (x ∷ xs) e (later t ts some) = none_marked xs (and_parts (list_all test x.now) (list_all (λ t. list_all test t.now) xs) e).1 some

not_true : (b : Bool) → not b ≡ true → b ≡ false
not_true true e = absurd (cc)
not_true false e = refl

not_both : (a b : Bool) → a ≡ true → (a && not b) ≡ false → b ≡ true
not_both true true e f = refl
not_both true false e f = absurd (cc)
not_both false b e f = absurd (cc)

-- what the tests of a question say
module _ (q : Asked) where
  pub unread_is : (told : List Told) → AreNoRanges q.reading q.ranges told
      → ((q.reading.is_loose || q.is_strict) && not (is_empty told)) ≡ true → HasUnread q
  unread_is told are e = (grind (arith, e), some_unread q.reading q.ranges told are (grind (arith, e)))

  pub unread_not : (told : List Told) → AreNoRanges q.reading q.ranges told
      → ((q.reading.is_loose || q.is_strict) && not (is_empty told)) ≡ false → HasUnread q → ⊥
  unread_not told are e some = all_read q.reading q.ranges told are (grind (arith, e, some.0)) some.1

  pub no_version_is : (told : List Told) → AreLeftOut q.reading q.ranges q.versions told
      → (q.is_strict && list_any is_no_version told) ≡ true → HasNoVersion q
  no_version_is told are e = (grind (arith, e), some_lacks q.reading q.ranges q.versions told are (grind (arith, e)))

  pub no_version_not : (told : List Told) → AreLeftOut q.reading q.ranges q.versions told
      → (q.is_strict && list_any is_no_version told) ≡ false → HasNoVersion q → ⊥
  no_version_not told are e some = all_versions q.reading q.ranges q.versions told are (grind (arith, e, some.0)) some.1

  pub unshown_is : (xs : List (Bor (List ℕ))) → q.versions ≡ texts xs
      → (((q.reading.is_coerced || is_some q.reading.field) && q.as_written) && not (list_all (λ t. list_all (stands q) t.now) xs)) ≡ true
      → HasUnshown q
  unshown_is xs same e =
      let (may, off) = and_parts ((q.reading.is_coerced || is_some q.reading.field) && q.as_written) (not (list_all (λ t. list_all (stands q) t.now) xs)) e in
      (may, rw same (some_marked (stands q) xs (not_true (list_all (λ t. list_all (stands q) t.now) xs) off)))

  pub unshown_not : (xs : List (Bor (List ℕ))) → q.versions ≡ texts xs
      → (((q.reading.is_coerced || is_some q.reading.field) && q.as_written) && not (list_all (λ t. list_all (stands q) t.now) xs)) ≡ false
      → HasUnshown q → ⊥
  unshown_not xs same e some =
      none_marked (stands q) xs (not_both ((q.reading.is_coerced || is_some q.reading.field) && q.as_written) (list_all (λ t. list_all (stands q) t.now) xs) some.0 e)
      (rw same at some.1)

-- ---- the first of them

named_by : (q : Asked) (text : List ℕ) → IsFirst (λ t. NoValue (HasRange q.reading t)) q.ranges text → (strict : Bool) → q.is_strict ≡ strict
    → Names q UnreadRange (if strict then Some text else None)
named_by q text first true e = range text first e
named_by q text first false e = loosely e

pub range_named : (q : Asked) (text : List ℕ) → IsFirst (λ t. NoValue (HasRange q.reading t)) q.ranges text
    → Names q UnreadRange (if q.is_strict then Some text else None)
range_named q text first = named_by q text first q.is_strict refl

-- the word that is no option
pub strict_some : (strict : Bool) (o : Option (List ℕ)) (word : List ℕ) → Some word ≡ (if strict then o else None)
    → ((strict && is_some o) ≡ true) × (o ≡ Some word)
strict_some true o word e = (ap is_some (sym e), sym e)
strict_some false o word e = absurd (cc)

pub strict_none : (strict : Bool) (o : Option (List ℕ)) → None ≡ (if strict then o else None) → (strict && is_some o) ≡ true → ⊥
strict_none true o e some = let bad : false ≡ true = ap is_some e ∙ some in absurd (cc)
strict_none false o e some = absurd (cc)

pub first_unread : (r : ReadOptions) (texts : List (List ℕ)) (told : List Told) (t : Told) → AreNoRanges r texts told → take 1 told ≡ t ∷ []
    → IsFirst (λ text. NoValue (HasRange r text)) texts t.text
first_unread r texts told t Reasons.none e = absurd (cc)
first_unread r texts told t (Reasons.range text rest a us has are) e =
    further text t.text rest (λ lacks. lacks a has) (first_unread r rest us t are e)
first_unread r texts told t (Reasons.no_range text rest us lacks are) e =
    let same : t.text ≡ text = sym (ap (λ (l : List Told). (get_or l 0 t).text) e) in rw same (this text rest lacks)

-- the text is the first that is no version, and this is told of it
abbrev IsFirstTold : ReadOptions → List (List ℕ) → Told → Type 0
IsFirstTold r texts t = (text : List ℕ) × IsFirst (λ text. NoValue (IsVersionIn r text)) texts text × (t.text ≡ (lacking_in r text).text)

one_further : (r : ReadOptions) (text : List ℕ) (texts : List (List ℕ)) (t : Told) → (NoValue (IsVersionIn r text) → ⊥) → IsFirstTold r texts t
    → IsFirstTold r (text ∷ texts) t
one_further r text texts t is (found, first, same) = (found, further text found texts is first, same)

pub first_lacks : (r : ReadOptions) (ranges texts : List (List ℕ)) (told : List Told) (t : Told) → AreLeftOut r ranges texts told
    → IsFirstLacking told t → IsFirstTold r texts t
first_lacks r ranges texts told t Reasons.none first = elim first [ ]
first_lacks r ranges texts told t (Reasons.accepted text rest v us is say are) first =
    one_further r text rest t (λ lacks. lacks v is) (first_lacks r ranges rest us t are first)
first_lacks r ranges texts told t (Reasons.rejected text rest v us is say are) (Lacking.this _ _ e) = absurd (cc)
first_lacks r ranges texts told t (Reasons.rejected text rest v us is say are) (Lacking.further _ _ _ e more) =
    one_further r text rest t (λ lacks. lacks v is) (first_lacks r ranges rest us t are more)
first_lacks r ranges texts told t (Reasons.no_version text rest us lacks are) (Lacking.this _ _ e) = (text, this text rest lacks, refl)
first_lacks r ranges texts told t (Reasons.no_version text rest us lacks are) (Lacking.further _ _ _ e more) =
    absurd (not_passed (part_by r.field text) text e)

pub version_named : (q : Asked) (told : List Told) (t : Told) → AreLeftOut q.reading q.ranges q.versions told → IsFirstLacking told t
    → Names q NoVersion (Some t.text)
version_named q told t are is = let (text, first, same) = first_lacks q.reading q.ranges q.versions told t are is in rw same (version text first)

any_both : (xs ys : List Told) → list_any is_no_version xs ≡ false → list_any is_no_version ys ≡ false → list_any is_no_version (xs ++ ys) ≡ false
any_both [] ys e f = f
any_both (x ∷ xs) ys e f =
    let (one, others) = or_false (is_no_version x) (list_any is_no_version xs) e in rw (one, any_both xs ys others f) refl

pub none_more : (xs : List Told) (i : ℕ) (x : Told) → i < length xs → x ≡ get_or xs i x → list_any is_no_version (take i xs) ≡ false
    → is_no_version x ≡ false → list_any is_no_version (take (i + 1) xs) ≡ false
none_more xs i x lt item none lacks = rw (take_more xs i x lt, ← item) (any_both (take i xs) (x ∷ []) none (rw lacks refl))

pub first_at : (xs : List Told) (i : ℕ) (x : Told) → i < length xs → x ≡ get_or xs i x → list_any is_no_version (take i xs) ≡ false
    → is_no_version x ≡ true → IsFirstLacking xs x
first_at [] i x lt item none is = absurd (omega (arith, lt))
first_at (y ∷ ys) zero x lt item none is = let same : x ≡ y = item in rw same (Lacking.this y ys (rw same at is))
first_at (y ∷ ys) (suc i) x lt item none is =
    let (one, others) = or_false (is_no_version y) (list_any is_no_version (take i ys)) none in
    Lacking.further y x ys one (first_at ys i x (omega (arith, lt)) item others is)

pub any_first : (xs : List Told) (x : Told) → IsFirstLacking xs x → list_any is_no_version xs ≡ true
any_first xs x (Lacking.this _ ts is) = rw is refl
any_first xs x (Lacking.further t _ ts lacks more) = rw (lacks, any_first ts x more) refl
