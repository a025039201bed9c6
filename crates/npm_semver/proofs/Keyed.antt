-- What the subcommands on keys, on one version and on the program say, and words that ask them nothing.
use Rattle.hex.specs.Hex.{decode_of}
use Rattle.npm_semver.specs.Internal.Asked.{texts}
use Rattle.npm_semver.specs.Responses.{line}
use Rattle.npm_semver.specs.Subcommands.{Answers, AreLines, HasKey, HasKeyAndText, HasVersion, IsAnswer, Said, is_dash, part_of, reply, say, takes_input}
use Rattle.npm_semver.specs.Subcommands as Spec
use Rattle.npm_semver.specs.declared.help.TheConstants.{HELP}
use Rattle.npm_semver.specs.declared.subcommands.pages.TheConstants.{ABOUT}
use Rattle.npm_semver.specs.declared.subcommands.replies.Status.TheVariants.{No, Yes}
use Rattle.npm_words.specs.VersionText.{IsVersionText}
use Rattle.semver_core.proofs.Encoding.Order.{key_cmp}
use Rattle.semver_core.specs.Failures.{NoValue, RefusedOnlyIf}
use Rattle.semver_core.specs.declared.error.Failure.{Failure}
use Rattle.semver_core.specs.declared.error.Failure.TheVariants.{Memory, Refused}
use Rattle.semver_core.specs.Internal.OrderLaws.{precedence_total, same_key}
use Rattle.semver_core.specs.Keys.{key}
use Rattle.semver_core.specs.Lists.{is_empty}
use Rattle.semver_core.specs.Printing.Text.{version_text}
use Rattle.semver_core.specs.Text.Identifiers.{Id}
use Rattle.semver_core.specs.Values.Order.{precedence}
use Rattle.semver_core.specs.Values.Versions.{IsVersion, VersionValue}
use Rattle.semver_core.specs.declared.TheConstants.{MAX_SAFE_INTEGER}
use Rattle.std.proofs.Common.{◌≡◌, ◌≢◌, ◌∙◌, ◌<◌, ◌==◌, ◌∷◌, ◌++◌, [], ℕ, zero, suc, Bool, true, false, List, None, Option, Some, Result, Ok, Err, ap, append_assoc, append-nil, arith, codes, get_or, is_some, length, map, refl, sym}
use Rattle.std.specs.Borrow.{Bor}
use Rattle.std.specs.Cmp.{tied_itself}
use Rattle.std.specs.Cmp.Lexicographic.{slice_cmp}
use Rattle.std.specs.Ordering.{is_eq, nat_cmp}
use Rattle.std.specs.Prelude.{IfOk}
use Rattle.std.specs.Str.Lines.{lines}
use Rattle.std.specs.declared.cmp.Ordering.{Ordering}
use Rattle.std.specs.declared.cmp.Ordering.TheVariants.{Less, Equal, Greater}

-- an input is rejected for what follows too
pub refused_by : {A E : Type 0} (r : Result A (Failure E)) (P Q : Type 0) → (P → Q) → RefusedOnlyIf r P → RefusedOnlyIf r Q
refused_by (Ok x) P Q f h = tt
refused_by (Err (Refused e)) P Q f h = f h
refused_by (Err (Memory e)) P Q f h = tt

-- what holds of a value has a consequence
pub ok_then : {A E : Type 0} (r : Result A E) (P Q : A → Type 0) → ((x : A) → P x → Q x) → IfOk r P → IfOk r Q
ok_then (Ok x) P Q f h = f x h
ok_then (Err e) P Q f h = tt

-- ---- lines

module _ (Has : List ℕ → List ℕ → Type 0) where
  pub lines_more : (ts : List (List ℕ)) (out after text : List ℕ) → AreLines Has ts out
      → ((shown : List ℕ) × Has text shown × (after ≡ out ++ line shown)) → AreLines Has (ts ++ text ∷ []) after
  lines_more ts out after text Spec.AreLines.none has = rw (has.2, ← append-nil (line has.0)) (Spec.AreLines.more text has.0 [] [] has.1 Spec.AreLines.none)
  lines_more ts out after text (Spec.AreLines.more t shown us rest is are) has =
      rw (has.2, append_assoc (line shown) rest (line has.0))
      (Spec.AreLines.more t shown _ _ is (lines_more us rest (rest ++ line has.0) text are (has.0, has.1, refl)))

  pub no_lines : (xs : List (Bor (List ℕ))) (i : ℕ) (d : Bor (List ℕ)) → i < length xs → NoValue (Has (get_or xs i d).now)
      → NoValue (AreLines Has (texts xs))
  no_lines [] i d lt none out are = absurd (omega arith)
  no_lines (x ∷ xs) zero d lt none out (Spec.AreLines.more t shown us rest is are) = none shown is
  no_lines (x ∷ xs) (suc i) d lt none out (Spec.AreLines.more t shown us rest is are) = no_lines xs i d (omega arith) none rest are

pub no_key : (text : List ℕ) → NoValue (IsVersionText MAX_SAFE_INTEGER text) → NoValue (HasKey text)
no_key text none shown has = none has.0 has.1

pub no_key_and_text : (text : List ℕ) → NoValue (HasKey text) → NoValue (HasKeyAndText text)
no_key_and_text text none shown has = none has.0 has.1

-- ---- one version has a key

pub same_version : (v w : VersionValue) → precedence v w ≡ Equal → v.build ≡ [] → w.build ≡ [] → v ≡ w
same_version v w e one other =
    let same = same_key v w e in
    λ i. record { major = same.0 i; minor = same.1 i; patch = same.2 i; pre_release = same.3 i; build = (one ∙ sym other) i }

eq_is : (order : Ordering) → is_eq order ≡ true → order ≡ Equal
eq_is Less e = cc
eq_is Equal e = refl
eq_is Greater e = cc

no_ids : (ids : List Id) → is_empty ids ≡ true → ids ≡ []
no_ids [] e = refl
no_ids (x ∷ xs) e = cc

pub same_if : (v w : VersionValue) (build : List Id) (none eq : Bool) (order : Ordering) → build ≡ v.build → none ≡ is_empty build → none ≡ true
    → w.build ≡ [] → order ≡ precedence v w → eq ≡ is_eq order → eq ≡ true → v ≡ w
same_if v w build none eq order of is so bare compares tells tied =
    same_version v w (sym compares ∙ eq_is order (sym tells ∙ tied)) (sym of ∙ no_ids build (sym is ∙ so)) bare

pub not_same_if : (v w : VersionValue) (eq : Bool) (order : Ordering) → order ≡ precedence v w → eq ≡ is_eq order → eq ≡ false → v ≡ w → ⊥
not_same_if v w eq order compares tells off same =
    let tied : order ≡ Equal = compares ∙ ap (λ (x : VersionValue). precedence x w) same ∙ tied_itself precedence_total w in
    let bad : true ≡ false = sym (tells ∙ ap is_eq tied) ∙ off in absurd (cc)

pub not_bare : (v w : VersionValue) (build : List Id) (none : Bool) → build ≡ v.build → none ≡ is_empty build → none ≡ false
    → w.build ≡ [] → v ≡ w → ⊥
not_bare v w build none of is off bare same =
    let bad : true ≡ false = sym (is ∙ ap is_empty (of ∙ ap (λ (x : VersionValue). x.build) same ∙ bare)) ∙ off in absurd (cc)

key_once : (v w : VersionValue) → IsVersion v → IsVersion w → v.build ≡ [] → w.build ≡ [] → key v ≡ key w → v ≡ w
key_once v w one other bare plain same = same_version v w
    (sym (key_cmp v w one other) ∙ ap (λ (k : List ℕ). slice_cmp nat_cmp (key v) k) (sym same) ∙ key_cmp v v one one ∙ tied_itself precedence_total v)
    bare plain

-- what is decoded
abbrev decoded : {E : Type 0} → Result (List ℕ) E → List ℕ
decoded (Ok bytes) = bytes
decoded (Err error) = []

pub no_version_read : (text shown : List ℕ) (w : VersionValue) → decode_of text ≡ Ok (key w) → w.build ≡ [] → IsVersion w
    → shown ≡ version_text w → (IsVersionText MAX_SAFE_INTEGER shown w → ⊥) → NoValue (HasVersion text)
no_version_read text shown w decodes bare valid prints not value has =
    let same : has.version ≡ w = key_once has.version w has.is valid has.no_build bare (ap decoded (sym has.bytes ∙ decodes)) in
    not (rw (prints ∙ ap version_text (sym same) ∙ sym has.printed, ← same) has.read)

pub no_version_keyed : (text : List ℕ) → ((v : VersionValue) → IsVersion v → decode_of text ≡ Ok (key v) → ⊥) → NoValue (HasVersion text)
no_version_keyed text none value has = none has.version has.is has.bytes

-- ---- words

-- the reply has a line for each
abbrev HasLines : (List ℕ → List ℕ → Type 0) → List (List ℕ) → Said → Type 0
HasLines Has texts said = (output : List ℕ) × AreLines Has texts output × (said ≡ say output None Yes)

pub keys_said : {X : Type 0} (xs : List X) (f : X → List ℕ) (said : Said) → (length xs == 0) ≡ false → HasLines HasKey (map f xs) said
    → Answers (codes "key" ∷ map f xs) said
keys_said [] f said filled has = absurd (grind arith)
keys_said (x ∷ xs) f said filled has = rw has.2 (Spec.keys (f x) (map f xs) has.0 has.1)

pub unkeys_said : {X : Type 0} (xs : List X) (f : X → List ℕ) (said : Said) → (length xs == 0) ≡ false
    → HasLines HasVersion (map f xs) said → Answers (codes "unkey" ∷ map f xs) said
unkeys_said [] f said filled has = absurd (grind arith)
unkeys_said (x ∷ xs) f said filled has = rw has.2 (Spec.unkeys (f x) (map f xs) has.0 has.1)

pub no_key_words : {X : Type 0} (xs : List X) (f : X → List ℕ) → (length xs == 0) ≡ true → NoValue (Answers (codes "key" ∷ map f xs))
no_key_words [] f empty said answer = elim answer [ ]
no_key_words (x ∷ xs) f empty said answer = absurd (grind arith)

pub no_unkey_words : {X : Type 0} (xs : List X) (f : X → List ℕ) → (length xs == 0) ≡ true → NoValue (Answers (codes "unkey" ∷ map f xs))
no_unkey_words [] f empty said answer = elim answer [ ]
no_unkey_words (x ∷ xs) f empty said answer = absurd (grind arith)

pub no_keys : (words : List (List ℕ)) → NoValue (AreLines HasKey words) → NoValue (Answers (codes "key" ∷ words))
no_keys words none said (Spec.keys a ws out are) = none out are

pub no_unkeys : (words : List (List ℕ)) → NoValue (AreLines HasVersion words) → NoValue (Answers (codes "unkey" ∷ words))
no_unkeys words none said (Spec.unkeys a ws out are) = none out are

pub no_dash : {X : Type 0} (xs : List X) (f : X → List ℕ) → length xs ≢ 1 → is_dash (map f xs) ≡ false
no_dash [] f other = refl
no_dash (x ∷ []) f other = absurd (other refl)
no_dash (x ∷ y ∷ xs) f other = refl

pub from_words : (input : List ℕ) (words : List (List ℕ)) (said : Said) → takes_input words ≡ false → Answers words said
    → IsAnswer input words said
from_words input words said none answers = Spec.of_words said none answers

pub from_lines : (input : List ℕ) (words : List (List ℕ)) (said : Said) → takes_input words ≡ true
    → ((output : List ℕ) × AreLines HasKeyAndText (lines input) output × (said ≡ say output None Yes)) → IsAnswer input words said
from_lines input words said takes has = rw has.2 (Spec.of_lines has.0 takes has.1)

pub no_words_answer : (input : List ℕ) (words : List (List ℕ)) → takes_input words ≡ false → NoValue (Answers words)
    → NoValue (IsAnswer input words)
no_words_answer input words off none said (Spec.of_words s e answers) = none s answers
no_words_answer input words off none said (Spec.of_lines output takes are) = let bad : true ≡ false = sym takes ∙ off in absurd (cc)

pub no_lines_answer : (input : List ℕ) (words : List (List ℕ)) → takes_input words ≡ true → NoValue (AreLines HasKeyAndText (lines input))
    → NoValue (IsAnswer input words)
no_lines_answer input words on none said (Spec.of_words s e answers) = let bad : true ≡ false = sym on ∙ e in absurd (cc)
no_lines_answer input words on none said (Spec.of_lines output takes are) = none output are

pub ruleset answers = (from_words, from_lines, no_words_answer, no_lines_answer)

-- ---- parts and pages

pub no_part : (word a : List ℕ) → None ≡ part_of word → NoValue (Answers (codes "get" ∷ word ∷ a ∷ []))
no_part word a none said (Spec.get part b v text is read) = let e : None ≡ Some text = none ∙ is in absurd (cc)

pub no_part_of : (word a : List ℕ) → NoValue (IsVersionText MAX_SAFE_INTEGER a) → NoValue (Answers (codes "get" ∷ word ∷ a ∷ []))
no_part_of word a none said (Spec.get part b v text is read) = none v read

pub part_said : (word a : List ℕ) (v : VersionValue) (text : VersionValue → Option (List ℕ)) (said : Said) → Some text ≡ part_of word
    → IsVersionText MAX_SAFE_INTEGER a v → said ≡ reply (is_some (text v)) (text v) → Answers (codes "get" ∷ word ∷ a ∷ []) said
part_said word a v text said is read says = rw says (Spec.get word a v text (sym is) read)

pub ruleset no_parts = (no_part, no_part_of, part_said)

pub is_valid : (a : List ℕ) (said : Said) → ((v : VersionValue) × IsVersionText MAX_SAFE_INTEGER a v) → said ≡ reply true None
    → Answers (codes "valid" ∷ a ∷ []) said
is_valid a said has says = rw says (Spec.valid a has.0 has.1)

pub not_valid : (a : List ℕ) (said : Said) → NoValue (IsVersionText MAX_SAFE_INTEGER a) → said ≡ say [] (Some Spec.NoVersion) No
    → Answers (codes "valid" ∷ a ∷ []) said
not_valid a said none says = rw says (Spec.invalid a none)

pub ruleset validities = (is_valid, not_valid)

pub help_said : {X : Type 0} (xs : List X) (f : X → List ℕ) (said : Said) → length xs ≡ 0 → said ≡ say HELP.now None Yes
    → Answers (codes "help" ∷ map f xs) said
help_said [] f said none says = rw says Spec.help
help_said (x ∷ xs) f said none says = absurd (omega (arith, none))

pub about_said : {X : Type 0} (xs : List X) (f : X → List ℕ) (said : Said) → length xs ≡ 0 → said ≡ say ABOUT.now None Yes
    → Answers (codes "about" ∷ map f xs) said
about_said [] f said none says = rw says Spec.about
about_said (x ∷ xs) f said none says = absurd (omega (arith, none))

pub no_help : {X : Type 0} (xs : List X) (f : X → List ℕ) → length xs ≢ 0 → NoValue (Answers (codes "help" ∷ map f xs))
no_help [] f some said answer = some refl
no_help (x ∷ xs) f some said answer = elim answer [ ]

pub no_about : {X : Type 0} (xs : List X) (f : X → List ℕ) → length xs ≢ 0 → NoValue (Answers (codes "about" ∷ map f xs))
no_about [] f some said answer = some refl
no_about (x ∷ xs) f some said answer = elim answer [ ]

pub ruleset pages = (help_said, about_said, no_help, no_about)
