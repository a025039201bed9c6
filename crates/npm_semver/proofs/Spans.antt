-- What the subcommands on spans of keys say, and words that ask them nothing.
use Rattle.key_spans.specs.Spans.{HasEnds, in_spans, is_sorted}
use Rattle.key_spans.specs.declared.KeySpan.{KeySpan}
use Rattle.nodejs_semver.specs.Ranges.Gate.{accepts}
use Rattle.npm_semver.proofs.Keyed.{refused_by}
use Rattle.npm_semver.specs.Responses.{line}
use Rattle.npm_semver.specs.Spans.{AreSpansOf, HasDialect, condition, dialect_of, is_column, span_text}
use Rattle.npm_semver.specs.Spans as Spans
use Rattle.npm_semver.specs.Subcommands.{Answers, IsRange, Range, Said, reply, say}
use Rattle.npm_semver.specs.Subcommands as Spec
use Rattle.npm_semver.specs.declared.subcommands.replies.Status.TheVariants.{No, Yes}
use Rattle.npm_semver.specs.declared.subcommands.spans.Dialect.{Dialect}
use Rattle.npm_semver.specs.declared.subcommands.spans.Dialect.TheVariants.{Sqlite}
use Rattle.semver_core.specs.Failures.{NoValue, RefusedOnlyIf}
use Rattle.semver_core.specs.declared.error.Failure.{Failure}
use Rattle.semver_core.specs.Keys.{key}
use Rattle.semver_core.specs.Lists.{is_empty}
use Rattle.semver_core.specs.Values.Versions.{IsVersion, VersionValue}
use Rattle.std.proofs.Common.{◌≡◌, ◌≢◌, ◌∙◌, ◌∷◌, [], ℕ, Bool, true, false, List, None, Some, Result, Ok, Err, ◌<◌, ◌≤◌, ◌-◌, ap, arith, codes, drop, get_or, length, map, refl, sym, take, if◌then◌else◌}
use Rattle.std.proofs.lemmas.List.{take_all}
use Rattle.std.proofs.lemmas.Slice.Eq.{bytes_eq-Decides}
use Rattle.std.specs.List.{flat_map}
use Rattle.std.specs.Prelude.{All, IfOk, bytes_eq}

-- words that were matched one by one
pub one_word : {X : Type 0} (xs : List X) (f : X → List ℕ) (x : X) (a : List ℕ) → 1 ≤ length xs → length xs < 2 → x ≡ get_or xs 0 x → a ≡ f x
    → map f xs ≡ a ∷ []
one_word [] f x a some few is of = absurd (omega (arith, some))
one_word (y ∷ []) f x a some few is of = ap (λ (w : List ℕ). w ∷ []) (sym (of ∙ ap f is))
one_word (y ∷ z ∷ xs) f x a some few is of = absurd (omega (arith, few))

two_first : {X : Type 0} (xs : List X) (f : X → List ℕ) (x y : X) → 2 ≤ length xs → x ≡ get_or xs 0 x → y ≡ get_or xs 1 y
    → map f xs ≡ f x ∷ f y ∷ map f (drop 2 xs)
two_first [] f x y some is and = absurd (omega (arith, some))
two_first (z ∷ []) f x y some is and = absurd (omega (arith, some))
two_first (z ∷ t ∷ xs) f x y some is and =
    let one : f z ≡ f x = sym (ap f is) in let two : f t ≡ f y = sym (ap f and) in rw (one, two) refl

rest_taken : {X : Type 0} (xs : List X) → 2 ≤ length xs → take (length xs - 2) (drop 2 xs) ≡ drop 2 xs
rest_taken [] some = refl
rest_taken (x ∷ []) some = absurd (omega (arith, some))
rest_taken (x ∷ y ∷ xs) some = take_all (length (x ∷ y ∷ xs) - 2) xs (omega arith)

pub two_more : {X : Type 0} (xs : List X) (f : X → List ℕ) (x y : X) → 2 ≤ length xs → x ≡ get_or xs 0 x → y ≡ get_or xs 1 y
    → map f xs ≡ f x ∷ f y ∷ map f (take (length xs - 2) (drop 2 xs))
two_more xs f x y some is and = rw (rest_taken xs some) (two_first xs f x y some is and)

no_more : {X : Type 0} (xs : List X) (f : X → List ℕ) → length xs < 3 → map f (drop 2 xs) ≡ []
no_more [] f few = refl
no_more (x ∷ []) f few = refl
no_more (x ∷ y ∷ []) f few = refl
no_more (x ∷ y ∷ z ∷ xs) f few = absurd (omega (arith, few))

pub two_words : {X : Type 0} (xs : List X) (f : X → List ℕ) (x y : X) (a b : List ℕ) → 2 ≤ length xs → length xs < 3
    → x ≡ get_or xs 0 x → y ≡ get_or xs 1 y → a ≡ f x → b ≡ f y → map f xs ≡ a ∷ b ∷ []
two_words xs f x y a b some few is and of by = rw (two_first xs f x y some is and, no_more xs f few, of, by) refl

pub are_spans : (text : List ℕ) (range : Range) (spans : List KeySpan) → IsRange text range
    → ((v : VersionValue) → IsVersion v → in_spans spans (key v) ≡ accepts range v false) → is_sorted spans ≡ true
    → All (HasEnds false) spans → AreSpansOf text spans
are_spans text range spans is exact sorted ends =
    record { range = range; is = is; exact = exact; sorted = sorted; ends = ends }

pub spans_said : (a : List ℕ) (spans : List KeySpan) (said : Said) → AreSpansOf a spans
    → said ≡ say (flat_map (λ s. line (span_text s)) spans) None (if is_empty spans then No else Yes)
    → Answers (codes "spans" ∷ a ∷ []) said
spans_said a spans said are says = rw says (Spec.spans a spans are)

pub no_spans : (a : List ℕ) → NoValue (IsRange a) → NoValue (Answers (codes "spans" ∷ a ∷ []))
no_spans a none said (Spec.spans x spans are) = none are.range are.is

-- ---- conditions

pub sql_said : (a column : List ℕ) (words : List (List ℕ)) (dialect : Dialect) (spans : List KeySpan) (is : Bool) (said : Said)
    → AreSpansOf a spans → is ≡ is_column column → is ≡ true → HasDialect words dialect
    → said ≡ reply true (Some (condition dialect column spans)) → Answers (codes "sql" ∷ a ∷ column ∷ words) said
sql_said a column words dialect spans is said are tells so has says =
    rw says (Spec.sql a column words dialect spans are (sym tells ∙ so) has)

pub no_sql_range : (a column : List ℕ) (words : List (List ℕ)) → NoValue (IsRange a)
    → NoValue (Answers (codes "sql" ∷ a ∷ column ∷ words))
no_sql_range a column words none said (Spec.sql x c ws dialect spans are is has) = none are.range are.is

pub no_sql_column : (a column : List ℕ) (words : List (List ℕ)) (is : Bool) → is ≡ is_column column → is ≡ false
    → NoValue (Answers (codes "sql" ∷ a ∷ column ∷ words))
no_sql_column a column words is tells off said (Spec.sql x c ws dialect spans are so has) =
    let bad : true ≡ false = sym so ∙ sym tells ∙ off in absurd (cc)

pub no_sql_dialect : (a column : List ℕ) (words : List (List ℕ)) → NoValue (HasDialect words)
    → NoValue (Answers (codes "sql" ∷ a ∷ column ∷ words))
no_sql_dialect a column words none said (Spec.sql x c ws dialect spans are is has) = none dialect has

pub no_option : (option word : List ℕ) → option ≢ codes "--dialect" → NoValue (HasDialect (option ∷ word ∷ []))
no_option option word other dialect (Spans.behind w d is) = other refl

pub no_dialect_of : (word : List ℕ) → NoValue (λ dialect. dialect_of word ≡ Some dialect)
    → NoValue (HasDialect (codes "--dialect" ∷ word ∷ []))
no_dialect_of word none dialect (Spans.behind w d is) = none d is

pub ruleset no_behind = (no_option, no_dialect_of)

pub is_option : (word : List ℕ) (same : Bool) → same ≡ bytes_eq word (codes "--dialect") → same ≡ true → word ≡ codes "--dialect"
is_option word same tells so = (bytes_eq-Decides word (codes "--dialect")).0 (sym tells ∙ so)

pub named_behind : {E : Type 0} (option word : List ℕ) (found : Result Dialect E) → option ≡ codes "--dialect"
    → IfOk found (λ dialect. dialect_of word ≡ Some dialect) → IfOk found (λ dialect. HasDialect (option ∷ word ∷ []) dialect)
named_behind option word (Ok dialect) is names = rw is (Spans.behind word dialect names)
named_behind option word (Err error) is names = tt

pub not_named_behind : {E : Type 0} (option word : List ℕ) (found : Result Dialect (Failure E)) → option ≡ codes "--dialect"
    → RefusedOnlyIf found (NoValue (λ dialect. dialect_of word ≡ Some dialect))
    → RefusedOnlyIf found (NoValue (HasDialect (option ∷ word ∷ [])))
not_named_behind option word found is none = rw is (refused_by found _ _ (no_dialect_of word) none)

pub no_options : {X : Type 0} (xs : List X) (f : X → List ℕ) → length xs < 1 → HasDialect (map f xs) Sqlite
no_options [] f lt = Spans.none
no_options (x ∷ xs) f lt = absurd (omega arith)
