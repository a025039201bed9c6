-- Words that are no question, and what the others are answered.
use Rattle.nodejs_semver.specs.{Printing.Text.range_text, Ranges.{Algebra.{difference, intersection}, Gate.accepts, Least.{IsLeastOf, beyond}}}
use Rattle.npm_semver.specs.{Internal.Said.is_operation, Subcommands.{Answers, AreRanges, HasIdentifier, IsRange, IsShown, Range}}
use Rattle.npm_semver.specs.{Subcommands.{Said, next_said, relation_of, reply, say, sign}}
use Rattle.{npm_words.specs.{Alternatives.HasAlternativesIn, VersionText.IsVersionText}, semver_core.specs.Difference.{kind_between, kind_word}}
use Rattle.semver_core.specs.{Failures.NoValue, Increments.Table.answer_of_inc, Printing.Text.version_text, Values.Order.precedence}
use Rattle.semver_core.specs.{Values.Versions.VersionValue, declared.{TheConstants.MAX_SAFE_INTEGER, difference.VersionDiff.VersionDiff}}
use Rattle.std.proofs.Common.{Bool, List, None, Option, Some, [], arith, codes, false, get_or, is_none, is_some, length, map}
use Rattle.std.proofs.{Common.{option_map, refl, suc, sym, take, true, zero, ℕ, ◌++◌, ◌+◌, ◌<◌, ◌==◌, ◌∙◌, ◌∷◌, ◌≡◌, ◌≢◌}, lemmas.List.map-append}
use Rattle.std.{proofs.lemmas.List.take_more, specs.{List.list_all, Prelude.IfSome, declared.cmp.Ordering.Ordering}}
use Rattle.npm_semver.specs.Subcommands as Spec

abbrev NoVersion : List ℕ → Type 0
NoVersion text = NoValue (IsVersionText MAX_SAFE_INTEGER text)

abbrev NoRange : List ℕ → Type 0
NoRange text = NoValue (IsRange text)

pub no_order : (a b : List ℕ) → NoVersion a → NoValue (Answers (codes "compare" ∷ a ∷ b ∷ []))
no_order a b none said (Spec.compare x y v w are) = none v are.0

pub no_order_of : (a b : List ℕ) → NoVersion b → NoValue (Answers (codes "compare" ∷ a ∷ b ∷ []))
no_order_of a b none said (Spec.compare x y v w are) = none w are.1

pub no_test : (a word b : List ℕ) → NoVersion a → NoValue (Answers (codes "compare" ∷ a ∷ word ∷ b ∷ []))
no_test a word b none said (Spec.test x t y v w relation are is) = none v are.0

pub no_test_of : (a word b : List ℕ) → NoVersion b → NoValue (Answers (codes "compare" ∷ a ∷ word ∷ b ∷ []))
no_test_of a word b none said (Spec.test x t y v w relation are is) = none w are.1

pub no_relation : (a word b : List ℕ) → None ≡ relation_of word → NoValue (Answers (codes "compare" ∷ a ∷ word ∷ b ∷ []))
no_relation a word b none said (Spec.test x t y v w relation are is) = let e : None ≡ Some relation = none ∙ is in absurd (cc)

pub ruleset no_tests = (no_test, no_test_of, no_relation)

pub no_difference : (a b : List ℕ) → NoVersion a → NoValue (Answers (codes "diff" ∷ a ∷ b ∷ []))
no_difference a b none said (Spec.diff x y v w are) = none v are.0

pub no_difference_of : (a b : List ℕ) → NoVersion b → NoValue (Answers (codes "diff" ∷ a ∷ b ∷ []))
no_difference_of a b none said (Spec.diff x y v w are) = none w are.1

pub ruleset no_differences = (no_difference, no_difference_of)

pub no_next : (level a : List ℕ) (words : List (List ℕ)) → NoVersion a → NoValue (Answers (codes "next" ∷ level ∷ a ∷ words))
no_next level a words none said (Spec.next l x ws id v is has) = none v is

pub no_next_options : (level a : List ℕ) (words : List (List ℕ)) → NoValue (HasIdentifier words) → NoValue (Answers (codes "next" ∷ level ∷ a ∷ words))
no_next_options level a words none said (Spec.next l x ws id v is has) = none id has

pub no_behind : (option id : List ℕ) → option ≢ codes "--preid" → NoValue (HasIdentifier (option ∷ id ∷ []))
no_behind option id other found (Spec.behind x) = other refl

pub no_joined : (option : List ℕ) → ((id : List ℕ) → option ≢ codes "--preid=" ++ id) → NoValue (HasIdentifier (option ∷ []))
no_joined option other found (Spec.joined id) = other id refl

pub ordered : (a b : List ℕ) (v w : VersionValue) (order : Ordering) (said : Said) → IsVersionText MAX_SAFE_INTEGER a v
    → IsVersionText MAX_SAFE_INTEGER b w → order ≡ precedence v w → said ≡ reply true (Some (sign order))
    → Answers (codes "compare" ∷ a ∷ b ∷ []) said
ordered a b v w order said one other is says = rw (says, is) (Spec.compare a b v w (one, other))

pub tested : (a word b : List ℕ) (v w : VersionValue) (order : Ordering) (holds : Ordering → Bool) (is_so : Bool) (said : Said)
    → IsVersionText MAX_SAFE_INTEGER a v → IsVersionText MAX_SAFE_INTEGER b w → order ≡ precedence v w → Some holds ≡ relation_of word
    → is_so ≡ holds order → said ≡ reply is_so None → Answers (codes "compare" ∷ a ∷ word ∷ b ∷ []) said
tested a word b v w order holds is_so said one other is of so says = rw (says, so, is) (Spec.test a word b v w holds (one, other) (sym of))

pub differing : (a b : List ℕ) (v w : VersionValue) (kind : Option VersionDiff) (said : Said) → IsVersionText MAX_SAFE_INTEGER a v
    → IsVersionText MAX_SAFE_INTEGER b w → kind ≡ kind_between v w → said ≡ reply true (option_map kind_word kind)
    → Answers (codes "diff" ∷ a ∷ b ∷ []) said
differing a b v w kind said one other is says = rw (says, is) (Spec.diff a b v w (one, other))

pub nexts : (level a : List ℕ) (words : List (List ℕ)) (id : Option (List ℕ)) (v : VersionValue) (said : Said)
    → IsVersionText MAX_SAFE_INTEGER a v → HasIdentifier words id → said ≡ next_said v (answer_of_inc v level id None)
    → Answers (codes "next" ∷ level ∷ a ∷ words) said
nexts level a words id v said is has says = rw says (Spec.next level a words id v is has)

pub no_options : {X : Type 0} (xs : List X) (f : X → List ℕ) → length xs < 1 → HasIdentifier (map f xs) None
no_options [] f lt = Spec.none
no_options (x ∷ xs) f lt = absurd (omega arith)

pub is_behind : (option id : List ℕ) → option ≡ codes "--preid" → HasIdentifier (option ∷ id ∷ []) (Some id)
is_behind option id is = rw is (Spec.behind id)

pub is_joined : (option id rest : List ℕ) → option ≡ codes "--preid=" ++ rest → id ≡ rest → HasIdentifier (option ∷ []) (Some id)
is_joined option id rest cut is = rw (cut, is) (Spec.joined rest)

pub no_range : (text : List ℕ) → NoValue (HasAlternativesIn false MAX_SAFE_INTEGER false text) → NoValue (IsRange text)
no_range text none range is = none is.alternatives is.has

pub no_normal : (a : List ℕ) → NoRange a → NoValue (Answers (codes "range" ∷ a ∷ []))
no_normal a none said (Spec.range x r s is shown) = none r is

pub no_operation : (a word b : List ℕ) → is_operation word ≡ false → NoValue (Answers (codes "range" ∷ a ∷ word ∷ b ∷ []))
no_operation a word b none value (Spec.and x y r s said one other shown) = let bad : true ≡ false = none in absurd (cc)
no_operation a word b none value (Spec.minus x y r s said one other shown) = let bad : true ≡ false = none in absurd (cc)
no_operation a word b none value (Spec.within x y r s least one other is_least bare) = let bad : true ≡ false = none in absurd (cc)

pub no_first : (a word b : List ℕ) → NoRange a → NoValue (Answers (codes "range" ∷ a ∷ word ∷ b ∷ []))
no_first a word b none value (Spec.and x y r s said one other shown) = none r one
no_first a word b none value (Spec.minus x y r s said one other shown) = none r one
no_first a word b none value (Spec.within x y r s least one other is_least bare) = none r one

pub no_second : (a word b : List ℕ) → NoRange b → NoValue (Answers (codes "range" ∷ a ∷ word ∷ b ∷ []))
no_second a word b none value (Spec.and x y r s said one other shown) = none s other
no_second a word b none value (Spec.minus x y r s said one other shown) = none s other
no_second a word b none value (Spec.within x y r s least one other is_least bare) = none s other

pub ruleset no_operations = (no_operation, no_first, no_second)

pub shown_none : (found : Option Range) (said : Said) → None ≡ found → said ≡ reply false None → IsShown found said
shown_none found said is says = rw (says, ← is) (Spec.none None (λ v e. let bad : false ≡ true = e in absurd (cc)))

pub shown_empty : (found : Option Range) (r : Range) (least : Option VersionValue) (said : Said) → found ≡ Some r
    → IsLeastOf (λ v. accepts r v false) least → is_some least ≡ false → said ≡ reply false None → IsShown found said
shown_empty found r None said of is none says =
    rw (says, of) (Spec.none (Some r) (λ v e. let bad : false ≡ true = sym (is v) ∙ e in absurd (cc)))
shown_empty found r (Some v) said of is none says = let bad : true ≡ false = none in absurd (cc)

pub shown_some : (found : Option Range) (r : Range) (least : Option VersionValue) (said : Said) → found ≡ Some r
    → IsLeastOf (λ v. accepts r v false) least → is_some least ≡ true → said ≡ reply true (Some (range_text r)) → IsShown found said
shown_some found r None said of is some says = let bad : false ≡ true = some in absurd (cc)
shown_some found r (Some v) said of is some says = rw (says, of) (Spec.some r v is.0)

pub and_shown : (a b : List ℕ) (r s : Range) (found : Option Range) (said : Said) → IsRange a r → IsRange b s → found ≡ intersection r s
    → IsShown found said → Answers (codes "range" ∷ a ∷ codes "and" ∷ b ∷ []) said
and_shown a b r s found said one other is shown = Spec.and a b r s said one other (rw is at shown)

pub minus_shown : (a b : List ℕ) (r s : Range) (found : Option Range) (said : Said) → IsRange a r → IsRange b s → found ≡ difference r s
    → IsShown found said → Answers (codes "range" ∷ a ∷ codes "minus" ∷ b ∷ []) said
minus_shown a b r s found said one other is shown = Spec.minus a b r s said one other (rw is at shown)

pub within_said : (a b : List ℕ) (r s : Range) (least : Option VersionValue) (said : Said) → IsRange a r → IsRange b s
    → IsLeastOf (beyond r s) least → IfSome least (λ v. v.build ≡ [])
    → said ≡ reply (is_none least) (option_map version_text least)
    → Answers (codes "range" ∷ a ∷ codes "within" ∷ b ∷ []) said
within_said a b r s least said one other is bare says = rw says (Spec.within a b r s least one other is bare)

pub least_said : {X : Type 0} (xs : List X) (f : X → List ℕ) (rs : List Range) (least : Option VersionValue) (said : Said)
    → (length xs == 0) ≡ false → AreRanges (map f xs) rs → IsLeastOf (λ v. list_all (λ r. accepts r v false) rs) least
    → IfSome least (λ v. v.build ≡ [])
    → said ≡ reply (is_some least) (option_map version_text least) → Answers (codes "least" ∷ map f xs) said
least_said [] f rs least said filled are is bare says = absurd (grind arith)
least_said (x ∷ xs) f rs least said filled are is bare says = rw says (Spec.least (f x) (map f xs) rs least are is bare)

pub no_words : {X : Type 0} (xs : List X) (f : X → List ℕ) → (length xs == 0) ≡ true → NoValue (Answers (codes "least" ∷ map f xs))
no_words [] f empty said answer = elim answer [ ]
no_words (x ∷ xs) f empty said answer = absurd (grind arith)

pub ranges_more : (texts : List (List ℕ)) (rs : List Range) (text : List ℕ) (r : Range) → AreRanges texts rs → IsRange text r
    → AreRanges (texts ++ text ∷ []) (rs ++ r ∷ [])
ranges_more texts rs text r Spec.none is = Spec.more text [] r [] is Spec.none
ranges_more texts rs text r (Spec.more t ts s ss one are) is = Spec.more t _ s _ one (ranges_more ts ss text r are is)

no_range_at : {X : Type 0} (xs : List X) (f : X → List ℕ) (i : ℕ) (d : X) → i < length xs → NoRange (f (get_or xs i d))
    → NoValue (AreRanges (map f xs))
no_range_at [] f i d lt none rs are = absurd (omega arith)
no_range_at (x ∷ xs) f zero d lt none rs (Spec.more t ts r ss one are) = none r one
no_range_at (x ∷ xs) f (suc i) d lt none rs (Spec.more t ts r ss one are) = no_range_at xs f i d (omega arith) none ss are

pub no_ranges : {X : Type 0} (xs : List X) (f : X → List ℕ) (i : ℕ) (x : X) (text : List ℕ) → i < length xs → x ≡ get_or xs i x → text ≡ f x
    → NoRange text → NoValue (AreRanges (map f xs))
no_ranges xs f i x text lt at is none = no_range_at xs f i x lt (rw (← at, ← is) none)

pub ranges_step : {X : Type 0} (xs : List X) (f : X → List ℕ) (i : ℕ) (x : X) (text : List ℕ) (rs after : List Range) (r : Range)
    → i < length xs → x ≡ get_or xs i x → text ≡ f x → AreRanges (map f (take i xs)) rs → IsRange text r → after ≡ rs ++ r ∷ []
    → AreRanges (map f (take (i + 1) xs)) after
ranges_step xs f i x text rs after r lt at is are range added =
    rw (take_more xs i x lt, map-append, ← at, ← is, added) (ranges_more _ _ _ _ are range)

pub no_drawing : (a : List ℕ) → NoRange a → NoValue (Answers (codes "explain" ∷ a ∷ []))
no_drawing a none said (Spec.explain x r text is) = none r is

pub no_least : (words : List (List ℕ)) → NoValue (AreRanges words) → NoValue (Answers (codes "least" ∷ words))
no_least words none said (Spec.least a ws rs least are is bare) = none rs are
