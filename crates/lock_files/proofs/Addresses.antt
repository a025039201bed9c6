-- Addresses, and what is behind them.
use Rattle.std.proofs.Common.{◌≡◌, ◌≢◌, ◌==◌, ◌<◌, ◌≤◌, ◌⊎◌, ◌+◌, ◌-◌, ◌∷◌, ◌++◌, ◌∙◌, [], Bool, List, Option, None, ℕ}
use Rattle.std.proofs.Common.{ap, ap₂, arith, codes, drop, false, get_or, inl, inr, length, length-append, map, not, refl, subst, suc}
use Rattle.std.proofs.Common.{sym, take, take-append-drop, true, true≢false, unwrap_or, zero}
use Rattle.std.proofs.Math.Seq.{drop-append-add, drop-append_seam, get_or-append_right, get_or-append_seam, take-append_seam}
use Rattle.std.proofs.lemmas.Bool.{cases_Bool, cases_lt, eq-eqb, false_from_ne_true, not-true}
use Rattle.std.proofs.lemmas.List.Folds.{list_any_at}
use Rattle.std.proofs.lemmas.List.Splits.{length-slice_split}
use Rattle.std.proofs.lemmas.List.Sums.{suffix_len_is}
use Rattle.std.proofs.lemmas.Option.{unwrap_or-slice_get}
use Rattle.std.proofs.lemmas.Slice.Eq.{bytes_eq-Decides}
use Rattle.std.specs.Bool.{Decides}
use Rattle.std.specs.Borrow.{Bor}
use Rattle.std.specs.List.{Any, after_last, suffix_len}
use Rattle.std.specs.Prelude.{IsTrue, bytes_eq, option_map, slice_get}
use Rattle.std.specs.Str.Iter.{HasSubslice}
use Rattle.std.specs.Str.Pattern.{FindsText, SplitsAroundMatch}
use Rattle.lock_files.proofs.Patterns.{first-slash, parts-cut, parts-whole}
use Rattle.lock_files.specs.Paths.{is_slash, parts}
use Rattle.lock_files.specs.Specifiers.{IsRangeNamed, HasTwoParts, IsBelowProject, IsCutAt, IsOneOf, IsPage, IsSameWord, NamesRange}
use Rattle.lock_files.specs.Specifiers.{has, host_of, hosts, path_of, third_part}

-- ---- a piece of a text

-- where a piece was found
pub cut-found : (piece text before behind : List ℕ) → SplitsAroundMatch (FindsText piece) text before behind
    → IsCutAt piece text before behind
cut-found piece text before behind s = (
  sym (take-append-drop s.0 text)
      ∙ ap₂ (λ a b. a ++ b) (sym s.3) (s.2.1.split ∙ ap (λ t. piece ++ t) (sym s.4)),
  λ other rest e. elim (cases_lt (length other) (length before)) [
    | inl sooner ↦ absurd (s.2.0 (length other) (omega (arith, s.6)) rest
        (ap (drop (length other)) e ∙ drop-append_seam other (piece ++ rest)))
    | inr later ↦ later
  ],
)

-- none was found
pub cut-none : (piece text before behind : List ℕ) → FindsText piece text None → ¬ (IsCutAt piece text before behind)
cut-none piece text before behind none cut =
    none (length before) (omega (arith, ap length cut.0, length-append before (piece ++ behind))) behind
    (ap (drop (length before)) cut.0 ∙ drop-append_seam before (piece ++ behind))

-- there is one first piece
pub one_piece : (piece text a b x y : List ℕ) → IsCutAt piece text a b → IsCutAt piece text x y → (a ≡ x) × (b ≡ y)
one_piece piece text a b x y cut also =
    let same : length a ≡ length x = omega (arith, cut.1 x y also.0, also.1 a b cut.0) in
    let fronts : a ≡ x = sym (ap (take (length a)) cut.0 ∙ take-append_seam a (piece ++ b))
    ∙ ap (λ n. take n text) same ∙ ap (take (length x)) also.0 ∙ take-append_seam x (piece ++ y) in
    let behind : piece ++ b ≡ piece ++ y = sym (ap (drop (length a)) cut.0 ∙ drop-append_seam a (piece ++ b))
    ∙ ap (λ n. drop n text) same ∙ ap (drop (length x)) also.0 ∙ drop-append_seam x (piece ++ y) in
    (fronts, sym (drop-append_seam piece b) ∙ ap (drop (length piece)) behind ∙ drop-append_seam piece y)

-- ---- the range behind `#semver:`

pub range-none : (text : List ℕ) → FindsText (codes "#semver:") text None → IsRangeNamed text None
range-none text none range is = cut-none (codes "#semver:") text is.0 range none is.1

pub range-odd : (text before range : List ℕ) → SplitsAroundMatch (FindsText (codes "#semver:")) text before range
    → (has 37 range ≡ true) ⊎ HasSubslice range (codes "::") → IsRangeNamed text None
range-odd text before range s odd other is =
    let same = (one_piece (codes "#semver:") text before range is.0 other (cut-found (codes "#semver:") text before range s) is.1).1 in
    elim odd [
      | inl escaped ↦ true≢false (sym escaped ∙ ap (has 37) same ∙ is.2)
      | inr two ↦ is.3 (subst (λ t. HasSubslice t (codes "::")) same two)
    ]

pub range-some : (text before range : List ℕ) → SplitsAroundMatch (FindsText (codes "#semver:")) text before range
    → has 37 range ≡ false → ¬ (HasSubslice range (codes "::")) → NamesRange text range
range-some text before range s plain one = (before, cut-found (codes "#semver:") text before range s, plain, one)

-- ---- the host

-- a text without the character
lacks-at : (c : ℕ) (text : List ℕ) (i : ℕ) → has c text ≡ false → i < length text → not (get_or text i 0 == c) ≡ true
lacks-at c text i none low = elim (cases_Bool (get_or text i 0 == c)) [
  | inl is ↦ absurd (true≢false (sym (list_any_at (λ b. b == c) text i 0 low is) ∙ none))
  | inr is ↦ rw is refl
]

pub after_last-whole : (c : ℕ) (text : List ℕ) → has c text ≡ false → after_last (λ b. b == c) text ≡ text
after_last-whole c text none =
    let all : suffix_len (λ b. not (b == c)) text ≡ length text - 0
    = suffix_len_is (λ b. not (b == c)) text 0 0 (omega arith) (λ k low high. lacks-at c text k none high)
    (λ some. absurd (omega arith)) in
    let start : length text - suffix_len (λ b. not (b == c)) text ≡ 0 = omega (arith, all) in
    ap (λ n. drop n text) start

pub after_last-cut : (c : ℕ) (text before behind : List ℕ) → text ≡ before ++ c ∷ behind → has c behind ≡ false
    → after_last (λ b. b == c) text ≡ behind
after_last-cut c text before behind cut none =
    let end = length before + 1 in
    let long : end ≤ length text = omega (arith, ap length cut, length-append before (c ∷ behind)) in
    let size : length text ≡ end + length behind = omega (arith, ap length cut, length-append before (c ∷ behind)) in
    let all : suffix_len (λ b. not (b == c)) text ≡ length text - end
    = suffix_len_is (λ b. not (b == c)) text end 0 long (λ k low high. each k low (omega arith)) (λ some. last) in
    let start : length text - suffix_len (λ b. not (b == c)) text ≡ end = omega (arith, all) in
    ap (λ n. drop n text) start ∙ ap (drop end) cut ∙ drop-append-add before (c ∷ behind) 1
  where
    each : (k : ℕ) → length before + 1 ≤ k → k < length before + 1 + length behind → not (get_or text k 0 == c) ≡ true
    each k low high =
        let place : k - length before ≡ suc (k - (length before + 1)) = omega arith in
        let same : get_or text k 0 ≡ get_or behind (k - (length before + 1)) 0
        = ap (λ t. get_or t k 0) cut ∙ get_or-append_right before (c ∷ behind) k 0 (omega arith)
        ∙ ap (λ m. get_or (c ∷ behind) m 0) place in
        subst (λ d. not (d == c) ≡ true) (sym same)
        (lacks-at c behind (k - (length before + 1)) none (omega arith))

    last : not (get_or text (length before + 1 - 1) 0 == c) ≡ false
    last =
        let place : length before + 1 - 1 ≡ length before = omega arith in
        let same : get_or text (length before + 1 - 1) 0 ≡ c
        = ap (λ m. get_or text m 0) place ∙ ap (λ t. get_or t (length before) 0) cut
        ∙ get_or-append_seam before c behind 0 in
        ap not (eq-eqb (get_or text (length before + 1 - 1) 0) c same)

-- ---- below a project

pub third-is : (path : List ℕ) (found : Option (Bor (List ℕ)))
    → option_map (λ p. p.now) found ≡ slice_get (parts path) 2
    → third_part path ≡ unwrap_or (option_map (λ p. p.now) found) []
third-is path found same =
    sym (unwrap_or-slice_get (parts path) 2 []) ∙ ap (λ o. unwrap_or o []) (sym same)

pub no_below : (path : List ℕ) → third_part path ≡ [] → ¬ (IsBelowProject path)
no_below path none is = is.0 none

pub below-cases : (path part : List ℕ) (r : Bool) → third_part path ≡ part → part ≢ []
    → r ≡ not (bytes_eq part (codes "tree")) → (IsTrue r → IsBelowProject path) × (IsBelowProject path → IsTrue r)
below-cases path part r same some is = (
  λ other. (
    λ none. some (sym same ∙ none),
    λ tree. true≢false (sym (tests.1 (sym same ∙ tree)) ∙ not-true (bytes_eq part (codes "tree")) (sym is ∙ other)),
  ),
  λ below. is ∙ ap not (false_from_ne_true (bytes_eq part (codes "tree")) (λ tree. below.1 (same ∙ tests.0 tree))),
)
  where
    tests : Decides (bytes_eq part (codes "tree")) (part ≡ codes "tree")
    tests = bytes_eq-Decides part (codes "tree")

-- ---- a page

module _ (target host path : List ℕ) (same : host ≡ host_of target) (also : path ≡ path_of target) where
  pub page-unknown : ¬ (IsOneOf hosts host) → IsPage target
  page-unknown never = inl (λ is. never (subst (IsOneOf hosts) (sym same) is))

  pub page-below : IsSameWord host (codes "github.com") → IsBelowProject path → IsPage target
  page-below is below =
      inr (subst (λ t. IsSameWord t (codes "github.com")) same is, subst IsBelowProject also below)

  pub page-known : IsOneOf hosts host → IsPage target → IsSameWord host (codes "github.com") × IsBelowProject path
  page-known known (inl never) = absurd (never (subst (IsOneOf hosts) same known))
  page-known known (inr is) =
      (subst (λ t. IsSameWord t (codes "github.com")) (sym same) is.0, subst IsBelowProject (sym also) is.1)

-- ---- two parts

single : (text part : List ℕ) → parts text ≡ part ∷ [] → (has 47 text ≡ false) × (part ≡ text)
single text part one = elim (cases_Bool (has 47 text)) [
  | inl some ↦
      let cut = first-slash text some in
      let two : cut.0 ∷ parts cut.1 ≡ part ∷ [] = sym (parts-cut text cut.0 cut.1 cut.2 cut.3) ∙ one in
      absurd (omega (arith, ap length two, length-slice_split is_slash cut.1))
  | inr none ↦ let whole = parts-whole text none in (none, cc)
]

module _ (text user project : List ℕ) (cut : (text ≡ user ++ 47 ∷ project) × (has 47 user ≡ false)) where
  pub two_parts : user ≢ [] → project ≢ [] → has 47 project ≡ false → HasTwoParts text
  two_parts some also none =
      (user, project, parts-cut text user project cut.0 cut.1 ∙ ap (λ t. user ∷ t) (parts-whole project none), some, also)

  pub the_parts : HasTwoParts text → (user ≢ []) × (project ≢ []) × (has 47 project ≡ false)
  the_parts is =
      let same : user ∷ parts project ≡ is.0 ∷ is.1 ∷ [] = sym (parts-cut text user project cut.0 cut.1) ∙ is.2 in
      let first : user ≡ is.0 = cc in
      let rest : parts project ≡ is.1 ∷ [] = cc in
      let one = single project is.1 rest in
      (λ none. is.3 (sym first ∙ none), λ none. is.4 (one.1 ∙ none), one.0)

pub no_two_parts : (text : List ℕ) → has 47 text ≡ false → ¬ (HasTwoParts text)
no_two_parts text none is =
    let two : text ∷ [] ≡ is.0 ∷ is.1 ∷ [] = sym (parts-whole text none) ∙ is.2 in
    absurd (omega (arith, ap length two))

-- ---- one of some words

pub any-now : (P : List ℕ → Type 0) (words : List (Bor (List ℕ))) → Any (λ w. P w.now) words → Any P (map (λ w. w.now) words)
any-now P [] (k, w, low, at, is) = absurd (omega arith)
any-now P (word ∷ words) (zero, w, low, at, is) = (zero, w.now, omega arith, ap (λ v. v.now) at, is)
any-now P (word ∷ words) (suc k, w, low, at, is) =
    let rest = any-now P words (k, w, omega arith, at, is) in (suc rest.0, rest.1, omega (arith, rest.2), rest.3, rest.4)

pub now-any : (P : List ℕ → Type 0) (words : List (Bor (List ℕ))) → Any P (map (λ w. w.now) words) → Any (λ w. P w.now) words
now-any P [] (k, w, low, at, is) = absurd (omega arith)
now-any P (word ∷ words) (zero, w, low, at, is) = (zero, word, omega arith, refl, subst P (sym at) is)
now-any P (word ∷ words) (suc k, w, low, at, is) =
    let rest = now-any P words (k, w, omega arith, at, is) in (suc rest.0, rest.1, omega (arith, rest.2), rest.3, rest.4)
