-- Identifiers joined by dots: the longest list at the front of a text.
use Rattle.semver_core.proofs.Common.{list_len, Id, Numeric, is_listed, listed, pieces, [], List, arith, drop}
use Rattle.semver_core.proofs.Common.{length, length-drop, refl, take, true, ℕ, ◌++◌, ◌+◌, ◌∷◌, ◌≡◌, ◌≤◌, nat_tests}
use Rattle.semver_core.proofs.Common.{drop_at, take_at}
use Rattle.semver_core.proofs.Text.Ends.{is_spelled, nothing_listed, nothing_spelled, runs_taken}
use Rattle.semver_core.proofs.Text.Pieces.{list_len-append, runs_begin, runs_tail}
use Rattle.semver_core.specs.Internal.Fronts.{begins_identifier, split_list}
use Rattle.semver_core.specs.Text.Identifiers.{IsIdentifiers}
use Rattle.std.proofs.Common.{length-append}
use Rattle.std.proofs.lemmas.Grind.{common_steps}

-- ---- what is read is a list

pub front-identifiers : (text : List ℕ) → begins_identifier text ≡ true
    → IsIdentifiers (take (list_len text) text) (listed (take (list_len text) text))
unfolding listed
front-identifiers text h = let runs = runs_taken text h in grind arith

pub listed_taken : (text : List ℕ) → begins_identifier text ≡ true → is_listed (take (list_len text) text) ≡ true
listed_taken text h = is_spelled (take (list_len text) text) (runs_taken text h)

-- ---- a written list is read, and what goes on behind it

pub written-begins : (t more : List ℕ) (l : List Id) → IsIdentifiers t l → begins_identifier (t ++ more) ≡ true
written-begins t more l h = runs_begin t more h.runs

written-len : (t more : List ℕ) (l : List Id) → IsIdentifiers t l → list_len (t ++ more) ≡ length t + list_len more
written-len t more l h = list_len-append t more (runs_tail (pieces t) h.runs)

-- no less is read than it, and no more where nothing goes on
pub written-le : (t more : List ℕ) (l : List Id) → IsIdentifiers t l
    → length (drop (list_len (t ++ more)) (t ++ more)) ≤ length more
written-le t more l h = grind (arith, nat_tests, common_steps, length-drop, length-append, written-len)

pub written-exact : (t more : List ℕ) (l : List Id) → IsIdentifiers t l → list_len more ≡ 0 → split_list (t ++ more) ≡ (t, more)
written-exact t more l h stop = grind (arith, written-len, take_at, drop_at)

pub written-spelled : (t : List ℕ) (l : List Id) → IsIdentifiers t l → listed t ≡ l
unfolding listed
written-spelled t l h = grind arith

-- ---- short lists

-- `0`
pub zero_listed : is_listed (48 ∷ []) ≡ true
unfolding is_listed
zero_listed = refl

pub zero_spelled : listed (48 ∷ []) ≡ Numeric 0 ∷ []
unfolding listed
zero_spelled = refl

pub ruleset short_lists = (nothing_listed, nothing_spelled, zero_listed, zero_spelled)
