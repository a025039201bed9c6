-- The last number of a list.
use Rattle.semver_core.proofs.Common.{Fault, advance, has_numeric, one_more, raise_last, is_empty, AlphaNumeric}
use Rattle.semver_core.proofs.Common.{Id, Numeric, id_cmp, IdentifierBase, List, Option}
use Rattle.semver_core.proofs.Common.{Some, [], ap, arith, false, inl, inr, length, refl, sym}
use Rattle.semver_core.proofs.Common.{take, true, ℕ, ◌++◌, ◌+◌, ◌-◌, ◌<◌, ◌∙◌, ◌∷◌, ◌≡◌, ◌≤◌, nat_tests, cases_lt}
use Rattle.semver_core.proofs.Common.{is_ascii_digit, tied_itself, list_all, ◌==◌, Err, Ok, Result, digits_value, bytes_eq}
use Rattle.semver_core.proofs.Common.{Overflow, is_kept, ◌>>=◌, Tracks, id_total, ◌^◌}
use Rattle.semver_core.proofs.Common.{not, ◌&&◌, drop, take-append-drop, drop-drop}
use Rattle.semver_core.specs.{Increments.Table.asked, Internal.OrderLaws.id_same}
use Rattle.semver_core.specs.Internal.NextIds.{numbered}
use Rattle.std.proofs.lemmas.{List.{Folds.list_any-append}, Str.Parse.parse_digits}
use Rattle.std.specs.{Cmp.Equal-is, Ordering.is_eq, Prelude.{◌↔◌, IsTrue}, Result.MatchResult}
use Rattle.std.proofs.{lemmas.Map.Text.is_eq-slice_cmp}
use Rattle.{std.specs.Str.Parse.ParsesUnsigned, semver_core.proofs.Text.Runs.numerals}

has_it : (front back : List Id) (n : ℕ) → has_numeric (front ++ Numeric n ∷ back) ≡ true
has_it front back n = rw list_any-append (grind arith)

bind_twice : {A B C : Type 0} (r : Result A Fault) (f : A → B) (g : B → C) → ((r >>= λ x. Ok (f x)) >>= λ y. Ok (g y)) ≡ (r >>= λ x. Ok (g (f x)))
bind_twice r f g = grind arith

raise_divided : (front back : List Id) (n : ℕ) → has_numeric back ≡ false
    → raise_last (front ++ Numeric n ∷ back) ≡ (one_more n >>= λ m. Ok (front ++ Numeric m ∷ back))
raise_divided [] back n h = rw h refl
raise_divided (x ∷ front) back n h = grind (arith, has_it front back n, raise_divided front back n h)

pub list_raised : (front back : List Id) (n : ℕ) → has_numeric back ≡ false → n < 2 ^ 64 - 1
    → raise_last (front ++ Numeric n ∷ back) ≡ Ok (front ++ Numeric (n + 1) ∷ back)
list_raised xs ys n h lt = let e : (n == 2 ^ 64 - 1) ≡ false = grind (arith, nat_tests) in raise_divided xs ys n h ∙ rw e refl

pub list_overflows : (xs ys : List Id) → has_numeric ys ≡ false → raise_last (xs ++ Numeric (2 ^ 64 - 1) ∷ ys) ≡ Err Overflow
list_overflows xs ys h = raise_divided xs ys (2 ^ 64 - 1) h

-- what is kept begins with what the identifier matches, and a number
pub list_kept : (id : List ℕ) (list : List Id) → IsTrue (is_kept id list)
    ↔ ((n : ℕ) × (rest : List Id) × (list ≡ asked id ∷ Numeric n ∷ rest))
list_kept id list = (there list, λ p. rw p.2 (ap is_eq (tied_itself id_total (asked id))))
  where
    there : (list : List Id) → IsTrue (is_kept id list) → (n : ℕ) × (rest : List Id) × (list ≡ asked id ∷ Numeric n ∷ rest)
    there (x ∷ Numeric n ∷ rest) h = (n, rest, ap (λ y. y ∷ Numeric n ∷ rest) (id_same x (asked id) ((Equal-is _).0 h)))
    there list h = absurd (grind arith)

by_raise : (list : List Id) (id : List ℕ) (base : IdentifierBase) → has_numeric list ≡ true → advance list id base ≡ raise_last list
by_raise list id base h = grind arith

pub value_run : {E : Type 0} (ds : List ℕ) (r : Result ℕ E) → ParsesUnsigned 64 10 ds r → list_all is_ascii_digit ds ≡ true → 0 < length ds
    → MatchResult r (λ n. digits_value 10 ds ≡ n) (λ _. 2 ^ 64 ≤ digits_value 10 ds)
value_run {E} ds (Ok n) h d some = sym (parse_digits numerals {E = E} 64 ds (Ok n) h d).1
value_run {E} ds (Err e) h d some = elim (cases_lt (digits_value 10 ds) (2 ^ 64)) [
  | inl small ↦ absurd (parse_digits numerals {E = E} 64 ds (Err e) h d (some, small))
  | inr large ↦ large
]

-- an identifier matches the asked one
pub asked_number : (wanted : List ℕ) (n : ℕ)
    → is_eq (id_cmp (Numeric n) (asked wanted)) ≡ (list_all is_ascii_digit wanted && digits_value 10 wanted == n)
asked_number wanted n = grind (arith, nat_tests)

pub asked_text : (wanted text : List ℕ)
    → is_eq (id_cmp (AlphaNumeric text) (asked wanted)) ≡ (not (list_all is_ascii_digit wanted) && bytes_eq text wanted)
asked_text wanted text = grind (arith, is_eq-slice_cmp text wanted)

pub ruleset asked_matches = (asked_number, asked_text)

-- a list with a last number goes on by raising it
pub advance_at : (list : List Id) (id : List ℕ) (base : IdentifierBase) (at n : ℕ) → Tracks list [] (Some (at, n))
    → advance list id base ≡ (one_more n >>= λ m. Ok (numbered list (Some m) at))
advance_at list id base at n last =
    by_raise list id base (ap has_numeric last.0 ∙ has_it (take at list) (drop (at + 1) list) n)
    ∙ ap raise_last last.0 ∙ raise_divided (take at list) (drop (at + 1) list) n last.1

-- it is not empty
pub some_numbered : (list : List Id) (n before : ℕ) → false ≡ is_empty (numbered list (Some n) before)
some_numbered list n before = grind arith

-- one more identifier is looked at
pub tracks_text : (list rest : List Id) (last : Option (ℕ × ℕ)) (text : List ℕ) → Tracks list (AlphaNumeric text ∷ rest) last
    → Tracks list rest last
tracks_text list rest last text h = grind arith

pub drop_next : (list : List Id) (i : ℕ) (rest : List Id) (x : Id) → drop i list ≡ x ∷ rest → rest ≡ drop (i + 1) list
drop_next list i rest x e = ap (drop 1) (sym e) ∙ drop-drop 1 i list

pub tracks_number : (list rest : List Id) (at n : ℕ) → drop at list ≡ Numeric n ∷ rest → Tracks list rest (Some (at, n))
tracks_number list rest at n e = grind (arith, take-append-drop, drop_next)

pub ruleset tracking = (tracks_text, tracks_number, drop_next)

pub ruleset inc_laws = (list_raised, list_overflows, list_kept)
