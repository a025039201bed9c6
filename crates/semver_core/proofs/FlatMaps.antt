-- Lists that are joined from a list for each element of another, and tests of their elements.
use Rattle.std.proofs.Common.{append_assoc, ◌≡◌, refl, sym, ◌∙◌, ap, ℕ, ◌+◌, ◌<◌, Bool, true, ◌&&◌, ◌||◌, List, [], ◌∷◌, ◌++◌}
use Rattle.std.proofs.{lemmas.Bool.Decides.{nat_tests}, lemmas.Grind.{common_steps, flat_map-append}}
use Rattle.std.proofs.Common.{length, get_or, take, not, arith, Option, is_some, option_to_list, map, Result, OnErr}
use Rattle.std.proofs.{lemmas.Bool.{and_parts, or_cases}, lemmas.List.{append-nil, take_more}}
use Rattle.std.proofs.lemmas.List.Folds.{Any-from_list_any, length-flat_map-take, list_all-append, list_any-append, list_any_at}
use Rattle.semver_core.specs.Lists.{is_empty}
use Rattle.std.specs.List.{flat_map, list_all, list_any}

pub empty_is : {A : Type 0} (xs : List A) → is_empty xs ≡ true → xs ≡ []
empty_is xs h = grind arith

-- a list up to one element further
pub take_next : {A : Type 0} (xs : List A) (i : ℕ) (x : A) → i < length xs → x ≡ get_or xs i x → take (i + 1) xs ≡ take i xs ++ x ∷ []
take_next xs i x within at = take_more xs i x within ∙ ap (λ y. take i xs ++ y ∷ []) (sym at)

-- one more element, whose list was put at the end
pub flat_step : {A B : Type 0} (f : A → List B) (xs : List A) (i : ℕ) (x : A) (old new : List B) → i < length xs
    → x ≡ get_or xs i x → old ≡ flat_map f (take i xs) → new ≡ old ++ f x → new ≡ flat_map f (take (i + 1) xs)
flat_step f xs i x old new h at e k = grind (arith, nat_tests, common_steps, append-nil, flat_map-append, take_next)

-- the same behind a front
pub flat_behind : {A B : Type 0} (f : A → List B) (xs : List A) (i : ℕ) (x : A) (front old new part : List B) → i < length xs → x ≡ get_or xs i x → part ≡ f x
    → old ≡ front ++ flat_map f (take i xs) → new ≡ old ++ part → new ≡ front ++ flat_map f (take (i + 1) xs)
flat_behind f xs i x front old new part h at p e k = grind (arith, nat_tests, common_steps, append_assoc, flat_step)

pub flat_flat : {A B C : Type 0} (f : B → List C) (g : A → List B) (xs : List A) → flat_map f (flat_map g xs) ≡ flat_map (λ x. flat_map f (g x)) xs
flat_flat f g [] = refl
flat_flat f g (x ∷ xs) = flat_map-append f (g x) (flat_map g xs) ∙ ap (λ l. flat_map f (g x) ++ l) (flat_flat f g xs)

pub flat_same : {A B : Type 0} (f g : A → List B) → ((x : A) → f x ≡ g x) → (xs : List A) → flat_map f xs ≡ flat_map g xs
flat_same f g h xs = λ i. flat_map (λ x. h x i) xs

-- what holds in any case holds of a failure
pub on_err : {T E P : Type 0} (r : Result T E) → P → OnErr r P
on_err r p = grind arith

-- the joined list has an element where one of the lists does
pub flat_some : {A B : Type 0} (f : A → List B) (xs : List A) (i : ℕ) (x : A) → i < length xs → x ≡ get_or xs i x
    → 0 < length (f x) → 0 < length (flat_map f xs)
flat_some f xs i x h at k = omega (arith, length-flat_map-take f xs i x h, ap (λ y. length (f y)) at, k)

pub part_some : {A : Type 0} (part found : Option A) → part ≡ found → is_some part ≡ true → 0 < length (option_to_list found)
part_some part found e h = grind arith

-- the one element of a list
pub lone : {A : Type 0} (xs : List A) (x : A) → length xs ≡ 1 → x ≡ get_or xs 0 x → xs ≡ x ∷ []
lone [] x e h = absurd (omega arith)
lone (y ∷ []) x e h = ap (λ z. z ∷ []) (sym h)
lone (y ∷ z ∷ zs) x e h = absurd (omega arith)

-- tests of the elements
pub any_flat : {A B : Type 0} (p : B → Bool) (f : A → List B) (xs : List A) → list_any p (flat_map f xs) ≡ list_any (λ x. list_any p (f x)) xs
any_flat p f [] = refl
any_flat p f (x ∷ xs) = list_any-append p (f x) (flat_map f xs) ∙ ap (λ b. list_any p (f x) || b) (any_flat p f xs)

pub all_flat : {A B : Type 0} (p : B → Bool) (f : A → List B) (xs : List A) → list_all p (flat_map f xs) ≡ list_all (λ x. list_all p (f x)) xs
all_flat p f [] = refl
all_flat p f (x ∷ xs) = list_all-append p (f x) (flat_map f xs) ∙ ap (λ b. list_all p (f x) && b) (all_flat p f xs)

pub any_same : {A : Type 0} (p q : A → Bool) → ((x : A) → p x ≡ q x) → (xs : List A) → list_any p xs ≡ list_any q xs
any_same p q h xs = λ i. list_any (λ x. h x i) xs

pub any_weaker : {A : Type 0} (p q : A → Bool) → ((x : A) → p x ≡ true → q x ≡ true) → (xs : List A) → list_any p xs ≡ true → list_any q xs ≡ true
any_weaker p q h xs e = grind (arith, Any-from_list_any, list_any_at)

pub all_weaker : {A : Type 0} (p q : A → Bool) → ((x : A) → p x ≡ true → q x ≡ true) → (xs : List A) → list_all p xs ≡ true → list_all q xs ≡ true
all_weaker p q h [] e = refl
all_weaker p q h (x ∷ xs) e = grind (arith, h x, all_weaker p q h xs)

pub list_any-map : {A B : Type 0} (p : B → Bool) (f : A → B) (xs : List A) → list_any p (map f xs) ≡ list_any (λ x. p (f x)) xs
list_any-map p f [] = refl
list_any-map p f (x ∷ xs) = ap (λ b. p (f x) || b) (list_any-map p f xs)

-- tests of pairs
pub any_pairs : {A B : Type 0} (p : A → Bool) (q : B → Bool) (xs : List A) (ys : List B)
    → list_any (λ x. list_any (λ y. p x && q y) ys) xs ≡ (list_any p xs && list_any q ys)
any_pairs {B = B} p q [] ys = refl
any_pairs {B = B} p q (x ∷ xs) ys = rw (any_pairs p q xs ys, row (p x) ys) (grind arith)
  where
    row : (a : Bool) (ys : List B) → list_any (λ y. a && q y) ys ≡ (a && list_any q ys)
    row a [] = grind arith
    row a (y ∷ ys) = grind (arith, row a ys)

pub any_either : {A B : Type 0} (r : A → B → Bool) (p : A → Bool) (q : B → Bool) → ((x : A) (y : B) → r x y ≡ true → (p x || q y) ≡ true)
    → (xs : List A) (ys : List B) → list_any (λ x. list_any (r x) ys) xs ≡ true → (list_any p xs || list_any q ys) ≡ true
any_either r p q h xs ys e = grind (arith, Any-from_list_any, list_any_at)

-- an element that passes, where each that does passes another test, or where all do
pub any_under : {A : Type 0} (p q : A → Bool) (xs : List A) → list_any p xs ≡ true → list_all (λ x. not (p x) || q x) xs ≡ true → list_any q xs ≡ true
any_under p q [] h k = h
any_under p q (x ∷ xs) h k = grind (arith, any_under p q xs)

pub pick_both : {A : Type 0} (p q : A → Bool) (xs : List A) → list_any p xs ≡ true → list_all q xs ≡ true → (x : A)
    × ((p x ≡ true) × (q x ≡ true))
pick_both p q [] h k = cc
pick_both p q (x ∷ xs) h k = grind (arith, nat_tests, common_steps, and_parts, or_cases, pick_both p q xs)
