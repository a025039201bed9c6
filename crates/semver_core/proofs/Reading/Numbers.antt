-- Numbers: as a whole text, and at the front of one.
use Rattle.semver_core.proofs.Common.{IsPieceAt, begins, IsNumber, IsWholeNumber, Bool, List, None, Some, arith}
use Rattle.semver_core.proofs.Common.{drop, false, inl, inr, length, not, refl, take, true, ℕ, ◌&&◌, ◌++◌, ◌-◌, ◌≡◌}
use Rattle.semver_core.proofs.Common.{◌≤◌, nat_tests, drop_at, take-append-drop, take_at, take_rest, is_ascii_digit}
use Rattle.semver_core.proofs.Common.{list_all, prefix_len}
use Rattle.semver_core.proofs.Reading.Steps.{option-cases}
use Rattle.semver_core.proofs.Text.Runs.{prefix_ends, prefix_whole}
use Rattle.semver_core.specs.Internal.Fronts.{begins_padded, begins_wildcard, component_front, is_wildcard, number_front, number_of, number_with}
use Rattle.semver_core.specs.Text.Characters.{NoPieceAt}
use Rattle.std.proofs.lemmas.Grind.{common_steps}
use Rattle.std.proofs.lemmas.List.Sums.{prefix_len-drop_all, prefix_len-drop_no, prefix_len-drop_yes}
use Rattle.std.specs.Prelude.{◌↔◌}

-- ---- a whole text

pub number-is : (limit : ℕ) (text : List ℕ) (n : ℕ) → number_of limit text ≡ Some n → IsNumber limit text n
unfolding number_of
number-is limit text n h = grind arith

pub number-of : (limit : ℕ) (text : List ℕ) (n : ℕ) → IsNumber limit text n → number_of limit text ≡ Some n
unfolding number_of
number-of limit text n h = grind arith

pub numbers_are : (limit : ℕ) (text : List ℕ) (n : ℕ) → (number_of limit text ≡ Some n) ↔ IsNumber limit text n
numbers_are limit text n = (number-is limit text n, number-of limit text n)

-- ---- at the front

-- the loop that counts digits
pub ruleset prefix_steps = (prefix_len-drop_all, prefix_len-drop_no, prefix_len-drop_yes)

pub digits-taken : (run more : List ℕ) → list_all is_ascii_digit run ≡ true → begins is_ascii_digit more ≡ false
    → prefix_len is_ascii_digit (run ++ more) ≡ length run
digits-taken run more h k = prefix_whole is_ascii_digit run more h k

pub run-ends : (x : List ℕ) → begins is_ascii_digit (drop (prefix_len is_ascii_digit x) x) ≡ false
run-ends x = prefix_ends is_ascii_digit x

-- a number is read that ends with its run of digits
pub number-read : (limit : ℕ) (run more : List ℕ) (n : ℕ) → IsNumber limit run n → begins is_ascii_digit more ≡ false
    → number_front limit (run ++ more) ≡ Some (n, more)
number-read limit run more n h stop = grind (arith, digits-taken, take_at, drop_at, number-of)

-- and what is read is such a one
pub record NumberAt (limit : ℕ) (text : List ℕ) (n : ℕ) (rest : List ℕ) : Type 0 where
  pub run : List ℕ
  pub split : text ≡ run ++ rest
  pub is : IsNumber limit run n
  pub ended : begins is_ascii_digit rest ≡ false

pub number-found : (limit : ℕ) (text : List ℕ) (n : ℕ) (rest : List ℕ) → number_front limit text ≡ Some (n, rest)
    → NumberAt limit text n rest
number-found limit text n rest h = grind (arith, take-append-drop, number-is, run-ends)

-- ---- the number that the code finds

pub front_some : (limit : ℕ) (text : List ℕ) (n end : ℕ) → IsPieceAt (λ digits rest. IsWholeNumber limit digits rest n) text 0 end
    → number_front limit text ≡ Some (n, drop end text)
front_some limit text n end s = grind (arith, nat_tests, common_steps, number-read)

pub front_small : (limit : ℕ) (text : List ℕ) (n end : ℕ) → IsPieceAt (λ digits rest. IsWholeNumber limit digits rest n) text 0 end → n ≤ limit
front_small limit text n end s = s.is.number.safe

pub front_none : (limit : ℕ) (text : List ℕ) → ((n : ℕ) → NoPieceAt (λ digits rest. IsWholeNumber limit digits rest n) text 0) → number_front limit text ≡ None
front_none limit text none = elim (option-cases (number_front limit text)) [
  | inl not ↦ not
  | inr x ↦
      let f = number-found limit text x.0.0 x.0.1 x.1 in
      absurd (none x.0.0 f.run x.0.1 f.split (record { number = f.is; ended = f.ended }))
]

-- with leading zeros or without
pub with_some : (zeros : Bool) (limit : ℕ) (text : List ℕ) (n end : ℕ) → (not zeros && begins_padded text) ≡ false
    → IsPieceAt (λ digits rest. IsWholeNumber limit digits rest n) text 0 end
    → Some (n, take (length text - end) (drop end text)) ≡ number_with zeros limit text
unfolding number_with
with_some zeros limit text n end h s = rw (h, take_rest text end, front_some limit text n end s) refl

pub with_none : (zeros : Bool) (limit : ℕ) (text : List ℕ) → ((n : ℕ) → NoPieceAt (λ digits rest. IsWholeNumber limit digits rest n) text 0)
    → None ≡ number_with zeros limit text
unfolding number_with
with_none zeros limit text none = grind (arith, front_none limit text none)

pub with_padded : (zeros : Bool) (limit : ℕ) (text : List ℕ) → (not zeros && begins_padded text) ≡ true → None ≡ number_with zeros limit text
unfolding number_with
with_padded zeros limit text h = rw h refl

-- ---- wildcards and numbers

pub wildcard-no_digit : (b : ℕ) → is_wildcard b ≡ true → is_ascii_digit b ≡ false
wildcard-no_digit b h = grind (arith, nat_tests)

-- where a number begins, no wildcard does, so that a component may be looked for as a number first
pub number-no_wildcard : (run more : List ℕ) → begins is_ascii_digit run ≡ true → begins_wildcard (run ++ more) ≡ false
number-no_wildcard run more h = grind arith

pub number_first : (limit : ℕ) (text rest : List ℕ) (n : ℕ) → number_front limit text ≡ Some (n, rest)
    → component_front limit text ≡ Some (Some n, rest)
unfolding component_front
number_first limit text rest n h = grind (arith, nat_tests, number-no_wildcard, number-found limit text n rest h)

pub component_some : (limit : ℕ) (text rest : List ℕ) (n : ℕ) → number_with true limit text ≡ Some (n, rest)
    → component_front limit text ≡ Some (Some n, rest)
unfolding number_with
component_some limit text rest n h = number_first limit text rest n h

pub component_none : (limit : ℕ) (text : List ℕ) → number_with true limit text ≡ None → begins_wildcard text ≡ false
    → component_front limit text ≡ None
unfolding component_front number_with
component_none limit text h wild = rw (wild, h) refl

pub ruleset number_fronts = (front_some, front_none, front_small)
