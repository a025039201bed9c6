use Rattle.semver_core.specs.Internal.Spaces.{is_space_of_three, is_space_of_two, space_len, space_len_two}
use Rattle.std.proofs.Common.{List, [], arith, false, get_or, length, refl, sym, true, ℕ, ◌∷◌, ◌≡◌, ◌≤◌}
use Rattle.std.proofs.lemmas.Bool.Decides.{nat_tests}
use Rattle.semver_pieces.proofs.spaces.space_len.Goals as goal

-- texts that begin with the byte of a longer character
longer : (a : ℕ) (rest : List ℕ) → 128 ≤ a → space_len (a ∷ rest) ≡ space_len_two a rest
unfolding space_len
longer a rest h = grind (arith, nat_tests)

none : (text : List ℕ) → 128 ≤ get_or text 0 0 → (2 ≤ length text → is_space_of_two (get_or text 0 0) (get_or text 1 0) ≡ false)
    → (3 ≤ length text → is_space_of_three (get_or text 0 0) (get_or text 1 0) (get_or text 2 0) ≡ false) → 0 ≡ space_len text
none [] h s t = absurd (omega arith)
none (a ∷ []) h s t = rw (longer a [] h) refl
none (a ∷ (b ∷ [])) h s t = rw (longer a (b ∷ []) h, s (omega arith)) refl
none (a ∷ (b ∷ (c ∷ rest))) h s t = rw (longer a (b ∷ (c ∷ rest)) h, s (omega arith), t (omega arith)) refl

two : (text : List ℕ) → 128 ≤ get_or text 0 0 → 2 ≤ length text → is_space_of_two (get_or text 0 0) (get_or text 1 0) ≡ true → 2 ≡ space_len text
two [] h l s = absurd (omega arith)
two (a ∷ []) h l s = absurd (omega arith)
two (a ∷ (b ∷ rest)) h l s = rw (longer a (b ∷ rest) h, s) refl

three : (text : List ℕ) → 128 ≤ get_or text 0 0 → 3 ≤ length text → is_space_of_two (get_or text 0 0) (get_or text 1 0) ≡ false
    → is_space_of_three (get_or text 0 0) (get_or text 1 0) (get_or text 2 0) ≡ true → 3 ≡ space_len text
three [] h l s t = absurd (omega arith)
three (a ∷ []) h l s t = absurd (omega arith)
three (a ∷ (b ∷ [])) h l s t = absurd (omega arith)
three (a ∷ (b ∷ (c ∷ rest))) h l s t = rw (longer a (b ∷ (c ∷ rest)) h, s, t) refl

pub returns-in_default-2-clause-value : goal.returns-in_default-2-clause-value
returns-in_default-2-clause-value c = none c.args.text.now c.if-a-lt128.false (λ l. absurd (omega arith)) (λ l. absurd (omega arith))

pub returns-in-len2-up-clause-value : goal.returns-in-len2-up-clause-value
returns-in-len2-up-clause-value c = two c.args.text.now c.if-a-lt128.false c.in-len2-up.len_at_least (sym c.if-is_space_of_two.ensures)

pub returns-in_default-3-clause-value : goal.returns-in_default-3-clause-value
returns-in_default-3-clause-value c =
    none c.args.text.now c.if-a-lt128.false (λ l. sym c.if-is_space_of_two.ensures) (λ l. absurd (omega arith))

pub returns-in-len3-up-clause-value : goal.returns-in-len3-up-clause-value
returns-in-len3-up-clause-value c =
    three c.args.text.now c.if-a-lt128.false c.in-len3-up.len_at_least (sym c.if-is_space_of_two.ensures) (sym c.if-is_space_of_three.ensures)

pub returns-in_default-4-clause-value : goal.returns-in_default-4-clause-value
returns-in_default-4-clause-value c =
    none c.args.text.now c.if-a-lt128.false (λ l. sym c.if-is_space_of_two.ensures) (λ l. sym c.if-is_space_of_three.ensures)
