use Rattle.std.proofs.Common.{◌≡◌, ◌↔◌, ◌∙◌, ◌⊎◌, Bool, true, false, inl, inr, refl, sym}
use Rattle.npm_semver.proofs.locale.has_utf8.Goals as goal

first : (a : Bool) (A B : Type 0) → ((a ≡ true) ↔ A) → a ≡ true → (true ≡ true) ↔ (A ⊎ B)
first a A B (to, from) is = (λ e. inl (to is), λ has. refl)

second : (a b : Bool) (A B : Type 0) → ((a ≡ true) ↔ A) → ((b ≡ true) ↔ B) → a ≡ false → (b ≡ true) ↔ (A ⊎ B)
second a b A B (to, from) (to_b, from_b) is = (
  λ e. inr (to_b e),
  λ has. elim has [ inl x ↦ let bad : true ≡ false = sym (from x) ∙ is in absurd (cc) | inr y ↦ from_b y ],
)

pub returns-then-contains : goal.returns-then-contains
returns-then-contains c = first c.contains.result _ _
    (rw (c.deref.ensures, c.make_ascii_lowercase.ensures.bytes, c.in_ok-name.ensures.ok) at c.contains.ensures) c.if-contains.true

pub returns : goal.returns
returns c = second c.contains.result c.contains-2.result _ _
    (rw (c.deref.ensures, c.make_ascii_lowercase.ensures.bytes, c.in_ok-name.ensures.ok) at c.contains.ensures)
    (rw (c.deref-2.ensures, c.make_ascii_lowercase.ensures.bytes, c.in_ok-name.ensures.ok) at c.contains-2.ensures) c.if-contains.false
