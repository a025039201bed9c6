-- The places around a folder.
use Rattle.std.proofs.Common.{◌≡◌, ◌<◌, ◌≤◌, ◌⊎◌, ◌∷◌, ◌++◌, ◌∙◌, [], List, None, ap, ap₂, append_assoc, arith, drop, false}
use Rattle.std.proofs.Common.{inl, inr, length, length-append, refl, subst, sym, ℕ}
use Rattle.std.specs.Borrow.{Bor}
use Rattle.std.specs.Prelude.{◌==◌, ◌≢◌, IfNone, MatchOption, Option, Some, slice_index, true}
use Rattle.lock_files.specs.Lookups.{IsAround}
use Rattle.lock_files.specs.Specifiers.{has}
use Rattle.lock_files.proofs.Parts.{has-middle}

pub empty_folder : (folder : List ℕ) → (length folder == 0) ≡ true → folder ≡ []
empty_folder [] h = refl
empty_folder (c ∷ cs) h = grind arith

cancel : (a x y : List ℕ) → a ++ x ≡ a ++ y → x ≡ y
cancel [] x y e = e
cancel (c ∷ cs) x y e = cancel cs x y (ap (drop 1) e)

-- what stands behind a place is not the rest, if that has another front
pub no-behind : (B : Bor (List ℕ) → Type 0) (folder place middle front : List ℕ) (r : Option (Bor (List ℕ)))
    → folder ≡ place ++ middle → MatchOption r ((rest : List ℕ) → middle ≢ front ++ rest) B
    → IfNone r ((rest : List ℕ) → folder ≢ place ++ (front ++ rest))
no-behind B folder place middle front None is none = λ rest same. none rest (cancel place middle (front ++ rest) (sym is ∙ same))
no-behind B folder place middle front (Some b) is some = tt

-- of two places in front of slashes of one text the shorter one is around the other
front-or : (a b x y : List ℕ) → a ++ 47 ∷ x ≡ b ++ 47 ∷ y → length a ≤ length b
    → (a ≡ b) ⊎ ((z : List ℕ) × (b ≡ a ++ 47 ∷ z))
front-or [] [] x y e short = inl refl
front-or [] (c ∷ cs) x y e short =
    let first : 47 ≡ c = ap (λ t. slice_index t 0) e in inr (cs, ap (λ h. h ∷ cs) (sym first))
front-or (c ∷ cs) [] x y e short = absurd (omega arith)
front-or (c ∷ cs) (d ∷ ds) x y e short =
    let first : c ≡ d = ap (λ t. slice_index t 0) e in
    elim (front-or cs ds x y (ap (drop 1) e) (omega arith)) [
      | inl same ↦ inl (ap₂ (λ h t. h ∷ t) first same)
      | inr more ↦ inr (more.0, ap₂ (λ h t. h ∷ t) (sym first) more.1)
    ]

around-or : (folder a b : List ℕ) → IsAround folder a → IsAround folder b → length a ≤ length b
    → (a ≡ b) ⊎ ((z : List ℕ) × (b ≡ a ++ 47 ∷ z))
around-or folder a b (inl is) (inl also) short = inl (is ∙ sym also)
around-or folder a b (inl is) (inr (y, also)) short =
    absurd (omega (arith, ap length is, ap length also, length-append b (47 ∷ y)))
around-or folder a b (inr (x, is)) (inl also) short = inr (x, also ∙ is)
around-or folder a b (inr (x, is)) (inr (y, also)) short = front-or a b x y (sym is ∙ also) short

split : (m n : ℕ) → (m < n) ⊎ (n ≤ m)
split m n = grind arith

-- so it is with all places around a folder that are longer
abbrev pub AreLonger : (List ℕ → Type 0) → List ℕ → ℕ → Type 0
AreLonger P folder longest = (place : List ℕ) → IsAround folder place → longest < length place → P place

module _ (P : List ℕ → Type 0) (folder place : List ℕ) where
  pub around-above : (above behind : List ℕ) → IsAround folder place → place ≡ above ++ 47 ∷ behind
      → IsAround folder above
  around-above above behind (inl is) cut = inr (behind, sym is ∙ cut)
  around-above above behind (inr (y, is)) cut =
      inr (behind ++ 47 ∷ y, is ∙ ap (λ t. t ++ 47 ∷ y) cut ∙ append_assoc above (47 ∷ behind) (47 ∷ y))

  -- one place further out
  pub longer-above : (above behind : List ℕ) → IsAround folder place → place ≡ above ++ 47 ∷ behind
      → has 47 behind ≡ false → P place → AreLonger P folder (length place) → AreLonger P folder (length above)
  longer-above above behind is cut last here longer p around deep = elim (split (length place) (length p)) [
    | inl far ↦ longer p around far
    | inr near ↦ elim (around-or folder p place around is near) [
      | inl same ↦ subst P (sym same) here
      | inr more ↦ elim (front-or above p behind more.0 (sym cut ∙ more.1) (omega arith)) [
        | inl same ↦ absurd (omega (arith, ap length same))
        | inr between ↦
            let rest = cancel above (47 ∷ behind) (47 ∷ (between.0 ++ 47 ∷ more.0))
            (sym cut ∙ more.1 ∙ ap (λ t. t ++ 47 ∷ more.0) between.1
            ∙ append_assoc above (47 ∷ between.0) (47 ∷ more.0)) in
            let some = has-middle 47 behind between.0 more.0 (ap (drop 1) rest) in
            absurd (cc)
      ]
    ]
  ]

  -- no place further out
  pub all-around : IsAround folder place → has 47 place ≡ false → P place → AreLonger P folder (length place)
      → (p : List ℕ) → IsAround folder p → P p
  all-around is last here longer p around = elim (split (length place) (length p)) [
    | inl far ↦ longer p around far
    | inr near ↦ elim (around-or folder p place around is near) [
      | inl same ↦ subst P (sym same) here
      | inr more ↦ let some = has-middle 47 place p more.0 more.1 in absurd (cc)
    ]
  ]
