-- Worked rows of printing, computed, as one equation each.
use Rattle.semver_core.proofs.Common.{AlphaNumeric, Id, Numeric, VersionValue, List, [], false, refl, true, ℕ, ◌∷◌, ◌≡◌}
use Rattle.semver_core.proofs.Common.{is_normal, version_text, codes, map, digits}

abbrev value : ℕ → ℕ → ℕ → List Id → List Id → VersionValue
value major minor patch pre_release build = record { major = major; minor = minor; patch = patch; pre_release = pre_release; build = build }

abbrev Print : List (VersionValue × List ℕ) → Type 0
Print rows = map (λ row. version_text row.0) rows ≡ map (λ row. row.1) rows

print : Print (
    (value 1 20 3 [] [], codes "1.20.3") ∷
    (value 1 2 3 (Numeric 0 ∷ []) (AlphaNumeric (codes "a") ∷ []), codes "1.2.3-0+a") ∷
    (value 1 0 0 (AlphaNumeric (codes "rc") ∷ Numeric 10 ∷ AlphaNumeric (codes "2-x") ∷ []) [], codes "1.0.0-rc.10.2-x") ∷
    (value 0 0 0 [] (AlphaNumeric (codes "-") ∷ Numeric 7 ∷ []), codes "0.0.0+-.7") ∷ []
    )
unfolding digits
print = refl

-- a text of digits reads as a number where it fits 64 bits, and a dot reads as two identifiers
normal : map (λ text. is_normal (AlphaNumeric text))
    (codes "18446744073709551616" ∷ codes "--" ∷ codes "12" ∷ codes "007" ∷ codes "a.b" ∷ codes "" ∷ [])
    ≡ true ∷ true ∷ false ∷ false ∷ false ∷ false ∷ []
normal = refl
