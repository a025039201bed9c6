-- Statement: what a text of `overrides` puts in the place of a range.
use Rattle.std.specs.Prelude.{◌≡◌, ◌≢◌, ◌⊎◌, ℕ, List, [], ◌∷◌, codes}
use Rattle.lock_check.specs.declared.overrides.Replacement.{Replacement}
use Rattle.lock_check.specs.declared.overrides.Replacement.TheVariants.{Nothing, Reference, Text}

-- nothing, if it is empty or `*`; what the root project has for the name behind a `$`; and else the
-- text itself
abbrev pub IsReplacement : List ℕ → Replacement → Type 0
IsReplacement text Nothing = (text ≡ []) ⊎ (text ≡ codes "*")
IsReplacement text (Reference name) = text ≡ 36 ∷ name.now
IsReplacement text (Text t) = (t.now ≡ text) × (text ≢ []) × (text ≢ codes "*")
    × ((name : List ℕ) → text ≢ 36 ∷ name)
