-- For private contracts: what is read at the front of a key.
use Rattle.std.specs.Prelude.{◌<◌, ◌≡◌, ◌++◌, ◌∷◌, All, IsUtf8, List, None, Option, Some, ℕ}
use Rattle.std.specs.Borrow.{Bor}
use Rattle.semver_core.specs.Keys.{id_key, ids_key, number_key, pre_key, text_key}
use Rattle.semver_core.specs.Text.Identifiers.{Id}
use Rattle.semver_core.specs.Values.Versions.{IsId}

-- the list begins with a byte below 255
pub data IsLow : List ℕ → Type 0 where
  low : (c : ℕ) (rest : List ℕ) → c < 255 → IsLow (c ∷ rest)

-- the bytes are the key of a text, of an identifier, and then the rest
abbrev pub IsTextFront : List ℕ → List ℕ → Type 0
IsTextFront bytes rest = (text : List ℕ) × IsUtf8 text × (bytes ≡ text_key text ++ rest)

abbrev pub IsIdFront : List ℕ → List ℕ → Type 0
IsIdFront bytes rest = (id : Id) × IsId id × (bytes ≡ id_key id ++ rest)

-- the bytes are the key of a text, of an identifier
abbrev pub IsTextKey : List ℕ → Type 0
IsTextKey bytes = (text : List ℕ) × IsUtf8 text × (bytes ≡ text_key text)

abbrev pub IsIdKey : List ℕ → Type 0
IsIdKey bytes = (id : Id) × IsId id × (bytes ≡ id_key id)

-- the bytes are the key of a list of identifiers, of a pre-release or its absence
abbrev pub AreIds : List ℕ → Type 0
AreIds bytes = (list : List Id) × All IsId list × (bytes ≡ ids_key list)

abbrev pub IsPre : List ℕ → Type 0
IsPre bytes = (list : List Id) × All IsId list × (bytes ≡ pre_key list)

-- the keys of three numbers, and what follows
abbrev pub numbers_key : ℕ → ℕ → ℕ → List ℕ → List ℕ
numbers_key major minor patch rest =
    number_key major ++ (number_key minor ++ (number_key patch ++ rest))

-- what is found is this
abbrev pub GivesRest : Option (Bor (List ℕ)) → List ℕ → Type 0
GivesRest None rest = ⊥
GivesRest (Some found) rest = found.now ≡ rest

abbrev pub GivesNumber : Option (ℕ × Bor (List ℕ)) → ℕ → List ℕ → Type 0
GivesNumber None n rest = ⊥
GivesNumber (Some found) n rest = (found.0 ≡ n) × (found.1.now ≡ rest)

abbrev pub GivesNumbers : Option (ℕ × ℕ × ℕ × Bor (List ℕ)) → ℕ → ℕ → ℕ → List ℕ → Type 0
GivesNumbers None major minor patch rest = ⊥
GivesNumbers (Some found) major minor patch rest =
    (found.0 ≡ major) × (found.1 ≡ minor) × (found.2 ≡ patch) × (found.3.now ≡ rest)
