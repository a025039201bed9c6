-- Statement. What is answered about many versions at once.
use Rattle.std.specs.Prelude.{◌≡◌, ◌<◌, ◌≤◌, ◌^◌, ◌++◌, ◌∷◌, ◌⊎◌, Bool, if◌then◌else◌, ℕ, List}
use Rattle.std.specs.Prelude.{Option, Some, None, drop, length, map}
use Rattle.std.specs.Borrow.{Bor}
use Rattle.std.specs.List.{AllZip, range_with_len, zip}
use Rattle.std.specs.List.Sorted.{IsPermutation, IsSorted}
use Rattle.std.specs.Ordering.{nat_cmp, ordering_then}
use Rattle.semver_core.specs.Cuts.{Span}
use Rattle.semver_core.specs.Values.Order.{precedence}
use Rattle.semver_core.specs.Values.Versions.{VersionValue}
use Rattle.nodejs_semver.specs.Ranges.Gate.{accepts}
use Rattle.nodejs_semver_c.specs.Answers.{IsVersionOf, RefusesVersion}
use Rattle.nodejs_semver_c.specs.declared.TheConstants.{ANSWER_NO, ANSWER_NO_VERSION, ANSWER_YES}
use Rattle.nodejs_semver_c.specs.declared.TheConstants.{NOTHING, OK, TOO_LONG, TOO_SMALL}

-- an answer about an array of texts; or it has more than memory holds, at 16 bytes each, and all is
-- as it was
abbrev pub OnArray : List (Bor (List ℕ)) → ℕ → Type 0 → Type 0 → Type 0
OnArray texts status Same Answer = ((status ≡ TOO_LONG) × (2 ^ 59 ≤ length texts) × Same)
    ⊎ ((length texts < 2 ^ 59) × Answer)

-- the same with a place for each text in an array; or that has room for fewer, and all is as it was
abbrev pub OnRoom : List (Bor (List ℕ)) → (room status : ℕ) → Type 0 → Type 0 → Type 0
OnRoom texts room status Same Answer = OnArray texts status Same
    (((status ≡ TOO_SMALL) × (room < length texts) × Same) ⊎ ((length texts ≤ room) × Answer))

-- these texts are read as these versions, each as its own
abbrev pub AreVersionsOf : ℕ → List (Bor (List ℕ)) → List VersionValue → Type 0
AreVersionsOf reading texts vs = AllZip (λ text v. IsVersionOf reading text.now v) texts vs

-- a value stands at this place of a list
abbrev pub StandsAt : {A : Type 0} → List A → A → ℕ → Type 0
StandsAt {A} list x place = (front back : List A) × (list ≡ front ++ x ∷ back) × (length front ≡ place)

-- the place of what is found is told, if there is any
abbrev pub TellsFound : List VersionValue → Option VersionValue → (old new status : ℕ) → Type 0
TellsFound vs None old new status = (status ≡ NOTHING) × (new ≡ old)
TellsFound vs (Some v) old new status = (status ≡ OK) × StandsAt vs v new

-- the first element that is rejected stands at this place; those in front of it are these versions
abbrev pub FirstRefused : {A : Type 0} → (A → VersionValue → Type 0) → (A → ℕ → Type 0) → List A
    → (place status : ℕ) → Type 0
FirstRefused {A} Is Refuses list place status = (front back : List A) × (x : A)
    × (list ≡ front ++ x ∷ back) × (length front ≡ place)
    × ((vs : List VersionValue) × AllZip Is front vs) × Refuses x status

-- the place of the version that is so found, or that of the first element that is rejected
abbrev pub TellsPlaceOf : {A : Type 0} → (A → VersionValue → Type 0) → (A → ℕ → Type 0)
    → (List VersionValue → Option VersionValue → Type 0) → List A → (old new status : ℕ) → Type 0
TellsPlaceOf Is Refuses IsFound list old new status =
    ((vs : List VersionValue) × (found : Option VersionValue) × AllZip Is list vs
    × IsFound vs found × TellsFound vs found old new status)
    ⊎ FirstRefused Is Refuses list new status

-- the same of texts
abbrev pub RefusesAt : ℕ → List (Bor (List ℕ)) → (place status : ℕ) → Type 0
RefusesAt reading = FirstRefused (λ text v. IsVersionOf reading text.now v)
    (λ text. RefusesVersion reading text.now)

abbrev pub TellsPlace : (List VersionValue → Option VersionValue → Type 0) → ℕ → List (Bor (List ℕ))
    → (old new status : ℕ) → Type 0
TellsPlace IsFound reading = TellsPlaceOf (λ text v. IsVersionOf reading text.now v)
    (λ text. RefusesVersion reading text.now) IsFound

-- what a range says of the version of a text
abbrev pub IsAnswer : List (Span VersionValue) → Bool → ℕ → List ℕ → ℕ → Type 0
IsAnswer r include reading bytes answer = ((v : VersionValue) × IsVersionOf reading bytes v
    × (answer ≡ (if accepts r v include then ANSWER_YES else ANSWER_NO)))
    ⊎ ((answer ≡ ANSWER_NO_VERSION) × ((status : ℕ) × RefusesVersion reading bytes status))

-- and of each of some texts; its answers are put in front of what else stands there
abbrev pub TellsEach : List (Span VersionValue) → Bool → ℕ → List (Bor (List ℕ)) → (old new : List ℕ) → Type 0
TellsEach r include reading texts old new = (told : List ℕ)
    × AllZip (λ text answer. IsAnswer r include reading text.now answer) texts told
    × (new ≡ told ++ drop (length told) old)

-- versions with their places
abbrev pub placed : List VersionValue → List (VersionValue × ℕ)
placed vs = zip vs (range_with_len 0 (length vs))

-- the places are told in the order of the versions, and of the places where versions are equal
abbrev pub TellsOrder : ℕ → List (Bor (List ℕ)) → (old new : List ℕ) → Type 0
TellsOrder reading texts old new = (vs : List VersionValue) × AreVersionsOf reading texts vs
    × ((sorted : List (VersionValue × ℕ)) × IsPermutation (placed vs) sorted
    × IsSorted (λ a b. ordering_then (precedence a.0 b.0) (nat_cmp a.1 b.1)) sorted
    × (new ≡ map (λ p. p.1) sorted ++ drop (length texts) old))
