-- No dependency is lost or judged twice on the way to the findings.
use Rattle.std.proofs.Common.{◌≡◌, ◌∷◌, ◌++◌, ◌∙◌, [], All, List, None, Option, Some, ◌<◌, ◌+◌}
use Rattle.std.proofs.Common.{ℕ, arith, inl, inr, refl, subst, sym, get_or, length}
use Rattle.std.proofs.lemmas.List.Elements.{All-contains, Contains-append_left, All-push, All-weaker}
use Rattle.std.proofs.lemmas.List.Elements.{Contains-push, at_read}
use Rattle.std.proofs.lemmas.List.Quantifiers.{all_pairs_push}
use Rattle.std.specs.List.{AllPairs}
use Rattle.lock_check.specs.Complete.{AreAllJudged, AreSingle, AreWorkspacesJudged}
use Rattle.lock_check.specs.Internal.Found.{IsAmong}
use Rattle.lock_check.specs.Judged.{as_wanted}
use Rattle.lock_check.specs.declared.finding.Finding.{Finding}
use Rattle.lock_files.specs.Dependencies.{IsOf}
use Rattle.lock_files.specs.Edges.{AreAllCollected, AreApartEdges, AreOfOne, AreWorkspacesCollected}
use Rattle.lock_files.specs.declared.edge.Edge.{Edge}
use Rattle.lock_files.specs.declared.lock.Dependency.{Dependency}
use Rattle.lock_files.specs.declared.lock.Field.{Field}
use Rattle.lock_files.specs.declared.lock.Field.TheVariants as field
use Rattle.lock_files.specs.declared.lock.Lock.{Lock}
use Rattle.lock_files.specs.declared.lock.Wanted.{Wanted}

-- ---- none is lost

pub as_wanted-of : (folder : List ℕ) (f : Field) (name : List ℕ) (d : Dependency) (w : Option Wanted)
    → IsOf folder f name d → IsOf folder f name (as_wanted d w)
as_wanted-of folder f name d None is = is
as_wanted-of folder f name d (Some w) is = record {
  of_folder = is.of_folder;
  of_name = is.of_name;
  of_field = is.of_field;
}

pub among-more : (found : List Finding) (g : Finding) (e : Edge) → IsAmong found e → IsAmong (found ++ g ∷ []) e
among-more found g e h = (h.0, Contains-append_left found (g ∷ []) h.0 h.1, h.2)

pub among-push : (found : List Finding) (g : Finding) (e : Edge) (w : Option Wanted)
    → g.dependency ≡ as_wanted e.dependency w → IsAmong (found ++ g ∷ []) e
among-push found g e w is = (g, Contains-push found g, (w, is))

pub judged-all : (lock : Lock) (edges : List Edge) (found : List Finding) → AreAllCollected lock edges
    → All (IsAmong found) edges → AreAllJudged lock found
judged-all lock edges found linked among = λ folder fields f name at w.
    elim (linked folder fields at f name w) [
      | inl has ↦
          let h = All-contains (IsAmong found) edges has.0 among has.1 in
          inl (
            h.0,
            h.1,
            subst (IsOf folder f name) (sym h.2.1) (as_wanted-of folder f name has.0.dependency h.2.0 has.2),
          )
      | inr out ↦ inr out
    ]

pub workspaces-judged : (lock : Lock) (edges : List Edge) (found : List Finding)
    → AreWorkspacesCollected lock edges → All (IsAmong found) edges → AreWorkspacesJudged lock found
workspaces-judged lock edges found linked among root folder at is =
    let has = linked root folder at is in
    let e = has.2.0 in
    let h = All-contains (IsAmong found) edges e among has.2.1 in (
      has.0,
      has.1,
      (
        h.0,
        h.1,
        subst (IsOf [] field.Workspaces has.0) (sym h.2.1)
            (as_wanted-of [] field.Workspaces has.0 e.dependency h.2.0 has.2.2),
      ),
    )

-- ---- none is judged twice

one-sym : (d e : Dependency) → AreOfOne d e → AreOfOne e d
one-sym d e h = (sym h.0, sym h.1)

one-on : (d e f : Dependency) → AreOfOne d e → AreOfOne e f → AreOfOne d f
one-on d e f h k = (h.0 ∙ k.0, h.1 ∙ k.1)

-- the finding is about the same as one of the first edges
abbrev pub IsAbout : List Edge → ℕ → Finding → Type 0
IsAbout edges n g = (j : ℕ) × (j < n) × ((e : Edge) → AreOfOne g.dependency (get_or edges j e).dependency)

as_wanted-one : (d : Dependency) (w : Option Wanted) → AreOfOne (as_wanted d w) d
as_wanted-one d None = (refl, refl)
as_wanted-one d (Some w) = (refl, refl)

about-more : (edges : List Edge) (n : ℕ) (found : List Finding) → All (IsAbout edges n) found
    → All (IsAbout edges (n + 1)) found
about-more edges n found all =
    All-weaker (IsAbout edges n) (IsAbout edges (n + 1)) (λ g h. (h.0, omega arith, h.2)) found all

here : (edges : List Edge) (n : ℕ) (g : Finding) (e : Edge) (w : Option Wanted) → n < length edges
    → e ≡ get_or edges n e → g.dependency ≡ as_wanted e.dependency w
    → (x : Edge) → AreOfOne g.dependency (get_or edges n x).dependency
here edges n g e w low is made =
    at_read edges (λ x. AreOfOne g.dependency x.dependency) n e low is
    (subst (λ d. AreOfOne d e.dependency) (sym made) (as_wanted-one e.dependency w))

pub about-push : (edges : List Edge) (n : ℕ) (found after : List Finding) (g : Finding) (e : Edge) (w : Option Wanted)
    → n < length edges → e ≡ get_or edges n e → g.dependency ≡ as_wanted e.dependency w → after ≡ found ++ g ∷ []
    → All (IsAbout edges n) found → All (IsAbout edges (n + 1)) after
about-push edges n found after g e w low is made same all =
    subst (All (IsAbout edges (n + 1))) (sym same)
    (All-push (IsAbout edges (n + 1)) found g (about-more edges n found all)
    (n, omega arith, here edges n g e w low is made))

pub single-push : (edges : List Edge) (n : ℕ) (found after : List Finding) (g : Finding) (e : Edge) (w : Option Wanted)
    → n < length edges → e ≡ get_or edges n e → g.dependency ≡ as_wanted e.dependency w → after ≡ found ++ g ∷ []
    → AreApartEdges edges → All (IsAbout edges n) found → AreSingle found → AreSingle after
single-push edges n found after g e w low is made same apart about single =
    let R = λ (x y : Finding). ¬ AreOfOne x.dependency y.dependency in
    subst (AllPairs R) (sym same) (all_pairs_push R found g single (λ k x within one.
    let h = about k x within in
    let f = (get_or found k x).dependency in
    let first = (get_or edges h.0 e).dependency in
    let last = (get_or edges n e).dependency in
    apart h.0 n e h.1 low (one-on first f last (one-sym f first (h.2 e))
    (one-on f g.dependency last one (here edges n g e w low is made e)))))
