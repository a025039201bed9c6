-- Versions where they stand, one after another: what is answered about each, and the best of those so far.
use Rattle.std.proofs.Common.{◌≡◌, ◌<◌, ◌≤◌, ◌+◌, ◌∷◌, ◌++◌, ◌∙◌, ap, arith, drop, get_or, length, map, refl, set, take, Bool, List, [], ℕ, Option, Some}
use Rattle.std.proofs.lemmas.List.{length-map, length-take-le, map-append, take_more}
use Rattle.semver_core.specs.Cuts.{Span}
use Rattle.semver_core.specs.Values.Versions.{VersionValue}
use Rattle.nodejs_semver_c.proofs.Places.{filled, place_kept}
use Rattle.nodejs_semver_c.proofs.Ranging.{no_version}
use Rattle.nodejs_semver_c.specs.Internal.Choices.{IsBestAt, IsBestOf}
use Rattle.nodejs_semver_c.specs.Kept.{kept_value}
use Rattle.nodejs_semver_c.specs.declared.choices.Best.{Best}
use Rattle.nodejs_semver_c.specs.declared.kept.Version.{Version}

module _ (list : List Version) (at : ℕ) (lt : at < length list) where
  further : {A : Type 0} (f : Version → A) → map f (take (at + 1) list) ≡ map f (take at list) ++ f (get_or list at no_version) ∷ []
  further f = ap (map f) (take_more list at no_version lt) ∙ map-append f (take at list) (get_or list at no_version ∷ [])

  counted : {A : Type 0} (f : Version → A) → length (map f (take at list)) ≡ at
  counted f = length-map (take at list) f ∙ length-take-le at list (omega (arith, lt))

  pub each_filled : (f : Version → ℕ) (old now : List ℕ) (x : ℕ) → length list ≤ length old → now ≡ map f (take at list) ++ drop at old
      → x ≡ f (get_or list at no_version) → set now at x ≡ map f (take (at + 1) list) ++ drop (at + 1) old
  each_filled f old now x room so_far is =
      rw (so_far, further f, is) (filled (map f (take at list)) old (f (get_or list at no_version)) 0 at (counted f) (omega (arith, lt, room)))

  -- the best of one version more, by whether that takes its place
  module _ (which : Best) (r : List (Span VersionValue)) (include : Bool) (best : Option VersionValue) (place : ℕ)
      (so_far : IsBestAt (IsBestOf which r include) (map kept_value (take at list)) best place) where
    pub best_new : IsBestOf which r include (map kept_value (take at list) ++ kept_value (get_or list at no_version) ∷ [])
        (Some (kept_value (get_or list at no_version)))
        → IsBestAt (IsBestOf which r include) (map kept_value (take (at + 1) list)) (Some (kept_value (get_or list at no_version))) at
    best_new is = rw (further kept_value) (is, (map kept_value (take at list), [], refl, counted kept_value))

    pub best_same : IsBestOf which r include (map kept_value (take at list) ++ kept_value (get_or list at no_version) ∷ []) best
        → IsBestAt (IsBestOf which r include) (map kept_value (take (at + 1) list)) best place
    best_same is = rw (further kept_value) (is, place_kept (map kept_value (take at list)) _ best place so_far.1)
