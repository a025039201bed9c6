-- The place of the best of some versions, as versions come behind them, and what is told of them in the end.
use Rattle.std.proofs.Common.{◌≡◌, ◌+◌, ◌<◌, ◌≤◌, ◌∷◌, ◌++◌, ◌&&◌, if◌then◌else◌, ℕ, Bool, List, [], Option, None, Some, append_assoc, arith, drop, get_or, inl, inr, length, refl, set, suc, sym, take, true, ◌∙◌, ap}
use Rattle.std.proofs.Math.Seq.{split_at}
use Rattle.std.proofs.lemmas.List.{drop_more, length-take-le, set_at}
use Rattle.std.specs.List.{AllZip}
use Rattle.semver_core.specs.Cuts.{Span}
use Rattle.semver_core.specs.Values.Versions.{VersionValue}
use Rattle.nodejs_semver.proofs.Questions.Best.{max_more, min_more, replaces_both}
use Rattle.nodejs_semver.specs.Ranges.Best.{replaces}
use Rattle.nodejs_semver.specs.Ranges.Gate.{accepts}
use Rattle.nodejs_semver_c.specs.Internal.Choices.{IsBestAt, IsBestOf, IsPlace, is_beaten}
use Rattle.nodejs_semver_c.specs.Lists.{FirstRefused, TellsPlaceOf}
use Rattle.nodejs_semver_c.specs.declared.choices.Best.{Best}
use Rattle.nodejs_semver_c.specs.declared.choices.Best.TheVariants.{Max, Min}

-- a place stays as versions come behind
pub place_kept : (vs ws : List VersionValue) (best : Option VersionValue) (place : ℕ) → IsPlace vs best place → IsPlace (vs ++ ws) best place
place_kept vs ws None place h = tt
place_kept vs ws (Some v) place (front, back, divided, counted) =
    (front, back ++ ws, ap (λ l. l ++ ws) divided ∙ append_assoc front (v ∷ back) ws, counted)

pub AllZip-append : {A B : Type 0} (R : A → B → Type 0) (xs ys : List A) (vs ws : List B) → AllZip R xs vs → AllZip R ys ws
    → AllZip R (xs ++ ys) (vs ++ ws)
AllZip-append R [] ys [] ws h k = k
AllZip-append R (x ∷ xs) ys (v ∷ vs) ws h k = (h.0, AllZip-append R xs ys vs ws h.1 k)
AllZip-append R xs ys vs ws h k = absurd h

-- the best of no versions is none
pub best_of_none : (which : Best) (r : List (Span VersionValue)) (include : Bool) → IsBestOf which r include [] None
best_of_none Max r include = refl
best_of_none Min r include = refl

-- and of one more version it is this one or the best so far
pub best_more : (which : Best) (r : List (Span VersionValue)) (include : Bool) (list : List VersionValue) (best : Option VersionValue)
    (v : VersionValue) (better new : Bool) → better ≡ replaces (is_beaten which) (λ _. true) best v → new ≡ (better && accepts r v include)
    → IsBestOf which r include list best → IsBestOf which r include (list ++ v ∷ []) (if new then Some v else best)
best_more Max r include list best v better new e f =
    max_more (λ w. w) (λ w. accepts r w include) list best v new (f ∙ sym (replaces_both _ (λ w. accepts r w include) best v better e))
best_more Min r include list best v better new e f =
    min_more (λ w. w) (λ w. accepts r w include) list best v new (f ∙ sym (replaces_both _ (λ w. accepts r w include) best v better e))

-- a list of which the front is filled, element by element
pub filled : {A : Type 0} (told old : List A) (x d : A) (at : ℕ) → length told ≡ at → at < length old
    → set (told ++ drop at old) at x ≡ (told ++ x ∷ []) ++ drop (at + 1) old
filled told old x d at counted lt =
    rw (drop_more old at d lt) (set_at told (get_or old at d) (drop (at + 1) old) x at counted ∙ sym (append_assoc told (x ∷ []) (drop (at + 1) old)))

-- an element is rejected behind those that are read
module _ {A : Type 0} (Is : A → VersionValue → Type 0) (Refuses : A → ℕ → Type 0) where
  pub refused_at : (list : List A) (at status : ℕ) (d : A) (vs : List VersionValue) → at < length list → AllZip Is (take at list) vs
      → Refuses (get_or list at d) status → FirstRefused Is Refuses list at status
  refused_at list at status d vs lt read refused =
      let le : at ≤ length list = omega (arith, lt) in
      (take at list, drop (suc at) list, get_or list at d, split_at list at d lt, length-take-le at list le, (vs, read), refused)

  -- what is told where all are read, and where one is rejected
  module _ (IsFound : List VersionValue → Option VersionValue → Type 0) (list : List A) where
    pub tells_none : (vs : List VersionValue) (best : Option VersionValue) (place old new : ℕ) → best ≡ None → AllZip Is list vs
        → IsBestAt IsFound vs best place → new ≡ old → TellsPlaceOf Is Refuses IsFound list old new 1
    tells_none vs best place old new e read h kept = inl (vs, None, read, rw e at h.0, (refl, kept))

    pub tells_some : (vs : List VersionValue) (best : Option VersionValue) (v : VersionValue) (place old : ℕ) → best ≡ Some v
        → AllZip Is list vs → IsBestAt IsFound vs best place → TellsPlaceOf Is Refuses IsFound list old place 0
    tells_some vs best v place old e read h = inl (vs, Some v, read, rw e at h.0, (refl, rw e at h.1))

    pub tells_refused : (at old status : ℕ) (d : A) (vs : List VersionValue) → at < length list → AllZip Is (take at list) vs
        → Refuses (get_or list at d) status → TellsPlaceOf Is Refuses IsFound list old at status
    tells_refused at old status d vs lt read refused = inr (refused_at list at status d vs lt read refused)
