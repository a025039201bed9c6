-- The least version of what is left of a range, pre-releases included.
use Rattle.std.proofs.Common.{◌≡◌, ◌∙◌, ◌&&◌, Bool, List, [], Option, None, Some, Result, Ok, Err, sym, true}
use Rattle.std.specs.Prelude.{IfOk, not, unwrap_or}
use Rattle.semver_core.specs.Cuts.{Span}
use Rattle.semver_core.specs.Values.Versions.{VersionValue}
use Rattle.nodejs_semver.specs.Ranges.Gate.{accepts}
use Rattle.nodejs_semver.specs.Ranges.Least.{IsLeastOf}
use Rattle.nodejs_semver_c.specs.Subsets.{shows_no_subset}

same_least : (f g : VersionValue → Bool) (found : Option VersionValue) → ((v : VersionValue) → f v ≡ g v) → IsLeastOf f found
    → IsLeastOf g found
same_least f g None same h = λ v. sym (same v) ∙ h v
same_least f g (Some v) same h = (sym (same v) ∙ h.0, λ w is. h.1 w (same w ∙ is))

module _ (r s : List (Span VersionValue)) (left : Option (List (Span VersionValue)))
    (all : (v : VersionValue) → accepts (unwrap_or left []) v true ≡ (accepts r v true && not (accepts s v true))) where
  pub least_of_left : {E : Type 0} (ss : List (Span VersionValue)) (result : Result (Option VersionValue) E) → left ≡ Some ss
      → IfOk result (IsLeastOf (λ v. accepts ss v true)) → IfOk result (IsLeastOf (shows_no_subset true r s))
  least_of_left ss (Ok found) e h =
      same_least (λ v. accepts ss v true) (shows_no_subset true r s) found (rw e at all) h
  least_of_left ss (Err error) e h = tt

  pub nothing_left : left ≡ None → IsLeastOf (shows_no_subset true r s) None
  nothing_left e = let none : (v : VersionValue) → accepts [] v true ≡ shows_no_subset true r s v = rw e at all in λ v. sym (none v)
