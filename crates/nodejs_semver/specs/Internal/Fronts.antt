-- For proofs and private contracts. What stands at the front of a text, read from the left: a number, a component, a
-- qualifier, a partial. `partial_front` gives the partial of `IsLongestPartial`.
use Rattle.std.specs.Prelude.{ℕ, List, []}
use Rattle.std.specs.Prelude.{Option, Some, None}
use Rattle.semver_core.specs.Internal.Reading.{◌>>?◌}
use Rattle.nodejs_semver.specs.Text.PartialText.{Partial}
use Rattle.semver_core.specs.Internal.Spaces.{drop_spaces}
use Rattle.semver_core.specs.Text.Identifiers.{listed}
pub use Rattle.semver_core.specs.Internal.Fronts.{Front, after_byte, begins_byte, begins_identifier, begins_padded, begins_wildcard, front_view, is_wildcard}
pub use Rattle.semver_core.specs.Internal.Fronts.{marked_list, number_front, split_list}
unfoldable pub use Rattle.semver_core.specs.Internal.Fronts.{build_front, component_front, dotted_front, dotted_with, number_of, number_with}
unfoldable pub use Rattle.semver_core.specs.Internal.Fronts.{pre_release_front, pre_release_with}
use Rattle.semver_core.specs.Internal.Fronts.{drop_v}

abbrev pub patch_front : Option ℕ → Option ℕ → List ℕ → Front (Option ℕ) → Partial × List ℕ
patch_front major minor text None =
    (record { major = major; minor = minor; patch = None; pre_release = []; build = [] }, text)
patch_front major minor text (Some c) =
    let pre = pre_release_front c.1 in
    let build = build_front pre.1 in
    (record { major = major; minor = minor; patch = c.0; pre_release = listed pre.0; build = listed build.0 }, build.1)

abbrev pub minor_front : ℕ → Option ℕ → List ℕ → Front (Option ℕ) → Partial × List ℕ
minor_front limit major text None =
    (record { major = major; minor = None; patch = None; pre_release = []; build = [] }, text)
minor_front limit major text (Some b) = patch_front major b.0 b.1 (dotted_front limit b.1)

-- the partial at the front, component by component
unfoldable pub partial_front : ℕ → List ℕ → Front Partial
partial_front limit text =
    component_front limit (drop_spaces (drop_v text)) >>? λ a. Some (minor_front limit a.0 a.1 (dotted_front limit a.1))
