use Rattle.std.proofs.Common.{◌≡◌, ◌∙◌, ap, option_map, string_bytes, sym}
use Rattle.std.proofs.lemmas.Map.Text.{is_eq-slice_cmp}
use Rattle.std.proofs.lemmas.Slice.Eq.{bytes_eq-Decides}
use Rattle.std.specs.Ordering.{is_eq}
use Rattle.serde_json.proofs.Views.{view-lookup}
use Rattle.serde_json.specs.View.{view}
use Rattle.lock_files.proofs.lock.Lock.package.Goals as goal

pub returns-in-Some : goal.returns-in-Some
returns-in-Some c =
    let folder = c.args.folder.now in
    let key = string_bytes c.in-Some.folder.now in
    let same : folder ≡ key =
    (bytes_eq-Decides folder key).0 (sym (is_eq-slice_cmp folder key) ∙ ap is_eq c.in-Some.ensures.same_key) in (
      c.deref.ensures ∙ sym same,
      sym (view-lookup folder c.args.self.packages.now.entries) ∙ ap (option_map view) (sym c.in-Some.ensures.value),
    )

pub returns-in-None : goal.returns-in-None
returns-in-None c =
    sym (view-lookup c.args.folder.now c.args.self.packages.now.entries)
    ∙ ap (option_map view) (sym c.in-None.ensures.value)
