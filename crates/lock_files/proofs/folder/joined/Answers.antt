use Rattle.std.proofs.Common.{◌≡◌, ◌∷◌, ◌++◌, ◌∙◌, [], ap, sym}
use Rattle.std.proofs.lemmas.Grind.{fold-append}
use Rattle.std.proofs.lemmas.Result.{IfOk-weaker}
use Rattle.std.specs.List.{fold, join_by, join_with_byte}
use Rattle.lock_files.specs.Internal.Places.{place_of}
use Rattle.lock_files.specs.Paths.{next_place, parts}
use Rattle.lock_files.proofs.Paths.{joined-slash, way-back}
use Rattle.lock_files.proofs.folder.joined.Goals as goal

pub returns : goal.returns
returns c =
    let from = parts c.args.from.now in
    let path = parts c.args.path.now in
    let items = c.go_along-2.new.place.items in
    let gone : place_of items ≡ fold next_place [] (from ++ path) =
    c.in_ok-go_along-2.ensures ∙ ap (λ place. fold next_place place path)
    (c.in_ok-go_along.ensures ∙ ap (λ items. fold next_place (place_of items) from) c.new-parts.ensures.items)
    ∙ sym (fold-append next_place [] from path) in
    IfOk-weaker c.join.result _ _ (λ text is. is ∙ ap (join_by (λ p. p.now) (47 ∷ [])) c.as_slice.ensures.value
    ∙ joined-slash items ∙ ap (join_with_byte 47) (way-back items (fold next_place [] (from ++ path)) gone)) c.join.ensures.ok
