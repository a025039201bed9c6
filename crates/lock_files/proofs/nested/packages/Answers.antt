use Rattle.std.proofs.Common.{[], ap, subst}
use Rattle.serde_json.specs.View.{members_view}
use Rattle.lock_files.specs.Internal.Nesting.{AddsAll}
use Rattle.lock_files.proofs.Adding.{added-to-nothing}
use Rattle.lock_files.proofs.nested.packages.Goals as goal

pub returns : goal.returns
returns c =
    let dependencies = members_view c.args.dependencies.now.entries in
    let packages = members_view c.add_all.new.packages.entries in
    added-to-nothing dependencies packages
    (subst (λ before. AddsAll [] dependencies before packages) (ap members_view c.new-packages.ensures.empty)
    c.in_ok-add_all.ensures)
