use Rattle.std.proofs.Common.{Contains, refl, subst, sym}
use Rattle.lock_files.proofs.Collecting.{added-has, added-kept, workspaces-more}
use Rattle.lock_files.proofs.Items.{workspaces-upto}
use Rattle.lock_files.specs.Internal.Collected.{HasDependency}
use Rattle.lock_files.specs.declared.lock.Dependency.{Dependency}
use Rattle.lock_files.specs.declared.lock.Field.TheVariants as field
use Rattle.lock_files.specs.declared.lock.Wanted.TheVariants as wanted
use Rattle.lock_files.proofs.workspaces.add_workspace.Goals as goal

pub returns-clause-each : goal.returns-clause-each
returns-clause-each c = λ is root meant all. c.in_ok-add.ensures.each c.args.lock
    (is, record { by_field = refl; of_root = root; meant = meant; named = c.workspace_name.ensures }) all

pub returns-clause-alone : goal.returns-clause-alone
returns-clause-alone c = λ are.
    let d : Dependency = record {
      «package» = c.args.root;
      field = field.Workspaces;
      name = c.workspace_name.result;
      wanted = wanted.Workspace c.args.folder;
    } in
    workspaces-more c.args.root c.args.found.now c.add.new.self d refl refl (c.in_ok-add.ensures.named are.named)
    (c.in_ok-add.ensures.added are.named) are

pub returns-clause-more : goal.returns-clause-more
returns-clause-more c = λ are d at.
    let new : Dependency = record {
      «package» = c.args.root;
      field = field.Workspaces;
      name = c.workspace_name.result;
      wanted = wanted.Workspace c.args.folder;
    } in
    subst (λ ds. Contains ds d) (sym (c.in_ok-add.ensures.added are.named)) (added-kept c.args.found.now.first.items new d at)

pub returns-clause-has : goal.returns-clause-has
returns-clause-has c = λ are.
    let new : Dependency = record {
      «package» = c.args.root;
      field = field.Workspaces;
      name = c.workspace_name.result;
      wanted = wanted.Workspace c.args.folder;
    } in
    let place = c.args.root.folder.now in (
      c.workspace_name.result.now,
      c.workspace_name.ensures,
      subst (λ ds. HasDependency ds place field.Workspaces c.workspace_name.result.now)
          (sym (c.in_ok-add.ensures.added are.named))
          (added-has place field.Workspaces c.args.found.now.first.items new refl refl
          (workspaces-upto c.args.root c.args.found.now are)),
    )
