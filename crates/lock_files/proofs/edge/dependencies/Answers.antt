use Rattle.std.proofs.Common.{◌≡◌, [], ap, arith, length}
use Rattle.serde_json.specs.View.{view}
use Rattle.lock_files.proofs.Items.{workspace-kept}
use Rattle.lock_files.proofs.Added.{extends-on, texts-kept}
use Rattle.lock_files.specs.Internal.Collected.{AreNamed, AreWorkspaces}
use Rattle.lock_files.specs.declared.lock.Dependencies.{Dependencies}
use Rattle.lock_files.specs.declared.lock.Package.{Package}
use Rattle.lock_files.proofs.edge.dependencies.Goals as goal

-- before the first
none : (p : Package) (found : Dependencies) → AreNamed found → found.first.items ≡ [] → AreWorkspaces p found
none p found named empty = record {
  named = named;
  each = λ k d at. absurd (omega (arith, ap length empty));
  apart = λ i j d less at. absurd (omega (arith, ap length empty));
}

pub returns-clause-each : goal.returns-clause-each
returns-clause-each c = λ is. c.in_ok-add_dependencies.ensures.each c.args.lock is
    (c.in_ok-add_workspaces.ensures.each is
    (λ k d at. absurd (omega (arith, ap length c.new-found.ensures.empty))))

pub returns-clause-all : goal.returns-clause-all
returns-clause-all c = c.in_ok-add_dependencies.ensures.all (c.in_ok-add_workspaces.ensures.alone
    (none c.args.package c.new-found.result c.new-found.ensures.named c.new-found.ensures.empty))

pub returns-clause-own : goal.returns-clause-own
returns-clause-own c = c.in_ok-add_dependencies.ensures.own (c.in_ok-add_workspaces.ensures.alone
    (none c.args.package c.new-found.result c.new-found.ensures.named c.new-found.ensures.empty))

pub returns-clause-kept : goal.returns-clause-kept
returns-clause-kept c =
    extends-on c.args.faults.now.items c.add_workspaces.new.faults.items c.add_dependencies.new.faults.items
    c.in_ok-add_workspaces.ensures.kept c.in_ok-add_dependencies.ensures.kept

pub returns-clause-told : goal.returns-clause-told
returns-clause-told c = c.in_ok-add_dependencies.ensures.told

pub returns-clause-texts : goal.returns-clause-texts
returns-clause-texts c =
    texts-kept c.add_workspaces.new.faults.items c.add_dependencies.new.faults.items c.in_ok-add_dependencies.ensures.kept
    c.args.package.folder.now (view c.args.package.fields.now) c.in_ok-add_workspaces.ensures.told

pub returns-clause-wrong : goal.returns-clause-wrong
returns-clause-wrong c = λ is all.
    c.in_ok-add_dependencies.ensures.wrong c.args.lock is (c.in_ok-add_workspaces.ensures.wrong is all)

pub returns-clause-workspaces : goal.returns-clause-workspaces
returns-clause-workspaces c = λ root folder is.
    let start = none c.args.package c.new-found.result c.new-found.ensures.named c.new-found.ensures.empty in
    workspace-kept c.args.lock c.add_workspaces.new.found.first.items c.add_dependencies.new.found.first.items
    c.args.package.folder.now folder (c.in_ok-add_dependencies.ensures.more (c.in_ok-add_workspaces.ensures.alone start))
    (c.in_ok-add_workspaces.ensures.all start root folder is)
