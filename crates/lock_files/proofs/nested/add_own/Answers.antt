use Rattle.std.proofs.Common.{[], sym}
use Rattle.std.specs.Prelude.{string_bytes}
use Rattle.serde_json.specs.View.{members_view, view}
use Rattle.lock_files.specs.Paths.{joined}
use Rattle.lock_files.proofs.Adding.{own-link, own-plain}
use Rattle.lock_files.proofs.nested.add_own.Goals as goal

pub returns-in-Some : goal.returns-in-Some
returns-in-Some c =
    own-link c.add_link.result string_bytes c.args.folder.now c.args.name.now (view c.args.entry.now)
    c.source-source.result (members_view c.args.packages.now.entries) (members_view c.add_link.new.packages.entries)
    c.source-source.ensures (joined [] c.in-Some.path.now) (sym c.in-Some.ensures)
    c.add_link.ensures.target c.add_link.ensures.added

pub returns-in_ok-put-in-None : goal.returns-in_ok-put-in-None
returns-in_ok-put-in-None c =
    own-plain c.from_str.result string_bytes c.args.folder.now c.args.name.now (view c.args.entry.now)
    c.source-source.result (members_view c.args.packages.now.entries) (members_view c.put.new.map.entries)
    c.source-source.ensures (view c.in_ok-package-in-None.package) (sym c.in-None.ensures)
    c.in_ok-package-in-None.ensures c.from_str.ensures.ok c.in_ok-put-in-None.ensures.ok
