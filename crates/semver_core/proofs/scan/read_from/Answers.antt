use Rattle.semver_core.proofs.Common.{id_view, ids_view, [], ap, append_assoc, arith, sym, ◌++◌, ◌+◌, ◌∙◌, ◌∷◌, ◌≡◌}
use Rattle.semver_core.proofs.Text.{Digits.{begins_before_end, scan_stops}, Runs.{list_done, list_more}}
use Rattle.std.proofs.lemmas.List.{map-append}
use Rattle.semver_core.proofs.scan.read_from.Goals as goal

pub goes_on_at-requires-clause-stop : goal.goes_on_at-requires-clause-stop
goes_on_at-requires-clause-stop c = scan_stops c.args.text.now c.runs.start c.runs.run c.runs.invariant.run

pub scan_run-run-requires-clause-here : goal.scan_run-run-requires-clause-here
scan_run-run-requires-clause-here c =
    rw c.as_bytes.ensures.value (list_more c.args.text.now c.args.at c.runs.start _ c.runs.invariant.read.0 (id_view c.in_ok-id.id)
    c.runs.invariant.read.1 c.runs.invariant.ends c.run_id.ensures.end c.in_ok-id.ensures.id (sym c.if-not-goes_on_at.ensures)).0

pub returns-then-not-goes_on_at-clause-exact : goal.returns-then-not-goes_on_at-clause-exact
returns-then-not-goes_on_at-clause-exact c =
    let read = c.runs.invariant.read in
    let pushed : ids_view c.push.new.self.items ≡ ids_view c.runs.list.items ++ id_view c.in_ok-id.id ∷ [] =
    ap ids_view c.in_ok-push.ensures.items ∙ map-append id_view c.runs.list.items (c.in_ok-id.id ∷ []) in
    record {
      ids = read.0 ++ id_view c.in_ok-id.id ∷ [];
      exact = list_done c.args.text.now c.args.at c.runs.start _ read.0 (id_view c.in_ok-id.id)
          c.requires.here read.1 c.runs.invariant.ends c.run_id.ensures.end c.in_ok-id.ensures.id (sym c.if-not-goes_on_at.ensures);
      added = pushed ∙ rw read.2 (append_assoc (ids_view c.args.list.now.items) read.0 (id_view c.in_ok-id.id ∷ []));
    }

pub runs-preserved : goal.runs-preserved
runs-preserved c =
    let read = c.runs.invariant.read in
    let pushed : ids_view c.push.new.self.items ≡ ids_view c.runs.list.items ++ id_view c.in_ok-id.id ∷ [] =
    ap ids_view c.in_ok-push.ensures.items ∙ map-append id_view c.runs.list.items (c.in_ok-id.id ∷ []) in
    let more = list_more c.args.text.now c.args.at c.runs.start _ read.0 (id_view c.in_ok-id.id)
    read.1 c.runs.invariant.ends c.run_id.ensures.end
    c.in_ok-id.ensures.id (sym c.if-not-goes_on_at.ensures) in
    let inside = begins_before_end _ c.args.text.now (c.runs.run.0 + 1) more.0 in
    record {
      after = omega (arith, c.run_id.ensures.after);
      inside = omega arith;
      here = more.0;
      run = rw c.as_bytes.ensures.value at c.scan_run-run.ensures;
      read = (read.0 ++ id_view c.in_ok-id.id ∷ [], more.1, pushed ∙ rw read.2 (append_assoc (ids_view c.args.list.now.items) read.0 (id_view c.in_ok-id.id ∷ [])));
      ends = more.2;
    }
