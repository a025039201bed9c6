use Rattle.semver_core.proofs.Common.{begins, is_identifier_char, Id, goes_on, identifier_of, List, None, Option, Some, [], drop}
use Rattle.semver_core.proofs.Common.{false, refl, sym, take, true, ℕ, ◌+◌, ◌∷◌, ◌≡◌, prefix_len, build_at, list_from}
use Rattle.semver_core.proofs.Common.{lists_at, pre_release_at, rules}
use Rattle.std.{specs.Prelude.is_some}
use Rattle.semver_core.proofs.Text.{Digits.{scan_fits, scan_stops}, Runs.list_done}
use Rattle.semver_core.proofs.readers.loose.lists_at.Goals as goal

-- one identifier that no other follows, and no build
one_found : (text : List ℕ) (at first end : ℕ) (id : Id) (build : Option ℕ)
    → end ≡ first + prefix_len is_identifier_char (drop first text)
    → id ≡ identifier_of (take (prefix_len is_identifier_char (drop first text)) (drop first text))
    → begins is_identifier_char (drop first text) ≡ true → goes_on (drop end text) ≡ false
    → build_at text end ≡ list_from text end build → is_some build ≡ false
    → pre_release_at text at ≡ list_from text at (Some first) → (id ∷ [], [], end) ≡ lists_at text at
one_found text at first end id None is spelled begins stop unbuilt none found =
    let done = list_done text first first end [] id begins refl refl is spelled stop in
    rw (found, ← done, unbuilt) refl
one_found text at first end id (Some s) is spelled begins stop unbuilt none found = search rules

pub goes_on_at-requires : goal.goes_on_at-requires
goes_on_at-requires c =
    let run = rw c.as_bytes.ensures.value at c.scan_run-run.ensures in record {
      place = (scan_fits c.args.text.now c.in-Some.first _ run c.in-Some.ensures.place).1;
      stop = scan_stops c.args.text.now c.in-Some.first _ run;
    }

pub build_start-requires : goal.build_start-requires
build_start-requires c =
    (scan_fits c.args.text.now c.in-Some.first _ (rw c.as_bytes.ensures.value at c.scan_run-run.ensures) c.in-Some.ensures.place).1

pub returns-then-is_none-clause-found : goal.returns-then-is_none-clause-found
returns-then-is_none-clause-found c =
    one_found c.args.text.now c.args.at c.in-Some.first _ _ _ c.in_ok-id.ensures.end c.in_ok-id.ensures.id c.in-Some.ensures.begins
    (sym c.if-not-goes_on_at.ensures) c.build_start.ensures.found c.if-is_none.ensures c.in-Some.ensures.found
