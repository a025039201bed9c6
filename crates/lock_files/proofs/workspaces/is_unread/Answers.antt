use Rattle.std.proofs.Common.{bytes_eq, codes, not, rules, tests, ◌&&◌}
use Rattle.std.proofs.lemmas.Iterator.Search.{any_from_yields_List}
use Rattle.std.proofs.lemmas.Iterator.Splits.{YieldsList-from_slice_split}
use Rattle.std.specs.List.{list_any}
use Rattle.lock_files.specs.Workspaces.{is_slash, is_wildcard}
use Rattle.lock_files.proofs.workspaces.is_unread.Goals as goal

pub returns : goal.returns
returns c =
    any_from_yields_List (λ part. not (bytes_eq part (codes "*")) && list_any is_wildcard part) _ _ _ c.any.ensures.ran
    (YieldsList-from_slice_split _ is_slash c.args.pattern.now (cc) (cc) (cc) (λ x b q k. search (rules, tests)))
    (λ x b q k. search (rules, tests))
