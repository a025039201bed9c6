use Rattle.std.proofs.Common.{ap, false, not, rules, sym, true, ◌++◌, ◌≡◌, ◌∙◌}
use Rattle.std.proofs.lemmas.List.{take-append-drop}
use Rattle.std.proofs.lemmas.List.Sorted.{IsPartitionPoint-from_clause}
use Rattle.std.specs.List.{list_all}
use Rattle.std.specs.List.Sorted.{IsPartitionPoint}
use Rattle.key_spans.proofs.Combined.{all_dropped, all_taken, by_kind}
use Rattle.key_spans.specs.Spans.{is_sorted}
use Rattle.key_spans.specs.declared.KeySpan.{KeySpan}
use Rattle.key_spans.proofs.sets.by_kind.Goals as goal

-- where the spans of releases end
point : (c : goal.After-split_at) → is_sorted c.args.spans.now ≡ true
    → IsPartitionPoint (λ (s : KeySpan). s.releases_only ≡ true) (λ s. s.releases_only ≡ false) c.args.spans.now c.partition_point.result
point c h = IsPartitionPoint-from_clause (λ (s : KeySpan). s.releases_only) c.args.spans.now c.partition_point.result
    c.partition_point.ensures.partitioned (by_kind c.args.spans.now h) (λ a r q k. search rules)

pub returns : goal.returns
returns c = record {
  whole = sym (take-append-drop c.partition_point.result c.args.spans.now)
      ∙ (λ i. sym c.split_at.ensures.front i ++ sym c.split_at.ensures.back i);
  releases_first = λ h. ap (list_all (λ (s : KeySpan). s.releases_only)) c.split_at.ensures.front
      ∙ all_taken (λ (s : KeySpan). s.releases_only) c.args.spans.now c.partition_point.result (point c h).0 c.partition_point.ensures.bound;
  others_behind = λ h. ap (list_all (λ (s : KeySpan). not s.releases_only)) c.split_at.ensures.back
      ∙ all_dropped (λ (s : KeySpan). not s.releases_only) c.args.spans.now c.partition_point.result
      (λ k d l m. ap not ((point c h).1 k d l m));
}
