use Rattle.std.proofs.Common.{◌≡◌, arith, map-id, rules, sym, ◌∙◌, []}
use Rattle.std.proofs.lemmas.Grind.{common_steps}
use Rattle.std.proofs.lemmas.Iterator.Adapters.{YieldsList-from_vec}
use Rattle.std.proofs.lemmas.Iterator.Consumers.{YieldsList-end}
use Rattle.std.proofs.lemmas.List.Sorted.{answers_always, ranks_by}
use Rattle.std.specs.Cmp.Lexicographic.{nat_list_cmp_total, slice_cmp}
use Rattle.std.specs.List.Sorted.{IsSortedBy}
use Rattle.std.specs.Ordering.{is_lt, nat_cmp}
use Rattle.key_spans.proofs.Few.{swept_few}
use Rattle.key_spans.proofs.Sweeping.{IsSweep, swept_all}
use Rattle.key_spans.proofs.canon.canonical.Goals as goal

sorted : (c : goal.After-drop-part-iterator-2) → IsSortedBy (λ a b. is_lt (slice_cmp nat_cmp a.start b.start)) c.sort_by.new.self.items
sorted c = c.in_ok-sort_by.ensures.sorted _ (ranks_by nat_list_cmp_total (λ s. s.start))
    (answers_always _ (λ a r. is_lt r ≡ is_lt (slice_cmp nat_cmp a.0.now.start a.1.0.now.start)) _ (λ f a r f' k. search rules))

taken : (c : goal.After-drop-part-iterator-2) → c.loop-part.yielded ≡ c.sort_by.new.self.items
taken c =
    let end = YieldsList-end (YieldsList-from_vec {s = c.into_iter-part-iterator.result} c.sort_by.new.self.items (search rules) (search rules))
    c.loop-part.yielded c.loop-part.part-iterator c.loop-part.yielded_by c.next.result c.next.new.self c.in-None.is c.next.ensures.steps in
    sym (map-id c.loop-part.yielded) ∙ end.0

swept : (c : goal.After-drop-part-iterator-2) → IsSweep (slice_cmp nat_cmp) c.loop-part.found.items [] c.args.parts.items
swept c = swept_all nat_list_cmp_total c.args.parts.items c.sort_by.new.self.items c.loop-part.yielded c.loop-part.found.items
    (sorted c) (taken c) c.loop-part.invariant c.in_ok-sort_by.ensures.permutation

pub returns : goal.returns
returns c = record {
  canonical = (swept c).canonical;
  same = (swept c).same;
  few = swept_few (slice_cmp nat_cmp) c.args.parts.items c.sort_by.new.self.items c.loop-part.yielded c.loop-part.found.items (taken c)
      c.loop-part.invariant c.in_ok-sort_by.ensures.permutation;
}

pub loop-part-preserved : goal.loop-part-preserved
loop-part-preserved c = grind (arith, common_steps)
