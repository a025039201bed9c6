use Rattle.std.proofs.Common.{inl}
use Rattle.nodejs_semver_c.proofs.kept_spans.tell_spans.Goals as goal

pub returns-in-Ok : goal.returns-in-Ok
returns-in-Ok c = inl (
  c.in-Ok.found.items,
  record {
    exact = c.in-Ok.ensures.exact;
    sorted = c.in-Ok.ensures.sorted;
    ends = c.in-Ok.ensures.ends;
    few = c.in-Ok.ensures.few;
  },
  rw c.as_slice.ensures.value at c.put_spans.ensures,
)
