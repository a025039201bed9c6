use Rattle.std.proofs.Common.{◌≡◌, ap, subst, sym, ◌∙◌}
use Rattle.std.specs.Cmp.Lexicographic.{slice_cmp}
use Rattle.std.specs.Ordering.{nat_cmp}
use Rattle.std.specs.Prelude.{OnOk}
use Rattle.key_spans.specs.Internal.Sets.{joined}
use Rattle.key_spans.proofs.Sweeping.{joined_last}
use Rattle.key_spans.proofs.canon.join.Goals as goal

pub returns-in-Some : goal.returns-in-Some
returns-in-Some c = subst (λ l. OnOk c.push_pair.result (c.push_pair.new.parts.items ≡ l))
    (sym (ap (λ l. joined (slice_cmp nat_cmp) l c.args.part) c.in-Some.ensures.items
    ∙ joined_last (slice_cmp nat_cmp) c.pop.new.self.items c.in-Some.last c.args.part))
    c.push_pair.ensures
