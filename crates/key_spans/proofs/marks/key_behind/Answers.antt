use Rattle.key_spans.proofs.Behind.{behind}
use Rattle.key_spans.proofs.marks.key_behind.Goals as goal

pub returns : goal.returns
returns g c = λ h. behind (g.V.Versioned.value c.args.version.now) h c.in_ok-bytes.bytes.items c.pop.new.self.items
    c.extend_from_slice.new.self.items c.in_ok-bytes.bytes.len c.in_ok-bytes.ensures c.in_ok-bytes.bytes.ok.0 c.pop.ensures.rest
    c.in_ok-extend_from_slice.ensures.items
