use Rattle.std.proofs.Common.{◌∙◌, ◌++◌, ap, string_bytes, sym}
use Rattle.std.proofs.lemmas.Iterator.{YieldsList-from_chars}
use Rattle.std.proofs.lemmas.Iterator.Consumers.{YieldsList-end}
use Rattle.std.proofs.lemmas.List.{flat_map_more, map-id}
use Rattle.std.specs.List.{flat_map}
use Rattle.lock_check.specs.Reports.{in_ascii}
use Rattle.lock_check.proofs.json.write_ascii.Goals as goal

pub returns : goal.returns
returns c =
    let t = YieldsList-end (YieldsList-from_chars c.args.text.now c.utf8.text cc) c.loop-letter.yielded _ c.loop-letter.yielded_by _ _
    c.in-None.is c.next.ensures.steps in
    c.loop-letter.invariant ∙ ap (λ letters. string_bytes c.args.output.now ++ flat_map in_ascii letters) (sym (map-id c.loop-letter.yielded) ∙ t.0)

pub loop-letter-preserved : goal.loop-letter-preserved
loop-letter-preserved c =
    c.in_ok-write_letter.ensures ∙ (ap (λ t. t ++ in_ascii c.in-Some.letter) c.loop-letter.invariant
    ∙ flat_map_more in_ascii (string_bytes c.args.output.now) c.loop-letter.yielded c.in-Some.letter)
