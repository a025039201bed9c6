use Rattle.std.proofs.Common.{◌≡◌, ◌∷◌, ◌++◌, ◌∙◌, [], ap, arith, rules, sym, take, take_all}
use Rattle.std.proofs.lemmas.List.{take_more}
use Rattle.sqlite.specs.Held.{state}
use Rattle.sqlite.specs.State.{HasCleanDisk}
use Rattle.registry_index.specs.Searches.AreTold.{next, none}
use Rattle.registry_index.proofs.search.search.Goals as goal

pub loop-span-init : goal.loop-span-init
loop-span-init g c h = rw (c.new-found.ensures.items) none

pub loop-span-preserved : goal.loop-span-preserved
loop-span-preserved g c h =
    let i = c.loop-span.span-index in let spans = c.args.spans.now in let span = c.span-item.result in
    let clean : HasCleanDisk (state g.S.Store c.loop-span.conn) = search rules in
    rw (take_more spans i span c.loop-span-test.true ∙ ap (λ s. take i spans ++ s ∷ []) (sym c.span-item.is))
    (next (take i spans) span c.loop-span.conn c.query_all.new.self c.loop-span.found.items c.push_all.new.found.items c.in_ok-rows.rows.items (c.loop-span.invariant clean) (search rules)
    (search rules))

pub returns : goal.returns
returns g c h =
    let all : take c.loop-span.span-index c.args.spans.now ≡ c.args.spans.now = take_all _ _ (omega arith) in
    record { told = c.loop-span.found.items; asked = rw all at (c.loop-span.invariant h); all = search rules; sorted = search rules }
