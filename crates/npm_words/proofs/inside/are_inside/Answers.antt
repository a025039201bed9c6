use Rattle.npm_words.proofs.{Common.{[], rules, sym, tests, ◌∙◌, ◌∷◌}, Grammar.Inside.{inside-goes, inside-less, inside-stops, place_byte}}
use Rattle.{npm_words.specs.Malformed.begins_place, std.proofs.lemmas.Iterator.{Search.position_from_yields_List, YieldsList-from_slice}}
use Rattle.npm_words.proofs.inside.are_inside.Goals as goal

pub partials-smaller : goal.partials-smaller
partials-smaller c =
    let first = position_from_yields_List (λ b. begins_place (b ∷ [])) _ _ _ c.position.ensures.ran (YieldsList-from_slice _ c.iter.ensures.rest)
    (λ x b q k. rw (place_byte x.now) (search (rules, tests))) in
    inside-less _ _ (sym first ∙ c.in-Some.is) _ c.behind_partial-left.ensures

pub partials-preserved : goal.partials-preserved
partials-preserved c =
    let first = position_from_yields_List (λ b. begins_place (b ∷ [])) _ _ _ c.position.ensures.ran (YieldsList-from_slice _ c.iter.ensures.rest)
    (λ x b q k. rw (place_byte x.now) (search (rules, tests))) in
    c.partials.invariant ∙ inside-goes _ _ (sym first ∙ c.in-Some.is) _ c.behind_partial-left.ensures

pub returns : goal.returns
returns c =
    let first = position_from_yields_List (λ b. begins_place (b ∷ [])) _ _ _ c.position.ensures.ran (YieldsList-from_slice _ c.iter.ensures.rest)
    (λ x b q k. rw (place_byte x.now) (search (rules, tests))) in
    c.is_empty.ensures ∙ inside-stops _ (sym first ∙ c.in_default.is) ∙ sym c.partials.invariant
