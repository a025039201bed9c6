use Rattle.semver_core.proofs.Text.Spaces.{drop_spaces-more, drop_spaces-none}
use Rattle.semver_core.specs.Internal.Spaces.{drop_spaces}
unfoldable use Rattle.semver_core.specs.Internal.Spaces.{space_len}
use Rattle.std.proofs.Common.{List, [], arith, drop, get_or, length, refl, sym, true, ℕ, ◌∙◌, ◌≤◌, ◌<◌, ◌∷◌, ◌≡◌}
use Rattle.std.proofs.lemmas.Bool.Decides.{nat_tests}
use Rattle.std.proofs.lemmas.List.{take_rest}
use Rattle.std.specs.Char.{is_ascii_graphic}
use Rattle.semver_pieces.proofs.spaces.skip_spaces.Goals as goal

nothing : (text : List ℕ) → length text < 1 → text ≡ drop_spaces text
unfolding space_len
nothing [] h = sym (drop_spaces-none [] refl)
nothing (b ∷ rest) h = absurd (omega arith)

visible : (text : List ℕ) → 0 < length text → is_ascii_graphic (get_or text 0 0) ≡ true → space_len text ≡ 0
unfolding space_len
visible [] some h = absurd (omega arith)
visible (b ∷ rest) some h = grind (arith, nat_tests)

one_space : (text : List ℕ) → 2 ≤ length text → get_or text 0 0 ≡ 32 → is_ascii_graphic (get_or text 1 0) ≡ true → drop 1 text ≡ drop_spaces text
unfolding space_len
one_space [] two space next = absurd (omega arith)
one_space (b ∷ rest) two space next = grind (arith, nat_tests, visible rest, drop_spaces-none rest, drop_spaces-more (b ∷ rest))

pub returns-in-empty : goal.returns-in-empty
returns-in-empty c = nothing c.args.text.now c.in-empty.len_below

pub returns-in-len1-up : goal.returns-in-len1-up
returns-in-len1-up c =
    let dark : space_len c.args.text.now ≡ 0 = grind (arith, visible) in
    sym (drop_spaces-none c.args.text.now dark)

pub returns-in-32 : goal.returns-in-32
returns-in-32 c =
    let text = c.args.text.now in
    let space : get_or text 0 0 ≡ 32 = grind arith in
    let next : is_ascii_graphic (get_or text 1 0) ≡ true = grind arith in
    take_rest text 1 ∙ one_space text c.in-32.len_at_least space next
