use Rattle.std.proofs.Common.{ap, rules, ℕ, ◌≡◌, ◌++◌, ◌∷◌, List, [], true, false, subst, sym, ◌∙◌}
use Rattle.key_spans.specs.Internal.Ends.{ends, turned}
use Rattle.key_spans.specs.Internal.Sets.{Stretch}
use Rattle.key_spans.proofs.Ends.{open_at, open_still, shut_at, shut_still}
use Rattle.key_spans.proofs.sets.Outline.turn.Goals as goal

pub returns-in-None : goal.returns-in-None
returns-in-None c =
    let zs : List (Stretch (List ℕ)) = c.self.inside.parts.items in
    let p : List ℕ = c.args.place.now in
    let was : ends zs ++ [] ≡ c.args.self.now = rw c.in-None.is at c.self.view_is in
    subst (λ b. ends zs ++ p ∷ [] ≡ turned b p c.args.self.now) (sym c.if-is_kept.true)
    (subst (λ es. ends zs ++ p ∷ [] ≡ turned true p es) was (open_at zs p))

pub returns-else-is_kept : goal.returns-else-is_kept
returns-else-is_kept c =
    let zs : List (Stretch (List ℕ)) = c.self.inside.parts.items in
    let p : List ℕ = c.args.place.now in
    let was : ends zs ++ [] ≡ c.args.self.now = rw c.in-None.is at c.self.view_is in
    subst (λ b. c.args.self.now ≡ turned b p c.args.self.now) (sym c.if-is_kept.false)
    (subst (λ es. es ≡ turned false p es) was (shut_still zs p))

pub returns-in_ok-push-in-Some : goal.returns-in_ok-push-in-Some
returns-in_ok-push-in-Some c =
    let zs : List (Stretch (List ℕ)) = c.self.inside.parts.items in
    let p : List ℕ = c.args.place.now in
    let s : List ℕ = c.in-Some.start.now in
    let was : ends zs ++ s ∷ [] ≡ c.args.self.now = rw c.in-Some.is at c.self.view_is in
    let now : ends c.push.new.self.items ++ [] ≡ ends (zs ++ record { start = s; stop = p } ∷ []) ++ [] =
    ap (λ l. ends l ++ []) (search rules) in
    now ∙ subst (λ b. ends (zs ++ record { start = s; stop = p } ∷ []) ++ [] ≡ turned b p c.args.self.now) (sym c.if-not-is_kept.true)
    (subst (λ es. ends (zs ++ record { start = s; stop = p } ∷ []) ++ [] ≡ turned false p es) was (shut_at zs s p))

pub returns-else-not-is_kept : goal.returns-else-not-is_kept
returns-else-not-is_kept c =
    let zs : List (Stretch (List ℕ)) = c.self.inside.parts.items in
    let p : List ℕ = c.args.place.now in
    let s : List ℕ = c.in-Some.start.now in
    let was : ends zs ++ s ∷ [] ≡ c.args.self.now = rw c.in-Some.is at c.self.view_is in
    subst (λ b. c.args.self.now ≡ turned b p c.args.self.now) (sym c.if-not-is_kept.false)
    (subst (λ es. es ≡ turned true p es) was (open_still zs s p))
