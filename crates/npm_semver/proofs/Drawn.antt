-- What `explain` draws, and that other subcommands draw nothing.
use Rattle.std.proofs.Common.{◌≡◌, ◌≢◌, ◌∙◌, ◌∷◌, ◌++◌, [], ℕ, Bool, true, false, List, None, Result, Ok, Err, IfOk, ap, append_assoc, codes}
use Rattle.std.specs.Str.{IsAscii, bytes_eq}
use Rattle.nodejs_semver.specs.Printing.Text.{range_text}
use Rattle.npm_semver.specs.Internal.Drawings.{IsDrawing}
use Rattle.npm_semver.specs.Internal.Said.{name_of, said}
use Rattle.npm_semver.specs.Subcommands as Spec
use Rattle.npm_semver.specs.Subcommands.{Answers, IsInAscii, IsRange, Range, Said, say, takes_input}
use Rattle.npm_semver.specs.declared.subcommands.Subcommand.{Subcommand}
use Rattle.npm_semver.specs.declared.subcommands.replies.Reply.{Reply}
use Rattle.npm_semver.specs.declared.subcommands.replies.Status.TheVariants.{Yes}

pub drawing_is : (is_utf8 : Bool) (r : Range) (drawing first text : List ℕ) → (is_utf8 ≡ false → IsAscii drawing)
    → first ≡ range_text r ++ 10 ∷ [] → text ≡ first ++ drawing → IsDrawing is_utf8 r text
drawing_is is_utf8 r drawing first text ascii begun all =
    (drawing, all ∙ (ap (λ (t : List ℕ). t ++ drawing) begun ∙ append_assoc (range_text r) (10 ∷ []) drawing), ascii)

pub drawn : (a : List ℕ) (r : Range) (text : List ℕ) (said : Said) (is_utf8 : Bool) → IsRange a r → IsDrawing is_utf8 r text
    → said ≡ say text None Yes → Answers (codes "explain" ∷ a ∷ []) said
drawn a r text said is_utf8 is (drawing, e, ascii) says = rw (says, e) (Spec.explain a r drawing is)

pub drawn_ascii : (a : List ℕ) (r : Range) (text : List ℕ) (said : Said) (is_utf8 : Bool) → IsRange a r → IsDrawing is_utf8 r text
    → said ≡ say text None Yes → is_utf8 ≡ false → IsInAscii (codes "explain" ∷ a ∷ []) said
drawn_ascii a r text said is_utf8 is (drawing, e, ascii) says plain = rw (says, e) (Spec.drawn a r drawing is (ascii plain))

-- ---- other subcommands

pub is_other : (self name : Subcommand) → self ≡ name → bytes_eq (name_of name) (codes "explain") ≡ false → name_of self ≢ codes "explain"
is_other self name is differs e =
    let same : name_of name ≡ codes "explain" = rw is at e in
    let bad : true ≡ false = rw same at differs in absurd (cc)

pub draws_nothing : {E : Type 0} (r : Result Reply E) (name : List ℕ) (words : List (List ℕ)) → name ≢ codes "explain"
    → IfOk r (λ reply. IsInAscii (name ∷ words) (said reply))
draws_nothing (Ok reply) name words differs = Spec.other name words (said reply) differs
draws_nothing (Err e) name words differs = tt

pub takes_other : (name : List ℕ) (words : List (List ℕ)) → takes_input (name ∷ words) ≡ true → name ≢ codes "explain"
takes_other name words takes e = let bad : false ≡ true = rw e at takes in absurd (cc)
