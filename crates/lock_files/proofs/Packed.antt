-- The names of packed packages.
use Rattle.std.proofs.Common.{◌≡◌, ◌≢◌, ◌∙◌, ◌⊎◌, [], ◌∷◌, ◌++◌, List, None, Option, Some, ℕ, ap, append_assoc}
use Rattle.std.proofs.Common.{arith, codes, drop, inl, inr, length, length-append, refl, sym, take-append-drop}
use Rattle.std.proofs.Math.Seq.{drop-append_seam}
use Rattle.std.proofs.lemmas.List.{append_cancel_left, append_cancel_right}
use Rattle.std.proofs.lemmas.List.Elements.{All-cons, All-nil}
use Rattle.std.specs.Borrow.{Bor}
use Rattle.std.specs.Prelude.{Contains, MatchOption, option_map, unwrap_or}
use Rattle.std.specs.Str.Iter.{HasSubslice}
use Rattle.std.specs.Str.Pattern.{FindsTextPrefix, FindsTextSuffix, RFindsText, SplitsAroundMatch, StripsPrefix, StripsSuffix}
use Rattle.lock_files.specs.Internal.Nesting.{IsBehindLast}
use Rattle.lock_files.specs.Nested.{IsLastPart, IsNamedIn, IsPackedName, slashes}
use Rattle.lock_files.specs.Nested.IsPackedName.{in_address, in_entry}

-- ---- what a text begins or ends with

pub off-front : (piece text : List ℕ) (r : Option (Bor (List ℕ)))
    → MatchOption r (FindsTextPrefix piece text None) (λ x. StripsPrefix (FindsTextPrefix piece) text x.now)
    → MatchOption r ((rest : List ℕ) → text ≢ piece ++ rest) (λ x. text ≡ piece ++ x.now)
off-front piece text None lacks = lacks
off-front piece text (Some x) (n, (is, whole, _), same, _) = whole ∙ ap (λ t. piece ++ t) (sym same)

pub off-end : (piece text : List ℕ) (r : Option (Bor (List ℕ)))
    → MatchOption r (FindsTextSuffix piece text None) (λ x. StripsSuffix (FindsTextSuffix piece) text x.now)
    → MatchOption r ((front : List ℕ) → text ≢ front ++ piece) (λ x. text ≡ x.now ++ piece)
off-end piece text None lacks = lacks
off-end piece text (Some x) (n, (is, whole, _), same, _) = whole ∙ ap (λ t. t ++ piece) (sym same)

-- ---- what stands behind the last slash

-- a piece of what stands behind a front is one of the text
piece-behind : (text front behind piece : List ℕ) → text ≡ front ++ behind → HasSubslice behind piece
    → HasSubslice text piece
piece-behind text front behind piece whole (a, b, has) =
    (front ++ a, b, whole ∙ ap (λ t. front ++ t) has ∙ sym (append_assoc front a (piece ++ b)))

pub behind-found : (piece text front behind : List ℕ) → piece ≢ [] → SplitsAroundMatch (RFindsText piece) text front behind
    → IsBehindLast piece text behind
behind-found [] text front behind some s = absurd (some refl)
behind-found (b ∷ bs) text front behind some s =
    let piece = b ∷ bs in
    let whole : text ≡ front ++ (piece ++ behind) = sym (take-append-drop s.0 text)
    ∙ ap (λ t. t ++ drop s.0 text) (sym s.3)
    ∙ ap (λ t. front ++ t) (s.2.1.split ∙ ap (λ t. piece ++ t) (sym s.4)) in (
      λ (a, rest, has). let here = front ++ (piece ++ a) in
          let all : text ≡ here ++ (piece ++ rest) = whole ∙ ap (λ t. front ++ (piece ++ t)) has
          ∙ ap (λ t. front ++ t) (sym (append_assoc piece a (piece ++ rest)))
          ∙ sym (append_assoc front (piece ++ a) (piece ++ rest)) in
          s.2.0 (length here)
          (omega (arith, s.6, length-append front (piece ++ a), length-append piece a))
          (omega (arith, ap length all, length-append here (piece ++ rest)))
          rest (ap (drop (length here)) all ∙ drop-append_seam here (piece ++ rest)),
      inr (front, whole),
    )

pub behind-none : (piece text : List ℕ) → RFindsText piece text None → IsBehindLast piece text text
behind-none piece text lacks = (
  λ (a, rest, has). lacks (length a) (omega (arith, ap length has, length-append a (piece ++ rest))) rest
      (ap (drop (length a)) has ∙ drop-append_seam a (piece ++ rest)),
  inl refl,
)

-- what is behind a piece is an end of the text
end-of : (piece text behind : List ℕ) → IsBehindLast piece text behind → (front : List ℕ) × (text ≡ front ++ behind)
end-of piece text behind (_, inl same) = ([], same)
end-of piece text behind (_, inr (front, whole)) = (front ++ piece, whole ∙ sym (append_assoc front piece behind))

IsEnd : List ℕ → List ℕ → Type 0
IsEnd text part = (text ≡ part)
    ⊎ ((front : List ℕ) × (slash : List ℕ) × Contains slashes slash × (text ≡ front ++ (slash ++ part)))

end-more : (slash text middle part : List ℕ) → Contains slashes slash → IsEnd text middle → IsBehindLast slash middle part
    → IsEnd text part
unfolding IsEnd
end-more slash text middle part is (inl whole) (_, inl same) = inl (whole ∙ same)
end-more slash text middle part is (inr (front, other, among, whole)) (_, inl same) =
    inr (front, other, among, whole ∙ ap (λ t. front ++ (other ++ t)) same)
end-more slash text middle part is (inl whole) (_, inr (front, cut)) = inr (front, slash, is, whole ∙ cut)
end-more slash text middle part is (inr (before, other, among, whole)) (_, inr (front, cut)) =
    inr (
      before ++ (other ++ front),
      slash,
      is,
      whole ∙ ap (λ t. before ++ (other ++ t)) cut
          ∙ ap (λ t. before ++ t) (sym (append_assoc other front (slash ++ part)))
          ∙ sym (append_assoc before (other ++ front) (slash ++ part)),
    )

pub last-part : (text first second part : List ℕ) → IsBehindLast (codes "/") text first → IsBehindLast (codes "%2f") first second
    → IsBehindLast (codes "%2F") second part → IsLastPart text part
unfolding IsEnd
last-part text first second part one two three = record {
  whole = All-cons (λ slash. ¬ (HasSubslice part slash)) (codes "/") (codes "%2f" ∷ codes "%2F" ∷ [])
      (λ has. one.0 (also first second (codes "%2f") (codes "/") two (also second part (codes "%2F") (codes "/") three has)))
      (All-cons (λ slash. ¬ (HasSubslice part slash)) (codes "%2f") (codes "%2F" ∷ [])
      (λ has. two.0 (also second part (codes "%2F") (codes "%2f") three has))
      (All-cons (λ slash. ¬ (HasSubslice part slash)) (codes "%2F") [] three.0 (All-nil (λ slash. ¬ (HasSubslice part slash)))));
  end = end-more (codes "%2F") text second part (2, omega arith, refl)
      (end-more (codes "%2f") text first second (1, omega arith, refl)
      (end-more (codes "/") text text first (0, omega arith, refl) (inl refl) one) two) three;
}
  where
    also : (text' part' slash piece : List ℕ) → IsBehindLast slash text' part' → HasSubslice part' piece → HasSubslice text' piece
    also text' part' slash piece is has =
        let end = end-of slash text' part' is in piece-behind text' end.0 part' piece end.1 has

-- ---- the version in the name of a file

-- a text with this end has the other before it exactly if what stands before this one has
pub front-before : (text above piece file : List ℕ) (r : Option (Bor (List ℕ))) → text ≡ above ++ file
    → MatchOption r ((front : List ℕ) → above ≢ front ++ piece) (λ x. above ≡ x.now ++ piece)
    → MatchOption r ((front : List ℕ) → text ≢ front ++ (piece ++ file)) (λ x. text ≡ x.now ++ (piece ++ file))
front-before text above piece file None whole none = λ front is.
    none front (append_cancel_right above (front ++ piece) file
    (sym whole ∙ is ∙ sym (append_assoc front piece file)))
front-before text above piece file (Some x) whole has =
    whole ∙ ap (λ t. t ++ file) has ∙ append_assoc x.now piece file

pub no-front : (text piece file : List ℕ) → ((front : List ℕ) → text ≢ front ++ file) → (front : List ℕ)
    → text ≢ front ++ (piece ++ file)
no-front text piece file none front is = none (front ++ piece) (is ∙ sym (append_assoc front piece file))

-- a version behind the name is one in the file
pub named-in : (own file rest : List ℕ) (version : Option (List ℕ)) → file ≡ own ++ rest → IsNamedIn [] rest version
    → IsNamedIn own file version
named-in own file rest None whole none = λ version is.
    none version (append_cancel_left own rest (codes "-" ++ (version ++ codes ".tgz")) (sym whole ∙ is))
named-in own file rest (Some version) whole is = whole ∙ ap (λ t. own ++ t) is

-- a version between its signs
pub between : (rest version : List ℕ) (r : Option (Bor (List ℕ))) → rest ≡ 45 ∷ version
    → MatchOption r ((front : List ℕ) → version ≢ front ++ codes ".tgz") (λ x. version ≡ x.now ++ codes ".tgz")
    → IsNamedIn [] rest (option_map (λ t. t.now) r)
between rest version None whole none = λ other is. none other (ap (drop 1) (sym whole ∙ is))
between rest version (Some x) whole has = whole ∙ ap (λ t. 45 ∷ t) has

-- the name that counts
pub named-at : (name : Bor (List ℕ)) (place file own : List ℕ) (front : Option (Bor (List ℕ)))
    → MatchOption front ((t : List ℕ) → place ≢ t ++ (codes "/-/" ++ file)) (λ t. place ≡ t.now ++ (codes "/-/" ++ file))
    → IsLastPart (unwrap_or front name).now own → IsPackedName name.now place file own
named-at name place file own None none is = in_entry none is
named-at name place file own (Some front) at is = in_address front.now at is
