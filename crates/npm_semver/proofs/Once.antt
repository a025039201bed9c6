-- What is written for a question is determined by it.
use Rattle.npm_semver.{proofs.Ties.{same_emptiness, same_text}, specs.{Arguments.Asked, Laws.EachText, Listing.{AllSay, AreListed, Entry, IsGiven, IsListing}}}
use Rattle.npm_semver.specs.{Listing.Says, Readings.{IsVersionAs, IsVersionIn, found, not_found, strict}, Responses.{Responds, Written, given, increment, refused}}
use Rattle.{npm_semver.specs.{Responses.versions, declared.reading.ReadOptions.ReadOptions}, npm_words.specs.Alternatives.HasAlternativesIn}
use Rattle.npm_words.specs.{Alternatives.accepts, Coerced.{IsChosenFrom, IsCoerced, IsNumberIn}, Table.Comparison, VersionText.IsVersionText}
use Rattle.{semver_core.specs.{Text.Characters.IsTrim, Values.Versions.VersionValue}, std.proofs.Common.{Bool, IsUtf8, List, Some, [], ap, arith}}
use Rattle.std.proofs.{Common.{false, refl, sym, true, ℕ, ◌∙◌, ◌∷◌, ◌≡◌}, lemmas.List.Sorted.{IsPermutation-sym, IsPermutation-trans}}
use Rattle.std.{proofs.lemmas.Option.same_Some, specs.List.Sorted.IsPermutation}
use Rattle.npm_semver.specs.Responses.{IsRefused, Refusal, no_number, no_version, unknown, unread, unshown}
use Rattle.npm_semver.specs.Laws as Each
use Rattle.npm_semver.specs.Listing as Listing

abbrev pub OneVersion : Type 0
OneVersion = (limit : ℕ) (text : List ℕ) (v w : VersionValue) → IsVersionText limit text v → IsVersionText limit text w → v ≡ w

abbrev pub OneRange : Type 0
OneRange = (loose : Bool) (limit : ℕ) (include : Bool) (text : List ℕ) (a b : List (List Comparison)) → IsUtf8 text
    → HasAlternativesIn loose limit include text a → HasAlternativesIn loose limit include text b → a ≡ b

-- a text has one trimmed middle
abbrev pub OneTrim : Type 0
OneTrim = (text middle other : List ℕ) → IsTrim text middle → IsTrim text other → middle ≡ other

-- at most one version is found in a text, from the left and from the right
abbrev pub OneFound : Bool → Type 0
OneFound from_right = (included loose : Bool) (text : List ℕ) (v w : VersionValue) → IsCoerced included (IsChosenFrom from_right) (IsNumberIn loose) text v
    → IsCoerced included (IsChosenFrom from_right) (IsNumberIn loose) text w → v ≡ w

module _ (one_version : OneVersion) (one_range : OneRange) (one_trim : OneTrim) (one_found : (from_right : Bool) → OneFound from_right) (r : ReadOptions) where
  part_once : (text : List ℕ) (v w : VersionValue) → IsVersionAs r text v → IsVersionAs r text w → v ≡ w
  part_once text v w (strict p is) (strict q of) = one_version _ text v w is of
  part_once text v w (strict p is) (found q of) = absurd (grind (arith, p, q))
  part_once text v w (strict p is) (not_found q lacks of) = one_version _ text v w is of
  part_once text v w (found p is) (strict q of) = absurd (grind (arith, p, q))
  part_once text v w (found p is) (found q of) = one_found r.from_right r.include_prerelease r.is_loose text v w is of
  part_once text v w (found p is) (not_found q lacks of) = absurd (lacks v is)
  part_once text v w (not_found p lacks is) (strict q of) = one_version _ text v w is of
  part_once text v w (not_found p lacks is) (found q of) = absurd (lacks w of)
  part_once text v w (not_found p lacks is) (not_found q none of) = one_version _ text v w is of

  version_once : (text : List ℕ) (v w : VersionValue) → IsVersionIn r text v → IsVersionIn r text w → v ≡ w
  version_once text v w one other =
      let same : one.part ≡ other.part = same_Some one.part other.part (sym one.has ∙ other.has) in
      part_once other.part v w (rw same at one.is) other.is

  -- a text was given as one
  given_once : (text m n : List ℕ) → IsGiven r text m → IsGiven r text n → m ≡ n
  given_once text m n (Listing.trimmed _ e trim) (Listing.trimmed _ f cut) = one_trim text m n trim cut
  given_once text m n (Listing.trimmed _ e trim) (Listing.whole f) = let bad : false ≡ true = sym e ∙ f in absurd (cc)
  given_once text m n (Listing.whole e) (Listing.trimmed _ f cut) = let bad : true ≡ false = sym e ∙ f in absurd (cc)
  given_once text m n (Listing.whole e) (Listing.whole f) = refl

  says_once : (v : VersionValue) (text : List ℕ) (a b : Bool) → IsUtf8 text → Says r v text a → Says r v text b → a ≡ b
  says_once v text a b u (Listing.range _ x has) (Listing.range _ y of) =
      ap (λ (l : List (List Comparison)). accepts r.include_prerelease l v) (one_range _ _ _ text x y u has of)
  says_once v text a b u (Listing.range _ x has) (Listing.no_range _ none) = absurd (none x has)
  says_once v text a b u (Listing.no_range _ none) (Listing.range _ y of) = absurd (none y of)
  says_once v text a b u (Listing.no_range _ none) (Listing.no_range _ lacks) = refl

  all_say_once : (v : VersionValue) (ranges : List (List ℕ)) (a b : Bool) → EachText IsUtf8 ranges → AllSay r v ranges a → AllSay r v ranges b → a ≡ b
  all_say_once v [] a b u Listing.none Listing.none = refl
  all_say_once v (text ∷ rest) a b (Each.more _ _ first others) (Listing.more _ _ c d is are) (Listing.more _ _ e f of were) =
      rw (says_once v text c e first is of, all_say_once v rest d f others are were) refl

  -- a version that not all ranges accept is none that all accept
  not_both : (v w : VersionValue) (ranges : List (List ℕ)) → EachText IsUtf8 ranges → v ≡ w → AllSay r v ranges false → AllSay r w ranges true → ⊥
  not_both v w ranges u same says say =
      let e = all_say_once w ranges false true u (rw same at says) say in absurd (grind (arith, e))

  first_once : (v w : VersionValue) (m n : List ℕ) (ds es : List Entry) → v ≡ w → m ≡ n → ds ≡ es
      → (record { version = v; text = m } ∷ ds) ≡ (record { version = w; text = n } ∷ es)
  first_once v w m n ds es d e f = rw (d, e, f) refl

  listed_once : (ranges texts : List (List ℕ)) (ds es : List Entry) → EachText IsUtf8 ranges → AreListed r ranges texts ds
      → AreListed r ranges texts es → ds ≡ es
  listed_once ranges [] ds es u Listing.none Listing.none = refl
  listed_once ranges (text ∷ rest) ds es u (Listing.no_version _ _ _ lacks are) (Listing.no_version _ _ _ none were) =
      listed_once ranges rest ds es u are were
  listed_once ranges (text ∷ rest) ds es u (Listing.no_version _ _ _ lacks are) (Listing.rejected _ _ w _ of says were) = absurd (lacks w of)
  listed_once ranges (text ∷ rest) ds es u (Listing.no_version _ _ _ lacks are) (Listing.accepted _ n _ w gs of says cut were) = absurd (lacks w of)
  listed_once ranges (text ∷ rest) ds es u (Listing.rejected _ _ v _ is say are) (Listing.no_version _ _ _ none were) = absurd (none v is)
  listed_once ranges (text ∷ rest) ds es u (Listing.rejected _ _ v _ is say are) (Listing.rejected _ _ w _ of says were) =
      listed_once ranges rest ds es u are were
  listed_once ranges (text ∷ rest) ds es u (Listing.rejected _ _ v _ is say are) (Listing.accepted _ n _ w gs of says cut were) =
      absurd (not_both v w ranges u (version_once text v w is of) say says)
  listed_once ranges (text ∷ rest) ds es u (Listing.accepted _ m _ v fs is say trim are) (Listing.no_version _ _ _ none were) = absurd (none v is)
  listed_once ranges (text ∷ rest) ds es u (Listing.accepted _ m _ v fs is say trim are) (Listing.rejected _ _ w _ of says were) =
      absurd (not_both w v ranges u (version_once text w v of is) says say)
  listed_once ranges (text ∷ rest) ds es u (Listing.accepted _ m _ v fs is say trim are) (Listing.accepted _ n _ w gs of says cut were) =
      first_once v w m n fs gs (version_once text v w is of) (given_once text m n trim cut) (listed_once ranges rest fs gs u are were)

  printed_once : (ranges texts : List (List ℕ)) (vs ws : List Entry) → EachText IsUtf8 ranges → IsListing r ranges texts vs
      → IsListing r ranges texts ws → IsPermutation vs ws
  printed_once ranges texts vs ws u h k =
      let same = listed_once ranges texts h.listed k.listed u h.are k.are in
      IsPermutation-trans vs h.listed ws (IsPermutation-sym h.listed vs h.same) (rw same k.same)

-- a question is refused for one reason
refused_once : (q : Asked) (one other : Refusal) → IsRefused q one → IsRefused q other → one ≡ other
refused_once q one other (no_number a) (no_number b) = refl
refused_once q one other (no_number a) (unknown nn b) = absurd (nn a)
refused_once q one other (no_number a) (unread nn kk b) = absurd (nn a)
refused_once q one other (no_number a) (no_version nn kk rr b) = absurd (nn a)
refused_once q one other (no_number a) (unshown nn kk rr vv b) = absurd (nn a)
refused_once q one other (unknown n a) (no_number b) = absurd (n b)
refused_once q one other (unknown n a) (unknown nn b) = refl
refused_once q one other (unknown n a) (unread nn kk b) = absurd (kk a)
refused_once q one other (unknown n a) (no_version nn kk rr b) = absurd (kk a)
refused_once q one other (unknown n a) (unshown nn kk rr vv b) = absurd (kk a)
refused_once q one other (unread n k a) (no_number b) = absurd (n b)
refused_once q one other (unread n k a) (unknown nn b) = absurd (k b)
refused_once q one other (unread n k a) (unread nn kk b) = refl
refused_once q one other (unread n k a) (no_version nn kk rr b) = absurd (rr a)
refused_once q one other (unread n k a) (unshown nn kk rr vv b) = absurd (rr a)
refused_once q one other (no_version n k r a) (no_number b) = absurd (n b)
refused_once q one other (no_version n k r a) (unknown nn b) = absurd (k b)
refused_once q one other (no_version n k r a) (unread nn kk b) = absurd (r b)
refused_once q one other (no_version n k r a) (no_version nn kk rr b) = refl
refused_once q one other (no_version n k r a) (unshown nn kk rr vv b) = absurd (vv a)
refused_once q one other (unshown n k r v a) (no_number b) = absurd (n b)
refused_once q one other (unshown n k r v a) (unknown nn b) = absurd (k b)
refused_once q one other (unshown n k r v a) (unread nn kk b) = absurd (r b)
refused_once q one other (unshown n k r v a) (no_version nn kk rr b) = absurd (v b)
refused_once q one other (unshown n k r v a) (unshown nn kk rr vv b) = refl

found_both : OneFound false → OneFound true → (from_right : Bool) → OneFound from_right
found_both left right false = left
found_both left right true = right

responds_same : OneVersion → OneRange → OneTrim → ((from_right : Bool) → OneFound from_right) → (q : Asked) (a b : Written) → EachText IsUtf8 q.ranges
    → Responds (Some q) a → Responds (Some q) b → a ≡ b
responds_same one_version one_range one_trim one_found q a b u (refused _ why is) (refused _ other of) =
    rw (refused_once q why other is of) refl
responds_same one_version one_range one_trim one_found q a b u (refused _ why is) (versions _ ws can bare sorts listing) = absurd (can why is)
responds_same one_version one_range one_trim one_found q a b u (refused _ why is) (given _ ws can bare keeps are) = absurd (can why is)
responds_same one_version one_range one_trim one_found q a b u (refused _ why is) (increment _ word ws can has are) = absurd (can why is)
responds_same one_version one_range one_trim one_found q a b u (versions _ vs can bare sorts listing) (refused _ why of) = absurd (can why of)
responds_same one_version one_range one_trim one_found q a b u (versions _ vs can bare sorts listing) (given _ ws allowed none keeps are) = absurd (cc)
responds_same one_version one_range one_trim one_found q a b u (versions _ vs can bare sorts listing) (versions _ ws allowed none sort list) =
    let moved = printed_once one_version one_range one_trim one_found q.reading q.ranges q.versions vs ws u listing list in
    rw (same_text q vs ws listing.sorted list.sorted moved, same_emptiness vs ws moved) refl
responds_same one_version one_range one_trim one_found q a b u (versions _ vs can bare sorts listing) (increment _ word ws allowed has are) = absurd (grind (arith, bare, has))
responds_same one_version one_range one_trim one_found q a b u (given _ vs can bare keeps are) (refused _ why of) = absurd (can why of)
responds_same one_version one_range one_trim one_found q a b u (given _ vs can bare keeps are) (versions _ ws allowed none sorts list) = absurd (cc)
responds_same one_version one_range one_trim one_found q a b u (given _ vs can bare keeps are) (given _ ws allowed none keep were) =
    rw (listed_once one_version one_range one_trim one_found q.reading q.ranges q.versions vs ws u are were) refl
responds_same one_version one_range one_trim one_found q a b u (given _ vs can bare keeps are) (increment _ word ws allowed has were) = absurd (grind (arith, bare, has))
responds_same one_version one_range one_trim one_found q a b u (increment _ word vs can has are) (refused _ why of) = absurd (can why of)
responds_same one_version one_range one_trim one_found q a b u (increment _ word vs can has are) (versions _ ws allowed bare sorts list) = absurd (grind (arith, bare, has))
responds_same one_version one_range one_trim one_found q a b u (increment _ word vs can has are) (given _ ws allowed bare keeps were) = absurd (grind (arith, bare, has))
responds_same one_version one_range one_trim one_found q a b u (increment _ word vs can has are) (increment _ other ws allowed of were) =
    let level : word ≡ other = same_Some word other (sym has ∙ of) in
    rw (level, listed_once one_version one_range one_trim one_found q.reading [] q.versions vs ws Each.none are were) refl

pub responds_once : OneVersion → OneRange → OneTrim → OneFound false → OneFound true → (q : Asked) (a b : Written) → EachText IsUtf8 q.ranges
    → Responds (Some q) a → Responds (Some q) b → a ≡ b
responds_once one_version one_range one_trim left right = responds_same one_version one_range one_trim (found_both left right)
