-- Two neighbouring parts of the version texts are exchanged.
use Rattle.std.proofs.Common.{◌≡◌, ◌⊎◌, ◌∷◌, ◌++◌, [], ℕ, false, List, Some, ap, append_assoc, arith, inl, inr, refl}
use Rattle.std.proofs.lemmas.List.Elements.{All-cons, All-head, All-nil}
use Rattle.std.proofs.lemmas.List.Sorted.{All-permutation, length_permutation, IsPermutation-append_comm, IsPermutation-append_left, IsPermutation-append_right, IsPermutation-sym, IsPermutation-trans}
use Rattle.std.specs.List.Sorted.{IsPermutation}
use Rattle.npm_semver.specs.Arguments.{Asked}
use Rattle.npm_semver.specs.Listing.{AreListed, Entry, IsListing}
use Rattle.npm_semver.specs.Listing as Listing
use Rattle.npm_semver.specs.Readings.{SomeText, here, later}
use Rattle.npm_semver.specs.Responses.{IsRefused, Refusal, Responds, Written, increment, given, increment_written, no_number, no_version, prints_as_given, refused, unknown, unread, unshown, versions}
use Rattle.npm_semver.specs.declared.reading.ReadOptions.{ReadOptions}

moved : (f u w k : List Entry) → IsPermutation (f ++ (u ++ (w ++ k))) (f ++ (w ++ (u ++ k)))
moved f u w k =
    let both : IsPermutation ((u ++ w) ++ k) ((w ++ u) ++ k) = IsPermutation-append_left k (u ++ w) (w ++ u) (IsPermutation-append_comm u w) in
    IsPermutation-append_right f (u ++ (w ++ k)) (w ++ (u ++ k)) (rw (append_assoc u w k, append_assoc w u k) at both)

moved_lists : (vs behind rest f u w k : List Entry) → vs ≡ f ++ behind → behind ≡ u ++ rest → rest ≡ w ++ k
    → IsPermutation vs (f ++ (w ++ (u ++ k)))
moved_lists vs behind rest f u w k e e2 e3 = rw (e, e2, e3) (moved f u w k)

module _ (r : ReadOptions) (ranges : List (List ℕ)) where
  split : (xs ys : List (List ℕ)) (vs : List Entry) → AreListed r ranges (xs ++ ys) vs
      → (us ws : List Entry) × AreListed r ranges xs us × AreListed r ranges ys ws × (vs ≡ us ++ ws)
  split [] ys vs are = ([], vs, Listing.none, are, refl)
  split (x ∷ xs) ys vs (Listing.no_version text rest zs lacks are) =
      let (us, ws, first, second, e) = split xs ys zs are in (us, ws, Listing.no_version x xs us lacks first, second, e)
  split (x ∷ xs) ys vs (Listing.rejected text rest v zs is say are) =
      let (us, ws, first, second, e) = split xs ys zs are in (us, ws, Listing.rejected x xs v us is say first, second, e)
  split (x ∷ xs) ys vs (Listing.accepted text middle rest v zs is say trim are) =
      let (us, ws, first, second, e) = split xs ys zs are in
      let entry : Entry = record { version = v; text = middle } in
      (entry ∷ us, ws, Listing.accepted x middle xs v us is say trim first, second, ap (λ l. entry ∷ l) e)

  join : (xs ys : List (List ℕ)) (us ws : List Entry) → AreListed r ranges xs us → AreListed r ranges ys ws
      → AreListed r ranges (xs ++ ys) (us ++ ws)
  join xs ys us ws Listing.none second = second
  join xs ys us ws (Listing.no_version text rest vs lacks are) second =
      Listing.no_version text (rest ++ ys) (vs ++ ws) lacks (join rest ys vs ws are second)
  join xs ys us ws (Listing.rejected text rest v vs is say are) second =
      Listing.rejected text (rest ++ ys) v (vs ++ ws) is say (join rest ys vs ws are second)
  join xs ys us ws (Listing.accepted text middle rest v vs is say trim are) second =
      Listing.accepted text middle (rest ++ ys) v (vs ++ ws) is say trim (join rest ys vs ws are second)

  exchanged : (front a b back : List (List ℕ)) (vs : List Entry) → AreListed r ranges (front ++ (a ++ (b ++ back))) vs
      → (ws : List Entry) × AreListed r ranges (front ++ (b ++ (a ++ back))) ws × IsPermutation vs ws
  exchanged front a b back vs are =
      let (f, behind, of_front, are_behind, e) = split front (a ++ (b ++ back)) vs are in
      let (u, rest, of_a, are_rest, e2) = split a (b ++ back) behind are_behind in
      let (w, k, of_b, of_back, e3) = split b back rest are_rest in (
        f ++ (w ++ (u ++ k)),
        join front (b ++ (a ++ back)) f (w ++ (u ++ k)) of_front (join b (a ++ back) w (u ++ k) of_b (join a back u k of_a of_back)),
        moved_lists vs behind rest f u w k e e2 e3,
      )

  listing_exchanged : (front a b back : List (List ℕ)) (printed : List Entry) → IsListing r ranges (front ++ (a ++ (b ++ back))) printed
      → IsListing r ranges (front ++ (b ++ (a ++ back))) printed
  listing_exchanged front a b back printed listing =
      let (ws, are, same) = exchanged front a b back listing.listed listing.are in record {
        listed = ws;
        are = are;
        same = IsPermutation-trans ws listing.listed printed (IsPermutation-sym listing.listed ws same) listing.same;
        sorted = listing.sorted;
      }

module _ (Is : List ℕ → Type 0) where
  some_split : (xs ys : List (List ℕ)) → SomeText Is (xs ++ ys) → SomeText Is xs ⊎ SomeText Is ys
  some_split [] ys some = inr some
  some_split (x ∷ xs) ys (here text rest is) = inl (here x xs is)
  some_split (x ∷ xs) ys (later text rest some) = elim (some_split xs ys some) [ inl l ↦ inl (later x xs l) | inr s ↦ inr s ]

  some_left : (xs ys : List (List ℕ)) → SomeText Is xs → SomeText Is (xs ++ ys)
  some_left xs ys (here text rest is) = here text (rest ++ ys) is
  some_left xs ys (later text rest some) = later text (rest ++ ys) (some_left rest ys some)

  some_right : (xs ys : List (List ℕ)) → SomeText Is ys → SomeText Is (xs ++ ys)
  some_right [] ys some = some
  some_right (x ∷ xs) ys some = later x (xs ++ ys) (some_right xs ys some)

  some_behind : (a b back : List (List ℕ)) → SomeText Is (a ++ (b ++ back)) → SomeText Is (b ++ (a ++ back))
  some_behind a b back some = elim (some_split a (b ++ back) some) [
    | inl l ↦ some_right b (a ++ back) (some_left a back l)
    | inr s ↦ elim (some_split b back s) [ inl l ↦ some_left b (a ++ back) l | inr k ↦ some_right b (a ++ back) (some_right a back k) ]
  ]

  some_exchanged : (front a b back : List (List ℕ)) → SomeText Is (front ++ (a ++ (b ++ back))) → SomeText Is (front ++ (b ++ (a ++ back)))
  some_exchanged front a b back some = elim (some_split front (a ++ (b ++ back)) some) [
    | inl l ↦ some_left front (b ++ (a ++ back)) l
    | inr s ↦ some_right front (b ++ (a ++ back)) (some_behind a b back s)
  ]

refused_exchanged : (q : Asked) (front a b back : List (List ℕ)) (why : Refusal)
    → IsRefused (record q { versions = front ++ (a ++ (b ++ back)) }) why
    → IsRefused (record q { versions = front ++ (b ++ (a ++ back)) }) why
refused_exchanged q front a b back why (no_number e) = no_number e
refused_exchanged q front a b back why (unknown number e) = unknown number e
refused_exchanged q front a b back why (unread number known some) = unread number known some
refused_exchanged q front a b back why (no_version number known all some) =
    no_version number known all (some.0, some_exchanged _ front a b back some.1)
refused_exchanged q front a b back why (unshown number known all read some) =
    unshown number known all (λ lacks. read (lacks.0, some_exchanged _ front b a back lacks.1)) (some.0, some_exchanged _ front a b back some.1)

-- what is written for a next version does not depend on the order of the versions
one_order : (q : Asked) (texts more : List (List ℕ)) (level : List ℕ) (vs ws : List Entry) → IsPermutation vs ws
    → increment_written (record q { versions = texts }) level vs ≡ increment_written (record q { versions = more }) level ws
one_order q texts more level [] [] moved = refl
one_order q texts more level [] (w ∷ ws) moved = absurd (grind (arith, length_permutation [] (w ∷ ws) moved))
one_order q texts more level (v ∷ []) [] moved = absurd (grind (arith, length_permutation (v ∷ []) [] moved))
one_order q texts more level (v ∷ []) (w ∷ []) moved =
    let same = All-permutation (λ u. v ≡ u) (v ∷ []) (w ∷ []) moved (All-cons (λ u. v ≡ u) v [] refl (All-nil (λ u. v ≡ u))) in
    ap (λ (u : Entry). increment_written (record q { versions = texts }) level (u ∷ [])) (All-head (λ u. v ≡ u) w [] same)
one_order q texts more level (v ∷ []) (w ∷ x ∷ ws) moved = absurd (omega (arith, length_permutation (v ∷ []) (w ∷ x ∷ ws) moved))
one_order q texts more level (v ∷ u ∷ vs) [] moved = absurd (omega (arith, length_permutation (v ∷ u ∷ vs) [] moved))
one_order q texts more level (v ∷ u ∷ vs) (w ∷ []) moved = absurd (omega (arith, length_permutation (v ∷ u ∷ vs) (w ∷ []) moved))
one_order q texts more level (v ∷ u ∷ vs) (w ∷ x ∷ ws) moved = refl

pub responds_exchanged : (q : Asked) (front a b back : List (List ℕ)) (written : Written) → prints_as_given q ≡ false
    → Responds (Some (record q { versions = front ++ (a ++ (b ++ back)) })) written
    → Responds (Some (record q { versions = front ++ (b ++ (a ++ back)) })) written
responds_exchanged q front a b back written sorted (refused _ why is) = refused _ why (refused_exchanged q front a b back why is)
responds_exchanged q front a b back written sorted (versions _ vs can no_level sorts listing) =
    versions (record q { versions = front ++ (b ++ (a ++ back)) }) vs (λ why is. can why (refused_exchanged q front b a back why is)) no_level sorted
    (listing_exchanged q.reading q.ranges front a b back vs listing)
responds_exchanged q front a b back written sorted (given _ vs can no_level keeps are) = absurd (cc)
responds_exchanged q front a b back written sorted (increment _ word vs can has are) =
    let (ws, listed, moved) = exchanged q.reading [] front a b back vs are in
    rw (one_order q (front ++ (a ++ (b ++ back))) (front ++ (b ++ (a ++ back))) word vs ws moved)
    (increment (record q { versions = front ++ (b ++ (a ++ back)) }) word ws (λ why is. can why (refused_exchanged q front b a back why is)) has listed)
