-- Lists of the same entries, both in order, print alike: entries that tie are the same but for the builds of their versions.
use Rattle.std.proofs.Common.{◌≡◌, ◌∙◌, ◌+◌, ◌<◌, ◌≤◌, ◌∷◌, ◌++◌, [], ℕ, suc, Bool, true, false, List, ap, arith, get_or, length, map, refl, reverse, sym, take, if◌then◌else◌}
use Rattle.std.proofs.lemmas.List.{map-append, reverse-append, take-map}
use Rattle.std.proofs.lemmas.List.Sorted.{length_permutation, ranks_by, sorted_far, sum_by-IsPermutation}
use Rattle.std.proofs.lemmas.List.Sums.{sum_by-cons}
use Rattle.std.specs.Cmp.Lexicographic.{slice_cmp}
use Rattle.std.specs.FinMap.{nat_cmp-IsAntisymmetric, slice_cmp-IsAntisymmetric}
use Rattle.std.specs.List.{flat_map, sum_by}
use Rattle.std.specs.List.Sorted.{IsPermutation, IsSorted}
use Rattle.std.specs.Ordering.{is_lt, nat_cmp, ordering_reverse, ordering_then}
use Rattle.std.specs.declared.cmp.Ordering.{Ordering}
use Rattle.std.specs.declared.cmp.Ordering.TheVariants.{Less, Equal, Greater}
use Rattle.semver_core.specs.Internal.OrderLaws.{same_key}
use Rattle.semver_core.specs.Lists.{is_empty}
use Rattle.semver_core.specs.Values.Order.{precedence}
use Rattle.semver_core.specs.Values.Versions.{VersionValue}
use Rattle.npm_semver.specs.Arguments.{Asked}
use Rattle.npm_semver.specs.Internal.EntryOrder.{order_total}
use Rattle.npm_semver.specs.Listing.{Entry, order}
use Rattle.npm_semver.specs.Responses.{ended, in_order, json, picked, shown, text_of}
use Rattle.npm_semver.specs.declared.question.Pick.{Pick}
use Rattle.npm_semver.specs.declared.question.Pick.TheVariants.{All, Greatest, Least}

-- ---- counting

abbrev bit : Bool → ℕ
bit true = 1
bit false = 0

-- 1 for an entry that is below this one
abbrev below : Entry → Entry → ℕ
below w v = bit (is_lt (order v w))

-- how many of these entries are below this one
abbrev count : Entry → List Entry → ℕ
count w [] = 0
count w (v ∷ vs) = below w v + count w vs

count-sum : (w : Entry) (vs : List Entry) → count w vs ≡ sum_by (below w) vs
count-sum w [] = refl
count-sum w (v ∷ vs) = ap (λ (n : ℕ). below w v + n) (count-sum w vs) ∙ sym (sum_by-cons (below w) v vs)

-- each entry is below none before it
abbrev Rising : List Entry → Type 0
Rising [] = Unit {0}
Rising (v ∷ vs) = (count v vs ≡ 0) × Rising vs

not_below : (w v : Entry) → is_lt (order v w) ≡ false → below w v ≡ 0
not_below w v e = rw e refl

none_below : (w : Entry) (vs : List Entry) → ((k : ℕ) → k < length vs → is_lt (order (get_or vs k w) w) ≡ false) → count w vs ≡ 0
none_below w [] h = refl
none_below w (v ∷ vs) h = omega (arith, not_below w v (h 0 (omega arith)), none_below w vs (λ k lt. h (suc k) (omega arith)))

rising_of : (vs : List Entry) → ((i j : ℕ) (d : Entry) → i ≤ j → j < length vs → is_lt (order (get_or vs j d) (get_or vs i d)) ≡ false)
    → Rising vs
rising_of [] h = tt
rising_of (v ∷ vs) h =
    (none_below v vs (λ k lt. h 0 (suc k) v (omega arith) (omega arith)), rising_of vs (λ i j d le lt. h (suc i) (suc j) d (omega arith) (omega arith)))

rising : (vs : List Entry) → IsSorted order vs → Rising vs
rising vs sorted = rising_of vs (sorted_far (λ v w. is_lt (order v w)) (ranks_by order_total (λ v. v)) vs sorted)

-- ---- lists of the same entries

record Same (vs ws : List Entry) : Type 0 where
  long : length vs ≡ length ws
  counts : (w : Entry) → count w vs ≡ count w ws

same : (vs ws : List Entry) → IsPermutation vs ws → Same vs ws
same vs ws moved = record {
  long = sym (length_permutation vs ws moved);
  counts = λ w. count-sum w vs ∙ sym (sum_by-IsPermutation (below w) vs ws moved) ∙ sym (count-sum w ws);
}

pub not_itself : (r : Ordering) → r ≡ ordering_reverse r → is_lt r ≡ false
not_itself Less e = ap is_lt e
not_itself Equal e = refl
not_itself Greater e = refl

itself : (v : Entry) → below v v ≡ 0
itself v = not_below v v (not_itself (order v v) (order_total.antisymm v v))

tie : (r s : Ordering) → s ≡ ordering_reverse r → is_lt r ≡ false → is_lt s ≡ false → r ≡ Equal
tie Less s e p q = absurd (grind (arith, p))
tie Equal s e p q = refl
tie Greater s e p q = absurd (grind (arith, rw e at q))

not_less : (b : Bool) → bit b ≡ 0 → b ≡ false
not_less true e = absurd (omega (arith, e))
not_less false e = refl

heads_tie : (v w : Entry) (vs ws : List Entry) → Same (v ∷ vs) (w ∷ ws) → count v vs ≡ 0 → count w ws ≡ 0 → order v w ≡ Equal
heads_tie v w vs ws s p q =
    let above : below v w ≡ 0 = omega (arith, s.counts v, itself v, p) in
    let under : below w v ≡ 0 = omega (arith, s.counts w, itself w, q) in
    tie (order v w) (order w v) (order_total.antisymm w v) (not_less _ under) (not_less _ above)

same_tails : (v w : Entry) (vs ws : List Entry) → Same (v ∷ vs) (w ∷ ws) → order v w ≡ Equal → Same vs ws
same_tails v w vs ws s e = record {
  long = omega (arith, s.long);
  counts = λ u.
      let head : below u v ≡ below u w = ap (λ (o : Ordering). bit (is_lt o)) (order_total.congr v w u e) in
      omega (arith, s.counts u, head);
}

abbrev pub unbuilt : VersionValue → VersionValue
unbuilt v = record v { build = [] }

-- an entry without the build of its version
abbrev pub plain_entry : Entry → Entry
plain_entry e = record { version = unbuilt e.version; text = e.text }

pub unbuilt_same : (v w : VersionValue) → precedence v w ≡ Equal → unbuilt v ≡ unbuilt w
unbuilt_same v w e =
    let key = same_key v w e in
    λ i. record { major = key.0 i; minor = key.1 i; patch = key.2 i; pre_release = key.3 i; build = [] }

both_tie : (r s : Ordering) → ordering_then r s ≡ Equal → (r ≡ Equal) × (s ≡ Equal)
both_tie Less s e = absurd (grind (arith, e))
both_tie Equal s e = (refl, e)
both_tie Greater s e = absurd (grind (arith, e))

plain_same : (d e : Entry) → order d e ≡ Equal → plain_entry d ≡ plain_entry e
plain_same d e tied =
    let (versions, texts) = both_tie (precedence d.version e.version) (slice_cmp nat_cmp d.text e.text) tied in
    let one = unbuilt_same d.version e.version versions in
    let other : d.text ≡ e.text = slice_cmp-IsAntisymmetric nat_cmp-IsAntisymmetric d.text e.text texts in
    λ i. record { version = one i; text = other i }

alike : (vs ws : List Entry) → Rising vs → Rising ws → Same vs ws → map plain_entry vs ≡ map plain_entry ws
alike [] [] p q s = refl
alike [] (w ∷ ws) p q s = absurd (omega (arith, s.long))
alike (v ∷ vs) [] p q s = absurd (omega (arith, s.long))
alike (v ∷ vs) (w ∷ ws) p q s =
    let e = heads_tie v w vs ws s p.0 q.0 in
    rw (plain_same v w e, alike vs ws p.1 q.1 (same_tails v w vs ws s e)) refl

pub in_order_alike : (vs ws : List Entry) → IsSorted order vs → IsSorted order ws → IsPermutation vs ws → map plain_entry vs ≡ map plain_entry ws
in_order_alike vs ws up rise moved = alike vs ws (rising vs up) (rising ws rise) (same vs ws moved)

-- ---- what is printed of them

module _ (f : Entry → Entry) where
  map-reverse : (vs : List Entry) → reverse (map f vs) ≡ map f (reverse vs)
  map-reverse [] = refl
  map-reverse (v ∷ vs) = reverse-append (f v ∷ []) (map f vs) ∙ ap (λ (l : List Entry). l ++ f v ∷ []) (map-reverse vs)
      ∙ sym (ap (map f) (reverse-append (v ∷ []) vs) ∙ map-append f (reverse vs) (v ∷ []))

  picked_map : (pick : Pick) (vs : List Entry) → picked pick (map f vs) ≡ map f (picked pick vs)
  picked_map All vs = refl
  picked_map Greatest vs = ap (λ (l : List Entry). take 1 l) (map-reverse vs) ∙ take-map f 1 (reverse vs)
  picked_map Least vs = take-map f 1 vs

  ordered_map : (is_reversed : Bool) (vs : List Entry) → in_order is_reversed (map f vs) ≡ map f (in_order is_reversed vs)
  ordered_map true vs = map-reverse vs
  ordered_map false vs = refl

  pub shown_map : (as_written : Bool) → ((e : Entry) → shown as_written (f e) ≡ shown as_written e) → (vs : List Entry)
      → map (shown as_written) (map f vs) ≡ map (shown as_written) vs
  shown_map as_written same_shown [] = refl
  shown_map as_written same_shown (v ∷ vs) = rw (same_shown v, shown_map as_written same_shown vs) refl

  pub text_map : (q : Asked) → ((e : Entry) → shown q.as_written (f e) ≡ shown q.as_written e) → (vs : List Entry)
      → text_of q (map f vs) ≡ text_of q vs
  text_map q same_shown vs =
      let printed : in_order q.is_reversed (picked q.pick (map f vs)) ≡ map f (in_order q.is_reversed (picked q.pick vs)) =
      ap (λ (l : List Entry). in_order q.is_reversed l) (picked_map q.pick vs) ∙ ordered_map q.is_reversed (picked q.pick vs) in
      let texts : map (shown q.as_written) (in_order q.is_reversed (picked q.pick (map f vs)))
      ≡ map (shown q.as_written) (in_order q.is_reversed (picked q.pick vs)) =
      ap (λ (l : List Entry). map (shown q.as_written) l) printed
      ∙ shown_map q.as_written same_shown (in_order q.is_reversed (picked q.pick vs)) in
      ap (λ (l : List (List ℕ)). if q.is_json then json l else flat_map (ended q.ends_in_nul) l) texts

plain_shown : (as_written : Bool) (e : Entry) → shown as_written (plain_entry e) ≡ shown as_written e
plain_shown true e = refl
plain_shown false e = refl

pub same_text : (q : Asked) (vs ws : List Entry) → IsSorted order vs → IsSorted order ws → IsPermutation vs ws → text_of q vs ≡ text_of q ws
same_text q vs ws up rise moved =
    sym (text_map plain_entry q (plain_shown q.as_written) vs) ∙ ap (λ (l : List Entry). text_of q l) (in_order_alike vs ws up rise moved)
    ∙ text_map plain_entry q (plain_shown q.as_written) ws

pub same_emptiness : (vs ws : List Entry) → IsPermutation vs ws → is_empty vs ≡ is_empty ws
same_emptiness [] [] moved = refl
same_emptiness [] (w ∷ ws) moved = absurd (grind (arith, length_permutation [] (w ∷ ws) moved))
same_emptiness (v ∷ vs) [] moved = absurd (grind (arith, length_permutation (v ∷ vs) [] moved))
same_emptiness (v ∷ vs) (w ∷ ws) moved = refl
