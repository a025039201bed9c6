-- What is printed as lines, read again, prints the same.
use Rattle.npm_semver.{proofs.Ties.{not_itself, same_emptiness, shown_map, text_map, unbuilt, unbuilt_same}, specs.{Arguments.Asked, Laws.EachText}}
use Rattle.npm_semver.specs.{Listing.{AllSay, AreListed, Entry, IsGiven, IsListing, Says, order}, Readings.{IsVersionIn, SomeText, found, here, later}}
use Rattle.npm_semver.specs.{Readings.{IsVersionAs, not_found, strict}, Responses.{IsRefused, NoFieldNumber, Responds, UnknownOption, UnreadRange, Written, bare, ended, given, in_order, increment, json}}
use Rattle.npm_semver.specs.{Responses.{no_number, no_version, picked, printed_text, prints_as_given, records, refused, shown, text_of, unknown, unread, unshown, versions, without_empty_end}, declared.question.Pick.Pick}
use Rattle.{npm_semver.specs.declared.reading.ReadOptions.ReadOptions, npm_words.specs.VersionText.IsVersionText, semver_core.specs.Failures.NoValue}
use Rattle.semver_core.specs.{Lists.is_empty, Printing.Text.version_text, Text.Characters.{IsTrim, begins, is_identifier_char, is_whitespace}}
use Rattle.{semver_core.specs.{Values.{Order.precedence, Versions.VersionValue}, declared.TheConstants.MAX_SAFE_INTEGER}, std.proofs.Common.Bool}
use Rattle.std.proofs.Common.{IsUtf8, List, None, Some, [], ap, append-nil, arith, false, get_or, if◌then◌else◌, length, map, not, refl, reverse, suc}
use Rattle.std.proofs.{Common.{sym, take, true, zero, ℕ, ◌++◌, ◌+◌, ◌-◌, ◌<◌, ◌==◌, ◌||◌, ◌∙◌, ◌∷◌, ◌≡◌}, lemmas.Bool.{Decides.nat_tests, and_parts}}
use Rattle.std.proofs.lemmas.List.{Elements.{All-cons, All-nil, All-take, recursion_from_All}, Folds.list_all-append, Sorted.All-permutation}
use Rattle.std.proofs.lemmas.List.Sorted.{IsPermutation-map, IsPermutation-refl, IsPermutation-reverse, IsPermutation-sym}
use Rattle.std.proofs.lemmas.{Option.same_Some, List.{Splits.{length-slice_split, slice_split_at}, get_or-map, length-map, reverse-append}, Str.Ascii.encode_ascii}
use Rattle.std.specs.{Cmp.Lexicographic.{nat_list_cmp_total, slice_cmp}, List.{All, AllByRecursion, Sorted.{IsPermutation, IsSorted}, flat_map}}
use Rattle.std.specs.{List.{list_all, slice_split}, Ordering.{is_lt, nat_cmp, ordering_then}, Prelude.encode_utf8_all, Str.Lines.lines}
use Rattle.std.specs.{Str.Lines.{lines_of_parts, strip_carriage_return}, declared.cmp.Ordering.{Ordering, TheVariants.{Equal, Greater, Less}}}
use Rattle.npm_semver.specs.Laws as Each
use Rattle.npm_semver.specs.Listing as Listing
use Rattle.npm_semver.specs.declared.question.Pick.TheVariants as Picks

abbrev is_plain : ℕ → Bool
is_plain c = is_identifier_char c || (c == 46 || c == 43)

-- what a version that is read prints is read again
abbrev pub Reread : Type 0
Reread = (text : List ℕ) (v : VersionValue) → IsUtf8 text → IsVersionText MAX_SAFE_INTEGER text v
    → IsVersionText MAX_SAFE_INTEGER (bare v) (unbuilt v) × (list_all is_plain (bare v) ≡ true)

-- ---- lines

no_break : (text : List ℕ) → list_all is_plain text ≡ true → All (λ c. (c == 10) ≡ false) text
no_break [] h = All-nil (λ c. (c == 10) ≡ false)
no_break (c ∷ rest) h =
    let (one, others) = and_parts (is_plain c) (list_all is_plain rest) h in
    All-cons (λ c. (c == 10) ≡ false) c rest (grind (arith, nat_tests, one)) (no_break rest others)

no_return : (text : List ℕ) (k : ℕ) → list_all is_plain text ≡ true → (get_or text k 0 == 13) ≡ false
no_return [] k h = refl
no_return (c ∷ rest) zero h = let (one, others) = and_parts (is_plain c) (list_all is_plain rest) h in grind (arith, nat_tests, one)
no_return (c ∷ rest) (suc k) h = no_return rest k (and_parts (is_plain c) (list_all is_plain rest) h).1

unstripped : (text : List ℕ) → list_all is_plain text ≡ true → strip_carriage_return text ≡ text
unstripped text h = rw (no_return text (length text - 1) h) refl

part_more : (text : List ℕ) (parts : List (List ℕ)) → 0 < length parts → lines_of_parts (text ∷ parts) ≡ strip_carriage_return text ∷ lines_of_parts parts
part_more text [] some = absurd (omega (arith, some))
part_more text (part ∷ parts) some = refl

one_line : (text rest : List ℕ) → list_all is_plain text ≡ true → lines (text ++ 10 ∷ rest) ≡ text ∷ lines rest
one_line text rest h =
    ap lines_of_parts (slice_split_at (λ b. b == 10) text 10 rest (no_break text h) refl)
    ∙ part_more text (slice_split (λ b. b == 10) rest) (omega (arith, length-slice_split (λ b. b == 10) rest))
    ∙ ap (λ (t : List ℕ). t ∷ lines rest) (unstripped text h)

record_joined : (end : ℕ) (text rest : List ℕ) → (text ++ end ∷ []) ++ rest ≡ text ++ end ∷ rest
record_joined end [] rest = refl
record_joined end (c ∷ text) rest = ap (λ (t : List ℕ). c ∷ t) (record_joined end text rest)

all_lines : (texts : List (List ℕ)) → AllByRecursion (λ t. list_all is_plain t ≡ true) texts → lines (flat_map (ended false) texts) ≡ texts
all_lines [] h = refl
all_lines (t ∷ ts) h =
    ap lines (record_joined 10 t (flat_map (ended false) ts)) ∙ one_line t (flat_map (ended false) ts) h.0
    ∙ ap (λ (l : List (List ℕ)). t ∷ l) (all_lines ts h.1)

-- ---- records that a NUL byte ends

no_nul : (text : List ℕ) → list_all is_plain text ≡ true → All (λ c. (c == 0) ≡ false) text
no_nul [] h = All-nil (λ c. (c == 0) ≡ false)
no_nul (c ∷ rest) h =
    let (one, others) = and_parts (is_plain c) (list_all is_plain rest) h in
    All-cons (λ c. (c == 0) ≡ false) c rest (grind (arith, nat_tests, one)) (no_nul rest others)

record_more : (text : List ℕ) (parts : List (List ℕ)) → 0 < length parts → without_empty_end (text ∷ parts) ≡ text ∷ without_empty_end parts
record_more text [] some = absurd (omega (arith, some))
record_more text (part ∷ parts) some = refl

one_record : (text rest : List ℕ) → list_all is_plain text ≡ true → records true (text ++ 0 ∷ rest) ≡ text ∷ records true rest
one_record text rest h =
    ap without_empty_end (slice_split_at (λ b. b == 0) text 0 rest (no_nul text h) refl)
    ∙ record_more text (slice_split (λ b. b == 0) rest) (omega (arith, length-slice_split (λ b. b == 0) rest))

all_ended : (texts : List (List ℕ)) → AllByRecursion (λ t. list_all is_plain t ≡ true) texts → records true (flat_map (ended true) texts) ≡ texts
all_ended [] h = refl
all_ended (t ∷ ts) h =
    ap (records true) (record_joined 0 t (flat_map (ended true) ts)) ∙ one_record t (flat_map (ended true) ts) h.0
    ∙ ap (λ (l : List (List ℕ)). t ∷ l) (all_ended ts h.1)

all_records : (ends_in_nul : Bool) (texts : List (List ℕ)) → AllByRecursion (λ t. list_all is_plain t ≡ true) texts
    → records ends_in_nul (flat_map (ended ends_in_nul) texts) ≡ texts
all_records true texts h = all_ended texts h
all_records false texts h = all_lines texts h

-- ---- a text without whitespace is trimmed

plain_ascii : (c : ℕ) → is_plain c ≡ true → c < 128
plain_ascii c h = grind (arith, nat_tests, h)

plain_dark : (c : ℕ) → is_plain c ≡ true → is_whitespace c ≡ false
plain_dark c h = grind (arith, nat_tests)

encoded : (text : List ℕ) → list_all is_plain text ≡ true → encode_utf8_all text ≡ text
encoded [] h = refl
encoded (c ∷ rest) h =
    let (one, others) = and_parts (is_plain c) (list_all is_plain rest) h in
    ap (λ (t : List ℕ). t ++ encode_utf8_all rest) (encode_ascii c (plain_ascii c one)) ∙ ap (λ (t : List ℕ). c ∷ t) (encoded rest others)

begins_dark : (text : List ℕ) → list_all is_plain text ≡ true → begins is_whitespace text ≡ false
begins_dark [] h = refl
begins_dark (c ∷ rest) h = plain_dark c (and_parts (is_plain c) (list_all is_plain rest) h).0

both : (a b : List ℕ) → list_all is_plain a ≡ true → list_all is_plain b ≡ true → list_all is_plain (a ++ b) ≡ true
both a b h k = rw (list_all-append is_plain a b, h, k) refl

backwards : (text : List ℕ) → list_all is_plain text ≡ true → list_all is_plain (reverse text) ≡ true
backwards [] h = refl
backwards (c ∷ rest) h =
    let (one, others) = and_parts (is_plain c) (list_all is_plain rest) h in
    rw (reverse-append (c ∷ []) rest) (both (reverse rest) (c ∷ []) (backwards rest others) (rw one refl))

plain_trim : (text : List ℕ) → list_all is_plain text ≡ true → IsTrim text text
plain_trim text h = record {
  before = [];
  characters = text;
  after = [];
  divided = sym (encoded text h) ∙ ap encode_utf8_all (sym (append-nil text));
  middle_is = sym (encoded text h);
  blank_before = refl;
  blank_after = refl;
  begins_dark = begins_dark text h;
  ends_dark = begins_dark (reverse text) (backwards text h);
}

-- ---- versions that are accepted

unbuilt_says : (r : ReadOptions) (v : VersionValue) (text : List ℕ) (b : Bool) → Says r v text b → Says r (unbuilt v) text b
unbuilt_says r v text b (Listing.range _ alternatives has) = Listing.range text alternatives has
unbuilt_says r v text b (Listing.no_range _ none) = Listing.no_range text none

unbuilt_all : (r : ReadOptions) (v : VersionValue) (ranges : List (List ℕ)) (b : Bool) → AllSay r v ranges b → AllSay r (unbuilt v) ranges b
unbuilt_all r v ranges b Listing.none = Listing.none
unbuilt_all r v ranges b (Listing.more text texts c d is are) =
    Listing.more text texts c d (unbuilt_says r v text c is) (unbuilt_all r v texts d are)

-- what an entry is where it is read again as it prints
abbrev again_entry : Entry → Entry
again_entry e = record { version = unbuilt e.version; text = bare e.version }

module _ (reread : Reread) (r : ReadOptions) (ranges : List (List ℕ)) (plainly : r.is_coerced ≡ false) (wholly : r.field ≡ None) where
  -- the version is read and accepted as it prints
  abbrev Kept : Entry → Type 0
  Kept e = IsVersionText MAX_SAFE_INTEGER (bare e.version) (unbuilt e.version) × (list_all is_plain (bare e.version) ≡ true)
      × AllSay r (unbuilt e.version) ranges true

  part_kept : (text middle : List ℕ) (v : VersionValue) → IsUtf8 text → IsVersionAs r text v → AllSay r v ranges true
      → Kept (record { version = v; text = middle })
  part_kept text middle v u (strict p is) say = let (again, plain) = reread text v u is in (again, plain, unbuilt_all r v ranges true say)
  part_kept text middle v u (found p is) say = absurd (grind (arith, p, plainly))
  part_kept text middle v u (not_found p lacks is) say = absurd (grind (arith, p, plainly))

  kept : (text middle : List ℕ) (v : VersionValue) → IsUtf8 text → IsVersionIn r text v → AllSay r v ranges true
      → Kept (record { version = v; text = middle })
  kept text middle v u is say =
      let same : text ≡ is.part = same_Some text is.part (rw wholly at is.has) in
      part_kept text middle v u (rw (sym same) at is.is) say

  -- the text is the version as a whole
  whole : (text : List ℕ) (v : VersionValue) → IsVersionText MAX_SAFE_INTEGER text v → IsVersionIn r text v
  whole text v is = record { part = text; has = rw wholly refl; is = strict plainly is }

  whole_given : (text : List ℕ) → IsTrim text text → IsGiven r text text
  whole_given text trim = Listing.trimmed text (rw wholly refl) trim

  all_kept : (texts : List (List ℕ)) (es : List Entry) → EachText IsUtf8 texts → AreListed r ranges texts es → All Kept es
  all_kept [] es u Listing.none = All-nil Kept
  all_kept (t ∷ ts) es (Each.more _ _ first others) (Listing.no_version text rest ds lacks are) = all_kept ts ds others are
  all_kept (t ∷ ts) es (Each.more _ _ first others) (Listing.rejected text rest v ds is say are) = all_kept ts ds others are
  all_kept (t ∷ ts) es (Each.more _ _ first others) (Listing.accepted text middle rest v ds is say trim are) =
      All-cons Kept (record { version = v; text = middle }) ds (kept t middle v first is say) (all_kept ts ds others are)

  kept_plain : (es : List Entry) → AllByRecursion Kept es → AllByRecursion (λ t. list_all is_plain t ≡ true) (map (shown false) es)
  kept_plain [] h = tt
  kept_plain (e ∷ es) h = (h.0.1, kept_plain es h.1)

  listed_again : (es : List Entry) → AllByRecursion Kept es → AreListed r ranges (map (shown false) es) (map again_entry es)
  listed_again [] h = Listing.none
  listed_again (e ∷ es) h = Listing.accepted (bare e.version) (bare e.version) (map (shown false) es) (unbuilt e.version) (map again_entry es)
      (whole (bare e.version) (unbuilt e.version) h.0.0) h.0.2 (whole_given (bare e.version) (plain_trim (bare e.version) h.0.1)) (listed_again es h.1)

  none_lacks : (es : List Entry) → AllByRecursion Kept es → SomeText (λ text. NoValue (IsVersionIn r text)) (map (shown false) es) → ⊥
  none_lacks [] h some = elim some [ ]
  none_lacks (e ∷ es) h (here _ _ none) = none (unbuilt e.version) (whole (bare e.version) (unbuilt e.version) h.0.0)
  none_lacks (e ∷ es) h (later _ _ some) = none_lacks es h.1 some

-- ---- those that are picked, in order

picked_all : (P : Entry → Type 0) (pick : Pick) (es : List Entry) → All P es → All P (picked pick es)
picked_all P Picks.All es h = h
picked_all P Picks.Greatest es h = All-take P 1 (reverse es) (All-permutation P es (reverse es) (IsPermutation-reverse es) h)
picked_all P Picks.Least es h = All-take P 1 es h

-- versions that tie print alike
not_under : (v w : VersionValue) (o : Ordering) (t : Ordering) → o ≡ precedence v w → is_lt (ordering_then o t) ≡ false
    → is_lt (ordering_then o (slice_cmp nat_cmp (bare v) (bare w))) ≡ false
not_under v w Less t is e = e
not_under v w Equal t is e =
    let alike : bare v ≡ bare w = ap version_text (unbuilt_same v w (sym is)) in
    rw alike (not_itself (slice_cmp nat_cmp (bare w) (bare w)) (nat_list_cmp_total.antisymm (bare w) (bare w)))
not_under v w Greater t is e = refl

sorted_again : (es : List Entry) → IsSorted order es → IsSorted order (map again_entry es)
sorted_again es up = λ k d le lt.
    let long : length (map again_entry es) ≡ length es = length-map es again_entry in
    let one = get_or es (k + 1) d in
    let other = get_or es k d in
    rw (get_or-map again_entry es (k + 1) d d (omega (arith, long, lt)), get_or-map again_entry es k d d (omega (arith, long, lt)))
    (not_under one.version other.version (precedence one.version other.version) (slice_cmp nat_cmp one.text other.text) refl
    (up k d le (omega (arith, long, lt))))

one_sorted : (vs : List Entry) → IsSorted order (take 1 vs)
one_sorted [] = λ k d le lt. absurd (omega (arith, lt))
one_sorted (v ∷ vs) = λ k d le lt. absurd (omega (arith, lt))

picked_sorted : (pick : Pick) (vs : List Entry) → IsSorted order vs → IsSorted order (picked pick vs)
picked_sorted Picks.All vs up = up
picked_sorted Picks.Greatest vs up = one_sorted (reverse vs)
picked_sorted Picks.Least vs up = one_sorted vs

first_twice : (vs : List Entry) → take 1 (take 1 vs) ≡ take 1 vs
first_twice [] = refl
first_twice (v ∷ vs) = refl

last_twice : (vs : List Entry) → take 1 (reverse (take 1 vs)) ≡ take 1 vs
last_twice [] = refl
last_twice (v ∷ vs) = refl

picked_twice : (pick : Pick) (vs : List Entry) → picked pick (picked pick vs) ≡ picked pick vs
picked_twice Picks.All vs = refl
picked_twice Picks.Greatest vs = last_twice (reverse vs)
picked_twice Picks.Least vs = first_twice vs

first_empty : (vs : List Entry) → is_empty (take 1 vs) ≡ is_empty vs
first_empty [] = refl
first_empty (v ∷ vs) = refl

picked_empty : (pick : Pick) (vs : List Entry) → is_empty (picked pick vs) ≡ is_empty vs
picked_empty Picks.All vs = refl
picked_empty Picks.Greatest vs = first_empty (reverse vs) ∙ sym (same_emptiness vs (reverse vs) (IsPermutation-reverse vs))
picked_empty Picks.Least vs = first_empty vs

map_empty : (vs : List Entry) → is_empty (map again_entry vs) ≡ is_empty vs
map_empty [] = refl
map_empty (v ∷ vs) = refl

ordered : (is_reversed : Bool) (vs : List Entry) → IsPermutation (in_order is_reversed vs) vs
ordered true vs = IsPermutation-sym vs (reverse vs) (IsPermutation-reverse vs)
ordered false vs = IsPermutation-refl vs

-- ---- the answer again

abbrev written_in : Asked → List Entry → List ℕ
written_in q printed = if q.is_json then json (map (shown q.as_written) (in_order q.is_reversed printed))
    else flat_map (ended q.ends_in_nul) (map (shown q.as_written) (in_order q.is_reversed printed))

lines_asked : (q : Asked) (es : List Entry) → q.is_json ≡ false → q.as_written ≡ false
    → text_of q es ≡ flat_map (ended q.ends_in_nul) (map (shown false) (in_order q.is_reversed (picked q.pick es)))
lines_asked q es plain bare_asked = rw (plain, bare_asked) refl

shown_again : (as_written : Bool) → as_written ≡ false → (e : Entry) → shown as_written (again_entry e) ≡ shown as_written e
shown_again as_written bare_asked e = rw bare_asked refl

-- of texts that are versions the same is not refused
allowed_again : (q : Asked) (texts : List (List ℕ)) → NoValue (IsRefused q) → q.as_written ≡ false
    → (SomeText (λ text. NoValue (IsVersionIn q.reading text)) texts → ⊥) → NoValue (IsRefused (record q { versions = texts }))
allowed_again q texts can bare_asked are why (no_number e) = can NoFieldNumber (no_number e)
allowed_again q texts can bare_asked are why (unknown number e) = can UnknownOption (unknown number e)
allowed_again q texts can bare_asked are why (unread number known some) = can UnreadRange (unread number known some)
allowed_again q texts can bare_asked are why (no_version number known all lacks) = are lacks.1
allowed_again q texts can bare_asked are why (unshown number known all read some) = absurd (grind (arith, bare_asked, some.0))

again_of : Reread → (q : Asked) (es : List Entry) → NoValue (IsRefused q) → q.level ≡ None → prints_as_given q ≡ false → q.reading.is_coerced ≡ false → q.reading.field ≡ None → q.is_json ≡ false
    → q.as_written ≡ false → EachText IsUtf8 q.versions → IsListing q.reading q.ranges q.versions es
    → Responds (Some (record q { versions = records q.ends_in_nul (text_of q es) })) (record { output = text_of q es; refusal = None; is_success = not (is_empty es) })
again_of reread q es can level sorts plainly wholly as_lines bare_asked u listing =
    let chosen : List Entry = picked q.pick es in
    let printed : List Entry = in_order q.is_reversed chosen in
    let moved : IsPermutation printed chosen = ordered q.is_reversed chosen in
    let of_es = All-permutation (Kept reread q.reading q.ranges plainly wholly) listing.listed es listing.same
    (all_kept reread q.reading q.ranges plainly wholly q.versions listing.listed u listing.are) in
    let of_printed = recursion_from_All (Kept reread q.reading q.ranges plainly wholly) printed
    (All-permutation (Kept reread q.reading q.ranges plainly wholly) chosen printed (IsPermutation-sym printed chosen moved)
    (picked_all (Kept reread q.reading q.ranges plainly wholly) q.pick es of_es)) in
    let texts : records q.ends_in_nul (text_of q es) ≡ map (shown false) printed =
    ap (records q.ends_in_nul) (lines_asked q es as_lines bare_asked)
    ∙ all_records q.ends_in_nul (map (shown false) printed) (kept_plain reread q.reading q.ranges plainly wholly printed of_printed) in
    let allowed : NoValue (IsRefused (record q { versions = map (shown false) printed })) =
    allowed_again q (map (shown false) printed) can bare_asked (none_lacks reread q.reading q.ranges plainly wholly printed of_printed) in
    let output : text_of q (map again_entry chosen) ≡ text_of q es = text_map again_entry q (shown_again q.as_written bare_asked) chosen
    ∙ ap (λ (l : List Entry). written_in q l) (picked_twice q.pick es) in
    let filled : is_empty (map again_entry chosen) ≡ is_empty es = map_empty chosen ∙ picked_empty q.pick es in
    let found : Responds (Some (record q { versions = map (shown false) printed }))
    (record { output = text_of q (map again_entry chosen); refusal = None; is_success = not (is_empty (map again_entry chosen)) }) =
    versions (record q { versions = map (shown false) printed }) (map again_entry chosen) allowed level sorts (record {
      listed = map again_entry printed;
      are = listed_again reread q.reading q.ranges plainly wholly printed of_printed;
      same = IsPermutation-map again_entry printed chosen moved;
      sorted = sorted_again chosen (picked_sorted q.pick es listing.sorted);
    }) in
    rw (texts, ← output, ← filled) found

plain_lines : (q : Asked) (es : List Entry) → q.is_json ≡ false → q.as_written ≡ false → printed_text q es ≡ flat_map (ended q.ends_in_nul) (map (shown false) es)
plain_lines q es plain bare_asked = rw (plain, bare_asked) refl

-- the same where the order is kept
given_again : Reread → (q : Asked) (es : List Entry) → NoValue (IsRefused q) → q.level ≡ None → prints_as_given q ≡ true → q.reading.is_coerced ≡ false
    → q.reading.field ≡ None → q.is_json ≡ false → q.as_written ≡ false → EachText IsUtf8 q.versions → AreListed q.reading q.ranges q.versions es
    → Responds (Some (record q { versions = records q.ends_in_nul (printed_text q es) }))
    (record { output = printed_text q es; refusal = None; is_success = not (is_empty es) })
given_again reread q es can level keeps plainly wholly as_lines bare_asked u are =
    let of_es = recursion_from_All (Kept reread q.reading q.ranges plainly wholly) es (all_kept reread q.reading q.ranges plainly wholly q.versions es u are) in
    let texts : records q.ends_in_nul (printed_text q es) ≡ map (shown false) es = ap (records q.ends_in_nul) (plain_lines q es as_lines bare_asked)
    ∙ all_records q.ends_in_nul (map (shown false) es) (kept_plain reread q.reading q.ranges plainly wholly es of_es) in
    let allowed : NoValue (IsRefused (record q { versions = map (shown false) es })) =
    allowed_again q (map (shown false) es) can bare_asked (none_lacks reread q.reading q.ranges plainly wholly es of_es) in
    let output : printed_text q (map again_entry es) ≡ printed_text q es = ap (λ (l : List (List ℕ)). if q.is_json then json l else flat_map (ended q.ends_in_nul) l)
    (shown_map again_entry q.as_written (shown_again q.as_written bare_asked) es) in
    let filled : is_empty (map again_entry es) ≡ is_empty es = map_empty es in
    let found : Responds (Some (record q { versions = map (shown false) es }))
    (record { output = printed_text q (map again_entry es); refusal = None; is_success = not (is_empty (map again_entry es)) }) =
    given (record q { versions = map (shown false) es }) (map again_entry es) allowed level keeps
    (listed_again reread q.reading q.ranges plainly wholly es of_es) in
    rw (texts, ← output, ← filled) found

pub responds_again : Reread → (q : Asked) (written : Written) → EachText IsUtf8 q.versions → Responds (Some q) written → q.level ≡ None
    → q.reading.is_coerced ≡ false → q.reading.field ≡ None → q.is_json ≡ false → q.as_written ≡ false → written.refusal ≡ None
    → Responds (Some (record q { versions = records q.ends_in_nul written.output })) written
responds_again reread q written u (refused _ why is) level plainly wholly as_lines bare_asked untold = absurd (cc)
responds_again reread q written u (versions _ es can none_is sorts listing) level plainly wholly as_lines bare_asked untold =
    again_of reread q es can level sorts plainly wholly as_lines bare_asked u listing
responds_again reread q written u (given _ es can none_is keeps are) level plainly wholly as_lines bare_asked untold =
    given_again reread q es can level keeps plainly wholly as_lines bare_asked u are
responds_again reread q written u (increment _ word es can has are) level plainly wholly as_lines bare_asked untold = absurd (grind (arith, level, has))
