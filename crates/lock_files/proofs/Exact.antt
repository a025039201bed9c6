-- A text is one thing.
use Rattle.std.proofs.Common.{◌+◌, ◌≡◌, ◌≢◌, ◌==◌, ◌⊎◌, ◌∷◌, ◌++◌, ◌∙◌, [], Bool, List, None, Option, Some, ℕ}
use Rattle.std.proofs.Common.{ap, arith, codes, cond, drop, false, inl, inr, length, not, refl, subst, suc, sym, true, true≢false}
use Rattle.std.proofs.lemmas.Bool.{and_parts, eqb-true, false_from_ne_true, or_cases}
use Rattle.std.proofs.lemmas.List.{append-nil, length-map}
use Rattle.std.specs.Borrow.{Bor}
use Rattle.std.specs.Char.{is_ascii_alphabetic, to_ascii_lowercase}
use Rattle.std.specs.List.{before_first, list_all, prefix_len, starts_with}
use Rattle.std.specs.Prelude.{◌||◌, ◌&&◌, option_map, slice_index, take}
use Rattle.lock_files.proofs.Addresses.{one_piece}
use Rattle.lock_files.proofs.Npm.{filled-npm, one_npm}
use Rattle.lock_files.proofs.Parts.{aliased-lacks, bare-no-sign, has-middle, one_cut}
use Rattle.lock_files.specs.Specifiers.{IsAliasOf, IsAliased, IsAsked, IsAtAddress, IsAtPath, IsNpm, IsPathOf, IsPlace, IsRangeNamed}
use Rattle.lock_files.specs.Specifiers.{IsReadScheme, IsSameAs, IsSameWord, IsSpecifier, IsWeb, IsWithoutScheme, begins_path, behind_git, has}
use Rattle.lock_files.specs.Specifiers.{is_address, is_colon, is_git, is_of_registry, is_packed, is_plain, is_word, scheme_of}
use Rattle.lock_files.specs.Specifiers.{target_of, with_sign}
use Rattle.lock_files.specs.Specifiers.IsAliasOf.{alone, any, ranged}
use Rattle.lock_files.specs.Specifiers.IsAsked.{alias, empty, plain}
use Rattle.lock_files.specs.Specifiers.IsPathOf.{drive, file, front}
use Rattle.lock_files.specs.Specifiers.IsPlace.{by_path, by_scheme, without}
use Rattle.lock_files.specs.Specifiers.IsSpecifier.{asked, no_alias, place}
use Rattle.lock_files.specs.declared.specifier.Specifier.{Specifier}
use Rattle.lock_files.specs.declared.specifier.Specifier.TheVariants.{Folder, Packed, Page, Range, Repository, Unsupported}

-- ---- an alias

-- one name and one text behind an `@`
one_alias-cut : (scoped other : Bool) (n m x y : List ℕ) → IsAliased scoped n → IsAliased other m
    → with_sign scoped n ++ 64 ∷ x ≡ with_sign other m ++ 64 ∷ y → x ≡ y
one_alias-cut true true n m x y is also e =
    (one_cut 64 n x m y (aliased-lacks true n is) (aliased-lacks true m also) (ap (drop 1) e)).1
one_alias-cut false false n m x y is also e = (one_cut 64 n x m y (aliased-lacks false n is) (aliased-lacks false m also) e).1
one_alias-cut true false n m x y is also e = absurd (bare-no-sign m (n ++ 64 ∷ x) (64 ∷ y) also.0 (sym e))
one_alias-cut false true n m x y is also e = absurd (bare-no-sign n (m ++ 64 ∷ y) (64 ∷ x) is.0 e)

-- a name alone has nothing behind an `@`
no_alias-cut : (scoped other : Bool) (n m x : List ℕ) → IsAliased scoped n → IsAliased other m
    → with_sign scoped n ++ 64 ∷ x ≢ with_sign other m
no_alias-cut true true n m x is also e =
    let some = has-middle 64 m n x (sym (ap (drop 1) e)) in let none = aliased-lacks true m also in absurd (cc)
no_alias-cut false false n m x is also e =
    let some = has-middle 64 m n x (sym e) in let none = aliased-lacks false m also in absurd (cc)
no_alias-cut true false n m x is also e =
    bare-no-sign m (n ++ 64 ∷ x) [] also.0 (append-nil m ∙ sym e)
no_alias-cut false true n m x is also e = bare-no-sign n m (64 ∷ x) is.0 e

has-sign : (scoped : Bool) (target n x : List ℕ) → target ≡ with_sign scoped n ++ 64 ∷ x → has 64 target ≡ true
has-sign scoped target n x e = has-middle 64 target (with_sign scoped n) x e

-- a name alone is a name, or has an `@`
no_alone : (scoped : Bool) (target n : List ℕ) → IsAliased scoped n → target ≡ with_sign scoped n
    → has 64 target ≡ false → ¬ (¬ (IsAliased false target))
no_alone true target n is e none never = let some = has-middle 64 target [] n e in absurd (cc)
no_alone false target n is e none never = never (subst (IsAliased false) (sym e) is)

one_alias : (target a b : List ℕ) → IsAliasOf target a → IsAliasOf target b → a ≡ b
one_alias target a b (ranged s n is e some asks) (ranged t m also f more same) =
    one_alias-cut s t n m a b is also (sym e ∙ f)
one_alias target a b (ranged s n is e some asks) (any t m also (inl f) star) =
    absurd (no_alias-cut s t n m a is also (sym e ∙ f))
one_alias target a b (ranged s n is e some asks) (any t m also (inr f) star) =
    absurd (some (one_alias-cut s t n m a [] is also (sym e ∙ f)))
one_alias target a b (ranged s n is e some asked') (alone none never asks same) =
    absurd (true≢false (sym (has-sign s target n a e) ∙ none))
one_alias target a b (any s n is (inl e) star) (ranged t m also f more asks) =
    absurd (no_alias-cut t s m n b also is (sym f ∙ e))
one_alias target a b (any s n is (inr e) star) (ranged t m also f more asks) =
    absurd (more (one_alias-cut t s m n b [] also is (sym f ∙ e)))
one_alias target a b (any s n is e star) (any t m also f same) = star ∙ sym same
one_alias target a b (any s n is (inl e) star) (alone none never asks same) =
    absurd (no_alone s target n is e none never)
one_alias target a b (any s n is (inr e) star) (alone none never asks same) =
    absurd (true≢false (sym (has-sign s target n [] e) ∙ none))
one_alias target a b (alone none never asked' same) (ranged t m also f more asks) =
    absurd (true≢false (sym (has-sign t target m b f) ∙ none))
one_alias target a b (alone none never asks same) (any t m also (inl f) star) =
    absurd (no_alone t target m also f none never)
one_alias target a b (alone none never asks same) (any t m also (inr f) star) =
    absurd (true≢false (sym (has-sign t target m [] f) ∙ none))
one_alias target a b (alone none never asks same) (alone also other more same') = same ∙ sym same'

-- ---- what is asked of a registry

-- a text with `npm:` in front is not asked as it is
no_plain : (text target : List ℕ) → IsNpm text target → is_of_registry text ≡ true → ⊥
no_plain text target npm is =
    let some = has-middle 58 text npm.0 target npm.1 in
    let unpacked = (and_parts (is_plain text && not (slice_index text 0 == 46)) (not (is_packed text)) is).0 in
    let bare = (and_parts (is_plain text) (not (slice_index text 0 == 46)) unpacked).0 in
    let none = (and_parts (not (has 47 text)) (not (has 58 text)) bare).1 in
    true≢false (sym none ∙ ap not some)

one_asked : (text a b : List ℕ) → IsAsked text a → IsAsked text b → a ≡ b
one_asked text a b (plain is some same) (plain also more other) = same ∙ sym other
one_asked text a b (plain is some same) (empty none star) = absurd (some none)
one_asked text a b (plain is some same) (alias target npm of) = absurd (no_plain text target npm is)
one_asked text a b (empty none star) (plain is some same) = absurd (some none)
one_asked text a b (empty none star) (empty also same) = star ∙ sym same
one_asked text a b (empty none star) (alias target npm of) = absurd (filled-npm text target npm none)
one_asked text a b (alias target npm of) (plain is some same) = absurd (no_plain text target npm is)
one_asked text a b (alias target npm of) (empty none star) = absurd (filled-npm text target npm none)
one_asked text a b (alias target npm of) (alias other npm' also) =
    one_alias target a b of (subst (λ t. IsAliasOf t b) (one_npm text other target npm' npm) also)

-- ---- a path

-- an address without `git+` begins with a letter
letter : (text : List ℕ) → is_word (before_first is_colon text) ≡ true → is_ascii_alphabetic (slice_index text 0) ≡ true
letter [] is = absurd (cc)
letter (b ∷ bs) is = by_test (b == 58) refl is
  where
    by_test : (e : Bool) → (b == 58) ≡ e → is_word (take (cond (not e) (1 + prefix_len (λ c. not (is_colon c)) bs) 0) (b ∷ bs)) ≡ true
        → is_ascii_alphabetic b ≡ true
    by_test true same word = absurd (cc)
    by_test false same word =
        let n = prefix_len (λ c. not (is_colon c)) bs in
        let more : 1 + n ≡ suc n = omega arith in
        let long = subst (λ k. is_word (take k (b ∷ bs)) ≡ true) more word in
        let all = (and_parts (not (length (b ∷ take n bs) == 0)) (list_all is_ascii_alphabetic (b ∷ take n bs)) long).1 in
        (and_parts (is_ascii_alphabetic b) (list_all is_ascii_alphabetic (take n bs)) all).0

first-letter : (text : List ℕ) → is_address text ≡ true → is_git text ≡ false → is_ascii_alphabetic (slice_index text 0) ≡ true
first-letter text is ungit =
    let same : behind_git text ≡ text = rw ungit refl in
    letter text (subst (λ t. is_word (before_first is_colon t) ≡ true) same (and_parts (has 58 (behind_git text)) (is_word (scheme_of text)) is).1)

-- so it does not begin as a path does
no_front : (text : List ℕ) → is_address text ≡ true → is_git text ≡ false → begins_path text ≡ false
no_front text is ungit = false_from_ne_true (begins_path text) (λ begins.
    by_front text (first-letter text is ungit) (or_cases (slice_index text 0 == 46)
    (slice_index text 0 == 47 || starts_with (λ a b. a == b) text (codes "~/")) begins))
  where
    never : (b : ℕ) (c : ℕ) → is_ascii_alphabetic b ≡ true → is_ascii_alphabetic c ≡ false → b ≢ c
    never b c some none same = true≢false (sym some ∙ ap is_ascii_alphabetic same ∙ none)

    home : (t : List ℕ) → is_ascii_alphabetic (slice_index t 0) ≡ true → starts_with (λ a b. a == b) t (codes "~/") ≡ true → ⊥
    home [] some begins = absurd (cc)
    home (b ∷ bs) some begins =
        never b 126 some refl
        (sym (eqb-true 126 b (and_parts (126 == b) _ begins).0))

    by_front : (t : List ℕ) → is_ascii_alphabetic (slice_index t 0) ≡ true
        → ((slice_index t 0 == 46) ≡ true)
        ⊎ ((slice_index t 0 == 47 || starts_with (λ a b. a == b) t (codes "~/")) ≡ true) → ⊥
    by_front t some (inl dot) = never (slice_index t 0) 46 some refl (eqb-true (slice_index t 0) 46 dot)
    by_front t some (inr more) = elim (or_cases (slice_index t 0 == 47) (starts_with (λ a b. a == b) t (codes "~/")) more) [
      | inl slash ↦ never (slice_index t 0) 47 some refl (eqb-true (slice_index t 0) 47 slash)
      | inr tilde ↦ home t some tilde
    ]

-- `file` is no drive
no_drive : (scheme : List ℕ) → length scheme ≡ 1 → ¬ (IsSameWord scheme (codes "file"))
no_drive scheme one same = absurd (omega (arith, one, ap length same, length-map scheme to_ascii_lowercase))

one_path : (text p q : List ℕ) → IsPathOf text p → IsPathOf text q → p ≡ q
one_path text p q (front is same) (front also other) = same ∙ sym other
one_path text p q (front is same) (drive also ungit one other) = same ∙ sym other
one_path text p q (front is same) (file also ungit word other) =
    absurd (true≢false (sym is ∙ no_front text also ungit))
one_path text p q (drive is ungit one same) (front also other) = same ∙ sym other
one_path text p q (drive is ungit one same) (drive also unmarked two other) = same ∙ sym other
one_path text p q (drive is ungit one same) (file also unmarked word other) = absurd (no_drive (scheme_of text) one word)
one_path text p q (file is ungit word same) (front also other) =
    absurd (true≢false (sym also ∙ no_front text is ungit))
one_path text p q (file is ungit word same) (drive also unmarked one other) = absurd (no_drive (scheme_of text) one word)
one_path text p q (file is ungit word same) (file also unmarked other-word other) = same ∙ sym other

one_at : (p q : List ℕ) (s t : Specifier) → p ≡ q → IsAtPath p s → IsAtPath q t → IsSameAs s t
one_at p q (Folder a) (Folder b) same is also = is.0 ∙ same ∙ sym also.0
one_at p q (Folder a) (Packed b) same is also = true≢false (sym also.1 ∙ ap is_packed (sym same) ∙ is.1)
one_at p q (Packed a) (Folder b) same is also = true≢false (sym is.1 ∙ ap is_packed same ∙ also.1)
one_at p q (Packed a) (Packed b) same is also = is.0 ∙ same ∙ sym also.0
one_at p q (Range a) t same is also = absurd is
one_at p q (Page a) t same is also = absurd is
one_at p q (Repository a) t same is also = absurd is
one_at p q Unsupported t same is also = absurd is
one_at p q (Folder a) (Range b) same is also = absurd also
one_at p q (Folder a) (Page b) same is also = absurd also
one_at p q (Folder a) (Repository b) same is also = absurd also
one_at p q (Folder a) Unsupported same is also = absurd also
one_at p q (Packed a) (Range b) same is also = absurd also
one_at p q (Packed a) (Page b) same is also = absurd also
one_at p q (Packed a) (Repository b) same is also = absurd also
one_at p q (Packed a) Unsupported same is also = absurd also

-- ---- an address

one_range : (text : List ℕ) (a b : Option (List ℕ)) → IsRangeNamed text a → IsRangeNamed text b → a ≡ b
one_range text None None never none = refl
one_range text None (Some range) never is = absurd (never range is)
one_range text (Some range) None is never = absurd (never range is)
one_range text (Some a) (Some b) is also = ap (λ r. Some r) (one_piece (codes "#semver:") text is.0 a also.0 b is.1 also.1).1

web-read : (is_git : Bool) (scheme : List ℕ) → is_git ≡ false → IsWeb scheme → IsReadScheme is_git scheme
web-read true scheme off web = absurd (cc)
web-read false scheme off (inl is) = (5, codes "http", omega arith, refl, is)
web-read false scheme off (inr is) = (6, codes "https", omega arith, refl, is)

one_address : (text scheme target : List ℕ) (is_git : Bool) (s t : Specifier) → IsAtAddress text is_git scheme target s
    → IsAtAddress text is_git scheme target t → IsSameAs s t
one_address text scheme target g (Page a) (Page b) is also = is.0 ∙ sym also.0
one_address text scheme target g (Page a) (Repository b) is also = also.1 is.1
one_address text scheme target g (Page a) Unsupported is also = also (web-read g scheme is.1.0 is.1.1)
one_address text scheme target g (Repository a) (Page b) is also = is.1 also.1
one_address text scheme target g (Repository a) (Repository b) is also =
    one_range text (option_map (λ t. t.now) a) (option_map (λ t. t.now) b) is.2 also.2
one_address text scheme target g (Repository a) Unsupported is also = also is.0
one_address text scheme target g Unsupported (Page b) is also = is (web-read g scheme also.1.0 also.1.1)
one_address text scheme target g Unsupported (Repository b) is also = is also.0
one_address text scheme target g Unsupported Unsupported is also = tt
one_address text scheme target g (Range a) t is also = absurd is
one_address text scheme target g (Folder a) t is also = absurd is
one_address text scheme target g (Packed a) t is also = absurd is
one_address text scheme target g (Page a) (Range b) is also = absurd also
one_address text scheme target g (Page a) (Folder b) is also = absurd also
one_address text scheme target g (Page a) (Packed b) is also = absurd also
one_address text scheme target g (Repository a) (Range b) is also = absurd also
one_address text scheme target g (Repository a) (Folder b) is also = absurd also
one_address text scheme target g (Repository a) (Packed b) is also = absurd also
one_address text scheme target g Unsupported (Range b) is also = absurd also
one_address text scheme target g Unsupported (Folder b) is also = absurd also
one_address text scheme target g Unsupported (Packed b) is also = absurd also

-- ---- a text without a scheme

one_without : (text : List ℕ) (s t : Specifier) → IsWithoutScheme text s → IsWithoutScheme text t → IsSameAs s t
one_without text (Repository a) (Repository b) is also =
    one_range text (option_map (λ t. t.now) a) (option_map (λ t. t.now) b) is.1 also.1
one_without text (Repository a) (Range b) is also = also.0 is.0
one_without text (Repository a) (Folder b) is also = also.0 is.0
one_without text (Repository a) (Packed b) is also = also.0 is.0
one_without text (Repository a) (Page b) is also = also.0 is.0
one_without text (Repository a) Unsupported is also = also.0 is.0
one_without text (Range a) (Repository b) is also = is.0 also.0
one_without text (Range a) (Range b) is also = is.2 ∙ sym also.2
one_without text (Range a) (Folder b) is also = true≢false (sym also.1 ∙ is.1)
one_without text (Range a) (Packed b) is also = true≢false (sym also.1 ∙ is.1)
one_without text (Range a) (Page b) is also = true≢false (sym also.1 ∙ is.1)
one_without text (Range a) Unsupported is also = true≢false (sym also.1 ∙ is.1)
one_without text (Folder a) (Repository b) is also = is.0 also.0
one_without text (Folder a) (Range b) is also = true≢false (sym is.1 ∙ also.1)
one_without text (Folder a) (Folder b) is also = one_at text text (Folder a) (Folder b) refl is.2 also.2
one_without text (Folder a) (Packed b) is also = one_at text text (Folder a) (Packed b) refl is.2 also.2
one_without text (Folder a) (Page b) is also = absurd also.2
one_without text (Folder a) Unsupported is also = absurd also.2
one_without text (Packed a) (Repository b) is also = is.0 also.0
one_without text (Packed a) (Range b) is also = true≢false (sym is.1 ∙ also.1)
one_without text (Packed a) (Folder b) is also = one_at text text (Packed a) (Folder b) refl is.2 also.2
one_without text (Packed a) (Packed b) is also = one_at text text (Packed a) (Packed b) refl is.2 also.2
one_without text (Packed a) (Page b) is also = absurd also.2
one_without text (Packed a) Unsupported is also = absurd also.2
one_without text (Page a) t is also = absurd is.2
one_without text Unsupported t is also = absurd is.2

-- ---- each text

one_place : (text : List ℕ) (s t : Specifier) → IsPlace text s → IsPlace text t → IsSameAs s t
one_place text s t (by_path p is at) (by_path q also there) = one_at p q s t (one_path text p q is also) at there
one_place text s t (by_path p is at) (by_scheme none also there) = absurd (none p is)
one_place text s t (by_path p is at) (without none also there) = absurd (none p is)
one_place text s t (by_scheme none is at) (by_path q also there) = absurd (none q also)
one_place text s t (by_scheme none is at) (by_scheme never also there) =
    one_address text (scheme_of text) (target_of text) (is_git text) s t at there
one_place text s t (by_scheme none is at) (without never also there) = absurd (true≢false (sym is ∙ also))
one_place text s t (without none is at) (by_path q also there) = absurd (none q also)
one_place text s t (without none is at) (by_scheme never also there) = absurd (true≢false (sym also ∙ is))
one_place text s t (without none is at) (without never also there) = one_without text s t at there

same-range : (s t : Specifier) (a b : Bor (List ℕ)) → s ≡ Range a → t ≡ Range b → a.now ≡ b.now → IsSameAs s t
same-range s t a b is also same =
    subst (λ x. IsSameAs x t) (sym is) (subst (λ y. IsSameAs (Range a) y) (sym also) same)

-- a text is one specifier
pub one_specifier : (text : List ℕ) (s t : Specifier) → IsSpecifier text s → IsSpecifier text t → IsSameAs s t
one_specifier text s t (asked a is same) (asked b also other) =
    same-range s t a b same other (one_asked text a.now b.now is also)
one_specifier text s t (asked a is same) (no_alias target npm never other) = absurd (never a.now is)
one_specifier text s t (asked a is same) (place none never there) = absurd (never a.now is)
one_specifier text s t (no_alias target npm never same) (asked b also other) = absurd (never b.now also)
one_specifier text s t (no_alias target npm never same) (no_alias target' npm' never' other) =
    subst (λ x. IsSameAs x t) (sym same) (subst (λ y. IsSameAs Unsupported y) (sym other) tt)
one_specifier text s t (no_alias target npm never same) (place none never' there) = absurd (none target npm)
one_specifier text s t (place none never at) (asked b also other) = absurd (never b.now also)
one_specifier text s t (place none never at) (no_alias target npm never' other) = absurd (none target npm)
one_specifier text s t (place none never at) (place none' never' there) = one_place text s t at there
