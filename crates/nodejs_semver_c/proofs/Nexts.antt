-- The next version of one that is kept, by an identifier that its own text spells: what is told of it leads back to it.
use Rattle.std.proofs.Common.{◌≡◌, ◌∷◌, ◌++◌, ◌&&◌, ◌||◌, ◌-◌, ◌^◌, ◌==◌, ◌∙◌, ◌+◌, ◌<◌, ℕ, Bool, List, [], Option, Result, None, Ok, Err, Some, ap, arith, false, inl, length, refl, sym, true, true≢false}
use Rattle.std.proofs.lemmas.Bool.{cond_both}
use Rattle.std.proofs.lemmas.Slice.Eq.{bytes_eq-Decides}
use Rattle.std.proofs.lemmas.Str.{IsUtf8-append, IsUtf8-from_ascii, IsUtf8-nil}
use Rattle.std.proofs.lemmas.Str.Ascii.{IsAscii-cons, IsAscii-nil}
use Rattle.std.proofs.lemmas.List.Folds.{list_all-append}
use Rattle.std.specs.List.{join_with_byte, list_all, starts_with}
use Rattle.std.specs.Prelude.{if◌then◌else◌, ⊤, IfOk, IsUtf8, codes, is_some, map, nat_eq, not}
use Rattle.std.specs.Str.{bytes_eq}
use Rattle.nodejs_semver.proofs.Common.{and_parts, nat_tests}
use Rattle.semver_core.specs.Increments.Table.{◌>>=◌, Fault, advance, answer_of_inc, by_word, checked, first_number, has_numeric}
use Rattle.semver_core.specs.Increments.Table.{identify, is_false, is_kept, next_major, next_minor, next_patch, one_more, pre_step}
use Rattle.semver_core.specs.Increments.Table.{raise_last, release_of}
use Rattle.semver_core.specs.Lists.{is_empty}
use Rattle.semver_core.specs.Printing.RoundTrip.{is_normal}
use Rattle.semver_core.specs.Printing.Text.{id_text}
use Rattle.semver_core.proofs.Text.Ends.{nothing_spelled}
use Rattle.semver_core.specs.Text.Characters.{is_identifier_char}
use Rattle.semver_core.specs.Text.Identifiers.{Id, Numeric, AlphaNumeric, listed}
use Rattle.semver_core.specs.Values.Versions.{VersionValue, is_release}
use Rattle.semver_core.specs.declared.increment.IdentifierBase.{IdentifierBase}
use Rattle.semver_core.specs.declared.increment.IdentifierBase.TheVariants.{False, Value}
use Rattle.nodejs_semver_c.proofs.Keeping.{list_kept}
use Rattle.nodejs_semver_c.proofs.Ranging.{listed_normal}
use Rattle.nodejs_semver_c.proofs.Reading.{no_text}
use Rattle.nodejs_semver_c.specs.Internal.Common.{IsNextRelease}
use Rattle.nodejs_semver_c.specs.Kept.{ComesBack, IsKept, PutsVersion, kept_value}
use Rattle.nodejs_semver_c.specs.KeptNext.{TellsByBase, is_single}
use Rattle.nodejs_semver_c.specs.declared.kept.Parts.{Parts}
use Rattle.nodejs_semver_c.specs.declared.kept.Version.{Version}

-- a step, and then another
ok_then : {A B : Type 0} (P : A → Type 0) (Q : B → Type 0) (r : Result A Fault) (f : A → Result B Fault) → IfOk r P
    → ((x : A) → P x → IfOk (f x) Q) → IfOk (r >>= f) Q
ok_then P Q (Ok x) f h more = more x h
ok_then P Q (Err fault) f h more = tt

any_ok : {A : Type 0} (r : Result A Fault) → IfOk r (λ x. ⊤)
any_ok (Ok x) = tt
any_ok (Err fault) = tt

ok_more : {A : Type 0} (P Q : A → Type 0) (r : Result A Fault) → IfOk r P → ((x : A) → P x → Q x) → IfOk r Q
ok_more P Q (Ok x) h more = more x h
ok_more P Q (Err fault) h more = tt

-- ---- lists of identifiers that their own texts spell

abbrev Normal : List Id → Type 0
Normal ids = list_all is_normal ids ≡ true

abbrev IsNumber : ℕ → Type 0
IsNumber n = is_normal (Numeric n) ≡ true

one_more_fits : (n : ℕ) → IsNumber n → IfOk (one_more n) IsNumber
one_more_fits n h = cond_both (n == 2 ^ 64 - 1) _ _ (λ r. IfOk r IsNumber) (λ e. tt) (λ e. grind (arith, nat_tests, e, h))

first_fits : (base : IdentifierBase) → IsNumber (first_number base)
first_fits False = refl
first_fits (Value n) = cond_both (n == 0) 0 1 IsNumber (λ e. refl) (λ e. refl)

raised_normal : (list : List Id) → Normal list → IfOk (raise_last list) Normal
raised_normal [] h = refl
raised_normal (AlphaNumeric text ∷ rest) h =
    let both = and_parts (is_normal (AlphaNumeric text)) (list_all is_normal rest) h in
    ok_then Normal Normal (raise_last rest) (λ list. Ok (AlphaNumeric text ∷ list)) (raised_normal rest both.1) (λ list k. rw (both.0, k) refl)
raised_normal (Numeric n ∷ rest) h =
    let both = and_parts (is_normal (Numeric n)) (list_all is_normal rest) h in
    cond_both (has_numeric rest) _ _ (λ r. IfOk r Normal)
    (λ e. ok_then Normal Normal (raise_last rest) (λ list. Ok (Numeric n ∷ list)) (raised_normal rest both.1) (λ list k. rw (both.0, k) refl))
    (λ e. ok_then IsNumber Normal (one_more n) (λ more. Ok (Numeric more ∷ rest)) (one_more_fits n both.0) (λ more k. rw (k, both.1) refl))

behind : (ids : List Id) (base : IdentifierBase) → Normal ids → Normal (ids ++ Numeric (first_number base) ∷ [])
behind ids base h = list_all-append is_normal ids (Numeric (first_number base) ∷ []) ∙ rw (h, first_fits base) refl

advanced_normal : (list : List Id) (id : List ℕ) (base : IdentifierBase) → Normal list → IfOk (advance list id base) Normal
advanced_normal [] id base h = rw (first_fits base) refl
advanced_normal (x ∷ xs) id base h = cond_both (has_numeric (x ∷ xs)) _ _ (λ r. IfOk r Normal) (λ e. raised_normal (x ∷ xs) h)
    (λ e. cond_both (is_false base && bytes_eq id (join_with_byte 46 (map id_text (x ∷ xs)))) _ _ (λ r. IfOk r Normal)
    (λ e. tt) (λ e. behind (x ∷ xs) base h))

-- an identifier that is not none is one
other_so : (a b c : Bool) → (a || b) ≡ true → (a || c) ≡ false → b ≡ true
other_so true b c h k = absurd (true≢false k)
other_so false b c h k = h

identified_normal : (id : List ℕ) (base : IdentifierBase) (list : List Id) → is_single id ≡ true → Normal list → Normal (identify id base list)
identified_normal id False list single h = cond_both (is_empty id || is_kept id list) _ _ Normal (λ e. h)
    (λ e. rw (other_so (is_empty id) (is_normal (AlphaNumeric id)) (is_kept id list) single e) refl)
identified_normal id (Value n) list single h = cond_both (is_empty id || is_kept id list) _ _ Normal (λ e. h)
    (λ e. rw (other_so (is_empty id) (is_normal (AlphaNumeric id)) (is_kept id list) single e, first_fits (Value n)) refl)

-- ---- versions of such lists

abbrev NormalVersion : VersionValue → Type 0
NormalVersion v = Normal v.pre_release × Normal v.build

abbrev Fine : Result VersionValue Fault → Type 0
Fine r = IfOk r NormalVersion

-- a number rises, and there is no pre-release
raises : (n : ℕ) (f : ℕ → VersionValue) → ((m : ℕ) → NormalVersion (f m)) → Fine (one_more n >>= λ more. Ok (f more))
raises n f all = ok_then (λ m. ⊤) NormalVersion (one_more n) (λ more. Ok (f more)) (any_ok (one_more n)) (λ m t. all m)

module _ (id : List ℕ) (base : IdentifierBase) (single : is_single id ≡ true) where
  step_fine : (v : VersionValue) → NormalVersion v → Fine (pre_step id base v)
  step_fine v h =
      ok_then Normal NormalVersion (advance v.pre_release id base) (λ list. Ok (record v { pre_release = identify id base list }))
      (advanced_normal v.pre_release id base h.0) (λ list k. (identified_normal id base list single k, h.1))

  word_fine : (word : List ℕ) (v : VersionValue) → NormalVersion v → Fine (by_word word id base v)
  word_fine word v h =
      let major : Fine (next_major v) = raises v.major (λ n. record v { major = n; minor = 0; patch = 0; pre_release = [] }) (λ n. (refl, h.1)) in
      let minor : Fine (next_minor v) = raises v.minor (λ n. record v { minor = n; patch = 0; pre_release = [] }) (λ n. (refl, h.1)) in
      let patch : Fine (next_patch v) = raises v.patch (λ n. record v { patch = n; pre_release = [] }) (λ n. (refl, h.1)) in
      let release : Fine (Ok (release_of v)) = (refl, h.1) in
      cond_both (bytes_eq word (codes "major")) _ _ Fine
      (λ e. cond_both (v.minor == 0 && (v.patch == 0 && not (is_release v))) _ _ Fine (λ e. release) (λ e. major))
      (λ e. cond_both (bytes_eq word (codes "minor")) _ _ Fine
      (λ e. cond_both (v.patch == 0 && not (is_release v)) _ _ Fine (λ e. release) (λ e. minor))
      (λ e. cond_both (bytes_eq word (codes "patch")) _ _ Fine
      (λ e. cond_both (is_release v) _ _ Fine (λ e. patch) (λ e. release))
      (λ e. cond_both (bytes_eq word (codes "premajor")) _ _ Fine
      (λ e. ok_then NormalVersion NormalVersion (next_major v) (pre_step id base) major step_fine)
      (λ e. cond_both (bytes_eq word (codes "preminor")) _ _ Fine
      (λ e. ok_then NormalVersion NormalVersion (next_minor v) (pre_step id base) minor step_fine)
      (λ e. cond_both (bytes_eq word (codes "prepatch")) _ _ Fine
      (λ e. ok_then NormalVersion NormalVersion (next_patch v) (pre_step id base) patch step_fine)
      (λ e. cond_both (bytes_eq word (codes "prerelease")) _ _ Fine
      (λ e. cond_both (is_release v) _ _ Fine
      (λ e. ok_then NormalVersion NormalVersion (next_patch v) (pre_step id base) patch step_fine) (λ e. step_fine v h))
      (λ e. cond_both (bytes_eq word (codes "pre")) _ _ Fine
      (λ e. step_fine v h)
      (λ e. cond_both (bytes_eq word (codes "release")) _ _ Fine
      (λ e. cond_both (is_release v) _ _ Fine (λ e. tt) (λ e. release))
      (λ e. tt)))))))))

  pub next_back : (p : Version) (v : VersionValue) (word : List ℕ) → IsKept p v
      → IfOk (answer_of_inc v word (Some id) (Some base)) ComesBack
  next_back p v word kept =
      let pre : Normal v.pre_release = rw kept.2 (listed_normal p.pre_release.now kept.0) in
      let build : Normal v.build = rw kept.2 (listed_normal p.build.now kept.1) in
      let fine : Fine (answer_of_inc v word (Some id) (Some base)) =
      ok_then (λ t. ⊤) NormalVersion (if starts_with nat_eq word (codes "pre") then checked id base else Ok tt)
      (λ t. by_word word id base v)
      (any_ok (if starts_with nat_eq word (codes "pre") then checked id base else Ok tt)) (λ t u. word_fine word v (pre, build)) in
      ok_more NormalVersion ComesBack (answer_of_inc v word (Some id) (Some base)) fine back
    where
      back : (w : VersionValue) → NormalVersion w → ComesBack w
      back w normal =
          let first = list_kept w.pre_release normal.0 in
          let second = list_kept w.build normal.1 in
          (first.0, first.1, second.0, second.1)

-- ---- the next release of a release

pub word_is : (word text : List ℕ) (same : Bool) → same ≡ bytes_eq word text → same ≡ true → word ≡ text
word_is word text same e h = (bytes_eq-Decides word text).0 (sym e ∙ h)

rises : (n : ℕ) → n + 1 < 2 ^ 64 → one_more n ≡ Ok (n + 1)
rises n small = cond_both (n == 2 ^ 64 - 1) _ _ (λ r. r ≡ Ok (n + 1)) (λ e. absurd (grind (arith, nat_tests, e, small))) (λ e. refl)

word_utf8 : (word : List ℕ) → list_all is_identifier_char word ≡ true → IsUtf8 word
word_utf8 [] h = IsUtf8-nil
word_utf8 (c ∷ rest) h =
    let both = and_parts (is_identifier_char c) (list_all is_identifier_char rest) h in
    IsUtf8-append (c ∷ []) rest (IsUtf8-from_ascii (c ∷ []) (IsAscii-cons c [] (grind (arith, nat_tests, both.0)) IsAscii-nil)) (word_utf8 rest both.1)

module _ (p next : Version) (n : ℕ) (bare : (length p.pre_release.now == 0) ≡ true) (pre : next.pre_release ≡ p.pre_release)
    (build : next.build ≡ p.build) where
  none : p.pre_release.now ≡ []
  none = no_text p.pre_release.now bare

  nothing : listed p.pre_release.now ≡ []
  nothing = rw none nothing_spelled

  made : (word : List ℕ) → list_all is_identifier_char word ≡ true
      → ((id : List ℕ) (base : IdentifierBase) → answer_of_inc (kept_value p) word (Some id) (Some base) ≡ Ok (kept_value next))
      → IsNextRelease p word next
  made word h answers = (word_utf8 word h, ap (λ b. b.now) pre ∙ none, ap (λ b. b.now) build, answers)

  pub major_next : (p.major + 1 < 2 ^ 64) × (n ≡ p.major + 1) → (next.major ≡ n) × (next.minor ≡ 0) × (next.patch ≡ 0)
      → IsNextRelease p (codes "major") next
  major_next (small, e) (M, m, q) =
      let own : (p.minor == 0 && (p.patch == 0 && false)) ≡ false = grind arith in
      made (codes "major") refl (λ id base. rw (M, m, q, e, pre, build, nothing, own, rises p.major small) refl)

  pub minor_next : (p.minor + 1 < 2 ^ 64) × (n ≡ p.minor + 1) → (next.major ≡ p.major) × (next.minor ≡ n) × (next.patch ≡ 0)
      → IsNextRelease p (codes "minor") next
  minor_next (small, e) (M, m, q) =
      let own : (p.patch == 0 && false) ≡ false = grind arith in
      made (codes "minor") refl (λ id base. rw (M, m, q, e, pre, build, nothing, own, rises p.minor small) refl)

  pub patch_next : (p.patch + 1 < 2 ^ 64) × (n ≡ p.patch + 1) → (next.major ≡ p.major) × (next.minor ≡ p.minor) × (next.patch ≡ n)
      → IsNextRelease p (codes "patch") next
  patch_next (small, e) (M, m, q) =
      made (codes "patch") refl (λ id base. rw (M, m, q, e, pre, build, nothing, rises p.patch small) refl)

-- what is told of it
pub by_base : (next : IdentifierBase → Result VersionValue Fault) (base : Option IdentifierBase) (v : VersionValue) (was now : Parts)
    (old new : List ℕ) (status : ℕ) → is_some base ≡ true → ((b : IdentifierBase) → next b ≡ Ok v) → PutsVersion v was now old new status
    → TellsByBase next base was now old new status
by_base next None v was now old new status h all puts = absurd (true≢false (sym h))
by_base next (Some b) v was now old new status h all puts = inl (v, all b, puts)
