-- The version that a text begins with is that of the text up to the place behind it.
use Rattle.semver_core.proofs.Common.{qualified, triple_at, begins, Id, IsLongestIdentifiers, pieces, IsNumber}
use Rattle.semver_core.proofs.Common.{IsWholeNumber, begins_pre_release, no_mark, VersionValue, List, None, Some, [], ap}
use Rattle.semver_core.proofs.Common.{append-nil, append_assoc, arith, drop, false, length, refl, subst, sym, take, true, ℕ}
use Rattle.semver_core.proofs.Common.{◌++◌, ◌∙◌, ◌∷◌, ◌≡◌, ◌≤◌, nat_tests, take-append-drop, is_ascii_digit, list_all}
use Rattle.semver_core.proofs.Common.{list_all-append, small_len, lists_at, IsCommon, IsBuild, IsMark, IsPreRelease, bare}
use Rattle.semver_core.proofs.Common.{dashed, no_build, no_pre_release, plus, small_mark, NoValue, IsAfterBlank, IsBlank}
use Rattle.semver_core.proofs.Common.{is_identifier_char, Reads, Option, ◌<◌, drop-cons, drop_all, ◌==◌, common_of}
use Rattle.semver_core.proofs.Common.{HasOneReading, mark_len, release_value, IfSome, IfNone, get_or}
use Rattle.semver_core.specs.{Internal.CommonReading.{is_plain, at_end, whole_at}, Text.Common.IsCommonFront}
use Rattle.{std.proofs.lemmas.List.append_cancel_right, semver_core.proofs.Text.Listed.plain_runs}
use Rattle.semver_core.proofs.Text.{Pieces.runs_tail, Runs.{all_more, begins_less}, Texts.{divided_at, number_begins, read_at}}
use Rattle.semver_core.proofs.Text.Texts.{rest_of, bind_some, none_build, loose_none, loose_some, none_pre}

-- ---- The fast reader's answer is the common text's version.

pub small_is : (text : List ℕ) → IsMark (take (small_len text) text) × (take (small_len text) text ≡ 86 ∷ [] → ⊥)
small_is text = grind (arith, nat_tests, no_mark, small_mark)

pub nothing_blank : IsBlank []
nothing_blank = record { characters = []; each = refl; spelled = refl }

-- numbers behind `v` or nothing divide the text
front_divided : (limit : ℕ) (text : List ℕ) (t : ℕ × ℕ × ℕ × ℕ) → triple_at limit text (small_len text) ≡ Some t
    → (r : Reads limit text (qualified text t)) × (r.mark ≡ 86 ∷ [] → ⊥) × (r.blank ≡ []) × (r.rest ≡ rest_of text t)
front_divided limit text t e =
    let k = small_len text in
    let mark = small_is text in
    let d = divided_at limit text (take k text) [] k t (sym (take-append-drop k text)) mark.0 nothing_blank e in
    (d.reads, λ capital. mark.1 (sym d.mark_is ∙ capital), d.blank_is, d.rest_is)

-- what is found is a common text's version
pub common_sound : (limit : ℕ) (text : List ℕ) (v : VersionValue) → common_of limit text ≡ Some v → IsCommon limit text v
common_sound limit text v e =
    let found = bind_some (triple_at limit text (small_len text)) _ v e in
    let ended : (rest_of text found.0 ≡ []) × (qualified text found.0 ≡ v) = grind arith in
    let d = front_divided limit text found.0 found.1 in
    rw (← ended.1) (d.0, d.1, d.2, d.3 ∙ ended.0)

pub past_small : (text mark D : List ℕ) → IsMark mark → (mark ≡ 86 ∷ [] → ⊥) → text ≡ mark ++ D → begins is_ascii_digit D ≡ true → drop (small_len text) text ≡ D
past_small text mark D is s e h = grind (arith, nat_tests)

-- the version that stands at the front, behind `v` or nothing, is found there
front_at : (limit : ℕ) (text : List ℕ) (v : VersionValue) (r : Reads limit text v) → (r.mark ≡ 86 ∷ [] → ⊥) → r.blank ≡ []
    → (t : ℕ × ℕ × ℕ × ℕ) × (triple_at limit text (small_len text) ≡ Some t) × (qualified text t ≡ v) × (rest_of text t ≡ r.rest)
front_at limit text v r small none =
    let D = r.major ++ 46 ∷ (r.minor ++ 46 ∷ (r.patch ++ (r.pre_release ++ (r.build ++ r.rest)))) in
    let digit : begins is_ascii_digit D ≡ true = number_begins r.major _ r.major_is.some r.major_is.each in
    let divided : text ≡ r.mark ++ D = r.divided ∙ ap (λ b. r.mark ++ (b ++ D)) none in
    read_at limit text (small_len text) v r (past_small text r.mark D r.mark_is small divided digit)

-- a common text's version is found
pub common_complete : (limit : ℕ) (text : List ℕ) (v : VersionValue) → IsCommon limit text v → common_of limit text ≡ Some v
common_complete limit text v c = let found = front_at limit text v c.0 c.1 c.2 in rw (found.1, found.2, found.3, c.3) refl

-- the clauses of a reader whose answer is `common_of`
pub common_some : (limit : ℕ) (text : List ℕ) (found : Option VersionValue) → found ≡ common_of limit text → IfSome found (λ v. IsCommon limit text v)
common_some limit text found e = grind (arith, common_sound)

pub common_none : (limit : ℕ) (text : List ℕ) (found : Option VersionValue) → found ≡ common_of limit text
    → IfNone found (NoValue (IsCommon limit text))
common_none limit text None e = λ v c. cc (e, common_complete limit text v c)
common_none limit text (Some v) e = tt

-- both readers on one text
pub alike : (limit : ℕ) (text : List ℕ) (fast loose : Option VersionValue) → IfSome fast (λ v. IsCommon limit text v) → IfSome loose (λ v. Reads limit text v)
    → IfNone loose (NoValue (Reads limit text)) → HasOneReading text → IfSome fast (λ v. loose ≡ Some v)
alike limit text None loose f l n one = tt
alike limit text (Some v) None f l n one = absurd (n v f.0)
alike limit text (Some v) (Some w) f l n one = ap Some (one limit w v l f.0)

-- ---- what the code finds

-- what both lists and the place behind them make
abbrev whole_of : List ℕ → ℕ → ℕ → ℕ → List Id × List Id × ℕ → Option VersionValue
whole_of text major minor patch l =
    at_end (drop l.2 text) (record { major = major; minor = minor; patch = patch; pre_release = l.0; build = l.1 })

pub lists_found : (text : List ℕ) (major minor patch at end : ℕ) (pre build : List Id) → (pre, build, end) ≡ lists_at text at → length text ≤ end
    → whole_at text (major, minor, patch, at) ≡ Some (record { major = major; minor = minor; patch = patch; pre_release = pre; build = build })
lists_found text major minor patch at end pre build e le = grind (arith, drop_all)

pub lists_left : (text : List ℕ) (major minor patch at end : ℕ) (pre build : List Id) → (pre, build, end) ≡ lists_at text at → end < length text
    → whole_at text (major, minor, patch, at) ≡ None
lists_left text major minor patch at end pre build e lt =
    ap (whole_of text major minor patch) (sym e) ∙ rw (drop-cons text end 0 lt) refl

-- numbers at the front, with the lists behind them, are a version of the text
pub front_read : (limit : ℕ) (text : List ℕ) (t : ℕ × ℕ × ℕ × ℕ) → Some t ≡ triple_at limit text (small_len text) → Reads limit text (qualified text t)
front_read limit text t e = (front_divided limit text t (sym e)).0

pub loose_read : (limit : ℕ) (text : List ℕ) (start : ℕ) (o : Option (ℕ × ℕ × ℕ × ℕ)) → IsAfterBlank text (mark_len text) start
    → o ≡ triple_at limit text start → IfSome o (λ t. Reads limit text (qualified text t))
loose_read limit text start o a e = grind (arith, loose_some)

pub loose_not : (limit : ℕ) (text : List ℕ) (start : ℕ) (o : Option (ℕ × ℕ × ℕ × ℕ)) → IsAfterBlank text (mark_len text) start
    → o ≡ triple_at limit text start → IfNone o (NoValue (Reads limit text))
loose_not limit text start None a e = loose_none limit text start a (rw (← e) refl)
loose_not limit text start (Some t) a e = tt

-- what stands behind the numbers
pub release_read : (limit : ℕ) (text : List ℕ) (major minor patch at : ℕ) (v : VersionValue)
    → Reads limit text (qualified text (major, minor, patch, at)) → length text ≤ at → v ≡ release_value major minor patch
    → Reads limit text v
release_read limit text major minor patch at v r le e = grind (arith, drop_all, none_pre, none_build)

pub none_begins : (text : List ℕ) (at : ℕ) → at < length text → is_identifier_char (get_or text at 0) ≡ false → (get_or text at 0 == 43) ≡ false
    → lists_at text at ≡ ([], [], at)
none_begins text at inside h k = grind (arith, nat_tests, drop-cons, none_pre, none_build)

pub none_past : (text : List ℕ) (at : ℕ) → length text ≤ at → lists_at text at ≡ ([], [], at)
none_past text at past = grind (arith, drop_all, none_pre, none_build)

pub ruleset no_lists = (none_past, none_begins)

pub ruleset read_common = (common_some, common_none)

-- ---- For proofs. What a larger limit on numbers leaves as it is.

number_kept : (small large : ℕ) (digits : List ℕ) (n : ℕ) → small ≤ large → IsNumber small digits n → IsNumber large digits n
number_kept small large digits n le h = grind arith

pub keeps_reading : (text : List ℕ) (small large : ℕ) (v : VersionValue) → small ≤ large → Reads small text v → Reads large text v
keeps_reading text small large v le h = grind (arith, number_kept small large)

pub keeps_version : (text : List ℕ) → HasOneReading text → (small large : ℕ) (v w : VersionValue) → small ≤ large → Reads small text v → Reads large text w → w ≡ v
keeps_version text one small large v w le h k = one large w v k (keeps_reading text small large v le h)

-- ---- a text without what follows it

pre_less : (a r : List ℕ) → begins_pre_release (a ++ r) ≡ false → begins_pre_release a ≡ false
pre_less a r h = grind (arith, nat_tests)

longest_less : (text a r : List ℕ) (ids : List Id) → IsLongestIdentifiers text (a ++ r) ids → IsLongestIdentifiers text a ids
longest_less text a r ids l = record { identifiers = l.identifiers; ended = (let e = l.ended in grind arith) }

is_pre_less : (text a r : List ℕ) (ids : List Id) → IsPreRelease text (a ++ r) ids → IsPreRelease text a ids
is_pre_less text a r ids (dashed s rest list long) = dashed s a ids (longest_less s a r ids long)
is_pre_less text a r ids (bare s rest list long plain) = bare s a ids (longest_less s a r ids long) plain
is_pre_less text a r ids (no_pre_release rest none) = no_pre_release a (pre_less a r none)

is_build_less : (text r : List ℕ) (ids : List Id) → IsBuild text r ids → IsBuild text [] ids
is_build_less text r ids is = grind (arith, plus, no_build)

whole_less : (limit : ℕ) (digits a r : List ℕ) (n : ℕ) → IsWholeNumber limit digits (a ++ r) n → IsWholeNumber limit digits a n
whole_less limit digits a r n w = record { number = w.number; ended = begins_less is_ascii_digit a r w.ended }

-- a division joined, with what follows it apart
joined : (m b M n p q u r : List ℕ)
    → m ++ (b ++ (M ++ 46 ∷ (n ++ 46 ∷ (p ++ (q ++ (u ++ r))))))
    ≡ (m ++ (b ++ (M ++ 46 ∷ (n ++ 46 ∷ (p ++ (q ++ (u ++ []))))))) ++ r
joined m b M n p q u r = simp append_assoc

pub front_whole : (limit : ℕ) (text : List ℕ) (v : VersionValue) (end : ℕ) → IsCommonFront limit text v end → IsCommon limit (take end text) v
front_whole limit text v end c =
    let r = c.0 in
    let front = r.mark ++ (r.blank ++ (r.major ++ 46 ∷ (r.minor ++ 46 ∷ (r.patch ++ (r.pre_release ++ (r.build ++ [])))))) in
    let apart : take end text ++ r.rest ≡ front ++ r.rest =
    ap (λ l. take end text ++ l) c.3 ∙ take-append-drop end text ∙ r.divided ∙ joined r.mark r.blank r.major r.minor r.patch r.pre_release r.build r.rest in
    let tail : r.pre_release ++ (r.build ++ r.rest) ≡ (r.pre_release ++ (r.build ++ [])) ++ r.rest = rw (append-nil, append_assoc) refl in
    let build : r.build ++ r.rest ≡ (r.build ++ []) ++ r.rest = rw append-nil refl in (
      record {
        mark = r.mark;
        blank = r.blank;
        major = r.major;
        minor = r.minor;
        patch = r.patch;
        pre_release = r.pre_release;
        build = r.build;
        rest = [];
        divided = append_cancel_right (take end text) front r.rest apart;
        mark_is = r.mark_is;
        blank_is = r.blank_is;
        major_is = r.major_is;
        minor_is = r.minor_is;
        patch_is = whole_less limit r.patch (r.pre_release ++ (r.build ++ [])) r.rest v.patch (subst (λ (l : List ℕ). IsWholeNumber limit r.patch l v.patch) tail r.patch_is);
        pre_release_is = is_pre_less r.pre_release (r.build ++ []) r.rest v.pre_release (subst (λ (l : List ℕ). IsPreRelease r.pre_release l v.pre_release) build r.pre_release_is);
        build_is = is_build_less r.build r.rest v.build r.build_is;
      },
      c.1,
      c.2,
      refl,
    )

-- what the reader finds at the front
pub front_found : (limit : ℕ) (text : List ℕ) (major minor patch at : ℕ) (pre build : List Id) (end : ℕ) (v : VersionValue)
    → Some (major, minor, patch, at) ≡ triple_at limit text (small_len text) → (pre, build, end) ≡ lists_at text at
    → v ≡ record { major = major; minor = minor; patch = patch; pre_release = pre; build = build } → end ≤ length text
    → IsCommonFront limit text v end
front_found limit text major minor patch at pre build end v e lists is inside =
    let t : ℕ × ℕ × ℕ × ℕ = (major, minor, patch, at) in
    let d = front_divided limit text t (sym e) in
    let same : v ≡ qualified text t =
    is ∙ ap (λ (l : List Id × List Id × ℕ). record { major = major; minor = minor; patch = patch; pre_release = l.0; build = l.1 }) lists in
    let rest : drop end text ≡ rest_of text t = ap (λ (l : List Id × List Id × ℕ). drop l.2 text) lists in
    rw same (d.0, d.1, d.2, d.3 ∙ sym rest, inside)

pub front_not : (limit : ℕ) (text : List ℕ) → None ≡ triple_at limit text (small_len text) → (v : VersionValue) (end : ℕ)
    → IsCommonFront limit text v end → ⊥
front_not limit text e v end c = cc (e, (front_at limit text v c.0 c.1 c.2).1)

-- ---- the bytes of a common text

plain_list : (text rest : List ℕ) (ids : List Id) → IsLongestIdentifiers text rest ids → list_all is_plain text ≡ true
plain_list text rest ids l = plain_runs text (runs_tail (pieces text) l.identifiers.runs)

plain_pre : (text rest : List ℕ) (ids : List Id) → IsPreRelease text rest ids → list_all is_plain text ≡ true
plain_pre text rest ids is = grind (arith, plain_list)

plain_build : (text rest : List ℕ) (ids : List Id) → IsBuild text rest ids → list_all is_plain text ≡ true
plain_build text rest ids is = grind (arith, plain_list)

plain_mark : (mark : List ℕ) → IsMark mark → list_all is_plain mark ≡ true
plain_mark mark is = grind arith

-- a common text is letters, digits, `-`, `.` and `+` alone
pub common_plain : (limit : ℕ) (text : List ℕ) (v : VersionValue) → IsCommon limit text v → list_all is_plain text ≡ true
common_plain limit text v c =
    let r = c.0 in
    let digits : (ds : List ℕ) → list_all is_ascii_digit ds ≡ true → list_all is_plain ds ≡ true =
    λ ds. all_more is_ascii_digit is_plain ds (λ c k. grind (arith, nat_tests)) in
    let mark = plain_mark r.mark r.mark_is in
    let major = digits r.major r.major_is.each in
    let minor = digits r.minor r.minor_is.each in
    let patch = digits r.patch r.patch_is.number.each in
    let pre = plain_pre r.pre_release _ v.pre_release r.pre_release_is in
    let build = plain_build r.build r.rest v.build r.build_is in
    rw (r.divided, c.2, c.3) (simp (list_all-append, mark, major, minor, patch, pre, build))
