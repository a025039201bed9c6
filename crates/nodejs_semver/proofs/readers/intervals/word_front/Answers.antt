use Rattle.nodejs_semver.proofs.Common.{◌≡◌, arith, None, Some, ap, true, false, rules, ◌∙◌, sym, refl, hyphen, MAX_SAFE_INTEGER, from_boundary, is_boundary}
use Rattle.nodejs_semver.proofs.{Reading.WordLaw.{word-as}, Diagnosing.IgnoredParts.{read-formed, read-malformed, signed-formed}}
use Rattle.nodejs_semver.proofs.Bounds.TableReadings.{settled}
use Rattle.nodejs_semver.specs.Internal.{Readings.{partial_front_view, partial_view, sign_view, table_view}}
use Rattle.nodejs_semver.proofs.readers.intervals.word_front.Goals as goal

pub returns-in_default : goal.returns-in_default
returns-in_default c =
    let text = c.args.text.now in
    read-malformed MAX_SAFE_INTEGER text c.skip_to_boundary.result.now (from_boundary text)
    (word-as MAX_SAFE_INTEGER text _ _ c.sign_front-sign.ensures c.partial_front.ensures ∙ rw (ap partial_front_view c.in_default.is) refl) c.skip_to_boundary.ensures

pub returns-in-Some-upper_of : goal.returns-in-Some-upper_of
returns-in-Some-upper_of c =
    let text = c.args.text.now in
    read-formed MAX_SAFE_INTEGER text c.in-Some-upper_of.rest.now (hyphen (partial_view c.in-Some.partial) (partial_view c.in-Some-upper_of.upper)) c.between-interval.result c.ok_or.result refl
    (word-as MAX_SAFE_INTEGER text _ _ c.sign_front-sign.ensures c.partial_front.ensures
    ∙ rw (ap partial_front_view c.in-Some.is, sym c.upper_of.ensures, ap partial_front_view c.in-Some-upper_of.is) refl)
    (c.between-interval.ensures ∙ c.hyphen.ensures) c.ok_or.ensures.value

pub returns-then-not-is_boundary : goal.returns-then-not-is_boundary
returns-then-not-is_boundary c =
    let text = c.args.text.now in
    let goes : is_boundary c.in-Some.rest.now ≡ false = search rules in
    read-malformed MAX_SAFE_INTEGER text c.skip_to_boundary-then-not-is_boundary.result.now (from_boundary text)
    (word-as MAX_SAFE_INTEGER text _ _ c.sign_front-sign.ensures c.partial_front.ensures
    ∙ rw (ap partial_front_view c.in-Some.is, sym c.upper_of.ensures, ap partial_front_view c.in_default-upper_of.is, goes) refl)
    c.skip_to_boundary-then-not-is_boundary.ensures

pub ordered-requires : goal.ordered-requires
ordered-requires c = grind (arith, settled)

pub returns-in-Some-signed : goal.returns-in-Some-signed
returns-in-Some-signed c =
    let text = c.args.text.now in
    let ends : is_boundary c.in-Some.rest.now ≡ true = search rules in
    let formed = signed-formed MAX_SAFE_INTEGER (sign_view c.sign_front-sign.result.0) (partial_view c.in-Some.partial) in
    read-formed MAX_SAFE_INTEGER text _ _ (Some c.ordered.result) _ formed
    (word-as MAX_SAFE_INTEGER text _ _ c.sign_front-sign.ensures c.partial_front.ensures
    ∙ rw (ap partial_front_view c.in-Some.is, sym c.upper_of.ensures, ap partial_front_view c.in_default-upper_of.is, ends) refl)
    (ap Some c.ordered.ensures ∙ ap table_view (sym c.in-Some-signed.is) ∙ c.signed.ensures) refl

pub returns-in-None : goal.returns-in-None
returns-in-None c =
    let text = c.args.text.now in
    let ends : is_boundary c.in-Some.rest.now ≡ true = search rules in
    let formed = signed-formed MAX_SAFE_INTEGER (sign_view c.sign_front-sign.result.0) (partial_view c.in-Some.partial) in
    read-formed MAX_SAFE_INTEGER text _ _ None _ formed
    (word-as MAX_SAFE_INTEGER text _ _ c.sign_front-sign.ensures c.partial_front.ensures
    ∙ rw (ap partial_front_view c.in-Some.is, sym c.upper_of.ensures, ap partial_front_view c.in_default-upper_of.is, ends) refl)
    (ap table_view (sym c.in-None.is) ∙ c.signed.ensures) refl
