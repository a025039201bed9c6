-- What is added to a list.
use Rattle.std.proofs.Common.{◌≡◌, ◌∷◌, ◌++◌, ◌∙◌, [], All, Contains, List, ap, append_assoc, subst, sym, ℕ}
use Rattle.std.proofs.lemmas.List.{append-nil}
use Rattle.std.proofs.lemmas.List.Elements.{All-nil, All-push, All-same, Contains-append_left, Contains-push}
use Rattle.serde_json.specs.Data.{Data}
use Rattle.lock_files.specs.Faults.{ArePackagesTold, Extends, HasAllFaults, HasFault, HasFaults, IsFieldFault}
use Rattle.lock_files.specs.Faults.{IsRangeFault}
use Rattle.lock_files.specs.Internal.Collected.{AreTextsTold}
use Rattle.lock_files.specs.Lookups.{field_name}
use Rattle.lock_files.specs.declared.fault.Fault.{Fault}
use Rattle.lock_files.specs.declared.fault.Fault.TheVariants as fault
use Rattle.lock_files.specs.declared.lock.Field.{Field}
use Rattle.lock_files.specs.declared.lock.Lock.{Lock}

-- none more
pub as-before : {A : Type 0} (before : List A) → Extends before before
as-before before = ([], sym (append-nil before))

-- one more
pub one-more : {A : Type 0} (before after : List A) (a : A) → after ≡ before ++ a ∷ [] → Extends before after
one-more before after a same = (a ∷ [], same)

pub extends-more : {A : Type 0} (before edges after : List A) (e : A) → Extends before edges → after ≡ edges ++ e ∷ []
    → Extends before after
extends-more before edges after e h same =
    (h.0 ++ e ∷ [], same ∙ ap (λ es. es ++ e ∷ []) h.1 ∙ append_assoc before h.0 (e ∷ []))

pub extends-same : {A : Type 0} (before edges after : List A) → Extends before edges → after ≡ edges → Extends before after
extends-same before edges after h same = (h.0, same ∙ h.1)

pub extends-on : {A : Type 0} (before middle after : List A) → Extends before middle → Extends middle after
    → Extends before after
extends-on before middle after h k = (h.0 ++ k.0, k.1 ∙ ap (λ es. es ++ k.0) h.1 ∙ append_assoc before h.0 k.0)

pub extends-kept : {A : Type 0} (before after : List A) (e : A) → Extends before after → Contains before e → Contains after e
extends-kept before after e h at =
    subst (λ es. Contains es e) (sym h.1) (Contains-append_left before h.0 e at)

-- ---- what holds of all

pub all-none : {X : Type 0} (P : X → Type 0) (items : List X) → items ≡ [] → All P items
all-none P items none = All-same P items [] none (All-nil P)

pub all-added : {X : Type 0} (P : X → Type 0) (before items : List X) (x : X) → All P before
    → items ≡ before ++ x ∷ [] → P x → All P items
all-added P before items x all same here = All-same P items (before ++ x ∷ []) same (All-push P before x all here)

-- ---- faults

pub fault-kept : (before after : List Fault) (P : Fault → Type 0) → Extends before after → HasFault before P
    → HasFault after P
fault-kept before after P more has = (has.0, extends-kept before after has.0 more has.1, has.2)

pub fault-added : (before after : List Fault) (P : Fault → Type 0) (f : Fault) → after ≡ before ++ f ∷ [] → P f
    → HasFault after P
fault-added before after P f same is = (f, subst (λ fs. Contains fs f) (sym same) (Contains-push before f), is)

pub faults-kept : (folder : List ℕ) (fields : Data) (f : Field) (before after : List Fault) → Extends before after
    → HasFaults folder fields f before → HasFaults folder fields f after
faults-kept folder fields f before after more has = record {
  object = λ is. fault-kept before after (IsFieldFault folder (field_name f)) more (has.object is);
  texts = λ name is. fault-kept before after (IsRangeFault folder name) more (has.texts name is);
}

pub all-kept : (before after : List Fault) → Extends before after → (folder : List ℕ) (fields : Data)
    → HasAllFaults before folder fields → HasAllFaults after folder fields
all-kept before after more folder fields all = λ f read. faults-kept folder fields f before after more (all f read)

pub texts-kept : (before after : List Fault) → Extends before after → (folder : List ℕ) (fields : Data)
    → AreTextsTold before folder fields → AreTextsTold after folder fields
texts-kept before after more folder fields told = λ root wrong.
    fault-kept before after (λ f. f ≡ fault.Workspaces) more (told root wrong)

pub packages-kept : (lock : Lock) (before after : List Fault) → Extends before after → ArePackagesTold lock before
    → ArePackagesTold lock after
packages-kept lock before after more told = record {
  each = λ folder fields at. all-kept before after more folder fields (told.each folder fields at);
  workspaces = λ of. fault-kept before after (λ f. f ≡ fault.Workspaces) more (told.workspaces of);
}
