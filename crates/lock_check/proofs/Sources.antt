-- What an address is that a package comes from.
use Rattle.std.proofs.Common.{◌≡◌, List, Option, true, true≢false, sym, ℕ}
use Rattle.std.specs.Borrow.{Bor}
use Rattle.lock_check.specs.Internal.Sources.{is_page}
use Rattle.lock_files.specs.Specifiers.{IsSameAs, IsSpecifier, is_repository}
use Rattle.lock_files.specs.declared.specifier.Specifier.{Specifier}
use Rattle.lock_files.specs.declared.specifier.Specifier.TheVariants.{Folder, Packed, Page, Range, Repository}
use Rattle.lock_files.specs.declared.specifier.Specifier.TheVariants.{Unsupported}

abbrev pub OneSpecifier : Type 0
OneSpecifier = (text : List ℕ) (s t : Specifier) → IsSpecifier text s → IsSpecifier text t → IsSameAs s t

pub page_from : (text : List ℕ) (s : Specifier) → IsSpecifier text s → is_page s ≡ true
    → (url : Bor (List ℕ)) × IsSpecifier text (Page url)
page_from text (Page url) is e = (url, is)
page_from text (Range _) is e = absurd (true≢false (sym e))
page_from text (Folder _) is e = absurd (true≢false (sym e))
page_from text (Packed _) is e = absurd (true≢false (sym e))
page_from text (Repository _) is e = absurd (true≢false (sym e))
page_from text Unsupported is e = absurd (true≢false (sym e))

pub page_only : OneSpecifier → (text : List ℕ) (s : Specifier) → IsSpecifier text s
    → (url : Bor (List ℕ)) × IsSpecifier text (Page url) → is_page s ≡ true
page_only law text (Page own) is (url, also) = λ i. true
page_only law text (Range own) is (url, also) = absurd (law text (Range own) (Page url) is also)
page_only law text (Folder own) is (url, also) = absurd (law text (Folder own) (Page url) is also)
page_only law text (Packed own) is (url, also) = absurd (law text (Packed own) (Page url) is also)
page_only law text (Repository own) is (url, also) = absurd (law text (Repository own) (Page url) is also)
page_only law text Unsupported is (url, also) = absurd (law text Unsupported (Page url) is also)

pub repository_from : (text : List ℕ) (s : Specifier) → IsSpecifier text s → is_repository s ≡ true
    → (range : Option (Bor (List ℕ))) × IsSpecifier text (Repository range)
repository_from text (Repository range) is e = (range, is)
repository_from text (Range _) is e = absurd (true≢false (sym e))
repository_from text (Folder _) is e = absurd (true≢false (sym e))
repository_from text (Packed _) is e = absurd (true≢false (sym e))
repository_from text (Page _) is e = absurd (true≢false (sym e))
repository_from text Unsupported is e = absurd (true≢false (sym e))

pub repository_only : OneSpecifier → (text : List ℕ) (s : Specifier) → IsSpecifier text s
    → (range : Option (Bor (List ℕ))) × IsSpecifier text (Repository range) → is_repository s ≡ true
repository_only law text (Repository own) is (range, also) = λ i. true
repository_only law text (Range own) is (range, also) = absurd (law text (Range own) (Repository range) is also)
repository_only law text (Folder own) is (range, also) = absurd (law text (Folder own) (Repository range) is also)
repository_only law text (Packed own) is (range, also) = absurd (law text (Packed own) (Repository range) is also)
repository_only law text (Page own) is (range, also) = absurd (law text (Page own) (Repository range) is also)
repository_only law text Unsupported is (range, also) = absurd (law text Unsupported (Repository range) is also)
