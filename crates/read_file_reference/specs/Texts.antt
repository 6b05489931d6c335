-- The type and the URL of a file reference, by place.
use Rattle.std.specs.Prelude.{◌≡◌, List, [], ◌∷◌, ℕ, zero, suc, ◌+◌, ◌<◌, ◌≤◌, length, drop, Option, Some, None}
use Rattle.util.specs.Limits.{most_url}
use Rattle.messages.specs.declared.file_reference.FileReferenceType.{FileReferenceType}
use Rattle.messages.specs.format.Core.{Got, bad, got}
use Rattle.messages.specs.format.Texts.{read_text}

-- a type that was found, and the bytes r after its letters
abbrev pub type_got : Option FileReferenceType → List ℕ → Got FileReferenceType
type_got (Some t) r = got t r
type_got None r = bad

-- how many bytes stand before the first 00; all of them where there is none
abbrev pub first_zero : List ℕ → ℕ
first_zero [] = 0
first_zero (zero ∷ l) = 0
first_zero (suc b ∷ l) = suc (first_zero l)

-- where the URL from i on ends: n bytes on, at a 00, and it is no longer than a URL may be; or it reads as none
abbrev pub Ends : Option ℕ → List ℕ → ℕ → Type 0
Ends (Some n) f i = (n ≡ first_zero (drop i f)) × (i + n < length f) × (n ≤ most_url)
Ends None f i = read_text most_url (drop i f) ≡ bad
