-- What reading into numbers promises, as propositions over the contract of `read_for`: the theorems of proofs/ have these types.
use Rattle.std.specs.Prelude.{◌≡◌, List, ℕ}
use Rattle.messages.specs.declared.file_reference.Kind.{Kind}
use Rattle.numbers_read.specs.Read.{ReadFor}

-- a call of `read_for` has one answer, and one way in which it leaves what it was lent
abbrev pub OneReadFor : Type 0
OneReadFor =
    (k : Kind) (n m : ℕ) (frame dat dat' dat'' es es' es'' answer answer' answer'' : List ℕ)
    → ReadFor k n frame dat dat' es es' answer answer' → ReadFor k m frame dat dat'' es es'' answer answer''
    → (n ≡ m) × (dat' ≡ dat'') × (es' ≡ es'') × (answer' ≡ answer'')
