-- Refusals (01, "Refusals by the place of checking"): which of several is given.
use Rattle.std.specs.Prelude.{◌≡◌, ℕ}
use Rattle.std.proofs.Math.Option.{Option, none}
use Rattle.util.specs.Options.{least_by}
use Rattle.util.proofs.Laws.Options.{least_by_none, none_by_both}
use Rattle.util.specs.Refusals.{number}
use Rattle.messages.specs.Types.{Refusal}

-- "Within a place the order is the table's": the place in that order, apart from the number
abbrev pub rank : Refusal → ℕ
rank r = number r

-- of two refusals the one that comes first
abbrev pub least : Option Refusal → Option Refusal → Option Refusal
least a b = least_by rank a b

pub least_none : (a b : Option Refusal) → least a b ≡ none → (a ≡ none) × (b ≡ none)
least_none a b e = least_by_none rank a b e

pub none_both : {a b : Option Refusal} → a ≡ none → b ≡ none → least a b ≡ none
none_both p q = none_by_both rank p q
