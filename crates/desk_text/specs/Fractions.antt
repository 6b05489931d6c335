-- Cents as parts of a semitone.
use Rattle.std.specs.Prelude.{Option, Some, None, ℕ, ◌+◌, ◌*◌, ◌-◌, ◌/◌, ◌%◌, leb}
use Rattle.util.specs.Limits.{keys}
use Rattle.util.specs.Pick.{pick}
use Rattle.desk_text.specs.declared.cents.Decimals.{Decimals}
use Rattle.desk_text.specs.declared.cents.Decimals.TheVariants.{Above, Below}

-- a 16,384th of a semitone in ten trillionths of a cent: 100 cents are 16,384 of these
abbrev pub step_16384 : ℕ
step_16384 = 1000000000000000 / 16384

-- an 8,192nd of a semitone in ten trillionths of a cent
abbrev pub step_8192 : ℕ
step_8192 = 1000000000000000 / 8192

-- the number of steps nearest to an amount, half-way up
abbrev pub nearest : ℕ → ℕ → ℕ
nearest step amount = (amount + step / 2) / step

-- the entry of a tuning, which is so many 16,384ths of a semitone above key 0
abbrev pub entry_of : ℕ → ℕ
entry_of pitch = pitch / 16384 * 65536 + pitch % 16384

-- the highest pitch: 127 semitones and 16,382 of 16,384ths, since "No tuning is 7F 7F 7F"
abbrev pub highest : ℕ
highest = 127 * 16384 + 16382

-- the entry of a pitch, where there is such a tuning
abbrev pub tuning_entry : ℕ → Option ℕ
tuning_entry pitch = pick (leb pitch highest) (Some (entry_of pitch)) None

-- the entry of a pitch that is raised by ten trillionths of a cent
unfoldable pub raised_entry : ℕ → ℕ → Option ℕ
raised_entry pitch a = tuning_entry (pitch + nearest step_16384 a)

-- the entry of a pitch that is lowered, where it does not go below key 0
unfoldable pub lowered_entry : ℕ → ℕ → Option ℕ
lowered_entry pitch a =
    pick (leb (nearest step_16384 a) pitch) (tuning_entry (pitch - nearest step_16384 a)) None

-- the entry of a pitch that is changed
unfoldable pub changed_entry : ℕ → Option Decimals → Option ℕ
changed_entry pitch (Some (Above a)) = raised_entry pitch a
changed_entry pitch (Some (Below a)) = lowered_entry pitch a
changed_entry pitch None = None

-- the entry of a key's tuning, told by its difference from equal temperament
unfoldable pub tuned_entry : ℕ → Option Decimals → Option ℕ
tuned_entry key d = pick (leb keys key) None (changed_entry (key * 16384) d)
