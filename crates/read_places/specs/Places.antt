-- Lists of fields by place: the tuning, the note change and the bank map at a place, so many entries from a place on, and packed data.
use Rattle.std.specs.Prelude.{Bool, false, List, [], ◌∷◌, ◌++◌, ℕ, zero, suc, ◌+◌, ◌*◌, ◌/◌, ◌%◌, ◌^◌, eqb, take, drop, Option}
use Rattle.util.specs.Groups.{value, value_high}
use Rattle.util.specs.Pick.{pick}
use Rattle.messages.specs.declared.tuning.Tuning.{Tuning}
use Rattle.messages.specs.declared.tuning.KeyTuning.{KeyTuning}
use Rattle.messages.specs.declared.file_reference.SoundFileMap.{SoundFileMap}
use Rattle.messages.specs.Fields.{tuning_named, bits_of}
use Rattle.messages.specs.Entries.{tuning_entry, change_entry, map_entry}

-- the value of the k groups at i, lowest first
abbrev pub value_at : ℕ → List ℕ → ℕ → ℕ
value_at k f i = value (take k (drop i f))

-- the tuning whose three bytes stand at i
abbrev pub tuning_at : List ℕ → ℕ → Option Tuning
tuning_at f i = tuning_named (value_at 1 f i, value_high (take 2 (drop (i + 1) f)))

-- the note change whose four bytes stand at i
abbrev pub change_at : List ℕ → ℕ → KeyTuning
change_at f i = record { key = value_at 1 f i; tuning = tuning_at f (i + 1) }

-- the bank map whose eight bytes stand at i
abbrev pub map_at : List ℕ → ℕ → SoundFileMap
map_at f i =
    record {
      dst_bank = value_at 2 f i;
      dst_prog = value_at 1 f (i + 2);
      src_bank = value_at 2 f (i + 3);
      src_prog = value_at 1 f (i + 5);
      src_drum = (bits_of (value_at 1 f (i + 6))).0;
      dst_drum = (bits_of (value_at 1 f (i + 6))).1;
      volume = value_at 1 f (i + 7);
    }

-- n entries of so many bytes each, from i on
abbrev pub entries_at : (ℕ → ℕ) → ℕ → ℕ → ℕ → List ℕ
entries_at entry size i zero = []
entries_at entry size i (suc n) = entry i ∷ entries_at entry size (i + size) n

abbrev pub tuning_entries : List ℕ → ℕ → ℕ → List ℕ
tuning_entries f i n = entries_at (λ j. tuning_entry (tuning_at f j)) 3 i n

abbrev pub change_entries : List ℕ → ℕ → ℕ → List ℕ
change_entries f i n = entries_at (λ j. change_entry (change_at f j)) 4 i n

abbrev pub map_entries : List ℕ → ℕ → ℕ → List ℕ
map_entries f i n = entries_at (λ j. map_entry (map_at f j)) 8 i n

-- ---- packed data, byte by byte: k bytes of the group are still to come and t has their top bits; k is 7 right after a byte of top bits

abbrev pub next_k : ℕ → ℕ
next_k zero = 7
next_k (suc k) = k

abbrev pub next_tops : ℕ → ℕ → ℕ → ℕ
next_tops zero t b = b
next_tops (suc k) t b = t % 2 ^ k

-- the data byte that a byte gives; a byte of top bits gives none
abbrev pub data_byte : ℕ → ℕ → ℕ → List ℕ
data_byte zero t b = []
data_byte (suc k) t b = (t / 2 ^ k * 128 + b) ∷ []

abbrev pub data_from : ℕ → ℕ → List ℕ → List ℕ
data_from k t [] = []
data_from k t (b ∷ l) = data_byte k t b ++ data_from (next_k k) (next_tops k t b) l

-- no bit is left over, and no byte of top bits stands alone
abbrev pub none_over : ℕ → ℕ → List ℕ → Bool
none_over k t [] = pick (eqb k 7) false (eqb t 0)
none_over k t (b ∷ l) = none_over (next_k k) (next_tops k t b) l

-- the data of packed bytes from i on
abbrev pub data_at : List ℕ → ℕ → List ℕ
data_at f i = data_from 0 0 (drop i f)
