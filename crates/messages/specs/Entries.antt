-- Lent entries: tunings, note changes and bank maps as numbers of 64 bits, one place each. Every number is some entry.
use Rattle.std.specs.Prelude.{Option, Some, None, ℕ, ◌+◌, ◌*◌, ◌/◌, ◌%◌, ◌^◌, min, ltb}
use Rattle.util.specs.Limits.{no_tuning}
use Rattle.messages.specs.Types.{Tuning, KeyTuning, SoundFileMap}
use Rattle.util.specs.Pick.{pick}
use Rattle.messages.specs.Fields.{bit, is_set}

-- semitone × 65,536 + fraction; 2^24 for no tuning
abbrev pub tuning_entry : Option Tuning → ℕ
tuning_entry None = no_tuning
tuning_entry (Some t) = t.semitone * 65536 + t.fraction

-- from 2^24 on: no tuning
abbrev pub tuning_of : ℕ → Option Tuning
tuning_of n = pick (ltb n no_tuning) (Some (record { semitone = n / 65536; fraction = n % 65536 })) None

-- key × 2^25 + tuning
abbrev pub change_entry : KeyTuning → ℕ
change_entry c = c.key * 2 ^ 25 + tuning_entry c.tuning

-- a key above 255 counts as 255
abbrev pub change_of : ℕ → KeyTuning
change_of n = record { key = min (n / 2 ^ 25) 255; tuning = tuning_of (n % 2 ^ 25) }

-- target bank (above bit 42), target program, source bank, source program, source drum, target drum, volume (8 bits)
abbrev pub map_entry : SoundFileMap → ℕ
map_entry m =
    (((((m.dst_bank * 256 + m.dst_prog) * 65536 + m.src_bank) * 256 + m.src_prog) * 2 + bit m.src_drum) * 2 + bit m.dst_drum) * 256 + m.volume

-- a target bank above 65,535 counts as 65,535
abbrev pub map_of : ℕ → SoundFileMap
map_of n =
    record {
      dst_bank = min (n / 2 ^ 42) 65535;
      dst_prog = n / 2 ^ 34 % 256;
      src_bank = n / 2 ^ 18 % 65536;
      src_prog = n / 2 ^ 10 % 256;
      src_drum = is_set (n / 2 ^ 9 % 2);
      dst_drum = is_set (n / 2 ^ 8 % 2);
      volume = n % 256;
    }
