-- The maps of a file reference, by place.
use Rattle.std.specs.Prelude.{Bool, true, ◌&&◌, List, ℕ, zero, suc, ◌+◌, leb, get_or, Option, Some, None}
use Rattle.util.specs.Signed.{unbiased}
use Rattle.messages.specs.declared.file_reference.WAVMap.{WAVMap}
use Rattle.messages.specs.format.Core.{Got, bad, got}
use Rattle.messages.specs.Maps.{BankOffset}
use Rattle.read_places.specs.Places.{value_at}
use Rattle.read_file_reference.specs.declared.maps.Offset.{Offset}

-- the WAV map whose nine bytes stand at i
abbrev pub wav_at : List ℕ → ℕ → WAVMap
wav_at f i =
    record {
      dst_bank = value_at 2 f i;
      dst_prog = value_at 1 f (i + 2);
      base = value_at 1 f (i + 3);
      lokey = value_at 1 f (i + 4);
      hikey = value_at 1 f (i + 5);
      fine = unbiased 8192 (value_at 2 f (i + 6));
      volume = value_at 1 f (i + 8);
    }

-- an offset that was found, and the bytes r after it
abbrev pub offset_got : Option Offset → List ℕ → Got BankOffset
offset_got (Some o) r = got (record { bank_offset = o.bank_offset; drum = o.src_drum }) r
offset_got None r = bad

-- the flags of n bank maps from i on are at most 3
abbrev pub flags_fit : List ℕ → ℕ → ℕ → Bool
flags_fit f i zero = true
flags_fit f i (suc n) = leb (get_or f (i + 6) 0) 3 && flags_fit f (i + 8) n
