-- The extended header from a rate given as f64. Definitions only.
use Rattle.std.specs.Prelude.{Result, Ok, Err, ℕ, Float}
use Rattle.util.specs.Refusals.{number}
use Rattle.rates.specs.declared.RatePair.{RatePair}
use Rattle.rates.specs.Rate.{split_of}
use Rattle.messages.specs.Types.{Refusal, ExtendedLoopType, ExtendedSampleDumpMsg}
use Rattle.messages.specs.declared.sample_dump.ExtendedSampleDumpMsg.TheVariants.{Header}

-- 05 05, "whole rate and 2^28ths of the rate": the header with the pair; refused as the split is
abbrev pub with_rate : Result RatePair Refusal → ℕ → ℕ → ℕ → ℕ → ℕ → ExtendedLoopType → ℕ → Result ExtendedSampleDumpMsg Refusal
with_rate (Ok p) n b l s e t c = Ok (Header n b p.whole p.fraction l s e t c)
with_rate (Err r) n b l s e t c = Err r

-- the header of sample n, format b, rate x, length l, loop start s, loop end e, loop type t, c channels
abbrev pub header_of : ℕ → ℕ → Float → ℕ → ℕ → ℕ → ExtendedLoopType → ℕ → Result ExtendedSampleDumpMsg Refusal
header_of n b x l s e t c = with_rate (split_of x) n b l s e t c

-- 01's number for each case: "Where nothing is refused the number is 0"
abbrev pub header_number : Result ExtendedSampleDumpMsg Refusal → ℕ
header_number (Ok m) = 0
header_number (Err r) = number r
