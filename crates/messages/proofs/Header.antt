-- The extended header from a rate given as f64: refused as the split is, and otherwise admitted.
-- Assumes nothing.
use mathlib.Core.Path.{◌≡◌, refl, ◌∙◌, subst}
use mathlib.Core.Option.{none}
use mathlib.Core.List.{List}
use Prim.Native.Nat.{ℕ, ◌^◌, ◌<◌}
use native.Mathlib.Omega.{arith}
use borrow.Author.Tests.{lt-ltb}
use Rattle.rates.specs.declared.RatePair.{RatePair}
use Rattle.rates.specs.Rate.{pair, split_of, numbers_of}
use Rattle.rates.proofs.Promises.{split_fits}
use Rattle.messages.specs.Types.{Refusal, DeviceID, ExtendedSampleDumpMsg, ExtendedLoopType}
use Rattle.messages.specs.declared.system_exclusive.UniversalNonRealTimeMsg.TheVariants.{ExtendedSampleDump}
use Rattle.messages.specs.declared.sample_dump.ExtendedSampleDumpMsg.TheVariants.{Header}
use Rattle.std.specs.declared.result.Result.{Result}
use Rattle.std.specs.declared.result.Result.TheVariants.{Ok, Err}
use Rattle.messages.specs.Messages.{refusal}
use Rattle.messages.specs.MessageOf.{message_of}
use Rattle.messages.specs.Header.{with_rate, header_number}
use Rattle.messages.specs.Promises.{HeaderAsSplit, HeaderAdmitted}
use Rattle.messages.proofs.Contents.{refusal_is}

number_same : (a : Result RatePair Refusal) (n b l s e : ℕ) (t : ExtendedLoopType) (c : ℕ) → header_number (with_rate a n b l s e t c) ≡ (numbers_of a).number
number_same (Ok p) n b l s e t c = refl
number_same (Err r) n b l s e t c = refl

pub header_as_split : HeaderAsSplit
header_as_split n b x l s e t c = number_same (split_of x) n b l s e t c

admitted : (d : DeviceID) (n b w f l s e : ℕ) (t : ExtendedLoopType) (c : ℕ) (text entries : List ℕ) → w < 2 ^ 28 → f < 2 ^ 28 → refusal (message_of d (ExtendedSampleDump (Header n b w f l s e t c)) text entries) ≡ none
admitted d n b w f l s e t c text entries W F =
    refusal_is (message_of d (ExtendedSampleDump (Header n b w f l s e t c)) text entries)
    ∙ rw (lt-ltb w (2 ^ 28) W, lt-ltb f (2 ^ 28) F)

pub header_admitted : HeaderAdmitted
header_admitted d n b x l s e t c m text entries = go (split_of x) (split_fits x)
  where
    go : (a : Result RatePair Refusal) → ((w f : ℕ) → a ≡ pair w f → (w < 2 ^ 28) × (f < 2 ^ 28)) → with_rate a n b l s e t c ≡ Ok m → refusal (message_of d (ExtendedSampleDump m) text entries) ≡ none
    go (Ok r) h p =
        let z : Header n b r.whole r.fraction l s e t c ≡ m = cc in
        subst (λ (y : ExtendedSampleDumpMsg). refusal (message_of d (ExtendedSampleDump y) text entries) ≡ none) z
        (admitted d n b r.whole r.fraction l s e t c text entries (h r.whole r.fraction refl).0 (h r.whole r.fraction refl).1)
    go (Err r) h p = let z : ◌≡◌ {A = ℕ} 0 1 = cc in absurd (omega arith)
