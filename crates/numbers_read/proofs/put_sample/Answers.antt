-- `numbers_read::put_sample` meets its contract: the message behind four numbers.
-- Assumes nothing.
use mathlib.Core.Path.{◌≡◌, sym, ap, subst, ◌∙◌}
use mathlib.Core.List.{List, ◌∷◌}
use Prim.Native.Nat.{ℕ, ◌-◌}
use native.Mathlib.Omega.{arith}
use lib.ListN.{length, take, drop}
use Rattle.util.specs.Splice.{overwritten}
use Rattle.messages.specs.declared.system_exclusive.UniversalNonRealTimeMsg.TheVariants as msg
use Rattle.numbers_to_message.specs.Types.{DeviceID, SampleDumpMsg, UniversalNonRealTimeMsg}
use Rattle.numbers_to_message.specs.Values.{device_number_of}
use Rattle.numbers_of_message.specs.Put.{Put}
use Rattle.numbers_of_message.specs.Numbers.{numbers, of_sample, numbers_of}
use Rattle.numbers_read.proofs.Laws.{behind_length, behind_four}
use Rattle.numbers_read.proofs.Counts.{at_most_16}
use Rattle.numbers_read.proofs.put_sample.Goals as goal

-- the numbers of a sample dump message, put behind four, by the number of its device
module _ (d : ℕ) (k : DeviceID) (s : SampleDumpMsg) (m : UniversalNonRealTimeMsg) (out out' : List ℕ) (n : ℕ) where
  put_as : d ≡ device_number_of k → m ≡ msg.SampleDump s → Put (numbers d (of_sample s)) out out' n → Put (numbers_of k m) out out' n
  unfolding numbers_of
  put_as e q p =
      subst (λ (m : UniversalNonRealTimeMsg). Put (numbers_of k m) out out' n) (sym q)
      (subst (λ (v : ℕ). Put (numbers v (of_sample s)) out out' n) e p)

pub put_front-requires : goal.put_front-requires
put_front-requires c =
    let r = c.args.reading in
    let p = put_as _ r.device c.in-SampleDump.s r.m _ _ _ c.device_number-d.ensures c.in-SampleDump.is c.put_message-count.ensures in
    omega (arith, c.requires, behind_length c.args.answer.now _ (numbers_of r.device r.m) c.requires (at_most_16 r.device r.m) p.there)

pub returns-in-SampleDump : goal.returns-in-SampleDump
returns-in-SampleDump c =
    let r = c.args.reading in
    let p = put_as _ r.device c.in-SampleDump.s r.m _ _ _ c.device_number-d.ensures c.in-SampleDump.is c.put_message-count.ensures in
    let ns = numbers_of r.device r.m in
    c.put_front.ensures
    ∙ behind_four c.args.answer.now _ ns c.requires (at_most_16 r.device r.m) p.there _ _ _ _
    ∙ ap (λ (n : ℕ). overwritten (n ∷ r.from ∷ r.len ∷ r.places ∷ ns) c.args.answer.now) p.count
