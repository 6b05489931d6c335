-- `read_heads::is_valid` meets its contract, by head.
-- Assumes nothing.
use mathlib.Core.Path.{◌≡◌, sym, ap, ◌∙◌}
use mathlib.Core.List.{List}
use Prim.Native.Nat.{ℕ}
use Rattle.messages.specs.declared.head.Head.{Head}
use Rattle.messages.specs.Layouts.{form}
use Rattle.read_places.specs.Found.{is_read}
use Rattle.read_places.proofs.Laws.Answers.{reads_some}
use Rattle.read_heads.proofs.is_valid.Goals as goal

read_as : {h g : Head} → h ≡ g → (f : List ℕ) → is_read ((form g).read f) ≡ is_read ((form h).read f)
read_as e f = ap (λ (x : Head). is_read ((form x).read f)) (sym e)

pub returns-in-SampleDumpPacket : goal.returns-in-SampleDumpPacket
returns-in-SampleDumpPacket c = c.is_packet.ensures ∙ read_as c.in-SampleDumpPacket.is c.args.f.now

pub returns-in-KeyBasedTuningDump : goal.returns-in-KeyBasedTuningDump
returns-in-KeyBasedTuningDump c = c.is_key_dump.ensures ∙ read_as c.in-KeyBasedTuningDump.is c.args.f.now

pub returns-in_default : goal.returns-in_default
returns-in_default c = rw c.is_some.ensures (reads_some c.args.h c.args.f.now c.fields_of.result c.fields_of.ensures)
