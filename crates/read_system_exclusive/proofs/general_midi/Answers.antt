-- `read_system_exclusive::general_midi` meets its contract: no bytes are the message, all else nothing.
-- Assumes nothing.
use mathlib.Core.Path.{◌≡◌, refl}
use mathlib.Core.List.{List}
use Prim.Native.Nat.{ℕ}
use lib.Dec.{eqb}
use lib.ListN.{length}
use Rattle.std.specs.Bool.{then_some}
use Rattle.messages.specs.declared.general_midi.GeneralMidi.{GeneralMidi}
use Rattle.messages.specs.declared.general_midi.GeneralMidi.TheVariants.{GM1, Off, GM2}
use Rattle.messages.specs.declared.system_exclusive.UniversalNonRealTimeMsg.TheVariants as msg
use Rattle.messages.specs.MessageOf.{head_midi}
use Rattle.read_places.specs.Found.{Reads, found}
use Rattle.messages.specs.declared.head.Head.TheVariants as head
use Rattle.read_places.proofs.Laws.Answers.{reads_test}
use Rattle.read_system_exclusive.proofs.Laws.{nothing_reads, nothing_not}
use Rattle.read_system_exclusive.proofs.general_midi.Goals as goal

midi_reads : (g : GeneralMidi) (f : List ℕ) → Reads (head_midi g) (then_some (eqb (length f) 0) (found (msg.GeneralMidi g) 0 0 0 0)) f
midi_reads GM1 f = reads_test head.GeneralMidi1 f _ _ (λ d. refl) refl refl (length f) 0 (nothing_reads f) (nothing_not f)
midi_reads Off f = reads_test head.GeneralMidiOff f _ _ (λ d. refl) refl refl (length f) 0 (nothing_reads f) (nothing_not f)
midi_reads GM2 f = reads_test head.GeneralMidi2 f _ _ (λ d. refl) refl refl (length f) 0 (nothing_reads f) (nothing_not f)

pub returns : goal.returns
returns c = rw (c.then_some.ensures, c.numbers.ensures, c.len.ensures.size) (midi_reads c.args.mode c.args.f.now)
