-- The head that two bytes begin (01, the heads of the layouts), by its first byte and then by its second.
use Rattle.std.specs.Prelude.{ℕ, eqb, Option, Some, None}
use Rattle.util.specs.Pick.{pick}
use Rattle.messages.specs.declared.head.Head.{Head}
use Rattle.messages.specs.declared.head.Head.TheVariants as head
use Rattle.messages.specs.declared.file_reference.Kind.{Kind}
use Rattle.messages.specs.declared.file_reference.Kind.TheVariants.{Bank, WAV}

abbrev pub head_05 : ℕ → Option Head
head_05 b =
    pick (eqb b 1) (Some head.LoopPointTransmission) (pick (eqb b 2) (Some head.LoopPointsRequest)
    (pick (eqb b 3) (Some head.SampleName) (pick (eqb b 4) (Some head.SampleNameRequest)
    (pick (eqb b 5) (Some head.ExtendedHeader) (pick (eqb b 6) (Some head.ExtendedLoopPointTransmission)
    (pick (eqb b 7) (Some head.ExtendedLoopPointsRequest) None))))))

abbrev pub head_06 : ℕ → Option Head
head_06 b = pick (eqb b 1) (Some head.IdentityRequest) (pick (eqb b 2) (Some head.IdentityReply) None)

abbrev pub head_07 : ℕ → Option Head
head_07 b =
    pick (eqb b 1) (Some head.FileDumpHeader) (pick (eqb b 2) (Some head.FileDumpPacket)
    (pick (eqb b 3) (Some head.FileDumpRequest) None))

abbrev pub head_08 : ℕ → Option Head
head_08 b =
    pick (eqb b 0) (Some head.TuningBulkDumpRequest) (pick (eqb b 1) (Some head.KeyBasedTuningDump)
    (pick (eqb b 3) (Some head.BankTuningBulkDumpRequest) (pick (eqb b 4) (Some head.BankKeyBasedTuningDump)
    (pick (eqb b 5) (Some head.ScaleTuningDump1Byte) (pick (eqb b 6) (Some head.ScaleTuningDump2Byte)
    (pick (eqb b 7) (Some head.TuningNoteChange) (pick (eqb b 8) (Some head.ScaleTuning1Byte)
    (pick (eqb b 9) (Some head.ScaleTuning2Byte) None))))))))

abbrev pub head_09 : ℕ → Option Head
head_09 b =
    pick (eqb b 1) (Some head.GeneralMidi1) (pick (eqb b 2) (Some head.GeneralMidiOff)
    (pick (eqb b 3) (Some head.GeneralMidi2) None))

-- "The kind settles select (0B 02) only"
abbrev pub select_head : Kind → Head
select_head Bank = head.SelectSoundFile
select_head WAV = head.SelectWAV

abbrev pub head_0b : Kind → ℕ → Option Head
head_0b k b =
    pick (eqb b 1) (Some head.FileReferenceOpen) (pick (eqb b 2) (Some (select_head k))
    (pick (eqb b 3) (Some head.FileReferenceOpenSelect) (pick (eqb b 4) (Some head.FileReferenceClose) None)))

abbrev pub head_at : Kind → ℕ → ℕ → Option Head
head_at k a b =
    pick (eqb a 0x01) (Some head.SampleDumpHeader) (pick (eqb a 0x02) (Some head.SampleDumpPacket)
    (pick (eqb a 0x03) (Some head.SampleDumpRequest) (pick (eqb a 0x05) (head_05 b)
    (pick (eqb a 0x06) (head_06 b) (pick (eqb a 0x07) (head_07 b)
    (pick (eqb a 0x08) (head_08 b) (pick (eqb a 0x09) (head_09 b)
    (pick (eqb a 0x0B) (head_0b k b) (pick (eqb a 0x7B) (Some head.EOF)
    (pick (eqb a 0x7C) (Some head.Wait) (pick (eqb a 0x7D) (Some head.Cancel)
    (pick (eqb a 0x7E) (Some head.NAK) (pick (eqb a 0x7F) (Some head.ACK) None)))))))))))))
