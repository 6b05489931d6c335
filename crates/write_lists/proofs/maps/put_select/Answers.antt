-- `write_lists::maps::put_select` meets its contract, kind by kind.
-- Assumes nothing.
use Rattle.write_lists.proofs.maps.put_select.Goals as goal

pub put_maps-requires : goal.put_maps-requires
put_maps-requires c = rw c.in-SoundFile.is at c.requires

pub put_wav-requires : goal.put_wav-requires
put_wav-requires c = rw c.in-WAV.is at c.requires

pub put_offset-requires : goal.put_offset-requires
put_offset-requires c = rw c.in-SoundFileBankOffset.is at c.requires

pub put_wav_offset-requires : goal.put_wav_offset-requires
put_wav_offset-requires c = rw c.in-WAVBankOffset.is at c.requires

pub returns-in-SoundFile : goal.returns-in-SoundFile
returns-in-SoundFile c = rw c.in-SoundFile.is c.put_maps.ensures

pub returns-in-WAV : goal.returns-in-WAV
returns-in-WAV c = rw c.in-WAV.is c.put_wav.ensures

pub returns-in-SoundFileBankOffset : goal.returns-in-SoundFileBankOffset
returns-in-SoundFileBankOffset c = rw c.in-SoundFileBankOffset.is c.put_offset.ensures

pub returns-in-WAVBankOffset : goal.returns-in-WAVBankOffset
returns-in-WAVBankOffset c = rw c.in-WAVBankOffset.is c.put_wav_offset.ensures
