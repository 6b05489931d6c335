-- What writing beside records promises.
-- Assumes nothing.
use mathlib.Core.Path.{◌≡◌, refl, sym, ap, ap₂, ◌∙◌}
use mathlib.Core.List.{List, [], ◌∷◌, map}
use Rattle.util.specs.Limits.{most_counted}
use Rattle.messages.specs.declared.file_reference.SoundFileMap.{SoundFileMap}
use Rattle.messages.specs.Entries.{map_entry, map_of}
use Rattle.messages.specs.Messages.{write_of, refusal, settle}
use Rattle.messages.proofs.Entries.{map_back}
use Rattle.write_lists.proofs.Laws.Lists.{take_least}
use Rattle.write_maps.specs.Records.{records_frame}
use Rattle.write_maps.specs.Promises.{AllWithin, AsEntries, SurplusDropped, OneRecord}
use Rattle.write_maps.proofs.Laws.{same_frame, surplus}

all_back : (l : List SoundFileMap) → AllWithin l → map map_of (map map_entry l) ≡ l
all_back [] h = refl
all_back (m ∷ l) h =
    let w = h.0 in
    ap₂ (λ (a : SoundFileMap) (b : List SoundFileMap). a ∷ b) (map_back m w.dst_bank w.dst_prog w.src_bank w.src_prog w.volume) (all_back l h.1)

pub as_entries : AsEntries
as_entries d m text l h = sym (same_frame d m text (map map_entry l) ∙ ap (records_frame d m text) (all_back l h))

pub surplus_dropped : SurplusDropped
surplus_dropped d m text l = ap (records_frame d m text) (take_least most_counted l) ∙ surplus d m text l

pub one_record_written : OneRecord
unfolding records_frame write_of refusal settle
one_record_written = refl
