-- `write_maps::write_maps` meets its contract: the entries that its loop packs say the records that are written.
-- Assumes nothing.
use Rattle.std.proofs.Common.{◌∙◌, arith, ◌≡◌, false, min, length, length-set}
use lib.ListN.{length-take}
use lib.Seq.{get_or-take}
use Rattle.util.specs.Limits.{most_counted}
use Rattle.messages.specs.declared.file_reference.SoundFileMap.{SoundFileMap}
use Rattle.write_maps.proofs.Laws.{one_packed, all_held}
use Rattle.write_maps.proofs.write_maps.Goals as goal

-- what an index past the records would read
abbrev nothing : SoundFileMap
nothing = record { dst_bank = 0; dst_prog = 0; src_bank = 0; src_prog = 0; src_drum = false; dst_drum = false; volume = 0 }

pub loop-i-preserved : goal.loop-i-preserved
loop-i-preserved c =
    let l = c.args.maps.now in
    let i = c.loop-i.i in
    let n = length-take c.min-n.result l in
    record {
      sized = length-set c.loop-i.entries i c.entry_of.result ∙ c.loop-i.invariant.sized;
      held = one_packed l c.loop-i.entries i c.entry_of.result nothing (omega (arith, n)) (omega (arith, n))
          (c.entry_of.ensures ∙ get_or-take c.min-n.result l i nothing (omega (arith, n))) c.loop-i.invariant.held;
    }

pub returns : goal.returns
returns c =
    let l = c.args.maps.now in
    let n : c.loop-i.i ≡ min (length l) most_counted = omega (arith, length-take c.min-n.result l) in
    let h = rw n at c.loop-i.invariant.held in
    let e = all_held c.args.device c.args.m c.args.text.now l c.loop-i.entries h in
    rw (c.min-n.ensures, e) at c.write_entries.ensures
