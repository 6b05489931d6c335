-- `read_file_reference::texts::spells` meets its contract: letters that begin a list are stripped from it.
-- Assumes nothing.
use mathlib.Core.Path.{◌≡◌, subst}
use mathlib.Core.Option.{some}
use mathlib.Core.List.{List}
use Prim.Native.Nat.{ℕ, ◌+◌}
use lib.ListN.{length, drop}
use Rattle.util.specs.Options.{only_if}
use Rattle.messages.specs.format.Sequence.{strip}
use Rattle.read_file_reference.proofs.Laws.Texts.{starts_at}
use Rattle.read_file_reference.proofs.texts.spells.Goals as goal

pub returns : goal.returns
returns c =
    let p = c.args.letters.now in
    let i = c.args.i in
    subst (λ (f : List ℕ). only_if c.starts_with.result (some (drop (i + length p) f)) ≡ strip p (drop i f)) c.f.view_is
    (starts_at c.f.inside.bytes.now p i _ c.starts_with.ensures.value)
