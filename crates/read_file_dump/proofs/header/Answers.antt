-- `read_file_dump::header` meets its contract: the name is what follows its 9 bytes, at most 1,024.
-- Assumes nothing.
use mathlib.Core.Path.{refl, ap, ◌∙◌}
use mathlib.Core.List.{List}
use Prim.Native.Nat.{ℕ}
use native.Mathlib.Omega.{arith}
use Rattle.messages.specs.declared.head.Head.TheVariants as head
use Rattle.read_places.proofs.Laws.Answers.{reads_found}
use Rattle.read_file_dump.specs.Places.{type_at}
use Rattle.read_file_dump.proofs.Laws.Fields.{header_reads}
use Rattle.read_file_dump.proofs.header.Goals as goal

pub returns : goal.returns
returns c =
    let f = c.args.f.now in
    rw (c.numbers.ensures, c.u28_at.ensures, c.type_at.ensures ∙ ap (λ (l : List ℕ). type_at l 1) c.f.view_is, c.from.ensures, c.u7_at.ensures, c.len-size.ensures.size)
    (reads_found head.FileDumpHeader f _ _ (λ d. refl) (omega arith, omega arith, omega arith, refl) (refl, refl) (header_reads f c.len-size.ensures.seven (omega arith) (omega arith)))
