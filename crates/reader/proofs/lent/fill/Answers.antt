-- `reader::lent::fill` meets its contract: HOLD, or the list in the lent places.
-- Assumes nothing.
use mathlib.Core.Path.{sym, ap, ◌∙◌}
use mathlib.Core.List.{List}
use Prim.Native.Nat.{ℕ}
use native.Mathlib.Omega.{arith}
use Rattle.util.specs.Splice.{overwritten}
use Rattle.reader.proofs.Laws.Apart.{data_is_at}
use Rattle.reader.proofs.Laws.Met.{data_at_size, short_data, short_entries, data_put, entries_put}
use Rattle.reader.proofs.lent.fill.Goals as goal

pub returns-then-data-reading : goal.returns-then-data-reading
returns-then-data-reading c = let a = c.args in
    short_data a.reading a.f.now a.at c.requires.3 a.«data».now a.entries.now (sym c.has_data.ensures ∙ c.if-has_data.true) c.if-data-reading.true

pub put_data-requires : goal.put_data-requires
put_data-requires c =
    let a = c.args in
    let n = data_at_size a.reading.m a.f.now a.at a.reading.places c.requires.3 (sym c.has_data.ensures ∙ c.if-has_data.true) in
    (c.requires.0, c.requires.1, omega (arith, c.if-data-reading.false))

pub returns-then-entries-reading : goal.returns-then-entries-reading
returns-then-entries-reading c = let a = c.args in
    short_entries a.reading a.f.now a.at c.requires.3 a.«data».now a.entries.now (sym c.has_data.ensures ∙ c.if-has_data.false) c.if-entries-reading.true

pub returns-else-data-reading : goal.returns-else-data-reading
returns-else-data-reading c =
    let a = c.args in
    let h = sym c.has_data.ensures ∙ c.if-has_data.true in
    data_put a.reading a.f.now a.at c.requires.3 a.«data».now a.entries.now h c.if-data-reading.false c.put_data.new.out
    (c.put_data.ensures ∙ ap (λ (x : List ℕ). overwritten x a.«data».now) (sym (data_is_at a.reading.m a.f.now a.at h)))

pub returns-else-entries-reading : goal.returns-else-entries-reading
returns-else-entries-reading c =
    let a = c.args in
    entries_put a.reading a.f.now a.at c.requires.3 a.«data».now a.entries.now (sym c.has_data.ensures ∙ c.if-has_data.false) c.if-entries-reading.false
    c.put_entries.new.out c.put_entries.ensures
