-- `reader::opening::opening_of` meets its contract: 7E, the head of the two bytes after the device, and what they are followed by.
-- Assumes nothing.
use mathlib.Core.Path.{refl, sym, ap, ◌∙◌}
use Rattle.messages.specs.Messages.{read_opened}
use Rattle.reader.proofs.Laws.Opening.{opening_by, opening_not, opening_take, opens_with}
use Rattle.reader.proofs.opening.opening_of.Goals as goal

pub returns-then-at-ne126 : goal.returns-then-at-ne126
returns-then-at-ne126 c = record {
  says = ap read_opened (sym (opening_not c.args.kind c.args.mid.now c.requires.1 (λ e. c.if-at-ne126.true (c.at.ensures ∙ e))));
  part = tt;
}

pub opening_under-requires : goal.opening_under-requires
opening_under-requires c =
    let mid = c.args.mid.now in
    let o = opening_by c.args.kind mid _ _ _ _ c.requires c.at.ensures c.at-2.ensures c.at-3.ensures c.if-at-ne126.false (sym c.head_at.ensures ∙ c.in-Some.is) in
    (c.requires.0, c.requires.1, opening_take c.args.kind mid _ _ _ _ o refl)

pub returns-in-Some : goal.returns-in-Some
returns-in-Some c =
    opens_with c.opening_under.ensures
    (ap read_opened
    (sym (opening_by c.args.kind c.args.mid.now _ _ _ _ c.requires c.at.ensures c.at-2.ensures c.at-3.ensures c.if-at-ne126.false (sym c.head_at.ensures ∙ c.in-Some.is))))

pub returns-in-None : goal.returns-in-None
returns-in-None c = record {
  says = ap read_opened
      (sym (opening_by c.args.kind c.args.mid.now _ _ _ _ c.requires c.at.ensures c.at-2.ensures c.at-3.ensures c.if-at-ne126.false (sym c.head_at.ensures ∙ c.in-None.is)));
  part = tt;
}
