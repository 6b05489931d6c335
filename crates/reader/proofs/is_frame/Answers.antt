-- `reader::is_frame` meets its contract: a frame is what reading gives a message for.
-- Assumes nothing.
use mathlib.Core.Path.{◌≡◌, refl, ◌∙◌}
use mathlib.Core.List.{List}
use Prim.Native.Nat.{ℕ}
use Rattle.std.specs.Prelude.{Result, Ok, Err, is_ok}
use Rattle.util.specs.declared.refusal.Refusal.{Refusal}
use Rattle.messages.specs.Walk.{is_given}
use Rattle.reader.specs.declared.lent.Reading.{Reading}
use Rattle.reader.specs.Reading.{said}
use Rattle.reader.proofs.Laws.Shape.{frame_is}
use Rattle.reader.proofs.is_frame.Goals as goal

-- an answer is a reading just where it says a message
ok_given : (r : Result Reading Refusal) (frame dat es : List ℕ) → is_ok r ≡ is_given (said r frame dat es)
ok_given (Ok x) frame dat es = refl
ok_given (Err n) frame dat es = refl

pub returns : goal.returns
returns c =
    let l = c.args.stretch.now in
    c.is_ok.ensures.value ∙ ok_given c.examine.result l _ _ ∙ frame_is c.args.kind l c.examine.ensures.says
