-- `walk::walk` meets its contract: at each `return` the tests that led there say which answer it is. Where `list` is lent no part of
-- the index, it only counts. Assumes nothing.
use mathlib.Core.Path.{◌≡◌, ap, subst, sym, ◌∙◌}
use mathlib.Core.List.{List, ◌++◌}
use Prim.Native.Nat.{ℕ, ◌/◌, ◌≤◌}
use native.Mathlib.Omega.{arith}
use lib.ListN.{length}
use Rattle.walk.specs.declared.WalkError.TheVariants.{Index}
use Rattle.messages.specs.Walk.{frames}
use Rattle.std.specs.Prelude.{Err}
use Rattle.walk.specs.Steps.{put_all}
use Rattle.walk.specs.Answer.{WalkMet}
use Rattle.walk.proofs.Laws.Answers.{met_long, met_many, met_enough, no_part}
use Rattle.walk.proofs.walk.Goals as goal

pub returns-then-stream-gt-MOST_STREAM : goal.returns-then-stream-gt-MOST_STREAM
returns-then-stream-gt-MOST_STREAM c = let p = c.args in met_long p.kind p.stream.now p.index.now c.if-stream-gt-MOST_STREAM.true

pub returns-then-stream-room : goal.returns-then-stream-room
returns-then-stream-room c =
    let p = c.args in
    let call = c.list in
    let room : call.result ≤ length p.index.now / 2 = omega (arith, call.ensures.few, c.if-stream-room.true) in
    met_enough p.kind p.stream.now p.index.now c.if-stream-gt-MOST_STREAM.false call.result call.ensures.counted room call.new.index call.ensures.listed

pub returns-then-room-n : goal.returns-then-room-n
returns-then-room-n c =
    let p = c.args in
    let call = c.list-n in
    let e : call.new.index ++ p.index.now ≡ p.index.now = no_part call.new.index p.index.now call.auto.index in
    subst (WalkMet (Err (Index call.result)) p.kind p.stream.now p.index.now) (sym e)
    (met_many p.kind p.stream.now p.index.now c.if-stream-gt-MOST_STREAM.false call.result call.ensures.counted c.if-room-n.true)

pub returns : goal.returns
returns c =
    let p = c.args in
    let call = c.list-n in
    let e : call.new.index ++ p.index.now ≡ p.index.now = no_part call.new.index p.index.now call.auto.index in
    met_enough p.kind p.stream.now p.index.now c.if-stream-gt-MOST_STREAM.false call.result call.ensures.counted c.if-room-n.false c.list-2.new.index
    (c.list-2.ensures.listed ∙ ap (λ (x : List ℕ). put_all x 0 (frames p.kind p.stream.now)) e)
