-- Numbers put at the start of a list, where there is room for all.
use Rattle.std.specs.Prelude.{◌≡◌, List, ℕ, leb, length}
use Rattle.util.specs.Pick.{pick}
use Rattle.util.specs.Splice.{overwritten}

-- n numbers l, and the list after they were put at the start of out
pub record Put (l out after : List ℕ) (n : ℕ) : Type 0 where
  pub count : n ≡ length l
  pub there : after ≡ pick (leb (length l) (length out)) (overwritten l out) out
