-- Lists read by place: bytes, and entries of one size.
-- Assumes nothing.
use mathlib.Core.Path.{◌≡◌, refl, sym, ap, ap₂, ◌∙◌}
use mathlib.Core.List.{List, [], ◌∷◌, map}
use Prim.Native.Nat.{ℕ, zero, suc, ◌+◌, ◌*◌, ◌<◌, ◌≤◌}
use native.Mathlib.Nat.{add-zero, mul-zero, mul-suc}
use native.Mathlib.Omega.{arith}
use native.Mathlib.Numerals.{add-one}
use lib.ListN.{length, take, drop, get_or}
use lib.Seq.{drop-cons}
use Rattle.util.specs.Groups.{Seven}
use Rattle.messages.specs.format.Core.{Part, got}
use Rattle.messages.specs.format.Lists.{all_read, all_bytes}
use Rattle.messages.specs.Fields.{u7}
use Rattle.read_places.specs.Places.{entries_at}
use Rattle.read_places.proofs.Laws.Numbers.{unsigned_at, value_get}

-- n bytes from i on
pub bytes_at : (l : List ℕ) → Seven l → (n i : ℕ) → i + n ≤ length l → all_read u7 n (drop i l) ≡ got (take n (drop i l)) (drop (i + n) l)
bytes_at l s zero i h = rw (add-zero i)
bytes_at l s (suc n) i h =
    let p : i < length l = omega arith in
    let e : (i + 1) + n ≡ i + suc n = omega arith in
    rw (unsigned_at l s 1 i (omega arith), bytes_at l s n (i + 1) (omega arith), e, value_get l i, drop-cons l i 0 p, add-one i)

-- n items of so many bytes each, from i on, each the value of the entry that stands for it
pub items_at : {A : Type 0} (p : Part A) (size : ℕ) (val : ℕ → A) (entry : ℕ → ℕ) (f : List ℕ)
    → ((i : ℕ) → i + size ≤ length f → p.read (drop i f) ≡ got (val (entry i)) (drop (i + size) f))
    → (n i : ℕ) → i + size * n ≤ length f → all_read p n (drop i f) ≡ got (map val (entries_at entry size i n)) (drop (i + size * n) f)
items_at p size val entry f one zero i h = let e : i + size * 0 ≡ i = rw mul-zero (add-zero i) in rw e
items_at p size val entry f one (suc n) i h =
    let m : size * suc n ≡ size * n + size = mul-suc size n in
    let d : (i + size) + size * n ≡ i + size * suc n = omega arith in
    rw (one i (omega arith), items_at p size val entry f one n (i + size) (omega arith), d)

pub entries_length : (entry : ℕ → ℕ) (size n i : ℕ) → length (entries_at entry size i n) ≡ n
entries_length entry size zero i = refl
entries_length entry size (suc n) i = ap suc (entries_length entry size n (i + size))

pub entries_get : (entry : ℕ → ℕ) (size n i j : ℕ) → j < n → get_or (entries_at entry size i n) j 0 ≡ entry (i + size * j)
entries_get entry size zero i j h = absurd (omega arith)
entries_get entry size (suc n) i zero h = let e : i + size * 0 ≡ i = rw mul-zero (add-zero i) in ap entry (sym e)
entries_get entry size (suc n) i (suc j) h =
    let m : size * suc j ≡ size * j + size = mul-suc size j in
    let e : (i + size) + size * j ≡ i + size * suc j = omega arith in
    entries_get entry size n (i + size) j (omega arith) ∙ ap entry e

-- entries that stand for values: packed again they are what they were
pub entries_back : {A : Type 0} (pack : A → ℕ) (val : ℕ → A) (entry : ℕ → ℕ) → ((i : ℕ) → pack (val (entry i)) ≡ entry i) → (size n i : ℕ)
    → map pack (map val (entries_at entry size i n)) ≡ entries_at entry size i n
entries_back pack val entry e size zero i = refl
entries_back pack val entry e size (suc n) i = ap₂ (λ (x : ℕ) (l : List ℕ). x ∷ l) (e i) (entries_back pack val entry e size n (i + size))

pub bytes_length : (l : List ℕ) → length (all_bytes u7 l) ≡ length l
bytes_length [] = refl
bytes_length (x ∷ l) = ap suc (bytes_length l)
