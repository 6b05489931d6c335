-- The parts of a case stand in a list of bytes one behind the other, each behind its count.
use Rattle.std.specs.Prelude.{◌≡◌, List, ℕ, ◌++◌, ◌*◌, ◌≤◌, length, take, drop}
use Rattle.std.specs.Simd.{first_chunks}
use Rattle.replay_vectors.specs.declared.cases.Case.{Case}

-- numbers of eight bytes each stand at the front of s, and the rest is behind them
pub record NumbersIn (numbers : List (List ℕ)) (s rest : List ℕ) : Type 0 where
  pub within : 8 * length numbers ≤ length s
  pub numbers_are : numbers ≡ first_chunks 8 (length numbers) (take (8 * length numbers) s)
  pub rest_is : rest ≡ drop (8 * length numbers) s

-- a text stands behind a count of four bytes at the front of s, and the rest is behind it
pub record TextIn (text s rest : List ℕ) : Type 0 where
  pub within : 4 ≤ length s
  pub text_is : text ++ rest ≡ drop 4 s

-- a case stands at the front of s, and the rest is behind it
pub record CaseIn (c : Case) (s rest : List ℕ) : Type 0 where
  pub behind_numbers : List ℕ
  pub behind_text : List ℕ
  pub behind_entries : List ℕ
  pub behind_out_numbers : List ℕ
  pub behind_bytes : List ℕ
  pub numbers_in : NumbersIn c.numbers.now (drop 2 s) behind_numbers
  pub text_in : TextIn c.text.now behind_numbers behind_text
  pub entries_in : NumbersIn c.entries.now (drop 2 behind_text) behind_entries
  pub out_numbers_in : NumbersIn c.out_numbers.now (drop 10 behind_entries) behind_out_numbers
  pub bytes_in : TextIn c.bytes.now behind_out_numbers behind_bytes
  pub out_entries_counted : 4 ≤ length behind_bytes
  pub out_entries_in : NumbersIn c.out_entries.now (drop 4 behind_bytes) rest
