-- What identity reading answers in numbers: as `from_midi` does, or 66 for an answer of fewer than nine places.
use Rattle.std.specs.Prelude.{List, [], ◌++◌, ℕ, ltb, length, Result, Ok, Err}
use Rattle.util.specs.Pick.{pick}
use Rattle.util.specs.Splice.{overwritten}
use Rattle.messages.specs.declared.system_exclusive.IdentityReply.{IdentityReply}
use Rattle.util.specs.declared.refusal.Refusal.{Refusal}
use Rattle.messages.specs.Identity.{identity_of}
use Rattle.messages.specs.Identity as reading
use Rattle.numbers_of_message.specs.Numbers.{field_numbers, maker, after_maker}

-- "maker form, m1, m2, family, member, r1 to r4"
abbrev pub reply_numbers : Result IdentityReply Refusal → List ℕ
reply_numbers (Ok r) = field_numbers (maker r.id ++ after_maker r)
reply_numbers (Err r) = []

-- the number of the refusal, 0 for none
abbrev pub identity_number : List ℕ → List ℕ → ℕ
identity_number bytes answer = pick (ltb (length answer) 9) 66 (reading.identity_number (identity_of bytes))

-- the answer afterwards
abbrev pub identity_answer : List ℕ → List ℕ → List ℕ
identity_answer bytes answer = pick (ltb (length answer) 9) answer (overwritten (reply_numbers (identity_of bytes)) answer)
