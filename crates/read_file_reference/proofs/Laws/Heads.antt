-- The heads 0B 04 and 0B 01 of file references, by place.
-- Assumes nothing.
use mathlib.Core.Path.{◌≡◌, refl, sym, ◌∙◌}
use mathlib.Core.Option.{some}
use mathlib.Core.List.{List, [], ◌∷◌, ◌++◌}
use Rattle.std.specs.Prelude.{Some, None}
use Prim.Native.Nat.{ℕ, ◌+◌}
use native.Mathlib.Omega.{arith}
use lib.ListN.{length, take, drop, get_or, length-append}
use lib.Seq.{drop-cons}
use Rattle.util.specs.Groups.{Seven}
use Rattle.messages.specs.declared.head.Head.TheVariants as head
use Rattle.messages.specs.declared.system_exclusive.UniversalNonRealTimeMsg.TheVariants.{FileReference}
use Rattle.messages.specs.declared.file_reference.FileReferenceMsg.TheVariants.{Open, Close}
use Rattle.messages.specs.declared.file_reference.FileReferenceType.{FileReferenceType}
use Rattle.messages.specs.Maps.{reference_code, reference_size, type_url, type_url_short}
use Rattle.messages.specs.Records.{file_open}
use Rattle.read_places.specs.Places.{value_at}
use Rattle.read_places.specs.Found.{Reads, found}
use Rattle.read_places.proofs.Laws.Numbers.{unsigned_at}
use Rattle.read_places.proofs.Laws.Answers.{none_left, reads_none, reads_found, reads_numbers}
use Rattle.read_file_reference.specs.Files.{Names}
use Rattle.read_file_reference.proofs.Laws.Texts.{named_url, named_length}
use Rattle.read_file_reference.proofs.Laws.Sized.{sent_none, sent_other, sent_reads}

module _ (f : List ℕ) (s : Seven f) where
  -- ---- 0B 04

  pub close_found : length f ≡ 4 → get_or f 2 0 ≡ 0 → get_or f 3 0 ≡ 0 → Reads head.FileReferenceClose (Some (found (FileReference (Close (value_at 2 f 0))) 0 0 0 0)) f
  close_found n a b =
      reads_numbers head.FileReferenceClose f (FileReference (Close (value_at 2 f 0))) (value_at 2 f 0) (λ d. refl) refl refl
      (rw (unsigned_at f s 2 0 (omega arith), drop-cons f 2 0 (omega arith), a, drop-cons f 3 0 (omega arith), b, none_left f 4 n))

-- ---- 0B 01, of a file of type t whose URL has l bytes

module _ (f : List ℕ) (t : FileReferenceType) (l : ℕ) (x : Seven f × Names (Some (t, l)) f) where
  abbrev named : FileReferenceType × List ℕ
  named = (t, take l (drop 8 f))

  open_size : length (type_url.bytes named) ≡ 5 + l
  open_size =
      let u = take l (drop 8 f) in
      omega (arith, reference_size t, length-append (reference_code t) (u ++ (0 ∷ [])), length-append u (0 ∷ []), named_length f t l x)

  pub open_more : (length f ≡ 9 + l → ⊥) → Reads head.FileReferenceOpen None f
  open_more k =
      reads_none head.FileReferenceOpen f
      (sent_none type_url type_url_short file_open f x.0 (omega (arith, x.1.0))
      (rw (x.1.1, named_url f t l x, drop-cons f (9 + l) 0 (omega (arith, x.1.2.0, x.1.2.1)))))

  module _ (m : length f ≡ 9 + l) where
    open_last : type_url.read (drop 4 f) ≡ some named
    open_last = rw (x.1.1, named_url f t l x, none_left f (9 + l) m)

    pub open_said : (value_at 2 f 2 ≡ 5 + l → ⊥) → Reads head.FileReferenceOpen None f
    open_said k =
        reads_none head.FileReferenceOpen f
        (sent_other type_url type_url_short file_open f x.0 (omega arith) named open_last (λ v. k (v ∙ open_size)))

    pub open_found : value_at 2 f 2 ≡ 5 + l → Reads head.FileReferenceOpen (Some (found (FileReference (Open (value_at 2 f 0) t)) 8 l 0 0)) f
    open_found v =
        reads_found head.FileReferenceOpen f (found (FileReference (Open (value_at 2 f 0) t)) 8 l 0 0) _ (λ d. refl) (omega arith) (refl, refl)
        (sent_reads type_url type_url_short file_open f x.0 (omega arith) named open_last (v ∙ sym open_size))
