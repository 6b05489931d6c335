-- 0B 03, of a file of type t whose URL has l bytes, by the map that was found.
-- Assumes nothing.
use mathlib.Core.Path.{◌≡◌, refl, sym, ap, ◌∙◌}
use mathlib.Core.Option.{some}
use mathlib.Core.List.{List}
use Rattle.std.specs.Prelude.{Some, None}
use Prim.Native.Nat.{ℕ, ◌+◌}
use native.Mathlib.Omega.{arith}
use lib.ListN.{take, drop}
use Rattle.util.specs.Groups.{Seven}
use Rattle.messages.specs.declared.head.Head.TheVariants as head
use Rattle.messages.specs.declared.system_exclusive.UniversalNonRealTimeMsg.TheVariants.{FileReference}
use Rattle.messages.specs.declared.file_reference.FileReferenceMsg.TheVariants.{OpenSelectContents}
use Rattle.messages.specs.declared.file_reference.FileReferenceType.{FileReferenceType}
use Rattle.messages.specs.Maps.{AnySelect, select_for, select_length, type_url_map, open_length, open_short}
use Rattle.messages.specs.Records.{open_select}
use Rattle.read_places.specs.Places.{value_at}
use Rattle.read_places.specs.Found.{Reads, found}
use Rattle.read_places.proofs.Laws.Answers.{reads_none, reads_found}
use Rattle.read_file_reference.specs.declared.maps.Picked.{Picked}
use Rattle.read_file_reference.specs.Picked.{Picks, select_of}
use Rattle.read_file_reference.specs.Files.{Names}
use Rattle.read_file_reference.proofs.Laws.Texts.{named_url, named_length}
use Rattle.read_file_reference.proofs.Laws.Sized.{sent_none, sent_other, sent_reads}

module _ (f : List ℕ) (t : FileReferenceType) (l : ℕ) (x : Seven f × Names (Some (t, l)) f) where
  pub found_nothing : Picks (select_for t) None f (9 + l) → Reads head.FileReferenceOpenSelect None f
  found_nothing p =
      reads_none head.FileReferenceOpenSelect f
      (sent_none type_url_map open_short open_select f x.0 (omega (arith, x.1.0)) (rw (x.1.1, named_url f t l x, ← p.says)))

  module _ {o : Picked} (p : Picks (select_for t) (Some o) f (9 + l)) where
    abbrev named : (t : FileReferenceType) × (List ℕ × AnySelect)
    named = (t, (take l (drop 8 f), select_of o f))

    found_last : type_url_map.read (drop 4 f) ≡ some named
    found_last = rw (x.1.1, named_url f t l x, ← p.says)

    found_size : open_length named ≡ 5 + l + o.length
    found_size = ap (λ (n : ℕ). 5 + n + select_length (select_of o f)) (named_length f t l x) ∙ ap (λ (n : ℕ). 5 + l + n) (sym p.part.0)

    pub found_unsaid : (value_at 2 f 2 ≡ 5 + l + o.length → ⊥) → Reads head.FileReferenceOpenSelect None f
    found_unsaid k =
        reads_none head.FileReferenceOpenSelect f
        (sent_other type_url_map open_short open_select f x.0 (omega (arith, x.1.0)) named found_last (λ v. k (v ∙ found_size)))

    pub found_reads : value_at 2 f 2 ≡ 5 + l + o.length
        → Reads head.FileReferenceOpenSelect (Some (found (FileReference (OpenSelectContents (value_at 2 f 0) t o.map)) 8 l o.at o.count)) f
    found_reads v =
        reads_found head.FileReferenceOpenSelect f (found (FileReference (OpenSelectContents (value_at 2 f 0) t o.map)) 8 l o.at o.count) _
        (λ d. refl) (omega (arith, x.1.2.1, p.part)) (refl, refl)
        (sent_reads type_url_map open_short open_select f x.0 (omega (arith, x.1.0)) named found_last (v ∙ sym found_size))
