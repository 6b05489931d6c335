-- The file that 0B 01 and 0B 03 name first, behind the context and the length.
use Rattle.std.specs.Prelude.{◌≡◌, List, ℕ, ◌≤◌, length, drop, Option, Some, None}
use Rattle.std.proofs.Math.Option.{none}
use Rattle.messages.specs.declared.file_reference.FileReferenceType.{FileReferenceType}
use Rattle.messages.specs.declared.head.Head.TheVariants.{FileReferenceOpen, FileReferenceOpenSelect}
use Rattle.messages.specs.format.Core.{got}
use Rattle.messages.specs.format.Tags.{look}
use Rattle.messages.specs.Maps.{reference_types}
use Rattle.messages.specs.Layouts.{form}
use Rattle.read_file_reference.specs.Texts.{Ends}

-- its type, and where its URL ends; or neither head reads the fields
abbrev pub Names : Option (FileReferenceType × ℕ) → List ℕ → Type 0
Names (Some p) f = (9 ≤ length f) × (look reference_types (drop 4 f) ≡ got p.0 (drop 8 f)) × Ends (Some p.1) f 8
Names None f = ((form FileReferenceOpen).read f ≡ none) × ((form FileReferenceOpenSelect).read f ≡ none)
