-- The fields of tunings and identity replies, and the loop types.
use Rattle.std.specs.Prelude.{◌≡◌, refl, Option, Some, None, List, [], ◌∷◌, ℕ, ◌<◌, ℤ, pos, leb, length, get_or}
use Rattle.std.proofs.Math.Option.{none}
use Rattle.std.proofs.Common.{arith, lit<, le-leb}
use Rattle.util.specs.Options.{unless}
use Rattle.util.specs.Limits.{sample_bytes, most_changes}
use Rattle.util.specs.Limits as limits
use Rattle.messages.specs.Types.{LoopType, ExtendedLoopType, Tuning, KeyTuning, IdentityReply, ManufacturerID}
use Rattle.util.specs.declared.refusal.Refusal.TheVariants.{Long}
use Rattle.messages.specs.declared.sample_dump.LoopType.TheVariants.{Forward, BiDirectional, Off}
use Rattle.messages.specs.declared.sample_dump.ExtendedLoopType.TheVariants as ext
use Rattle.messages.specs.declared.system_exclusive.ManufacturerID.TheVariants.{OneByte, Extended}
use Rattle.messages.specs.format.{Part, Whole, ◌⊗◌, tagged, ◌named◌, refusing, exactly, counted, all_settled, end, Either, left, right, either, ◌namedW◌}
use Rattle.messages.specs.Fields.{u7, u14, s7, s14, tuning, one_byte_maker, extended_maker}

-- "120 bytes (u7 each, zero-filled, surplus dropped)"
abbrev pub samples : Part (List ℕ)
samples = exactly u7 sample_bytes (λ i. 0) (λ i. refl)

-- "128 tunings": "Entry i past the given list is i, 00, 00; entries past 128 are ignored"
abbrev pub keys : Part (List (Option Tuning))
keys = exactly tuning limits.keys (λ i. Some (record { semitone = i; fraction = 0 })) (λ i. refl)

-- "each a key (u7) and a tuning"
abbrev pub key_tuning : Part KeyTuning
key_tuning =
    u7 ⊗ tuning
    named record {
      to = λ k. (k.key, k.tuning);
      from = λ x. record { key = x.0; tuning = x.1 };
      to_from = λ x. refl;
      from_to = λ k. refl;
    }

-- LONG: "note change above 127 entries"
pub changes_fine : (l : List KeyTuning) → (length l < 128) × all_settled key_tuning l → unless Long (leb (length l) most_changes) ≡ none
changes_fine l h = rw (le-leb (length l) most_changes (omega arith))

-- "number of entries, each a key (u7) and a tuning"
abbrev pub note_changes : Part (List KeyTuning)
note_changes = refusing (λ l. unless Long (leb (length l) most_changes)) (counted key_tuning) changes_fine

-- "twelve signed 7": the array of the code, which has no other length
abbrev pub scale_1 : Part (List ℤ)
scale_1 = exactly s7 12 (λ i. pos 0) (λ i. refl)

-- "or signed 14"
abbrev pub scale_2 : Part (List ℤ)
scale_2 = exactly s14 12 (λ i. pos 0) (λ i. refl)

-- "family, member (u14 each), four u7"
abbrev pub AfterMaker : Type 0
AfterMaker = ℕ × (ℕ × (ℕ × (ℕ × (ℕ × ℕ))))

abbrev pub after_maker : Part AfterMaker
after_maker = u14 ⊗ u14 ⊗ u7 ⊗ u7 ⊗ u7 ⊗ u7

abbrev pub maker_first : ManufacturerID → AfterMaker → Either (ℕ × AfterMaker) ((ℕ × ℕ) × AfterMaker)
maker_first (OneByte b) x = left (b, x)
maker_first (Extended a b) x = right ((a, b), x)

abbrev pub reply : ManufacturerID → AfterMaker → IdentityReply
reply m x =
    record {
      id = m;
      family = x.0;
      family_member = x.1.0;
      software_revision = (x.1.1.0, x.1.1.1.0, x.1.1.1.1.0, x.1.1.1.1.1);
    }

abbrev pub reply_of : Either (ℕ × AfterMaker) ((ℕ × ℕ) × AfterMaker) → IdentityReply
reply_of (left x) = reply (OneByte x.0) x.1
reply_of (right x) = reply (Extended x.0.0 x.0.1) x.1

pub maker_back : (m : ManufacturerID) (x : AfterMaker) → reply_of (maker_first m x) ≡ reply m x
maker_back (OneByte b) x = refl
maker_back (Extended a b) x = refl

abbrev pub revision : ℕ × ℕ × ℕ × ℕ → ℕ × (ℕ × (ℕ × ℕ))
revision r = (r.0, (r.1, (r.2, r.3)))

-- "maker, family, member (u14 each), four u7"
abbrev pub identity_reply : Whole IdentityReply
identity_reply =
    either (end (one_byte_maker ⊗ after_maker)) (end (extended_maker ⊗ after_maker)) (λ x h. refl)
    namedW record {
      to = λ r. maker_first r.id (r.family, (r.family_member, revision r.software_revision));
      from = reply_of;
      to_from = elim [ left x ↦ refl | right x ↦ refl ];
      from_to = λ r. maker_back r.id (r.family, (r.family_member, revision r.software_revision));
    }

-- the value whose code is the byte b; or b is the code of none
abbrev pub Named : {A : Type 0} → (A → List ℕ) → ℕ → Option A → Type 0
Named code b (Some t) = code t ≡ b ∷ []
Named {A} code b None = (t : A) → code t ≡ b ∷ [] → ⊥

-- "loop type 00, 01, 7F"
abbrev pub loop_code : LoopType → List ℕ
loop_code Forward = 0x00 ∷ []
loop_code BiDirectional = 0x01 ∷ []
loop_code Off = 0x7F ∷ []

abbrev pub loop_byte : LoopType → ℕ
loop_byte t = get_or (loop_code t) 0 0

abbrev pub loop_type : Part LoopType
loop_type =
    tagged record {
      code = loop_code;
      table = Forward ∷ BiDirectional ∷ Off ∷ [];
      tag_back = elim [ Forward ↦ λ r. refl | BiDirectional ↦ λ r. refl | Off ↦ λ r. refl ];
      tag_seven = elim [ Forward ↦ (lit< tt, tt) | BiDirectional ↦ (lit< tt, tt) | Off ↦ (lit< tt, tt) ];
    }

-- "Extended types: 00 to 03, 40 to 43, 7E, 7F"
abbrev pub extended_loop_code : ExtendedLoopType → List ℕ
extended_loop_code ext.Forward = 0x00 ∷ []
extended_loop_code ext.BiDirectional = 0x01 ∷ []
extended_loop_code ext.ForwardRelease = 0x02 ∷ []
extended_loop_code ext.BiDirectionalRelease = 0x03 ∷ []
extended_loop_code ext.Backward = 0x40 ∷ []
extended_loop_code ext.BackwardBiDirectional = 0x41 ∷ []
extended_loop_code ext.BackwardRelease = 0x42 ∷ []
extended_loop_code ext.BackwardBiDirectionalRelease = 0x43 ∷ []
extended_loop_code ext.BackwardOneShot = 0x7E ∷ []
extended_loop_code ext.OneShot = 0x7F ∷ []

abbrev pub extended_loop_byte : ExtendedLoopType → ℕ
extended_loop_byte t = get_or (extended_loop_code t) 0 0

abbrev pub extended_loop_type : Part ExtendedLoopType
extended_loop_type =
    tagged record {
      code = extended_loop_code;
      table = ext.Forward ∷ ext.BiDirectional ∷ ext.ForwardRelease ∷ ext.BiDirectionalRelease ∷ ext.Backward ∷ ext.BackwardBiDirectional ∷ ext.BackwardRelease ∷ ext.BackwardBiDirectionalRelease ∷ ext.BackwardOneShot ∷ ext.OneShot ∷ [];
      tag_back = elim [ ext.Forward ↦ λ r. refl | ext.BiDirectional ↦ λ r. refl | ext.ForwardRelease ↦ λ r. refl | ext.BiDirectionalRelease ↦ λ r. refl | ext.Backward ↦ λ r. refl | ext.BackwardBiDirectional ↦ λ r. refl | ext.BackwardRelease ↦ λ r. refl | ext.BackwardBiDirectionalRelease ↦ λ r. refl | ext.BackwardOneShot ↦ λ r. refl | ext.OneShot ↦ λ r. refl ];
      tag_seven = elim [ ext.Forward ↦ (lit< tt, tt) | ext.BiDirectional ↦ (lit< tt, tt) | ext.ForwardRelease ↦ (lit< tt, tt) | ext.BiDirectionalRelease ↦ (lit< tt, tt) | ext.Backward ↦ (lit< tt, tt) | ext.BackwardBiDirectional ↦ (lit< tt, tt) | ext.BackwardRelease ↦ (lit< tt, tt) | ext.BackwardBiDirectionalRelease ↦ (lit< tt, tt) | ext.BackwardOneShot ↦ (lit< tt, tt) | ext.OneShot ↦ (lit< tt, tt) ];
    }
