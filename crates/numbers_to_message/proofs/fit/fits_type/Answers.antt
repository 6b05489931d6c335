-- `numbers_to_message::fit::fits_type` meets its contract: each arm is whether the number says a value of its type.
-- Assumes nothing.
use mathlib.Core.Path.{◌≡◌, refl, ap, ◌∙◌}
use mathlib.Core.Option.{Option, none, some}
use lib.Dec.{eqb}
use Rattle.util.specs.Options.{map_option}
use Rattle.std.specs.Prelude as std
use Rattle.numbers_to_message.specs.declared.fit.NumberType.TheVariants.{U8, U16, U32, I8, I16, Flag, Device, RequestedLoop, TransmittedLoop, LoopType, ExtendedLoopType, FileType, ReferenceType, BankOrNone}
use Rattle.numbers_to_message.specs.Values.{value, spelled}
use Rattle.numbers_to_message.specs.Fits.{is_some}
use Rattle.numbers_to_message.proofs.Laws.{fit_as, pick_some}
use Rattle.numbers_to_message.proofs.Options.{some_is}
use Rattle.numbers_to_message.proofs.fit.fits_type.Goals as goal

-- a number is that of a file type where it has 32 bits
as_wide : {A B : Type 0} (f : A → B) (o : Option A) → is_some o ≡ is_some (map_option f o)
as_wide f none = refl
as_wide f (some a) = refl

pub returns-in-U8 : goal.returns-in-U8
returns-in-U8 c = fit_as c.args.x c.in-U8.is (c.is_some.ensures ∙ ap std.is_some c.u8_of.ensures ∙ some_is (value U8 c.args.x))

pub returns-in-U16 : goal.returns-in-U16
returns-in-U16 c = fit_as c.args.x c.in-U16.is (c.is_some-in-U16.ensures ∙ ap std.is_some c.u16_of.ensures ∙ some_is (value U16 c.args.x))

pub returns-in-U32 : goal.returns-in-U32
returns-in-U32 c = fit_as c.args.x c.in-U32.is (c.is_some-in-U32.ensures ∙ ap std.is_some c.u32_of.ensures ∙ some_is (value U32 c.args.x))

pub returns-in-I8 : goal.returns-in-I8
returns-in-I8 c = fit_as c.args.x c.in-I8.is (c.is_some-in-I8.ensures ∙ ap std.is_some c.i8_of.ensures ∙ some_is (value I8 c.args.x))

pub returns-in-I16 : goal.returns-in-I16
returns-in-I16 c = fit_as c.args.x c.in-I16.is (c.is_some-in-I16.ensures ∙ ap std.is_some c.i16_of.ensures ∙ some_is (value I16 c.args.x))

pub returns-in-Flag : goal.returns-in-Flag
returns-in-Flag c = fit_as c.args.x c.in-Flag.is (c.is_some-in-Flag.ensures ∙ ap std.is_some c.flag_of.ensures ∙ some_is (value Flag c.args.x))

pub returns-in-Device : goal.returns-in-Device
returns-in-Device c = fit_as c.args.x c.in-Device.is (c.is_some-in-Device.ensures ∙ ap std.is_some c.device_of.ensures ∙ some_is (value Device c.args.x))

pub returns-in-RequestedLoop : goal.returns-in-RequestedLoop
returns-in-RequestedLoop c = fit_as c.args.x c.in-RequestedLoop.is (c.is_some-in-RequestedLoop.ensures ∙ ap std.is_some c.loop_of.ensures ∙ some_is (value RequestedLoop c.args.x))

pub returns-in-TransmittedLoop : goal.returns-in-TransmittedLoop
returns-in-TransmittedLoop c = fit_as c.args.x c.in-TransmittedLoop.is (c.is_some-in-TransmittedLoop.ensures ∙ ap std.is_some c.loop_of-in-TransmittedLoop.ensures ∙ some_is (value TransmittedLoop c.args.x))

pub returns-in-LoopType : goal.returns-in-LoopType
returns-in-LoopType c = fit_as c.args.x c.in-LoopType.is (c.is_some-in-LoopType.ensures ∙ ap std.is_some c.loop_type_of.ensures ∙ some_is (value LoopType c.args.x))

pub returns-in-ExtendedLoopType : goal.returns-in-ExtendedLoopType
returns-in-ExtendedLoopType c = fit_as c.args.x c.in-ExtendedLoopType.is (c.is_some-in-ExtendedLoopType.ensures ∙ ap std.is_some c.extended_loop_type_of.ensures ∙ some_is (value ExtendedLoopType c.args.x))

pub returns-in-FileType : goal.returns-in-FileType
returns-in-FileType c =
    fit_as c.args.x c.in-FileType.is (c.is_some-in-FileType.ensures ∙ ap std.is_some c.u32_of-in-FileType.ensures ∙ some_is (value U32 c.args.x) ∙ as_wide spelled (value U32 c.args.x))

pub returns-in-ReferenceType : goal.returns-in-ReferenceType
returns-in-ReferenceType c = fit_as c.args.x c.in-ReferenceType.is (c.is_some-in-ReferenceType.ensures ∙ ap std.is_some c.reference_type_of.ensures ∙ some_is (value ReferenceType c.args.x))

pub returns-in-BankOrNone : goal.returns-in-BankOrNone
returns-in-BankOrNone c = fit_as c.args.x c.in-BankOrNone.is (c.is_some-in-BankOrNone.ensures ∙ ap std.is_some c.bank_of.ensures ∙ some_is (value BankOrNone c.args.x))

pub returns-in-U64 : goal.returns-in-U64
returns-in-U64 c = fit_as c.args.x c.in-U64.is refl

pub returns-in-Zero : goal.returns-in-Zero
returns-in-Zero c = fit_as c.args.x c.in-Zero.is (pick_some (eqb c.args.x 0) tt)

pub returns-in-One : goal.returns-in-One
returns-in-One c = fit_as c.args.x c.in-One.is (pick_some (eqb c.args.x 1) tt)

pub returns-in-Two : goal.returns-in-Two
returns-in-Two c = fit_as c.args.x c.in-Two.is (pick_some (eqb c.args.x 2) tt)

pub returns-in-Three : goal.returns-in-Three
returns-in-Three c = fit_as c.args.x c.in-Three.is (pick_some (eqb c.args.x 3) tt)
