use Rattle.std.proofs.Common.{◌≡◌, ℕ, refl}
use Rattle.pile.specs.declared.faults.PileFault.{PileFault}
use Rattle.pile.specs.declared.faults.PileFault.TheVariants.{Full, DrawTooLarge as PileDrawTooLarge, TakesNoLeaves, NoneLive}
use Rattle.pile.specs.declared.faults.OpeningFault.TheVariants.{Bound, ClassSet, FrontSize}
use Rattle.keys.specs.declared.faults.KeyFault.TheVariants.{Unlawful as KeyUnlawful, Short}
use Rattle.sources.specs.declared.faults.SourceFault.TheVariants.{Radix, NoneLeft, BadRecord, OtherRadix}
use Rattle.roster.specs.declared.faults.CapacityFault.TheVariants.{Capacity as OverCapacity}
use Rattle.roster.specs.declared.faults.RosterFault.TheVariants.{Unlawful, EntryOpen, AlreadyLive, NoRoom, OtherSlip, DrawTooLarge, NotLive, Pile}
use Rattle.logs.specs.Faults.{fault_refusal, number_first, replay_fault_text}
use Rattle.logs.specs.declared.faults.LogFault.TheVariants.{Room, TooLong, Cut, UnknownMark, TooManyReadings, BytesAfterEnd}
use Rattle.logs.specs.declared.faults.ReplayFault.{ReplayFault}
use Rattle.logs.specs.declared.faults.ReplayFault.TheVariants.{Log, Capacity, Opening, Key, Roster, Source, TapeLeft}
use Rattle.logs.proofs.laws.words_begin_with_numbers.Goals as goal

begins : (fault : ReplayFault) → number_first (replay_fault_text fault) ≡ (fault_refusal 0 fault).number
begins (Log Room) = refl
begins (Log TooLong) = refl
begins (Log Cut) = refl
begins (Log UnknownMark) = refl
begins (Log TooManyReadings) = refl
begins (Log BytesAfterEnd) = refl
begins (Capacity OverCapacity) = refl
begins (Opening Bound) = refl
begins (Opening ClassSet) = refl
begins (Opening FrontSize) = refl
begins (Key KeyUnlawful) = refl
begins (Key Short) = refl
begins (Roster Unlawful) = refl
begins (Roster EntryOpen) = refl
begins (Roster AlreadyLive) = refl
begins (Roster NoRoom) = refl
begins (Roster OtherSlip) = refl
begins (Roster DrawTooLarge) = refl
begins (Roster NotLive) = refl
begins (Roster (Pile Full)) = refl
begins (Roster (Pile PileDrawTooLarge)) = refl
begins (Roster (Pile TakesNoLeaves)) = refl
begins (Roster (Pile NoneLive)) = refl
begins (Source (Radix byte)) = refl
begins (Source (NoneLeft byte)) = refl
begins (Source (BadRecord byte)) = refl
begins (Source (OtherRadix byte)) = refl
begins (TapeLeft byte) = refl

pub returns : goal.returns
returns c = begins
