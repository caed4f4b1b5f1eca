-- What the code's answers say: the papers' format and number for each case of an enum, and what a `Result` of them says.
use Rattle.std.specs.Prelude.{List, Bool, ℕ, Result, Ok, Err}
use Rattle.definitions.specs.Outcome.{Outcome, refused, ok}
use Rattle.definitions.specs.Frames as paper
use Rattle.frame.specs.declared.Format.{Format}
use Rattle.frame.specs.declared.Format.TheVariants.{If1, If2, Storage}
use Rattle.frame.specs.declared.Refusal.{Refusal}
use Rattle.frame.specs.declared.Refusal.TheVariants.{NoOctets, ReservedType, TooShort, OctetsAfter, SpareBit, FieldRange, CrcMismatch, StorageHeader, TooLong, OutputShort, ArgumentRange, NoCodecOrder, FqcReserved, NoSet, SetPresent, NotInSet, SubflowBuffer, SheetForm, SheetIncomplete, ConsoleFull}
use Rattle.frame.specs.declared.FrameHeader.{FrameHeader}

abbrev pub format_of : Format → paper.Format
format_of If1 = paper.if1
format_of If2 = paper.if2
format_of Storage = paper.storage

-- document 01, "Refused because of the input" (1 to 13) and "Refused because of the state" (14 to 17); document 02, h (23 and 24) and m (27)
abbrev pub number_of : Refusal → ℕ
number_of NoOctets = 1
number_of ReservedType = 2
number_of TooShort = 3
number_of OctetsAfter = 4
number_of SpareBit = 5
number_of FieldRange = 6
number_of CrcMismatch = 7
number_of StorageHeader = 8
number_of TooLong = 9
number_of OutputShort = 10
number_of ArgumentRange = 11
number_of NoCodecOrder = 12
number_of FqcReserved = 13
number_of NoSet = 14
number_of SetPresent = 15
number_of NotInSet = 16
number_of SubflowBuffer = 17
number_of SheetForm = 23
number_of SheetIncomplete = 24
number_of ConsoleFull = 27

-- the frame that a header and a core make
abbrev pub frame_with : FrameHeader → List Bool → paper.Frame
frame_with h core = paper.frame_by h.frame_type h.quality h.indication h.request core

-- what a call answers: what its value says, or the refusal's number
abbrev pub outcome_of : {A B : Type 0} → (A → B) → Result A Refusal → Outcome B
outcome_of says (Ok x) = ok (says x)
outcome_of says (Err e) = refused (number_of e)

abbrev pub format_found : Result Format Refusal → Outcome paper.Format
format_found = outcome_of format_of

-- the frame and the count; the core is where the call put or found it, by the frame's type
abbrev pub reading_of : (ℕ → List Bool) → Result (FrameHeader × ℕ) Refusal → Outcome (paper.Frame × ℕ)
reading_of core = outcome_of (λ r. (frame_with r.0 (core r.0.frame_type), r.1))

-- how many octets were written
abbrev pub built_of : Result ℕ Refusal → Outcome ℕ
built_of = outcome_of (λ n. n)
