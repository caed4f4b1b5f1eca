-- Demand 3, of every converter that meets demand 2, and so of the definitions' conversion: equal recordings have equal frames, since a recording
-- has one list of frames and is its layouts; the round trips and the CRC are in Trips and Apart. Assumes nothing.
use mathlib.Core.Path.{◌≡◌, sym, ap, ◌∙◌, subst}
use mathlib.Core.Logic.{◌↔◌}
use mathlib.Core.List.{List}
use Prim.Native.Nat.{ℕ}
use Rattle.bits.specs.Bits.{Octets}
use Rattle.definitions.specs.Frames.{Format, Frame}
use Rattle.recordings.specs.Recordings.{write_recording}
use Rattle.recordings.specs.Conversion.{convert_call}
use Rattle.recordings.specs.Claims.{IsRecording}
use Rattle.recordings.proofs.Claims.{reads_recordings}
use Rattle.recordings.specs.ConversionClaims.{ValidRecording}
use Rattle.recordings.specs.Demand3.{Demand3, RestsOnDemand2}
use Rattle.recordings.proofs.Trips.{trip-refusals, round_trip}
use Rattle.recordings.proofs.Conversions.{converts_frames}
use Rattle.recordings.proofs.Apart.{guarded-apart}

same_recordings : (f : Format) (a b : List ℕ) (xs ys : List Frame) → Octets a → Octets b → ValidRecording f a xs → ValidRecording f b ys
    → (a ≡ b) ↔ (xs ≡ ys)
same_recordings f a b xs ys oa ob ha hb =
    let ra = (reads_recordings.exactly f a xs oa).0 ha in
    let rb = (reads_recordings.exactly f b ys ob).0 hb in (
      (λ e. reads_recordings.unique f a xs ys oa ra (subst (λ s. IsRecording f s ys) (sym e) rb)),
      (λ e. ra.laid ∙ ap (write_recording f) e ∙ sym rb.laid),
    )

pub rests_on_demand_two : RestsOnDemand2
rests_on_demand_two c d = record { same = same_recordings; trip = round_trip c d; refusals = trip-refusals c d; apart = guarded-apart }

pub demand_three : Demand3 convert_call
demand_three = rests_on_demand_two convert_call converts_frames
