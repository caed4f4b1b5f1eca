-- What the two calls of a round trip make together; demand 3 then says what it is. Assumes nothing.
use mathlib.Core.Path.{◌≡◌, refl, sym, ap, ap₂, ◌∙◌}
use mathlib.Core.Logic.{◌↔◌, ◌≢◌}
use mathlib.Core.List.{List, ◌++◌}
use Prim.Native.Nat.{ℕ, ◌≤◌}
use lib.ListN.{length, take, drop}
use lib.Seq.{take_at}
use Rattle.bits.specs.Bits.{Octets}
use Rattle.definitions.specs.Frames.{Format, Frame}
use Rattle.definitions.specs.Reading.{format_number}
use Rattle.recordings.specs.Placed.{Placed, refused_at, done, and_then_at}
use Rattle.recordings.specs.Recordings.{limit}
use Rattle.recordings.specs.Conversion.{converted, convert_call, counted_at, buffer_after}
use Rattle.recordings.proofs.Scan.{not_done}
use Rattle.recordings.specs.ConversionClaims.{ValidRecording}
use Rattle.recordings.specs.Demand3.{TripRefusals}
use Rattle.recordings.proofs.Trips.{fits}
use Rattle.recordings.proofs.Demand3.{demand_three}
use Rattle.recording_reader.specs.Answers.{counts_of}
use Rattle.recording_reader.specs.declared.Counts.{Counts}
use Rattle.recording_reader.specs.declared.RefusedAt.{RefusedAt}
use Rattle.std.specs.Prelude.{Result}
use Rattle.converter.specs.Output.{IntoBuffer}
use Rattle.converter.proofs.CallLaws.{refused_is}
use Rattle.round_trip.specs.Trip.{back_call, Returned, TripRefusal, first_call, second_call, MakesTrip}

-- which of the two calls of a valid recording is refused
module _ (f g : Format) (d : f ≢ g) (r : ℕ) (hr : r ≤ 8) (s : List ℕ) (xs : List Frame) (o : Octets s) (v : ValidRecording f s xs) (lent room : ℕ) where
  abbrev there : Placed (ℕ × List ℕ)
  there = convert_call (format_number f) (format_number g) r s lent

  abbrev home : ℕ × List ℕ → Placed (ℕ × List ℕ)
  home y = convert_call (format_number g) (format_number f) r y.1 room

  rules : TripRefusals convert_call f g r s xs
  rules = demand_three.refusals f g d r hr s xs o v

  trip-refused : (n k at : ℕ) (c : Placed (ℕ × List ℕ)) → there ≡ c → and_then_at c home ≡ refused_at n k at
      → TripRefusal (length (converted f g r xs)) lent (length s) room n k at
  trip-refused n k at (refused_at i j p) e h = first_call ((rules.out lent n k at).0 (e ∙ h))
  trip-refused n k at (done y) e h =
      let i = fits _ lent there (λ n k at. (rules.out lent n k at).1) y e in
      second_call i.0 i.1 ((rules.home lent y e room n k at).0 h)

  refused-trip : (n k at : ℕ) → TripRefusal (length (converted f g r xs)) lent (length s) room n k at → and_then_at there home ≡ refused_at n k at
  refused-trip n k at (first_call w) = ap (λ c. and_then_at c home) ((rules.out lent n k at).1 w)
  refused-trip n k at (second_call l m b) =
      let e = (demand_three.trip f g d r hr s xs o v l).out lent m in
      ap (λ c. and_then_at c home) e ∙ (rules.home lent _ e room n k at).1 b

-- the promise for every input gives the one of demand 3
module _ (from to request : ℕ) (s mid₀ mid out₀ out : List ℕ) (a : Result Counts RefusedAt) (o : Octets s)
    (answer : counts_of a ≡ counted_at (back_call from to request s (length mid₀) (length out₀)))
    (middle : mid ≡ buffer_after (convert_call from to request s (length mid₀)) mid₀)
    (output : out ≡ buffer_after (back_call from to request s (length mid₀) (length out₀)) out₀) where
  returned : (f g : Format) → f ≢ g → from ≡ format_number f → to ≡ format_number g → request ≤ 8 → (xs : List Frame) → ValidRecording f s xs
      → length (converted f g request xs) ≤ limit → length (converted f g request xs) ≤ length mid₀ → length s ≤ length out₀
      → Returned f request s xs out₀ out a
  returned f g n ef eg r xs v l m k =
      let t = demand_three.trip f g n request r s xs o v l in
      let whole : back_call from to request s (length mid₀) (length out₀) ≡ done (length xs, t.back) =
      ap₂ (λ i j. back_call i j request s (length mid₀) (length out₀)) ef eg
      ∙ ap (λ c. and_then_at c (λ y. convert_call (format_number g) (format_number f) request y.1 (length out₀))) (t.out (length mid₀) m)
      ∙ t.home (length out₀) k in
      record {
        back = t.back;
        answer = answer ∙ ap counted_at whole;
        output = output ∙ ap (λ c. buffer_after c out₀) whole;
        unchanged = t.unchanged;
      }

  refusals : (f g : Format) → f ≢ g → from ≡ format_number f → to ≡ format_number g → request ≤ 8 → (xs : List Frame) → ValidRecording f s xs → (n k at : ℕ)
      → (counts_of a ≡ refused_at n k at) ↔ TripRefusal (length (converted f g request xs)) (length mid₀) (length s) (length out₀) n k at
  refusals f g d ef eg r xs v n k at =
      let e = ap₂ (λ i j. back_call i j request s (length mid₀) (length out₀)) ef eg in (
        (λ h. trip-refused f g d request r s xs o v (length mid₀) (length out₀) n k at _ refl (sym e ∙ refused_is _ n k at (sym h ∙ answer))),
        (λ p. answer ∙ ap counted_at (e ∙ refused-trip f g d request r s xs o v (length mid₀) (length out₀) n k at p)),
      )

  pub makes_trip : MakesTrip from to request s mid₀ mid out₀ out a
  makes_trip = record { answer = answer; middle = middle; output = output; returns = returned; refusals = refusals }

-- the first call was refused
pub stays : (from to request : ℕ) (s mid₀ mid out : List ℕ) (a : Result Counts RefusedAt) (n k at : ℕ) → Octets s
    → IntoBuffer (convert_call from to request s (length mid₀)) mid₀ mid a → counts_of a ≡ refused_at n k at → MakesTrip from to request s mid₀ mid out out a
stays from to request s mid₀ mid out a n k at o i h =
    let e = refused_is (convert_call from to request s (length mid₀)) n k at (sym h ∙ i.answer) in
    let b : back_call from to request s (length mid₀) (length out) ≡ refused_at n k at = ap (λ c. and_then_at c (λ y. convert_call to from request y.1 (length out))) e in
    makes_trip from to request s mid₀ mid out out a o (h ∙ ap counted_at (sym b)) i.buffer (ap (λ c. buffer_after c out) (sym b))

-- the first call wrote m octets
record Wrote (c : Placed (ℕ × List ℕ)) (k m : ℕ) : Type 0 where
  pub w : List ℕ
  pub is : c ≡ done (k, w)
  pub many : length w ≡ m

wrote : (c : Placed (ℕ × List ℕ)) (k m : ℕ) → done (k, m) ≡ counted_at c → Wrote c k m
wrote (refused_at n j p) k m h = not_done n j p _ (sym h)
wrote (done y) k m h =
    let p : ◌≡◌ {A = ℕ × ℕ} (k, m) (y.0, length y.1) = cc in
    record { w = y.1; is = ap (λ j. done (j, y.1)) (sym (ap (λ (z : ℕ × ℕ). z.0) p)); many = sym (ap (λ (z : ℕ × ℕ). z.1) p) }

module _ (from to request : ℕ) (s mid₀ mid : List ℕ) (a : Result Counts RefusedAt) (k m : ℕ)
    (i : IntoBuffer (convert_call from to request s (length mid₀)) mid₀ mid a) (h : counts_of a ≡ done (k, m)) where
  written : Wrote (convert_call from to request s (length mid₀)) k m
  written = wrote (convert_call from to request s (length mid₀)) k m (sym h ∙ i.answer)

  mid_is : mid ≡ written.w ++ drop (length written.w) mid₀
  mid_is = i.buffer ∙ ap (λ c. buffer_after c mid₀) written.is

  -- the second call was made
  pub comes_back : (out₀ out : List ℕ) (b : Result Counts RefusedAt) → Octets s → IntoBuffer (convert_call to from request (take m mid) (length out₀)) out₀ out b
      → MakesTrip from to request s mid₀ mid out₀ out b
  comes_back out₀ out b o j =
      let t : take m mid ≡ written.w = ap (take m) mid_is ∙ take_at written.w (drop (length written.w) mid₀) m written.many in
      let e : back_call from to request s (length mid₀) (length out₀) ≡ convert_call to from request (take m mid) (length out₀) =
      ap (λ c. and_then_at c (λ y. convert_call to from request y.1 (length out₀))) written.is
      ∙ ap (λ w. convert_call to from request w (length out₀)) (sym t) in
      makes_trip from to request s mid₀ mid out₀ out b o (j.answer ∙ ap counted_at (sym e)) i.buffer (j.buffer ∙ ap (λ c. buffer_after c out₀) (sym e))
