-- The conversion meets demand 2: what it writes is the layout of the frames carried over, and each is valid, so it is read as them; and its
-- tests stand in the order in which it refuses. Assumes nothing.
use mathlib.Core.Path.{◌≡◌, refl, sym, ap, ◌∙◌, subst}
use mathlib.Core.Logic.{◌≢◌}
use mathlib.Core.Bool.{Bool, true, false}
use mathlib.Core.List.{List}
use Prim.Native.Nat.{ℕ, zero, suc, ◌≤◌}
use native.Mathlib.Omega.{arith}
use lib.Dec.{leb}
use lib.ListN.{length}
use borrow.Author.Tests.{leb-true, leb-false, le-leb, lt-leb}
use Rattle.definitions.specs.Outcome.{Outcome, refused, ok}
use Rattle.definitions.specs.Frames.{Format, if1, if2, storage, Frame}
use Rattle.definitions.specs.Reading.{format_numbered, format_number}
use Rattle.recordings.specs.Placed.{Placed, refused_at, done, unless_at, and_then_at, placed}
use Rattle.recordings.specs.Recordings.{limit, read_recording}
use Rattle.recordings.specs.Conversion.{converted, conversion, convert_call}
use Rattle.recordings.specs.ConversionClaims.{ValidRecording, OutOfRange, no_source, no_target, request_above, WritingRefusal, too_long, no_room, ConversionRefusal, argument, reading, writing, ConvertsFrames}
use Rattle.recordings.proofs.Trips.{format_numbered_lem, carried-over}

-- ---- a format's number

number-above : (f : Format) → 1 ≤ format_number f
number-above if1 = omega arith
number-above if2 = omega arith
number-above storage = omega arith

number-below : (f : Format) → format_number f ≤ 3
number-below if1 = omega arith
number-below if2 = omega arith
number-below storage = omega arith

-- what `format_numbered` says of n
abbrev pub Named : ℕ → Outcome Format → Type 0
Named n (refused m) = (m ≡ 11) × ((f : Format) → n ≢ format_number f)
Named n (ok f) = n ≡ format_number f

pub named : (n : ℕ) → Named n (format_numbered n)
named zero = (refl, (λ f e. omega (arith, number-above f, e)))
named (suc zero) = refl
named (suc (suc zero)) = refl
named (suc (suc (suc zero))) = refl
named (suc (suc (suc (suc n)))) = (refl, (λ f e. omega (arith, number-below f, e)))

-- ---- what the tests refuse

module _ (from to request : ℕ) (s : List ℕ) (room : ℕ) where
  abbrev fits : ℕ × List ℕ → Placed (ℕ × List ℕ)
  fits y = unless_at 10 (leb (length y.1) room) (done y)

  abbrev plans : (f g : Format) → List Frame → Placed (ℕ × List ℕ)
  plans f g xs = unless_at 9 (leb (length (converted f g request xs)) limit) (done (length xs, converted f g request xs))

  -- an answer's refusal, if it is one, has its reason
  abbrev Reason : Placed (ℕ × List ℕ) → Type 0
  Reason (refused_at n k at) = ConversionRefusal from to request s room n k at
  Reason (done y) = Unit {0}

  module _ (f g : Format) (p : from ≡ format_number f) (q : to ≡ format_number g) where
    room_reason : (xs : List Frame) → request ≤ 8 → ValidRecording f s xs → length (converted f g request xs) ≤ limit
        → (b : Bool) → leb (length (converted f g request xs)) room ≡ b → Reason (unless_at 10 b (done (length xs, converted f g request xs)))
    room_reason xs r v l false e = writing f g p q r xs v (no_room l (leb-false _ _ e))
    room_reason xs r v l true e = tt

    size_reason : (xs : List Frame) → request ≤ 8 → ValidRecording f s xs → (b : Bool) → leb (length (converted f g request xs)) limit ≡ b
        → Reason (and_then_at (unless_at 9 b (done (length xs, converted f g request xs))) fits)
    size_reason xs r v false e = writing f g p q r xs v (too_long (leb-false _ _ e))
    size_reason xs r v true e = room_reason xs r v (leb-true _ _ e) (leb (length (converted f g request xs)) room) refl

    read_reason : request ≤ 8 → (w : Placed (List Frame)) → read_recording f s ≡ w → Reason (and_then_at (and_then_at w (plans f g)) fits)
    read_reason r (refused_at n k at) e = reading f g p q r e
    read_reason r (done xs) e = size_reason xs r e (leb (length (converted f g request xs)) limit) refl

    request_reason : (b : Bool) → leb request 8 ≡ b → Reason (unless_at 11 b (and_then_at (and_then_at (read_recording f s) (plans f g)) fits))
    request_reason false e = argument (request_above (leb-false _ _ e))
    request_reason true e = read_reason (leb-true _ _ e) (read_recording f s) refl

  reason : Reason (convert_call from to request s room)
  unfolding convert_call conversion
  reason = go (format_numbered from) (format_numbered to) (named from) (named to)
    where
      go : (a b : Outcome Format) → Named from a → Named to b
          → Reason (placed a 0 0 (λ f. placed b 0 0 (λ g. unless_at 11 (leb request 8) (and_then_at (and_then_at (read_recording f s) (plans f g)) fits))))
      go (refused m) b p q = subst (λ n. ConversionRefusal from to request s room n 0 0) (sym p.0) (argument (no_source p.1))
      go (ok f) (refused m) p q = subst (λ n. ConversionRefusal from to request s room n 0 0) (sym q.0) (argument (no_target q.1))
      go (ok f) (ok g) p q = request_reason f g p q (leb request 8) refl

  -- ---- what is refused for such a reason

  passes : (f g : Format) → from ≡ format_number f → to ≡ format_number g → request ≤ 8
      → convert_call from to request s room ≡ and_then_at (and_then_at (read_recording f s) (plans f g)) fits
  unfolding convert_call conversion
  passes f g p q r = rw (p, q, format_numbered_lem f, format_numbered_lem g, le-leb request 8 r)

  plans-read : (f g : Format) → from ≡ format_number f → to ≡ format_number g → request ≤ 8 → (xs : List Frame) → ValidRecording f s xs
      → convert_call from to request s room ≡ and_then_at (plans f g xs) fits
  plans-read f g p q r xs v = passes f g p q r ∙ ap (λ w. and_then_at (and_then_at w (plans f g)) fits) v

  unranged : OutOfRange from to request → convert_call from to request s room ≡ refused_at 11 0 0
  unfolding convert_call
  unranged h = go (format_numbered from) (format_numbered to) (leb request 8) (named from) (named to) refl h
    where
      go : (a b : Outcome Format) (c : Bool) → Named from a → Named to b → leb request 8 ≡ c → OutOfRange from to request
          → placed a 0 0 (λ f. placed b 0 0 (λ g. unless_at 11 c (and_then_at (conversion f g request s) fits))) ≡ refused_at 11 0 0
      go (refused m) b c p q e h = ap (λ n. refused_at n 0 0) p.0
      go (ok f) (refused m) c p q e h = ap (λ n. refused_at n 0 0) q.0
      go (ok f) (ok g) false p q e h = refl
      go (ok f) (ok g) true p q e (no_source n) = absurd (n f p)
      go (ok f) (ok g) true p q e (no_target n) = absurd (n g q)
      go (ok f) (ok g) true p q e (request_above l) = absurd (omega (arith, leb-true request 8 e))

  sized : (f g : Format) (xs : List Frame) (n k at : ℕ) → WritingRefusal (length (converted f g request xs)) room n k at → and_then_at (plans f g xs) fits ≡ refused_at n k at
  sized f g xs n k at (too_long l) = rw (lt-leb _ _ l)
  sized f g xs n k at (no_room l m) = rw (le-leb _ _ l, lt-leb _ _ m)

  for_reason : (n k at : ℕ) → ConversionRefusal from to request s room n k at → convert_call from to request s room ≡ refused_at n k at
  for_reason n k at (argument a) = unranged a
  for_reason n k at (reading f g p q r e) = passes f g p q r ∙ ap (λ w. and_then_at (and_then_at w (plans f g)) fits) e
  for_reason n k at (writing f g p q r xs v w) = plans-read f g p q r xs v ∙ sized f g xs n k at w

  with_reason : (n k at : ℕ) → convert_call from to request s room ≡ refused_at n k at → ConversionRefusal from to request s room n k at
  with_reason n k at h = subst Reason h reason

pub converts_frames : ConvertsFrames convert_call
converts_frames = record {
  writes = λ f g r hr s xs room o h l m. (
    converted f g r xs,
    plans-read (format_number f) (format_number g) r s room f g refl refl hr xs h ∙ rw (le-leb _ _ l, le-leb _ _ m),
    carried-over f g r hr s xs o h l,
  );
  refuses = λ from to request s room n k at o. (with_reason from to request s room n k at, for_reason from to request s room n k at);
}
