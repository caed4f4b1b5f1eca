-- Round trips by any converter that meets demand 2: what it writes of a valid recording is a recording of valid frames, so it is read again;
-- the way back writes each frame as `Returning` says, and as many octets as there were. Assumes nothing.
use mathlib.Core.Path.{◌≡◌, refl, sym, ap, ap₂, ◌∙◌, subst}
use mathlib.Core.Logic.{◌↔◌, ◌≢◌}
use mathlib.Core.Bool.{Bool, true, false}
use mathlib.Core.List.{List, [], ◌∷◌, ◌++◌, map, map-map}
use Prim.Native.Nat.{ℕ, ◌≤◌}
use native.Mathlib.Omega.{arith}
use lib.Dec.{leb}
use lib.ListN.{length, length-append, length-map}
use borrow.Author.Tests.{leb-true, leb-false}
use Rattle.bits.specs.Bits.{Octets, odd, digits, num, bits, packs, pack}
use Rattle.bits.proofs.BitLaws.{pack_octets, octets-append}
use Rattle.definitions.specs.Outcome.{ok}
use Rattle.definitions.specs.Frames.{Format, if1, if2, storage, Frame, header, layout}
use Rattle.definitions.specs.Reading.{format_numbered, format_number}
use Rattle.definitions.specs.Claims.{Valid}
use Rattle.recordings.specs.Placed.{Placed, refused_at, done}
use Rattle.recordings.specs.Recordings.{limit, file_header, read_recording, layouts, write_recording}
use Rattle.recordings.specs.Conversion.{carried, converted}
use Rattle.recordings.specs.Claims.{Every, IsRecording}
use Rattle.recordings.specs.ConversionClaims.{ValidRecording, Converter, CarriedOver, no_source, no_target, request_above, WritingRefusal, too_long, no_room, ConversionRefusal, argument, reading, writing, ConvertsFrames}
use Rattle.recordings.specs.Demand3.{RoundTrip, BackRefusal, no_room_back, TripRefusals}
use Rattle.recordings.proofs.Scan.{not_done}
use Rattle.recordings.proofs.Claims.{reads_recordings}
use Rattle.recordings.proofs.Returning.{carried-valid, round, round-valid, length-round, every_map, comes_back}

-- ---- what is written are octets

pub octets_packed : (s : List ℕ) → pack (bits s) ≡ s → Octets s
octets_packed s e = subst Octets e (pack_octets (bits s))

octets-header : (f : Format) → Octets (file_header f)
unfolding odd digits num bits packs pack
octets-header if1 = octets_packed [] refl
octets-header if2 = octets_packed [] refl
octets-header storage = octets_packed (file_header storage) refl

pub octets-layouts : (f : Format) (xs : List Frame) → Octets (layouts f xs)
unfolding layout
octets-layouts f [] = λ i. omega arith
octets-layouts f (x ∷ xs) = octets-append (layout f x) (layouts f xs) (pack_octets (header f x ++ x.core)) (octets-layouts f xs)

pub octets_recording : (f : Format) (xs : List Frame) → Octets (write_recording f xs)
unfolding write_recording
octets_recording f xs = octets-append (file_header f) (layouts f xs) (octets-header f) (octets-layouts f xs)

pub format_numbered_lem : (f : Format) → format_numbered (format_number f) ≡ ok f
format_numbered_lem if1 = refl
format_numbered_lem if2 = refl
format_numbered_lem storage = refl

pub same-number : (f g : Format) → format_number f ≡ format_number g → f ≡ g
same-number f g e =
    let p : ok f ≡ ok g = sym (format_numbered_lem f) ∙ ap format_numbered e ∙ format_numbered_lem g in
    cc

-- ---- the frames carried over are a recording

module _ (f g : Format) (r : ℕ) (hr : r ≤ 8) (s : List ℕ) (xs : List Frame) (o : Octets s) (v : ValidRecording f s xs) where
  is_recording : IsRecording f s xs
  is_recording = (reads_recordings.exactly f s xs o).0 v

  pub carried-over : length (converted f g r xs) ≤ limit → CarriedOver f g r xs (converted f g r xs)
  carried-over l =
      let ys = map (carried g f r) xs in
      record {
        octets = octets_recording g ys;
        valid =
            (reads_recordings.exactly g (write_recording g ys) ys (octets_recording g ys)).1
            (record { valid = every_map (Valid f) (Valid g) (carried g f r) (λ x. carried-valid g f r x hr) xs is_recording.valid; laid = refl; within = l });
      }

  back-is : converted g f r (map (carried g f r) xs) ≡ write_recording f (map (round f g r) xs)
  back-is = ap (write_recording f) (map-map (carried f g r) (carried g f r) xs)

  -- the way back writes as many octets as the recording has
  back-size : length (converted g f r (map (carried g f r) xs)) ≡ length s
  unfolding write_recording
  back-size =
      let ys = map (round f g r) xs in
      ap length back-is
      ∙ omega (arith, length-append (file_header f) (layouts f ys), length-append (file_header f) (layouts f xs), length-round f g r hr xs is_recording.valid)
      ∙ ap length (sym is_recording.laid)

-- a call that each of these conditions refuses, and that was not refused, is within the limit and has the room
pub fits : (size room : ℕ) (a : Placed (ℕ × List ℕ)) → ((n k at : ℕ) → WritingRefusal size room n k at → a ≡ refused_at n k at) → (y : ℕ × List ℕ) → a ≡ done y
    → (size ≤ limit) × (size ≤ room)
fits size room a h y e = go (leb size limit) (leb size room) refl refl
  where
    go : (b c : Bool) → leb size limit ≡ b → leb size room ≡ c → (size ≤ limit) × (size ≤ room)
    go false c p q = not_done 9 0 0 y (sym (h 9 0 0 (too_long (leb-false _ _ p))) ∙ e)
    go true false p q = not_done 10 0 0 y (sym (h 10 0 0 (no_room (leb-true _ _ p) (leb-false _ _ q))) ∙ e)
    go true true p q = (leb-true _ _ p, leb-true _ _ q)

-- ---- any converter that meets demand 2

module _ (c : Converter) (d : ConvertsFrames c) where
  -- what it writes is what the definition writes, since octets have one list of frames and are its layouts
  converts : (f g : Format) (r : ℕ) → r ≤ 8 → (s : List ℕ) (xs : List Frame) → Octets s → ValidRecording f s xs → (room : ℕ)
      → length (converted f g r xs) ≤ limit → length (converted f g r xs) ≤ room
      → c (format_number f) (format_number g) r s room ≡ done (length xs, converted f g r xs)
  converts f g r hr s xs o v room l m =
      let w = d.writes f g r hr s xs room o v l m in
      w.1 ∙ ap (λ u. done (length xs, u)) ((reads_recordings.exactly g w.0 (map (carried g f r) xs) w.2.octets).0 w.2.valid).laid

  -- of a valid recording only the writing is refused
  refused-writing : (f g : Format) (r : ℕ) → r ≤ 8 → (s : List ℕ) (xs : List Frame) → Octets s → ValidRecording f s xs → (room n k at : ℕ)
      → (c (format_number f) (format_number g) r s room ≡ refused_at n k at) ↔ WritingRefusal (length (converted f g r xs)) room n k at
  refused-writing f g r hr s xs o v room n k at = (
    (λ e. only n k at ((d.refuses (format_number f) (format_number g) r s room n k at o).0 e)),
    (λ w. (d.refuses (format_number f) (format_number g) r s room n k at o).1 (writing f g refl refl hr xs v w)),
  )
    where
      only : (n k at : ℕ) → ConversionRefusal (format_number f) (format_number g) r s room n k at → WritingRefusal (length (converted f g r xs)) room n k at
      only n k at (argument (no_source p)) = absurd (p f refl)
      only n k at (argument (no_target p)) = absurd (p g refl)
      only n k at (argument (request_above l)) = absurd (omega arith)
      only n k at (reading f' g' p q r' e) = not_done n k at xs (sym e ∙ ap (λ f. read_recording f s) (sym (same-number f f' p)) ∙ v)
      only n k at (writing f' g' p q r' xs' v' w) =
          let e : done xs' ≡ done xs = sym v' ∙ ap (λ f. read_recording f s) (sym (same-number f f' p)) ∙ v in
          let x : xs' ≡ xs = cc in
          subst (λ m. WritingRefusal m room n k at)
          (ap₂ (λ f g. length (converted f g r xs')) (sym (same-number f f' p)) (sym (same-number g g' q)) ∙ ap (λ xs. length (converted f g r xs)) x) w

  -- what a call that was not refused wrote
  wrote : (f g : Format) (r : ℕ) → r ≤ 8 → (s : List ℕ) (xs : List Frame) → Octets s → ValidRecording f s xs → (room : ℕ) (y : ℕ × List ℕ)
      → c (format_number f) (format_number g) r s room ≡ done y → (length (converted f g r xs) ≤ limit) × (y.1 ≡ converted f g r xs)
  wrote f g r hr s xs o v room y h =
      let i = fits _ room _ (λ n k at. (refused-writing f g r hr s xs o v room n k at).1) y h in
      let z : done y ≡ done (length xs, converted f g r xs) = sym h ∙ converts f g r hr s xs o v room i.0 i.1 in
      let u : y ≡ (length xs, converted f g r xs) = cc in
      (i.0, ap (λ (y : ℕ × List ℕ). y.1) u)

  -- ---- the round trip

  pub trip-refusals : (f g : Format) → f ≢ g → (r : ℕ) → r ≤ 8 → (s : List ℕ) (xs : List Frame) → Octets s → ValidRecording f s xs → TripRefusals c f g r s xs
  trip-refusals f g n r hr s xs o v = record {
    out = refused-writing f g r hr s xs o v;
    home = λ lent y h room n k at.
        let w = wrote f g r hr s xs o v lent y h in
        let a = carried-over f g r hr s xs o v w.0 in
        let i = refused-writing g f r hr (converted f g r xs) (map (carried g f r) xs) a.octets a.valid room n k at in
        let e : c (format_number g) (format_number f) r y.1 room ≡ c (format_number g) (format_number f) r (converted f g r xs) room =
        ap (λ s. c (format_number g) (format_number f) r s room) w.1 in (
          (λ p. only n k at room (i.0 (sym e ∙ p))),
          (λ p. e ∙ i.1 (back n k at room p)),
        );
  }
    where
      only : (n k at room : ℕ) → WritingRefusal (length (converted g f r (map (carried g f r) xs))) room n k at → BackRefusal (length s) room n k at
      only n k at room (too_long l) = absurd (omega (arith, back-size f g r hr s xs o v, (is_recording f g r hr s xs o v).within))
      only n k at room (no_room l m) = no_room_back (omega (arith, back-size f g r hr s xs o v))

      back : (n k at room : ℕ) → BackRefusal (length s) room n k at → WritingRefusal (length (converted g f r (map (carried g f r) xs))) room n k at
      back n k at room (no_room_back l) =
          no_room (omega (arith, back-size f g r hr s xs o v, (is_recording f g r hr s xs o v).within)) (omega (arith, back-size f g r hr s xs o v))

  pub round_trip : (f g : Format) → f ≢ g → (r : ℕ) → r ≤ 8 → (s : List ℕ) (xs : List Frame) → Octets s → ValidRecording f s xs
      → length (converted f g r xs) ≤ limit → RoundTrip c f g r s xs
  round_trip f g n r hr s xs o v l =
      let ys = map (carried g f r) xs in
      let zs = map (round f g r) xs in
      let a = is_recording f g r hr s xs o v in
      let b = carried-over f g r hr s xs o v l in
      let ws : Every (Valid f) (map (round f g r) xs) = every_map (Valid f) (Valid f) (round f g r) (λ x. round-valid f g r x hr) xs a.valid in
      let k = back-size f g r hr s xs o v in
      let back = comes_back f g n r xs a.valid in
      record {
        there = converted f g r xs;
        out = λ room m. converts f g r hr s xs o v room l m;
        back = write_recording f zs;
        home = λ room m.
            converts g f r hr (converted f g r xs) ys b.octets b.valid room (omega (arith, k, a.within)) (omega (arith, k))
            ∙ ap₂ (λ i w. done (i, w)) (length-map xs (carried g f r)) (back-is f g r hr s xs o v);
        unchanged = (
          (λ p. back.0 (reads_recordings.unique f s zs xs o (record { valid = ws; laid = sym p; within = a.within }) a)),
          (λ p. ap (write_recording f) (back.1 p) ∙ sym a.laid),
        );
      }
