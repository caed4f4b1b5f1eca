-- A call that makes one recording of two judges in the order in which its definition is written, so each answer is said by the tests in front of it.
-- What it makes is a valid recording, since the frames that are made of valid ones are valid. Assumes nothing.
use mathlib.Core.Path.{◌≡◌, refl, sym, ap, ◌∙◌, subst}
use mathlib.Core.Bool.{Bool, true, false}
use mathlib.Core.List.{List}
use Prim.Native.Nat.{ℕ, ◌≤◌, ◌<◌}
use native.Mathlib.Omega.{arith}
use lib.Dec.{leb}
use lib.ListN.{length}
use borrow.Author.Tests.{leb-true, leb-false, le-leb, lt-leb}
use Rattle.bits.specs.Bits.{Octets}
use Rattle.definitions.specs.Outcome.{Outcome, refused, ok}
use Rattle.definitions.specs.Frames.{Format, Frame}
use Rattle.definitions.specs.Reading.{format_numbered, format_number}
use Rattle.definitions.specs.Claims.{Valid}
use Rattle.recordings.specs.Placed.{Placed, refused_at, done, unless_at, placed}
use Rattle.recordings.specs.Recordings.{limit, read_recording, write_recording}
use Rattle.recordings.specs.Claims.{Every, IsRecording}
use Rattle.recordings.specs.ConversionClaims.{ValidRecording, WritingRefusal, too_long, no_room}
use Rattle.recordings.proofs.Claims.{reads_recordings}
use Rattle.recordings.proofs.Trips.{octets_recording, format_numbered_lem, same-number}
use Rattle.recordings.proofs.Conversions.{Named, named}
use Rattle.joins_spec.specs.Joined.{Joined, refused_in, made, in_recording}
use Rattle.joins_spec.specs.Joining.{written_into, join_call}
use Rattle.joins_spec.specs.Claims.{JoinCall, Makes, JoinedInto, JoinRefusal, no_format, first_refused, second_refused, writing, Joins}

pub not_made : {A B : Type 0} (i n k at : ℕ) (y : A) → made y ≡ refused_in i n k at → B
not_made i n k at y h = absurd (let z : ◌≡◌ {A = ℕ} 0 1 = cc in omega arith)

-- ---- what is written

module _ (f : Format) (zs : List Frame) (room : ℕ) where
  pub written-long : limit < length (write_recording f zs) → written_into f zs room ≡ refused_at 9 0 0
  written-long l = rw (lt-leb _ _ l)

  pub written-short : length (write_recording f zs) ≤ limit → room < length (write_recording f zs) → written_into f zs room ≡ refused_at 10 0 0
  written-short l m = rw (le-leb _ _ l, lt-leb _ _ m)

  pub written-done : length (write_recording f zs) ≤ limit → length (write_recording f zs) ≤ room
      → written_into f zs room ≡ done (length zs, write_recording f zs)
  written-done l m = rw (le-leb _ _ l, le-leb _ _ m)

  written-refused : (n k at : ℕ) → WritingRefusal (length (write_recording f zs)) room n k at → written_into f zs room ≡ refused_at n k at
  written-refused n k at (too_long l) = written-long l
  written-refused n k at (no_room l m) = written-short l m

-- ---- valid recordings

pub whole : (f : Format) (s : List ℕ) (xs : List Frame) → Octets s → ValidRecording f s xs → IsRecording f s xs
whole f s xs o v = (reads_recordings.exactly f s xs o).0 v

pub written-valid : (f : Format) (zs : List Frame) → Every (Valid f) zs → length (write_recording f zs) ≤ limit → ValidRecording f (write_recording f zs) zs
written-valid f zs v l =
    (reads_recordings.exactly f (write_recording f zs) zs (octets_recording f zs)).1 (record { valid = v; laid = refl; within = l })

-- ---- the call

module _ (combine : List Frame → List Frame → List Frame) (makes : Makes)
    (combined : (xs ys : List Frame) → makes xs ys (combine xs ys))
    (combined_only : (xs ys zs : List Frame) → makes xs ys zs → zs ≡ combine xs ys)
    (combined_valid : (f : Format) (xs ys : List Frame) → Every (Valid f) xs → Every (Valid f) ys → Every (Valid f) (combine xs ys)) where
  module _ (format : ℕ) (a b : List ℕ) (room : ℕ) (oa : Octets a) (ob : Octets b) where
    pub joined_into : (f : Format) → format ≡ format_number f → (xs ys zs : List Frame) → ValidRecording f a xs → ValidRecording f b ys → makes xs ys zs
        → length (write_recording f zs) ≤ limit → length (write_recording f zs) ≤ room
        → JoinedInto makes format a b room (length zs) (write_recording f zs)
    joined_into f p xs ys zs v w m l n =
        let u = combined_valid f xs ys (whole f a xs oa v).valid (whole f b ys ob w).valid in
        record {
          f = f;
          known = p;
          xs = xs;
          ys = ys;
          zs = zs;
          first = v;
          second = w;
          combined = m;
          frames = refl;
          octets = octets_recording f zs;
          valid = written-valid f zs (rw (combined_only xs ys zs m) u) l;
          fits = n;
        }

    abbrev writes : Format → List Frame → List Frame → Joined (ℕ × List ℕ)
    writes f xs ys = in_recording 0 (written_into f (combine xs ys) room) made

    abbrev reads : Format → Placed (List Frame) → Placed (List Frame) → Joined (ℕ × List ℕ)
    reads f u v = in_recording 0 u (λ xs. in_recording 1 v (writes f xs))

    -- ---- what an answer says

    abbrev Says : Joined (ℕ × List ℕ) → Type 0
    Says (refused_in i n k at) = JoinRefusal makes format a b room i n k at
    Says (made y) = JoinedInto makes format a b room y.0 y.1

    module _ (f : Format) (p : format ≡ format_number f) where
      written-says : (xs ys : List Frame) → ValidRecording f a xs → ValidRecording f b ys → Says (writes f xs ys)
      written-says xs ys v w = go (leb (length (write_recording f zs)) limit) (leb (length (write_recording f zs)) room) refl refl
        where
          zs : List Frame
          zs = combine xs ys

          refuses : {n k at : ℕ} → WritingRefusal (length (write_recording f zs)) room n k at → JoinRefusal makes format a b room 0 n k at
          refuses r = writing f p xs ys zs v w (combined xs ys) r

          go : (c d : Bool) → leb (length (write_recording f zs)) limit ≡ c → leb (length (write_recording f zs)) room ≡ d
              → Says (in_recording 0 (unless_at 9 c (unless_at 10 d (done (length zs, write_recording f zs)))) made)
          go false d e g = refuses (too_long (leb-false _ _ e))
          go true false e g = refuses (no_room (leb-true _ _ e) (leb-false _ _ g))
          go true true e g = joined_into f p xs ys zs v w (combined xs ys) (leb-true _ _ e) (leb-true _ _ g)

      second-says : (xs : List Frame) → ValidRecording f a xs → (u : Placed (List Frame)) → read_recording f b ≡ u → Says (in_recording 1 u (writes f xs))
      second-says xs v (refused_at n k at) e = second_refused f p xs v e
      second-says xs v (done ys) e = written-says xs ys v e

      first-says : (u : Placed (List Frame)) → read_recording f a ≡ u → Says (reads f u (read_recording f b))
      first-says (refused_at n k at) e = first_refused f p e
      first-says (done xs) e = second-says xs e (read_recording f b) refl

    said : Says (join_call combine format a b room)
    unfolding join_call
    said = go (format_numbered format) (named format)
      where
        go : (o : Outcome Format) → Named format o → Says (in_recording 0 (placed o 0 0 done) (λ f. reads f (read_recording f a) (read_recording f b)))
        go (refused m) p = subst (λ n. JoinRefusal makes format a b room 0 n 0 0) (sym p.0) (no_format p.1)
        go (ok f) p = first-says f p (read_recording f a) refl

    says : (w : Joined (ℕ × List ℕ)) → join_call combine format a b room ≡ w → Says w
    says w h = subst Says h said

    -- ---- what is answered on a condition

    passes : (f : Format) → format ≡ format_number f → join_call combine format a b room ≡ reads f (read_recording f a) (read_recording f b)
    unfolding join_call
    passes f p = rw (p, format_numbered_lem f)

    both : (f : Format) (xs ys zs : List Frame) → format ≡ format_number f → ValidRecording f a xs → ValidRecording f b ys → makes xs ys zs
        → join_call combine format a b room ≡ in_recording 0 (written_into f zs room) made
    both f xs ys zs p v w m = passes f p ∙ rw (v, w, combined_only xs ys zs m)

    for_refusal : (i n k at : ℕ) → JoinRefusal makes format a b room i n k at → join_call combine format a b room ≡ refused_in i n k at
    unfolding join_call
    for_refusal i n k at (no_format none) = go (format_numbered format) (named format)
      where
        go : (o : Outcome Format) → Named format o
            → in_recording 0 (placed o 0 0 done) (λ f. reads f (read_recording f a) (read_recording f b)) ≡ refused_in 0 11 0 0
        go (refused m) p = ap (λ n. refused_in 0 n 0 0) p.0
        go (ok f) p = absurd (none f p)
    for_refusal i n k at (first_refused f p e) = passes f p ∙ rw e
    for_refusal i n k at (second_refused f p xs v e) = passes f p ∙ rw (v, e)
    for_refusal i n k at (writing f p xs ys zs v w m r) = both f xs ys zs p v w m ∙ rw (written-refused f zs room n k at r)

    for_value : (k : ℕ) (w : List ℕ) → JoinedInto makes format a b room k w → join_call combine format a b room ≡ made (k, w)
    for_value k w j =
        let r = whole j.f w j.zs j.octets j.valid in
        let n = ap length r.laid in
        both j.f j.xs j.ys j.zs j.known j.first j.second j.combined
        ∙ rw (written-done j.f j.zs room (omega (arith, n, r.within)) (omega (arith, n, j.fits)), j.frames, r.laid)

  pub joins : Joins makes (join_call combine)
  joins = record {
    exactly = λ format a b room k w oa ob. (says format a b room oa ob (made (k, w)), for_value format a b room oa ob k w);
    refuses = λ format a b room i n k at oa ob. (says format a b room oa ob (refused_in i n k at), for_refusal format a b room oa ob i n k at);
  }

-- ---- any such calls

pub joins_agree : (makes : Makes) (call other : JoinCall) → Joins makes call → Joins makes other → (format : ℕ) (a b : List ℕ) (room : ℕ)
    → Octets a → Octets b → call format a b room ≡ other format a b room
joins_agree makes call other c d format a b room oa ob = go (call format a b room) refl
  where
    go : (w : Joined (ℕ × List ℕ)) → call format a b room ≡ w → w ≡ other format a b room
    go (refused_in i n k at) e = sym ((d.refuses format a b room i n k at oa ob).1 ((c.refuses format a b room i n k at oa ob).0 e))
    go (made y) e = sym ((d.exactly format a b room y.0 y.1 oa ob).1 ((c.exactly format a b room y.0 y.1 oa ob).0 e))

-- ---- what such a call made

same-frames : (f g : Format) (s : List ℕ) (xs ys : List Frame) → f ≡ g → ValidRecording f s xs → ValidRecording g s ys → xs ≡ ys
same-frames f g s xs ys e v w = let q : done xs ≡ done ys = sym v ∙ ap (λ f. read_recording f s) e ∙ w in cc

pub made_of : (makes : Makes) (call : JoinCall) → Joins makes call → (f : Format) (a b : List ℕ) (room k : ℕ) (w : List ℕ) → Octets a → Octets b
    → call (format_number f) a b room ≡ made (k, w) → (xs ys zs : List Frame) → ValidRecording f a xs → ValidRecording f b ys → ValidRecording f w zs
    → makes xs ys zs
made_of makes call c f a b room k w oa ob h xs ys zs v u t =
    let j = (c.exactly (format_number f) a b room k w oa ob).0 h in
    let e = same-number f j.f j.known in
    rw (same-frames f j.f a xs j.xs e v j.first, same-frames f j.f b ys j.ys e u j.second, same-frames f j.f w zs j.zs e t j.valid) j.combined
