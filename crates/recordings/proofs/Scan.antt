-- The scan reads what was laid out, and what it shows is laid out again: by induction over the octets or the frames, a frame at a time.
-- Assumes nothing.
use mathlib.Core.Path.{◌≡◌, refl, sym, ap, ap₂, ◌∙◌, subst}
use mathlib.Core.Bool.{false}
use mathlib.Core.List.{List, [], ◌∷◌, ◌++◌, append-nil, append_assoc}
use Prim.Native.Nat.{ℕ, zero, suc, ◌+◌, ◌-◌, ◌≤◌}
use native.Mathlib.Omega.{arith}
use lib.ListN.{length, drop, length-append, take-append-drop}
use lib.Seq.{drop-nil, drop_at}
use Rattle.bits.specs.Bits.{Octets}
use Rattle.definitions.specs.Outcome.{Outcome, refused, ok}
use Rattle.definitions.specs.Frames.{Format, Frame, layout, octets}
use Rattle.definitions.specs.Reading.{read_with, read_frame}
use Rattle.definitions.specs.Claims.{Valid, Begins}
use Rattle.definitions.proofs.Tables.{sized}
use Rattle.definitions.proofs.Frames.{never, length-layout, read-layout, read-begins}
use Rattle.recordings.specs.Placed.{Placed, refused_at, done, placed}
use Rattle.recordings.specs.Recordings.{followed_by, scan, layouts}
use Rattle.recordings.specs.Claims.{Every, none, first}

pub not_done : {A B : Type 0} (n k at : ℕ) (a : A) → refused_at n k at ≡ done a → B
not_done n k at a h = absurd (let z : ◌≡◌ {A = ℕ} 0 1 = cc in omega arith)

pub not_refused : {A B : Type 0} (n k at : ℕ) (a : A) → done a ≡ refused_at n k at → B
not_refused n k at a h = absurd (let z : ◌≡◌ {A = ℕ} 0 1 = cc in omega arith)

-- a scan that starts inside a frame is the scan from that frame's end
scan_skip : (f : Format) (skip k at : ℕ) (s : List ℕ) → scan f skip k at s ≡ scan f 0 k (at + skip) (drop skip s)
scan_skip f zero k at s = ap (λ n. scan f 0 k n s) (omega arith)
scan_skip f (suc skip) k at [] = refl
scan_skip f (suc skip) k at (o ∷ s) = scan_skip f skip k (suc at) s ∙ ap (λ n. scan f 0 k n (drop skip s)) (omega arith)

-- a frame that is shown has an octet
pub shown-size : (f : Format) (s : List ℕ) (x : Frame) (n : ℕ) → Octets s → read_frame f s ≡ ok (x, n) → 1 ≤ n
shown-size f s x n o h =
    let b = (read-begins false f s x n o h).0 in
    omega (arith, b.size, length-layout f x b.valid, (sized f x.type b.valid.type_known).some-octet)

-- one step
pub scan_step : (f : Format) (k at : ℕ) (s : List ℕ) (x : Frame) (n : ℕ) → read_frame f s ≡ ok (x, n) → 1 ≤ n
    → scan f 0 k at s ≡ followed_by x (scan f 0 (suc k) (at + n) (drop n s))
unfolding read_with
scan_step f k at [] x n h p = never 1 (x, n) h
scan_step f k at (o ∷ s) x n h p =
    let e : suc (n - 1) ≡ n = omega arith in
    ap (λ r. placed r k at (λ y. followed_by y.0 (scan f (y.1 - 1) (suc k) (suc at) s))) h
    ∙ ap (followed_by x)
    (scan_skip f (n - 1) (suc k) (suc at) s ∙ ap₂ (λ a l. scan f 0 (suc k) a l) (omega arith) (ap (λ m. drop m (o ∷ s)) e))

-- the refused frame stops the scan
pub scan_stop : (f : Format) (k at : ℕ) (s : List ℕ) (n : ℕ) → 1 ≤ length s → read_frame f s ≡ refused n → scan f 0 k at s ≡ refused_at n k at
scan_stop f k at [] n l h = absurd (omega arith)
scan_stop f k at (o ∷ s) n l h = ap (λ r. placed r k at (λ y. followed_by y.0 (scan f (y.1 - 1) (suc k) (suc at) s))) h

-- ---- what is laid out is shown, whatever stands behind it

abbrev all_before : List Frame → Placed (List Frame) → Placed (List Frame)
all_before [] w = w
all_before (x ∷ xs) w = followed_by x (all_before xs w)

all-followed-done : (xs : List Frame) → all_before xs (done []) ≡ done xs
all-followed-done [] = refl
all-followed-done (x ∷ xs) = ap (followed_by x) (all-followed-done xs)

all-followed-refused : (xs : List Frame) (n k at : ℕ) → all_before xs (refused_at n k at) ≡ refused_at n k at
all-followed-refused [] n k at = refl
all-followed-refused (x ∷ xs) n k at = ap (followed_by x) (all-followed-refused xs n k at)

layouts_front : (f : Format) (k at : ℕ) (xs : List Frame) (rest : List ℕ) → Every (Valid f) xs
    → scan f 0 k at (layouts f xs ++ rest) ≡ all_before xs (scan f 0 (k + length xs) (at + length (layouts f xs)) rest)
layouts_front f k at [] rest none = ap₂ (λ i p. scan f 0 i p rest) (omega arith) (omega arith)
layouts_front f k at (x ∷ xs) rest (first v vs) =
    let n = octets f x.type in
    ap (scan f 0 k at) (append_assoc (layout f x) (layouts f xs) rest)
    ∙ scan_step f k at (layout f x ++ (layouts f xs ++ rest)) x n
    (read-layout false f x (layouts f xs ++ rest) v refl) (sized f x.type v.type_known).some-octet
    ∙ ap (λ l. followed_by x (scan f 0 (suc k) (at + n) l)) (drop_at (layout f x) (layouts f xs ++ rest) _ (length-layout f x v))
    ∙ ap (followed_by x)
    (layouts_front f (suc k) (at + n) xs rest vs
    ∙ ap₂ (λ i p. all_before xs (scan f 0 i p rest)) (omega arith)
    (omega (arith, length-append (layout f x) (layouts f xs), length-layout f x v)))

pub layouts-scan : (f : Format) (k at : ℕ) (xs : List Frame) → Every (Valid f) xs → scan f 0 k at (layouts f xs) ≡ done xs
layouts-scan f k at xs v = ap (scan f 0 k at) (sym (append-nil (layouts f xs))) ∙ layouts_front f k at xs [] v ∙ all-followed-done xs

-- where valid frames come first and the frame reader refuses what is left
pub layouts-stop : (f : Format) (k at : ℕ) (xs : List Frame) (rest : List ℕ) (n : ℕ) → Every (Valid f) xs → 1 ≤ length rest
    → read_frame f rest ≡ refused n → scan f 0 k at (layouts f xs ++ rest) ≡ refused_at n (k + length xs) (at + length (layouts f xs))
layouts-stop f k at xs rest n v l h =
    let j = k + length xs in
    let p = at + length (layouts f xs) in
    layouts_front f k at xs rest v ∙ ap (all_before xs) (scan_stop f j p rest n l h) ∙ all-followed-refused xs n j p

-- ---- what is shown was laid out

followed-done : (x : Frame) (w : Placed (List Frame)) (xs : List Frame) → followed_by x w ≡ done xs → (ys : List Frame) × (w ≡ done ys) × (x ∷ ys ≡ xs)
followed-done x (refused_at n k at) xs h = not_done n k at xs h
followed-done x (done ys) xs h = (ys, refl, cc)

followed-refused : (x : Frame) (w : Placed (List Frame)) (n k at : ℕ) → followed_by x w ≡ refused_at n k at → w ≡ refused_at n k at
followed-refused x (refused_at n' k' at') n k at h = h
followed-refused x (done ys) n k at h = not_refused n k at (x ∷ ys) h

pub record Shown (f : Format) (s : List ℕ) (xs : List Frame) : Type 0 where
  pub valid : Every (Valid f) xs
  pub laid : layouts f xs ≡ s

-- a valid frame in front of what is left
module _ (f : Format) (o : ℕ) (s : List ℕ) (g : Octets (o ∷ s)) (x : Frame) (n : ℕ) (e : read_frame f (o ∷ s) ≡ ok (x, n)) where
  front : Begins f (o ∷ s) x n
  front = (read-begins false f (o ∷ s) x n g e).0

  rest_is : drop (n - 1) s ≡ drop n (o ∷ s)
  rest_is = ap (λ m. drop m (o ∷ s)) (let p : suc (n - 1) ≡ n = omega (arith, shown-size f (o ∷ s) x n g e) in p)

  in_front : (ys : List Frame) (r : List ℕ) → layouts f ys ++ r ≡ drop (n - 1) s → layouts f (x ∷ ys) ++ r ≡ o ∷ s
  in_front ys r h =
      append_assoc (layout f x) (layouts f ys) r
      ∙ ap₂ ◌++◌ (sym front.laid) (h ∙ rest_is) ∙ take-append-drop n (o ∷ s)

pub scan-layouts : (f : Format) (skip k at : ℕ) (s : List ℕ) (xs : List Frame) → Octets s → scan f skip k at s ≡ done xs → Shown f (drop skip s) xs
scan-layouts f skip k at [] xs g h =
    subst (Shown f (drop skip [])) (let e : ◌≡◌ {A = Placed (List Frame)} (done []) (done xs) = h in cc) (record { valid = none; laid = sym (drop-nil skip) })
scan-layouts f (suc skip) k at (o ∷ s) xs g h = scan-layouts f skip k (suc at) s xs (λ i. g (suc i)) h
scan-layouts f zero k at (o ∷ s) xs g h = go (read_frame f (o ∷ s)) refl h (λ skip ys e. scan-layouts f skip (suc k) (suc at) s ys (λ i. g (suc i)) e)
  where
    go : (r : Outcome (Frame × ℕ)) → read_frame f (o ∷ s) ≡ r
        → placed r k at (λ y. followed_by y.0 (scan f (y.1 - 1) (suc k) (suc at) s)) ≡ done xs
        → ((skip : ℕ) (ys : List Frame) → scan f skip (suc k) (suc at) s ≡ done ys → Shown f (drop skip s) ys) → Shown f (o ∷ s) xs
    go (refused n) e w ih = not_done n k at xs w
    go (ok y) e w ih =
        let b = followed-done y.0 (scan f (y.1 - 1) (suc k) (suc at) s) xs w in
        let i = ih (y.1 - 1) b.0 b.1 in
        subst (Shown f (o ∷ s)) b.2 (record {
          valid = first (front f o s g y.0 y.1 e).valid i.valid;
          laid = ap₂ ◌++◌ (sym (front f o s g y.0 y.1 e).laid) (i.laid ∙ rest_is f o s g y.0 y.1 e) ∙ take-append-drop y.1 (o ∷ s);
        })

-- ---- where the scan stops

-- valid frames xs, then octets that the frame reader refuses by n: the frame has number j and begins at octet p
pub record Stopped (f : Format) (k at : ℕ) (s : List ℕ) (n j p : ℕ) : Type 0 where
  pub xs : List Frame
  pub rest : List ℕ
  pub valid : Every (Valid f) xs
  pub number : k + length xs ≡ j
  pub octet : at + length (layouts f xs) ≡ p
  pub laid : layouts f xs ++ rest ≡ s
  pub left : 1 ≤ length rest
  pub refusal : read_frame f rest ≡ refused n

pub scan-stops : (f : Format) (skip k at : ℕ) (s : List ℕ) (n j p : ℕ) → Octets s → scan f skip k at s ≡ refused_at n j p
    → Stopped f k (at + skip) (drop skip s) n j p
scan-stops f skip k at [] n j p g h = not_refused n j p [] h
scan-stops f (suc skip) k at (o ∷ s) n j p g h =
    subst (λ a. Stopped f k a (drop skip s) n j p) (omega arith) (scan-stops f skip k (suc at) s n j p (λ i. g (suc i)) h)
scan-stops f zero k at (o ∷ s) n j p g h =
    go (read_frame f (o ∷ s)) refl h (λ skip e. scan-stops f skip (suc k) (suc at) s n j p (λ i. g (suc i)) e)
  where
    go : (r : Outcome (Frame × ℕ)) → read_frame f (o ∷ s) ≡ r
        → placed r k at (λ y. followed_by y.0 (scan f (y.1 - 1) (suc k) (suc at) s)) ≡ refused_at n j p
        → ((skip : ℕ) → scan f skip (suc k) (suc at) s ≡ refused_at n j p → Stopped f (suc k) (suc at + skip) (drop skip s) n j p)
        → Stopped f k (at + 0) (o ∷ s) n j p
    go (refused m) e w ih = record {
      xs = [];
      rest = o ∷ s;
      valid = none;
      number = let q : k ≡ j = cc in omega arith;
      octet = let q : at ≡ p = cc in omega arith;
      laid = refl;
      left = omega arith;
      refusal = e ∙ ap refused (let q : m ≡ n = cc in q);
    }
    go (ok y) e w ih =
        let x = y.0 in
        let m = y.1 in
        let b = followed-refused x (scan f (m - 1) (suc k) (suc at) s) n j p w in
        let i = ih (m - 1) b in
        let v = front f o s g x m e in
        record {
          xs = x ∷ i.xs;
          rest = i.rest;
          valid = first v.valid i.valid;
          number = omega (arith, i.number);
          octet = omega (arith, i.octet, length-append (layout f x) (layouts f i.xs), v.size, shown-size f (o ∷ s) x m g e);
          laid = in_front f o s g x m e i.xs i.rest i.laid;
          left = i.left;
          refusal = i.refusal;
        }
