-- What the CRC detects. The differences of two right words are a multiple of G. D has order 255, so within 255 places no
-- multiple has two true places only, and none is shorter than G. Assumes nothing.
use Rattle.std.proofs.Common.{◌≡◌, ℕ, zero, suc, ◌+◌, ◌<◌, ◌≤◌, Bool, true, false, ◌&&◌, ◌||◌, ◌≢◌, List, [], ◌∷◌, ◌++◌, length, get_or, take, drop, replicate, sym, refl, ap, ◌∙◌, ap₂, true≢false, le_of_suc-le-suc, not-suc-le-zero, arith, lit≤, take-append-drop}
use mathlib.Core.Bool.{xor, false≢true, and-eq-true_iff}
use lib.Seq.{drop-nil}
use Rattle.parity.specs.Crc.{crc}
use Rattle.parity.specs.Places.{differences, count_true, first_true, last_true, suc_if_any}
use Rattle.parity.specs.Claims.{Detects}
use Rattle.parity.proofs.Register.{Reg, reg, cells, empty, step, run, sum, run_sum, run_added, run_word, step_empty, false_xor, length-differences}

-- is any coefficient 1?
abbrev some : Reg → Bool
some (reg a b c d e f g h) = a || (b || (c || (d || (e || (f || (g || h))))))

not_empty : (r : Reg) → some r ≡ true → r ≡ empty → ⊥
not_empty r h e = false≢true (sym (ap some e) ∙ h)

-- ---- a word with no true place changes the register by steps that can be undone

run_zeros : (r : Reg) (e : List Bool) → count_true e ≡ 0 → run r e ≡ empty → r ≡ empty
unfolding count_true
run_zeros r [] h q = q
run_zeros r (true ∷ e) h q = absurd (omega arith)
run_zeros r (false ∷ e) h q = step_empty r (run_zeros (step r false) e h q)

-- ---- two places: D has order 255, so no D^k with 0 < k < 255 is 1

-- none of the first n registers of the run on zeros from r is emptied by one true
orbit : ℕ → Reg → Bool
orbit zero r = true
orbit (suc n) r = some (step r true) && orbit n (step r false)

one_place : (n : ℕ) (r : Reg) (e : List Bool) → orbit n r ≡ true → length e ≤ n → count_true e ≡ 1 → run r e ≡ empty → ⊥
unfolding orbit count_true
one_place n r [] t l h q = omega arith
one_place zero r (b ∷ e) t l h q = not-suc-le-zero l
one_place (suc n) r (true ∷ e) t l h q =
    not_empty (step r true) ((and-eq-true_iff (some (step r true)) (orbit n (step r false))).0 t).0 (run_zeros (step r true) e (omega arith) q)
one_place (suc n) r (false ∷ e) t l h q =
    one_place n (step r false) e ((and-eq-true_iff (some (step r true)) (orbit n (step r false))).0 t).1 (le_of_suc-le-suc l) h q

-- the register after a first true: D^8 mod G
abbrev start : Reg
start = reg false true true true false false false true

order : orbit 254 start ≡ true
unfolding orbit xor
order = refl

-- ---- eight neighbouring places: a polynomial of degree below 8 is no multiple of G

head : List Bool → Bool
head [] = false
head (b ∷ e) = b

tail : List Bool → List Bool
tail [] = []
tail (b ∷ e) = e

-- the first k places, as false where e has ended
firsts : ℕ → List Bool → List Bool
firsts zero e = []
firsts (suc k) e = head e ∷ firsts k (tail e)

run_firsts : (k : ℕ) (r : Reg) (e : List Bool) → count_true (drop k e) ≡ 0 → run r e ≡ empty → run r (firsts k e) ≡ empty
unfolding firsts head tail xor count_true
run_firsts zero r e h q = run_zeros r e h q
run_firsts (suc k) r [] h q = ap (λ (s : Reg). run (step s false) (firsts k [])) q ∙ run_firsts k empty [] (ap count_true (drop-nil k)) refl
run_firsts (suc k) r (b ∷ e) h q = run_firsts k (step r b) e h q

-- r · D^8 is a multiple of G only for r = 0
run_cells : (r : Reg) → run empty (cells r) ≡ empty → r ≡ empty
unfolding count_true
run_cells (reg a b c d e f g h) q =
    let r : Reg = reg a b c d e f g h in
    let z : sum empty (reg a b c d e f g h) ≡ reg a b c d e f g h = simp false_xor in
    run_zeros r (replicate 8 false) refl (ap (λ (t : Reg). run t (replicate 8 false)) (sym z) ∙ run_added empty r ∙ q)

count_true-drop : (k : ℕ) (e : List Bool) → count_true e ≡ 0 → count_true (drop k e) ≡ 0
unfolding count_true
count_true-drop zero e h = h
count_true-drop (suc k) [] h = refl
count_true-drop (suc k) (true ∷ e) h = absurd (omega arith)
count_true-drop (suc k) (false ∷ e) h = count_true-drop k e h

last_true-drop : (k : ℕ) (e : List Bool) → last_true e < k → count_true (drop k e) ≡ 0
unfolding last_true count_true
last_true-drop zero e h = absurd (not-suc-le-zero h)
last_true-drop (suc k) [] h = refl
last_true-drop (suc k) (b ∷ e) h = go (last_true-drop k e) (count_true e) refl h
  where
    go : (last_true e < k → count_true (drop k e) ≡ 0) → (c : ℕ) → count_true e ≡ c → suc_if_any c (last_true e) < suc k → count_true (drop k e) ≡ 0
    go ih zero z l = count_true-drop k e z
    go ih (suc c) z l = ih (le_of_suc-le-suc l)

-- ---- a word that leaves the register empty

later-suc : (c k : ℕ) → 0 < c → suc_if_any c k ≡ suc k
later-suc zero k h = absurd (not-suc-le-zero h)
later-suc (suc c) k h = refl

-- D^7 and the first seven places of e
abbrev eight : List Bool → Reg
eight e =
    reg true (head e) (head (tail e)) (head (tail (tail e))) (head (tail (tail (tail e)))) (head (tail (tail (tail (tail e)))))
    (head (tail (tail (tail (tail (tail e)))))) (head (tail (tail (tail (tail (tail (tail e)))))))

after_first : (e : List Bool) → length e ≤ 254 → run start e ≡ empty → (2 ≤ count_true e) × (7 ≤ last_true e)
unfolding xor firsts
after_first e l q =
    let n0 : count_true e ≢ 0 = λ h. not_empty start refl (run_zeros start e h q) in
    let n1 : count_true e ≢ 1 = λ h. one_place 254 start e order l h q in
    let n7 : ¬ (last_true e < 7) = λ h. not_empty (eight e) refl (run_cells (eight e) (run_firsts 7 start e (last_true-drop 7 e h) q)) in
    (omega arith, omega arith)

pub multiple : (e : List Bool) → length e ≤ 255 → 0 < count_true e → run empty e ≡ empty → (3 ≤ count_true e) × (first_true e + 8 ≤ last_true e)
unfolding xor count_true first_true last_true
multiple [] l h q = absurd (not-suc-le-zero h)
multiple (true ∷ e) l h q =
    let p = after_first e (le_of_suc-le-suc l) q in
    (omega arith, rw (later-suc (count_true e) (last_true e) (omega arith)) (omega arith))
multiple (false ∷ e) l h q =
    let p = multiple e (omega arith) h q in
    (p.0, rw (later-suc (count_true e) (last_true e) h) (omega arith))

-- ---- two words

pub no_differences : (v w : List Bool) → length v ≡ length w → count_true (differences v w) ≡ 0 → v ≡ w
unfolding differences count_true xor
no_differences [] [] h c = refl
no_differences [] (b ∷ w) h c = absurd (omega arith)
no_differences (a ∷ v) [] h c = absurd (omega arith)
no_differences (true ∷ v) (true ∷ w) h c = ap {B = List Bool} (λ t. true ∷ t) (no_differences v w (omega arith) c)
no_differences (true ∷ v) (false ∷ w) h c = absurd (omega arith)
no_differences (false ∷ v) (true ∷ w) h c = absurd (omega arith)
no_differences (false ∷ v) (false ∷ w) h c = ap {B = List Bool} (λ t. false ∷ t) (no_differences v w (omega arith) c)

-- the word leaves the register empty when its last eight bits are the CRC of those before
word_empty : (n : ℕ) (w : List Bool) → drop n w ≡ crc (take n w) → run empty w ≡ empty
word_empty n w c = ap (run empty) (sym (take-append-drop n w) ∙ ap (◌++◌ (take n w)) c) ∙ run_word (take n w)

pub detects : Detects crc
unfolding xor
detects = record {
  differ = λ n v w h lv lw cv cw d.
      let l : length v ≡ length w = lv ∙ sym lw in
      let n0 : count_true (differences v w) ≢ 0 = λ z. d (no_differences v w l z) in
      multiple (differences v w) (omega (arith, length-differences v w l)) (omega arith)
      (run_sum empty empty v w l ∙ ap₂ sum (word_empty n v cv) (word_empty n w cw));
}

-- ---- where the claim ends

-- with check bits that are always 0, one place of the message can differ unseen
pub zeros_detect_nothing : Detects (λ m. replicate 8 false) → ⊥
unfolding head differences count_true xor
zeros_detect_nothing d =
    let apart : true ∷ replicate 8 false ≢ false ∷ replicate 8 false = λ e. true≢false (ap head e) in
    let p = d.differ 1 (true ∷ replicate 8 false) (false ∷ replicate 8 false) (lit≤ tt) refl refl refl refl apart in
    omega (arith, p.0)

-- a message of 248 bits with one true place has one true check bit: it differs from the word of false in two places
pub two_places_unseen : count_true ((true ∷ replicate 247 false) ++ crc (true ∷ replicate 247 false)) ≡ 2
unfolding count_true crc xor
two_places_unseen = refl

-- ---- the last place that is true is true

pub at_last : (e : List Bool) → 0 < count_true e → get_or e (last_true e) false ≡ true
unfolding last_true count_true
at_last [] h = absurd (not-suc-le-zero h)
at_last (b ∷ e) h = go (at_last e) (count_true e) refl b h
  where
    go : (0 < count_true e → get_or e (last_true e) false ≡ true) → (c : ℕ) → count_true e ≡ c → (b : Bool) → 0 < count_true (b ∷ e) → get_or (b ∷ e) (suc_if_any c (last_true e)) false ≡ true
    go ih (suc c) z b l = ih (omega arith)
    go ih zero z true l = refl
    go ih zero z false l = absurd (omega arith)
