-- The shift register of the CRC over Bool: what long division does to the eight coefficients that it is working on.
-- `run` is linear, and a step that takes in false can be undone. Assumes nothing.
use Rattle.std.proofs.Common.{◌≡◌, ℕ, zero, suc, ◌≤◌, Bool, true, false, List, [], ◌∷◌, ◌++◌, length, replicate, sym, refl, ap, ◌∙◌, ap₂, le_of_suc-le-suc, not-suc-le-zero, arith, lit≤}
use mathlib.Core.Bool.{xor}
use Rattle.parity.specs.Crc.{add_front, divide, crc}
use Rattle.parity.specs.Places.{differences}

-- ---- xor

pub xor_false : (a : Bool) → xor a false ≡ a
unfolding xor
xor_false true = refl
xor_false false = refl

pub false_xor : (a : Bool) → xor false a ≡ a
unfolding xor
false_xor true = refl
false_xor false = refl

pub xor_self : (a : Bool) → xor a a ≡ false
unfolding xor
xor_self true = refl
xor_self false = refl

xor_cancel : (a b : Bool) → xor (xor a b) b ≡ a
unfolding xor
xor_cancel true true = refl
xor_cancel true false = refl
xor_cancel false true = refl
xor_cancel false false = refl

pub xor_swap : (a b c : Bool) → xor a (xor b c) ≡ xor (xor b a) c
unfolding xor
xor_swap true true true = refl
xor_swap true true false = refl
xor_swap true false true = refl
xor_swap true false false = refl
xor_swap false true true = refl
xor_swap false true false = refl
xor_swap false false true = refl
xor_swap false false false = refl

xor_medial : (a b c d : Bool) → xor (xor a b) (xor c d) ≡ xor (xor a c) (xor b d)
unfolding xor
xor_medial true true true true = refl
xor_medial true true true false = refl
xor_medial true true false true = refl
xor_medial true true false false = refl
xor_medial true false true true = refl
xor_medial true false true false = refl
xor_medial true false false true = refl
xor_medial true false false false = refl
xor_medial false true true true = refl
xor_medial false true true false = refl
xor_medial false true false true = refl
xor_medial false true false false = refl
xor_medial false false true true = refl
xor_medial false false true false = refl
xor_medial false false false true = refl
xor_medial false false false false = refl

-- ---- the register: the coefficients of D^7 to D^0

pub data Reg : Type 0 where
  reg : (a b c d e f g h : Bool) → Reg

abbrev pub cells : Reg → List Bool
cells (reg a b c d e f g h) = a ∷ b ∷ c ∷ d ∷ e ∷ f ∷ g ∷ h ∷ []

pub length-cells : (r : Reg) → length (cells r) ≡ 8
length-cells (reg a b c d e f g h) = refl

abbrev pub empty : Reg
empty = reg false false false false false false false false

-- (r + x · D^7) · D mod G
abbrev pub step : Reg → Bool → Reg
step (reg a b c d e f g h) x =
    reg b (xor c (xor a x)) (xor d (xor a x)) (xor e (xor a x)) f g h (xor a x)

abbrev pub run : Reg → List Bool → Reg
run r [] = r
run r (x ∷ m) = run (step r x) m

pub run_append : (r : Reg) (v w : List Bool) → run r (v ++ w) ≡ run (run r v) w
run_append r [] w = refl
run_append r (x ∷ v) w = run_append (step r x) v w

-- ---- long division is the register

pub add_front_zeros : (n : ℕ) (p : List Bool) → add_front (replicate n false) p ≡ p
unfolding add_front
add_front_zeros zero p = refl
add_front_zeros (suc n) [] = refl
add_front_zeros (suc n) (b ∷ p) = ap₂ {C = List Bool} (λ c q. c ∷ q) (false_xor b) (add_front_zeros n p)

add_front-add_front : (g r p : List Bool) → length r ≤ length g → add_front g (add_front r p) ≡ add_front (add_front r g) p
unfolding add_front
add_front-add_front [] [] p h = refl
add_front-add_front [] (x ∷ r) p h = absurd (not-suc-le-zero h)
add_front-add_front (y ∷ g) [] p h = refl
add_front-add_front (y ∷ g) (x ∷ r) [] h = refl
add_front-add_front (y ∷ g) (x ∷ r) (b ∷ p) h = ap₂ {C = List Bool} (λ c q. c ∷ q) (xor_swap y x b) (add_front-add_front g r p (le_of_suc-le-suc h))

-- t · G without its highest term
abbrev pub scaled : Bool → List Bool
scaled t = false ∷ t ∷ t ∷ t ∷ false ∷ false ∷ false ∷ t ∷ []

divide_step : (t : Bool) (n : ℕ) (p : List Bool) → divide (suc n) (t ∷ p) ≡ divide n (add_front (scaled t) p)
unfolding divide
divide_step true n p = refl
divide_step false n p = ap (divide n) (sym (add_front_zeros 8 p))

-- a step of the register, as a sum
pub add_front_step : (a b c d e f g h x : Bool) (p : List Bool)
    → add_front (scaled (xor a x)) (add_front (b ∷ c ∷ d ∷ e ∷ f ∷ g ∷ h ∷ []) p) ≡ add_front (cells (step (reg a b c d e f g h) x)) p
unfolding add_front
add_front_step a b c d e f g h x p =
    let v : List Bool = b ∷ c ∷ d ∷ e ∷ f ∷ g ∷ h ∷ [] in
    let s : add_front v (scaled (xor a x)) ≡ cells (step (reg a b c d e f g h) x) = simp xor_false in
    add_front-add_front (scaled (xor a x)) v p (lit≤ tt) ∙ ap (λ (z : List Bool). add_front z p) s

divide_run : (r : Reg) (m : List Bool) → divide (length m) (add_front (cells r) (m ++ replicate 8 false)) ≡ cells (run r m)
unfolding divide add_front
divide_run (reg a b c d e f g h) [] = simp xor_false
divide_run (reg a b c d e f g h) (x ∷ m) =
    divide_step (xor a x) (length m) (add_front (b ∷ c ∷ d ∷ e ∷ f ∷ g ∷ h ∷ []) (m ++ replicate 8 false))
    ∙ ap (divide (length m)) (add_front_step a b c d e f g h x (m ++ replicate 8 false))
    ∙ divide_run (step (reg a b c d e f g h) x) m

pub crc_run : (m : List Bool) → crc m ≡ cells (run empty m)
unfolding crc
crc_run m = ap (divide (length m)) (sym (add_front_zeros 8 (m ++ replicate 8 false))) ∙ divide_run empty m

pub length-crc : (m : List Bool) → length (crc m) ≡ 8
length-crc m = ap length (crc_run m) ∙ length-cells (run empty m)

-- one step of the division of eight coefficients
pub divide_one : (r : Reg) → divide 1 (cells r ++ false ∷ []) ≡ cells (step r false)
unfolding divide add_front
divide_one (reg a b c d e f g h) =
    let z : add_front (cells (reg a b c d e f g h)) (replicate 9 false) ≡ cells (reg a b c d e f g h) ++ false ∷ [] = simp xor_false in
    ap (divide 1) (sym z) ∙ divide_run (reg a b c d e f g h) (false ∷ [])

-- ---- a word followed by its CRC leaves the register empty

pub run_self : (r : Reg) → run r (cells r) ≡ empty
run_self (reg a b c d e f g h) = simp (xor_self, xor_false)

pub run_word : (m : List Bool) → run empty (m ++ crc m) ≡ empty
run_word m = run_append empty m (crc m) ∙ ap (run (run empty m)) (crc_run m) ∙ run_self (run empty m)

-- ---- linearity

abbrev pub sum : Reg → Reg → Reg
sum (reg a b c d e f g h) (reg a' b' c' d' e' f' g' h') =
    reg (xor a a') (xor b b') (xor c c') (xor d d') (xor e e') (xor f f') (xor g g') (xor h h')

pub step_sum : (r s : Reg) (x y : Bool) → step (sum r s) (xor x y) ≡ sum (step r x) (step s y)
step_sum (reg a b c d e f g h) (reg a' b' c' d' e' f' g' h') x y =
    rw (xor_medial a a' x y, xor_medial c c' (xor a x) (xor a' y), xor_medial d d' (xor a x) (xor a' y), xor_medial e e' (xor a x) (xor a' y))

pub run_sum : (r s : Reg) (v w : List Bool) → length v ≡ length w → run (sum r s) (differences v w) ≡ sum (run r v) (run s w)
unfolding differences
run_sum r s [] [] h = refl
run_sum r s [] (y ∷ w) h = absurd (omega arith)
run_sum r s (x ∷ v) [] h = absurd (omega arith)
run_sum r s (x ∷ v) (y ∷ w) h =
    ap (λ (t : Reg). run t (differences v w)) (step_sum r s x y) ∙ run_sum (step r x) (step s y) v w (omega arith)

sum-empty : (r : Reg) → sum r empty ≡ r
sum-empty (reg a b c d e f g h) = simp xor_false

-- a bit, or eight, can be added to the register first and false taken in for it
pub step_added : (r : Reg) (x : Bool) → step (sum r (reg x false false false false false false false)) false ≡ step r x
step_added (reg a b c d e f g h) x = simp xor_false

pub run_added : (r s : Reg) → run (sum r s) (replicate 8 false) ≡ run r (cells s)
unfolding differences
run_added r (reg a b c d e f g h) =
    let s : Reg = reg a b c d e f g h in
    let z : differences (cells (reg a b c d e f g h)) (cells (reg a b c d e f g h)) ≡ replicate 8 false = simp xor_self in
    ap (run (sum r s)) (sym z) ∙ run_sum r s (cells s) (cells s) refl
    ∙ ap (sum (run r (cells s))) (run_self s) ∙ sum-empty (run r (cells s))

-- ---- a step that takes in false is undone

back : Reg → Reg
back (reg b c d e f g h t) = reg t b (xor c t) (xor d t) (xor e t) f g h

back_step : (r : Reg) → back (step r false) ≡ r
unfolding back
back_step (reg a b c d e f g h) = simp (xor_cancel, xor_false)

pub step_empty : (r : Reg) → step r false ≡ empty → r ≡ empty
unfolding back xor
step_empty r e = sym (back_step r) ∙ ap back e

-- ---- the list of differences

pub length-differences : (v w : List Bool) → length v ≡ length w → length (differences v w) ≡ length v
unfolding differences
length-differences [] w h = refl
length-differences (a ∷ v) [] h = absurd (omega arith)
length-differences (a ∷ v) (b ∷ w) h = ap suc (length-differences v w (omega arith))
