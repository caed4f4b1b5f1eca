-- What the code does to octets. A shift with a mask is a step of the register, and since `run` is linear an octet may be added
-- to the register first and eight steps be made on false. Assumes nothing.
use Rattle.std.proofs.Common.{◌≡◌, ℕ, zero, suc, ◌+◌, ◌*◌, ◌/◌, ◌%◌, ◌^◌, ◌<◌, Bool, true, false, eqb, List, [], ◌∷◌, ◌++◌, length, get_or, take, drop, replicate, sym, refl, ap, ◌∙◌, ap₂, mod-eq_of_lt, add-one, arith, lit≤, take-suc, take_at, take-add, eqb-true}
use mathlib.Core.Bool.{xor}
use lib.Bits.{bit_and, bit_xor, xor_block, xor_lt}
use lib.Pow.{high}
use Rattle.bits.specs.Bits.{odd, one_if, digits, num, bits}
use Rattle.bits.proofs.BitLaws.{length_digits, num-lt, num-digits, digits-num-le, length-bits, bits_from}
use Rattle.bits.proofs.Tests.{every_below_lem}
use Rattle.parity.specs.Crc.{add_front, divide, crc}
use Rattle.parity.specs.Places.{differences}
use Rattle.parity.proofs.Register.{Reg, reg, cells, empty, step, run, sum, scaled, run_append, crc_run, divide_one, step_added, run_added, xor_false, false_xor}

-- ---- the register as an octet

abbrev octet : Reg → ℕ
octet r = num 8 (cells r)

abbrev register : ℕ → Reg
register x = reg (odd (x / 128)) (odd (x / 64)) (odd (x / 32)) (odd (x / 16)) (odd (x / 8)) (odd (x / 4)) (odd (x / 2)) (odd (x / 1))

cells_register : (x : ℕ) → cells (register x) ≡ digits 8 x
unfolding digits
cells_register x = refl

octet_register : (x : ℕ) → x < 256 → octet (register x) ≡ x
octet_register x h = ap (num 8) (cells_register x) ∙ num-digits 8 x ∙ mod-eq_of_lt h

digits-octet : (r : Reg) → digits 8 (octet r) ≡ cells r
digits-octet (reg a b c d e f g h) = digits-num-le 8 (cells (reg a b c d e f g h)) (lit≤ tt)

-- ---- exclusive or

one_if_xor : (a b : Bool) → bit_xor (one_if a) (one_if b) ≡ one_if (xor a b)
unfolding xor
one_if_xor true true = refl
one_if_xor true false = refl
one_if_xor false true = refl
one_if_xor false false = refl

num_xor : (k : ℕ) (v w : List Bool) → length v ≡ length w → bit_xor (num k v) (num k w) ≡ num k (differences v w)
unfolding num differences
num_xor zero v w h = refl
num_xor (suc k) [] [] h = refl
num_xor (suc k) [] (b ∷ w) h = absurd (omega arith)
num_xor (suc k) (a ∷ v) [] h = absurd (omega arith)
num_xor (suc k) (a ∷ v) (b ∷ w) h =
    xor_block k (one_if a) (one_if b) (num k v) (num k w) (num-lt k v) (num-lt k w)
    ∙ ap₂ (λ (x y : ℕ). x * 2 ^ k + y) (one_if_xor a b) (num_xor k v w (omega arith))

octet-sum : (r s : Reg) → bit_xor (octet r) (octet s) ≡ octet (sum r s)
unfolding differences
octet-sum (reg a b c d e f g h) (reg a' b' c' d' e' f' g' h') =
    num_xor 8 (cells (reg a b c d e f g h)) (cells (reg a' b' c' d' e' f' g' h')) refl

-- ---- a step: `(r << 1) ^ (mask & 0x71)`

shifted : (a b c d e f g h : Bool) → octet (reg a b c d e f g h) * 2 % 256 ≡ octet (reg b c d e f g h false)
unfolding num
shifted true b c d e f g h = omega (arith, num-lt 7 (b ∷ c ∷ d ∷ e ∷ f ∷ g ∷ h ∷ []))
shifted false b c d e f g h = omega (arith, num-lt 7 (b ∷ c ∷ d ∷ e ∷ f ∷ g ∷ h ∷ []))

masked : (a : Bool) (m : ℕ) → m < 256 → (m + one_if a) % 256 ≡ 0 → bit_and m 113 ≡ num 8 (scaled a)
unfolding num
masked true m l e = let z : m ≡ 255 = omega arith in ap (λ (k : ℕ). bit_and k 113) z
masked false m l e = let z : m ≡ 0 = omega arith in ap (λ (k : ℕ). bit_and k 113) z

turn : (r : Reg) (m : ℕ) → m < 256 → (m + octet r / 128) % 256 ≡ 0 → bit_xor (octet r * 2 % 256) (bit_and m 113) ≡ octet (step r false)
unfolding num differences
turn (reg a b c d e f g h) m l q =
    let v : List Bool = b ∷ c ∷ d ∷ e ∷ f ∷ g ∷ h ∷ [] in
    let top : num 8 (a ∷ b ∷ c ∷ d ∷ e ∷ f ∷ g ∷ h ∷ []) / 128 ≡ one_if a = high (one_if a) 7 (num-lt 7 v) in
    ap₂ bit_xor (shifted a b c d e f g h) (masked a m l (ap (λ (k : ℕ). (m + k) % 256) (sym top) ∙ q))
    ∙ num_xor 8 (b ∷ c ∷ d ∷ e ∷ f ∷ g ∷ h ∷ false ∷ []) (scaled a) refl
    ∙ simp (xor_false, false_xor)

-- what `step` ensures
abbrev pub stepped : ℕ → ℕ
stepped r = num 8 (divide 1 (digits 8 r ++ false ∷ []))

stepped_octet : (t : Reg) (r : ℕ) → r ≡ octet t → stepped r ≡ octet (step t false)
stepped_octet t r e =
    ap (λ (x : ℕ). stepped x) e ∙ ap (λ (l : List Bool). num 8 (divide 1 (l ++ false ∷ []))) (digits-octet t) ∙ ap (num 8) (divide_one t)

pub step_is : (r m : ℕ) → r < 256 → m < 256 → (m + r / 128) % 256 ≡ 0 → bit_xor (r * 2 % 256) (bit_and m 113) ≡ stepped r
step_is r m hr hm q =
    let t : Reg = register r in
    let e : r ≡ octet (register r) = sym (octet_register r hr) in
    ap (λ (x : ℕ). bit_xor (x * 2 % 256) (bit_and m 113)) e
    ∙ turn t m hm (ap (λ (x : ℕ). (m + x / 128) % 256) (sym e) ∙ q) ∙ sym (stepped_octet t r e)

-- ---- a bit and an octet taken in

crc-octet : (m v : List Bool) (s : ℕ) → s ≡ octet (run (run empty m) v) → s ≡ num 8 (crc (m ++ v))
crc-octet m v s e = e ∙ ap octet (sym (run_append empty m v)) ∙ ap (num 8) (sym (crc_run (m ++ v)))

-- the register after `r ^ y`
added : (m : List Bool) (r y : ℕ) (s : Reg) → r ≡ num 8 (crc m) → y ≡ octet s → bit_xor r y ≡ octet (sum (run empty m) s)
added m r y s q e = ap₂ bit_xor (q ∙ ap (num 8) (crc_run m)) e ∙ octet-sum (run empty m) s

abbrev pub steps : ℕ → ℕ → ℕ
steps zero r = r
steps (suc k) r = steps k (stepped r)

steps_octet : (k : ℕ) (t : Reg) (r : ℕ) → r ≡ octet t → steps k r ≡ octet (run t (replicate k false))
steps_octet zero t r e = e
steps_octet (suc k) t r e = steps_octet k (step t false) (stepped r) (stepped_octet t r e)

pub octet_taken : (m : List Bool) (r x : ℕ) → x < 256 → r ≡ num 8 (crc m) → steps 8 (bit_xor r x) ≡ num 8 (crc (m ++ digits 8 x))
octet_taken m r x l q =
    let s : Reg = register x in
    crc-octet m (digits 8 x) (steps 8 (bit_xor r x))
    (steps_octet 8 (sum (run empty m) s) (bit_xor r x) (added m r x s q (sym (octet_register x l)))
    ∙ ap octet (run_added (run empty m) s ∙ ap (run (run empty m)) (cells_register x)))

-- ---- eight steps at once

-- what `shift_octet` does
abbrev quotient : ℕ → ℕ
quotient y = bit_xor (bit_xor (bit_xor y (y / 2 ^ 2)) (y / 2 ^ 3)) (y / 2 ^ 7)

abbrev multiple : ℕ → ℕ
multiple q = bit_xor (bit_xor (bit_xor q (q * 2 ^ 4 % 256)) (q * 2 ^ 5 % 256)) (q * 2 ^ 6 % 256)

shift_test : ℕ → Bool
shift_test y = eqb (multiple (quotient y)) (num 8 (crc (digits 8 y)))

pub shift_is : (y : ℕ) → y < 256 → multiple (quotient y) ≡ num 8 (crc (digits 8 y))
unfolding shift_test odd digits num crc divide add_front xor
shift_is y h = eqb-true _ _ (every_below_lem 256 shift_test refl y h)

-- so the octet may be added first
pub octet_added : (m : List Bool) (r x : ℕ) → r < 256 → x < 256 → r ≡ num 8 (crc m) → num 8 (crc (digits 8 (bit_xor r x))) ≡ num 8 (crc (m ++ digits 8 x))
unfolding num crc divide
octet_added m r x hr hx q = sym (octet_taken [] 0 (bit_xor r x) (xor_lt 8 r x hr hx) refl) ∙ octet_taken m r x hx q

top_bit : (b : Bool) → one_if b * 128 % 256 ≡ octet (reg b false false false false false false false)
unfolding num
top_bit true = refl
top_bit false = refl

pub bit_taken : (m : List Bool) (r : ℕ) (b : Bool) → r ≡ num 8 (crc m) → stepped (bit_xor r (one_if b * 128 % 256)) ≡ num 8 (crc (m ++ b ∷ []))
bit_taken m r b q =
    let s : Reg = reg b false false false false false false false in
    let y : ℕ = one_if b * 128 % 256 in
    crc-octet m (b ∷ []) (stepped (bit_xor r y))
    (stepped_octet (sum (run empty m) s) (bit_xor r y) (added m r y s q (top_bit b)) ∙ ap octet (step_added (run empty m) b))

-- ---- more bits of a core

pub take-octet : (s : List ℕ) (i : ℕ) → i < length s → take (8 * (i + 1)) (bits s) ≡ take (8 * i) (bits s) ++ digits 8 (get_or s i 0)
take-octet s i h =
    let x : ℕ = get_or s i 0 in
    let e : 8 * (i + 1) ≡ 8 * i + 8 = omega arith in
    ap (λ (n : ℕ). take n (bits s)) e ∙ take-add (8 * i) 8 (bits s)
    ∙ ap (λ (l : List Bool). take (8 * i) (bits s) ++ take 8 l) (bits_from i s h)
    ∙ ap (λ (l : List Bool). take (8 * i) (bits s) ++ l) (take_at (digits 8 x) (bits (drop (suc i) s)) 8 (length_digits 8 x))

pub take_bit : (s : List ℕ) (i : ℕ) → i < 8 * length s → take (i + 1) (bits s) ≡ take i (bits s) ++ (get_or (bits s) i false ∷ [])
take_bit s i h = ap (λ (n : ℕ). take n (bits s)) (add-one i) ∙ take-suc (bits s) i false (omega (arith, length-bits s))
