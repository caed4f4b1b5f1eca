-- The CRC is the remainder: what leaves the register at its top is the quotient, so message · D^8 + CRC is a multiple of G;
-- and a multiple of G leaves the register empty, which only these eight check bits do. Assumes nothing.
use Rattle.std.proofs.Common.{◌≡◌, suc, ◌+◌, ◌<◌, ◌≤◌, Bool, true, false, List, [], ◌∷◌, ◌++◌, length, sym, refl, ap, ◌∙◌, ap₂, le_of_suc-le-suc, not-suc-le-zero, arith}
use mathlib.Core.Bool.{xor, false≢true}
use lib.ListN.{get_or-eq_default}
use Rattle.parity.specs.Crc.{add_front, generator, crc, product}
use Rattle.parity.specs.Places.{differences, count_true, last_true}
use Rattle.parity.specs.Claims.{IsRemainder}
use Rattle.parity.proofs.Register.{Reg, reg, cells, empty, step, run, sum, scaled, add_front_zeros, add_front_step, step_sum, run_sum, run_append, run_self, crc_run, length-differences, length-cells, length-crc, xor_self, false_xor, xor_swap}
use Rattle.parity.proofs.Detect.{multiple, at_last, no_differences}

add_front_self : (g p : List Bool) → add_front g (add_front g p) ≡ p
unfolding add_front
add_front_self [] p = refl
add_front_self (y ∷ g) [] = refl
add_front_self (y ∷ g) (b ∷ p) = ap₂ {C = List Bool} (λ c q. c ∷ q) (xor_swap y y b ∙ simp (xor_self, false_xor)) (add_front_self g p)

product_step : (t : Bool) (q : List Bool) → product (t ∷ q) generator ≡ t ∷ add_front (scaled t) (product q generator)
unfolding product add_front xor
product_step true q = refl
product_step false q = ap {B = List Bool} (λ p. false ∷ p) (sym (add_front_zeros 8 (product q generator)))

-- what the register gives out at its top: the quotient
quotient : Reg → List Bool → List Bool
quotient r [] = []
quotient (reg a b c d e f g h) (x ∷ m) = xor a x ∷ quotient (step (reg a b c d e f g h) x) m

product_quotient : (r : Reg) (m : List Bool) → product (quotient r m) generator ≡ add_front (cells r) (m ++ cells (run r m))
unfolding product add_front quotient
product_quotient (reg a b c d e f g h) [] = sym (simp xor_self)
product_quotient (reg a b c d e f g h) (x ∷ m) =
    let r = step (reg a b c d e f g h) x in
    let t = xor a x in
    let v : List Bool = b ∷ c ∷ d ∷ e ∷ f ∷ g ∷ h ∷ [] in
    let p = m ++ cells (run r m) in
    product_step t (quotient r m)
    ∙ ap {B = List Bool} (λ z. t ∷ z)
    (ap (add_front (scaled t)) (product_quotient r m ∙ sym (add_front_step a b c d e f g h x p)) ∙ add_front_self (scaled t) (add_front v p))

crc-multiple : (m : List Bool) → (q : List Bool) × (product q generator ≡ m ++ crc m)
crc-multiple m = (
  quotient empty m,
  product_quotient empty m ∙ add_front_zeros 8 (m ++ cells (run empty m)) ∙ ap (◌++◌ m) (sym (crc_run m)),
)

-- ---- the other way: a multiple of G leaves the register empty

length-add_front : (g p : List Bool) → length (add_front g p) ≡ length p
unfolding add_front
length-add_front [] p = refl
length-add_front (y ∷ g) [] = refl
length-add_front (y ∷ g) (b ∷ p) = ap suc (length-add_front g p)

length-product : (q : List Bool) → length (product q generator) ≡ length q + 8
unfolding product
length-product [] = refl
length-product (false ∷ q) = let ih = length-product q in omega arith
length-product (true ∷ q) = let ih = length-product q in omega (arith, length-add_front generator (false ∷ product q generator))

run_add_front : (g p : List Bool) (r s : Reg) → length g ≤ length p → run r g ≡ empty → run (sum r s) (add_front g p) ≡ run s p
unfolding add_front
run_add_front [] p r (reg a b c d e f g h) l q =
    let s : Reg = reg a b c d e f g h in
    let z : sum empty s ≡ s = simp false_xor in
    ap (λ (t : Reg). run (sum t s) p) q ∙ ap (λ (t : Reg). run t p) z
run_add_front (x ∷ g) [] r s l q = absurd (not-suc-le-zero l)
run_add_front (x ∷ g) (y ∷ p) r s l q =
    ap (λ (t : Reg). run t (add_front g p)) (step_sum r s x y) ∙ run_add_front g p (step r x) (step s y) (le_of_suc-le-suc l) q

run_product : (q : List Bool) → run empty (product q generator) ≡ empty
unfolding product xor
run_product [] = refl
run_product (false ∷ q) = run_product q
run_product (true ∷ q) =
    run_add_front generator (false ∷ product q generator) empty empty (omega (arith, length-product q)) refl ∙ run_product q

-- a word of at most eight bits that leaves the register empty is zero
short : (e : List Bool) → length e ≤ 8 → run empty e ≡ empty → count_true e ≡ 0
short e l q =
    let n : ¬ (0 < count_true e) = λ h.
    let p = multiple e (omega arith) h q in
    false≢true (sym (get_or-eq_default e false {n = last_true e} (omega arith)) ∙ at_last e h) in
    omega arith

sum_self : (r : Reg) → sum r r ≡ empty
sum_self (reg a b c d e f g h) = simp xor_self

crc-unique : (m r q : List Bool) → length r ≡ 8 → product q generator ≡ m ++ r → r ≡ crc m
unfolding xor
crc-unique m r q l e =
    let s = run empty m in
    let k : length r ≡ length (cells s) = l ∙ sym (length-cells s) in
    let both : sum (run s r) (run s (cells s)) ≡ empty =
    ap₂ sum (sym (run_append empty m r) ∙ ap (run empty) (sym e) ∙ run_product q) (run_self s) in
    let z : run empty (differences r (cells s)) ≡ empty =
    ap (λ (t : Reg). run t (differences r (cells s))) (sym (sum_self s)) ∙ run_sum s s r (cells s) k ∙ both in
    no_differences r (cells s) k (short (differences r (cells s)) (omega (arith, length-differences r (cells s) k)) z) ∙ sym (crc_run m)

pub is_remainder : IsRemainder crc
is_remainder = record { eight = length-crc; multiple = crc-multiple; only = crc-unique }
