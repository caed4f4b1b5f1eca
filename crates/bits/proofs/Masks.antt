-- Masks and shifts as the code writes them.
-- Assumes nothing.
use mathlib.Core.Path.{◌≡◌, sym, ap, ap₂, ◌∙◌, subst}
use mathlib.Core.List.{List, ◌++◌}
use mathlib.Core.Bool.{Bool, false}
use Prim.Native.Nat.{ℕ, suc, ◌+◌, ◌-◌, ◌*◌, ◌/◌, ◌%◌, ◌^◌, ◌≤◌, ◌<◌}
use native.Mathlib.Nat.{one-mul, div-one, add_comm, mul_assoc, add-mul-div_right, mul-mod_left, zero-mul, zero-add, add_assoc, mod-lt, lt_of_lt_of_le, lt_of_le_of_lt, add-zero}
use native.Mathlib.Omega.{arith}
use lib.ListN.{length, get_or, set, take, drop, replicate, length-drop}
use lib.Seq.{drop-drop, take_all, length-take-le}
use borrow.Rule.Slice.PartMut.{put_mid}
use lib.Dec.{lit≤, lit<, eqb}
use native.Mathlib.Numerals.{add-one}
use lib.Bits.{bit_and, bit_or, and_mask, and_block, or_block, or_zero_r, or_shifted, or_shifted_r, and_le_l, or_lt}
use lib.Pow.{pow_pos, pow_mono, shl_exact, shl_lt, split, ones_lt, ones_split, mod-mod-pow, high, low, pow-add, shr_lt, shl-shr, mod-pow-add}
use Rattle.bits.specs.Bits.{octets_for, Octets, bits, num, odd, copied, digits}
use Rattle.bits.proofs.BitLaws.{octet_field, digits-zero, window_field, bits-get_or, bits_put, copied_more, length-bits, bits-take, bits-drop, bits-append, digits-num-le, digits-join, digits_mod, take-digits, drop-digits}

-- `1 << k` at u32
pub one_shl : (k : ℕ) → k ≤ 8 → (1 * 2 ^ k) % 2 ^ 32 ≡ 2 ^ k
one_shl k h = shl_exact 1 k 32 (lit< tt) (omega arith) ∙ one-mul (2 ^ k)

-- `(1 << k) - 1` at u32
pub ones_shl : (k : ℕ) → k ≤ 8 → (1 * 2 ^ k) % 2 ^ 32 - 1 ≡ 2 ^ k - 1
ones_shl k h = ap (λ (n : ℕ). n - 1) (one_shl k h)

-- an octet with a field of k digits put below its a top ones and above its b low ones
module _ (a k b x v : ℕ) (e : a + (k + b) ≡ 8) (hv : v < 2 ^ k) where
  clear : 255 - (2 ^ k - 1) * 2 ^ b ≡ (2 ^ a - 1) * 2 ^ (k + b) + (2 ^ b - 1)
  clear =
      let p : 255 ≡ 2 ^ (a + (k + b)) - 1 = ap (λ (n : ℕ). 2 ^ n - 1) (sym e) in
      omega (arith, p, ones_split a (k + b), ones_split k b)

  low_lt : 2 ^ b - 1 < 2 ^ (k + b)
  low_lt = lt_of_lt_of_le (ones_lt b) (pow_mono (omega arith))

  kept : bit_and x (255 - (2 ^ k - 1) * 2 ^ b) ≡ x / 2 ^ (k + b) % 2 ^ a * 2 ^ (k + b) + x % 2 ^ b
  kept =
      ap₂ bit_and (sym (split x (k + b))) clear
      ∙ and_block (k + b) (x / 2 ^ (k + b)) (2 ^ a - 1) (x % 2 ^ (k + b)) (2 ^ b - 1) (mod-lt x (pow_pos (k + b))) low_lt
      ∙ ap₂ (λ (p q : ℕ). p * 2 ^ (k + b) + q) (and_mask (x / 2 ^ (k + b)) a) (and_mask (x % 2 ^ (k + b)) b ∙ mod-mod-pow x k b)

  rest_lt : x % 2 ^ b < 2 ^ (k + b)
  rest_lt = lt_of_lt_of_le (mod-lt x (pow_pos b)) (pow_mono (omega arith))

  new_lt : v * 2 ^ b < 2 ^ (k + b)
  new_lt = shl_lt k b hv

  put_is : bit_or (bit_and x (255 - (2 ^ k - 1) * 2 ^ b)) (v * 2 ^ b) ≡ x / 2 ^ (k + b) % 2 ^ a * 2 ^ (k + b) + (v * 2 ^ b + x % 2 ^ b)
  put_is =
      ap₂ bit_or kept (sym (zero-add (v * 2 ^ b)) ∙ ap (λ (n : ℕ). n + v * 2 ^ b) (sym (zero-mul (2 ^ (k + b)))))
      ∙ or_block (k + b) (x / 2 ^ (k + b) % 2 ^ a) 0 (x % 2 ^ b) (v * 2 ^ b) rest_lt new_lt
      ∙ ap₂ (λ (p q : ℕ). p * 2 ^ (k + b) + q) (or_zero_r (x / 2 ^ (k + b) % 2 ^ a)) (or_shifted_r v b (x % 2 ^ b) (mod-lt x (pow_pos b)))

  tail-lt : v * 2 ^ b + x % 2 ^ b < 2 ^ (k + b)
  tail-lt = rw (lib.Pow.pow-add 2 k b) (lib.Arith.digits_lt hv (mod-lt x (pow_pos b)))

  pub put-digits : digits 8 (bit_or (bit_and x (255 - (2 ^ k - 1) * 2 ^ b)) (v * 2 ^ b))
      ≡ take a (digits 8 x) ++ (digits k v ++ drop (a + k) (digits 8 x))
  put-digits =
      ap (digits 8) put_is
      ∙ ap (λ (n : ℕ). digits n (x / 2 ^ (k + b) % 2 ^ a * 2 ^ (k + b) + (v * 2 ^ b + x % 2 ^ b))) (sym e)
      ∙ digits-join a (k + b) (x / 2 ^ (k + b) % 2 ^ a) (v * 2 ^ b + x % 2 ^ b) tail-lt
      ∙ ap₂ (λ (p q : List Bool). p ++ q)
      (digits_mod a (x / 2 ^ (k + b)) ∙ sym (take-digits a (k + b) x) ∙ ap (λ (n : ℕ). take a (digits n x)) e)
      (digits-join k b v (x % 2 ^ b) (mod-lt x (pow_pos b))
      ∙ ap (λ (l : List Bool). digits k v ++ l)
      (digits_mod b x ∙ sym (drop-digits (a + k) b x) ∙ ap (λ (n : ℕ). drop (a + k) (digits n x)) (add_assoc a k b ∙ e)))

  pub put-lt : x < 2 ^ 8 → bit_or (bit_and x (255 - (2 ^ k - 1) * 2 ^ b)) (v * 2 ^ b) < 2 ^ 8
  put-lt h = or_lt 8 (bit_and x (255 - (2 ^ k - 1) * 2 ^ b)) (v * 2 ^ b) (lt_of_le_of_lt (and_le_l x (255 - (2 ^ k - 1) * 2 ^ b)) h) (lt_of_lt_of_le new_lt (pow_mono {i = k + b} {j = 8} (omega arith)))

-- ---- the values that the code computes

pub shifted_ones : (k b : ℕ) → k + b ≤ 8 → ((1 * 2 ^ k) % 2 ^ 32 - 1) * 2 ^ b % 2 ^ 32 ≡ (2 ^ k - 1) * 2 ^ b
shifted_ones k b h = ap (λ (n : ℕ). n * 2 ^ b % 2 ^ 32) (ones_shl k (omega arith)) ∙ shl_exact k b 32 (ones_lt k) (omega arith)

pub shifted_ones-le : (k b : ℕ) → k + b ≤ 8 → ((1 * 2 ^ k) % 2 ^ 32 - 1) * 2 ^ b % 2 ^ 32 ≤ 255
shifted_ones-le k b h =
    let l : (2 ^ k - 1) * 2 ^ b < 2 ^ 8 = lt_of_lt_of_le (shl_lt k b (ones_lt k)) (pow_mono {i = k + b} {j = 8} h) in
    omega (arith, shifted_ones k b h)

-- what `with_field` computes
abbrev pub put_code : ℕ → ℕ → ℕ → ℕ → ℕ
put_code k b x v = bit_or (bit_and x (255 - ((1 * 2 ^ k) % 2 ^ 32 - 1) * 2 ^ b % 2 ^ 32)) (v * 2 ^ b % 2 ^ 32)

pub put_code_is : (k b x v : ℕ) → k + b ≤ 8 → v < 2 ^ k → put_code k b x v ≡ bit_or (bit_and x (255 - (2 ^ k - 1) * 2 ^ b)) (v * 2 ^ b)
put_code_is k b x v h hv = ap₂ (λ (m n : ℕ). bit_or (bit_and x (255 - m)) n) (shifted_ones k b h) (shl_exact k b 32 hv (omega arith))

-- what `field_at` computes
pub read_is : (s : List ℕ) (from k lo : ℕ) → Octets s → k ≤ 8 → from < 8 * length s → lo ≡ get_or s (from / 8 + 1) 0
    → bit_and (bit_or (get_or s (from / 8) 0 * 256 % 2 ^ 32) lo / 2 ^ (16 - from % 8 - k)) ((1 * 2 ^ k) % 2 ^ 32 - 1) ≡ num k (drop from (bits s))
read_is s from k lo o hk hf e =
    let q : ℕ = from / 8 in
    let a : ℕ = from % 8 in
    let b : ℕ = 16 - from % 8 - k in
    let e' : lo ≡ get_or s (suc (from / 8)) 0 = e ∙ ap (λ (n : ℕ). get_or s n 0) (add-one (from / 8)) in
    let hlo : lo < 2 ^ 8 = subst (λ (n : ℕ). n < 2 ^ 8) (sym e') (o (suc (from / 8))) in
    let at : 8 * (from / 8) + from % 8 ≡ from = omega arith in
    ap₂ (λ (w m : ℕ). bit_and (w / 2 ^ b) m)
    (ap (λ (n : ℕ). bit_or n lo) (shl_exact 8 8 32 (o q) (lit≤ tt)) ∙ or_shifted (get_or s q 0) 8 lo hlo)
    (ones_shl k hk)
    ∙ and_mask ((get_or s q 0 * 2 ^ 8 + lo) / 2 ^ b) k
    ∙ ap (λ (n : ℕ). (get_or s q 0 * 2 ^ 8 + n) / 2 ^ b % 2 ^ k) e'
    ∙ sym (window_field q a k b s o (omega arith) (omega arith) (omega arith))
    ∙ ap (λ (n : ℕ). num k (drop n (bits s))) at

-- what `bit_at` computes
pub bit_is : (s : List ℕ) (i : ℕ) → i < 8 * length s → eqb (bit_and (get_or s (i / 8) 0 / 2 ^ (7 - i % 8)) 1) 1 ≡ get_or (bits s) i false
unfolding odd
bit_is s i h =
    let at : 8 * (i / 8) + i % 8 ≡ i = omega arith in
    ap (λ (n : ℕ). eqb n 1) (and_mask (get_or s (i / 8) 0 / 2 ^ (7 - i % 8)) 1)
    ∙ sym (bits-get_or (i / 8) (i % 8) (7 - i % 8) s (omega arith) (omega arith))
    ∙ ap (λ (n : ℕ). get_or (bits s) n false) at

-- k bits go into the octet that holds bit at
pub part : (src dst : List ℕ) (from at k v y : ℕ) → from + k ≤ 8 * length src → at + k ≤ 8 * length dst → 0 < k → at % 8 + k ≤ 8
    → v ≡ num k (drop from (bits src))
    → digits 8 y ≡ take (at % 8) (digits 8 (get_or dst (at / 8) 0)) ++ (digits k v ++ drop (at % 8 + k) (digits 8 (get_or dst (at / 8) 0)))
    → bits (set dst (at / 8) y) ≡ copied (bits dst) at (drop from (bits src)) k
part src dst from at k v y hs hd k0 k8 ev ey =
    let place : 8 * (at / 8) + at % 8 ≡ at = omega arith in
    let new : digits k v ≡ take k (drop from (bits src)) =
    ap (digits k) ev ∙ digits-num-le k (drop from (bits src)) (omega (arith, length-drop from (bits src), length-bits src)) in
    bits_put (at / 8) (at % 8) k dst y (digits k v) (omega arith) k8 ey
    ∙ ap₂ (λ (p : ℕ) (l : List Bool). take p (bits dst) ++ (l ++ drop (p + k) (bits dst))) place new

-- a copy of m bits and then one of k more
pub then : (src d₀ dst : List ℕ) (from at m k : ℕ) (x : List Bool) → from + (m + k) ≤ 8 * length src → at + (m + k) ≤ 8 * length d₀
    → bits dst ≡ copied (bits d₀) at (drop from (bits src)) m
    → x ≡ copied (bits dst) (at + m) (drop (from + m) (bits src)) k
    → x ≡ copied (bits d₀) at (drop from (bits src)) (m + k)
then src d₀ dst from at m k x hs hd e f =
    f ∙ ap (λ (l : List Bool). copied (bits dst) (at + m) l k) (sym (drop-drop m from (bits src)))
    ∙ copied_more (bits d₀) (bits dst) at (drop from (bits src)) m k
    (omega (arith, length-bits d₀)) (omega (arith, length-drop from (bits src), length-bits src)) e

-- m octets, which hold the first bits of s, in place of as many of the target
pub octets_put : (s : List Bool) (dst x : List ℕ) (j m : ℕ) → bits x ≡ take (8 * m) s → bits (put_mid j (j + m - j) dst x) ≡ copied (bits dst) (8 * j) s (8 * m)
octets_put s dst x j m e =
    let behind : bits (drop (j + m - j) (drop j dst)) ≡ drop (8 * j + 8 * m) (bits dst) =
    ap bits (drop-drop (j + m - j) j dst) ∙ bits-drop (j + (j + m - j)) dst
    ∙ ap (λ (k : ℕ). drop k (bits dst)) (let q : 8 * (j + (j + m - j)) ≡ 8 * j + 8 * m = omega arith in q) in
    bits-append (take j dst) (x ++ drop (j + m - j) (drop j dst))
    ∙ ap₂ (λ (l r : List Bool). l ++ r) (bits-take j dst) (bits-append x (drop (j + m - j) (drop j dst)) ∙ ap₂ (λ (l r : List Bool). l ++ r) e behind)

-- the bits from index p on, by the octet that has it
pub from_octet : (s : List ℕ) (p : ℕ) → drop (p % 8) (bits (drop (p / 8) s)) ≡ drop p (bits s)
from_octet s p =
    let at : 8 * (p / 8) + p % 8 ≡ p = omega arith in
    ap (drop (p % 8)) (bits-drop (p / 8) s) ∙ drop-drop (p % 8) (8 * (p / 8)) (bits s) ∙ ap (λ (k : ℕ). drop k (bits s)) at

-- the same of what `put_run` passes on: m octets of the target from j on, and the source from the octet that has bit p
pub passed : (src d : List ℕ) (p j m : ℕ) → j + m ≤ length d
    → take (8 * length (take (j + m - j) (drop j d))) (drop (p % 8) (bits (take (length src - p / 8) (drop (p / 8) src)))) ≡ take (8 * m) (drop p (bits src))
passed src d p j m h =
    let long : length (take (j + m - j) (drop j d)) ≡ m = length-take-le (j + m - j) (drop j d) (omega (arith, length-drop j d)) ∙ omega arith in
    ap₂ (λ (k : ℕ) (l : List ℕ). take (8 * k) (drop (p % 8) (bits l))) long (take_all (length src - p / 8) (drop (p / 8) src) (omega (arith, length-drop (p / 8) src)))
    ∙ ap (take (8 * m)) (from_octet src p)

-- `(hi << a) | (lo >> b)` at u8, with a + b = 8
pub shifted_is : (a b hi lo : ℕ) → b + a ≡ 8 → lo < 2 ^ 8
    → bit_or (hi * 2 ^ a % 2 ^ 8) (lo / 2 ^ b) ≡ (hi * 2 ^ 8 + lo) / 2 ^ b % 2 ^ 8
shifted_is a b hi lo e h =
    let l : lo / 2 ^ b < 2 ^ a = shr_lt a b (subst (λ (n : ℕ). lo < 2 ^ n) (sym e ∙ add_comm b a) h) in
    let left : hi * 2 ^ a % 2 ^ 8 ≡ hi % 2 ^ b * 2 ^ a =
    ap (λ (n : ℕ). hi * 2 ^ a % 2 ^ n) (sym e) ∙ mod-pow-add (hi * 2 ^ a) b a
    ∙ ap₂ (λ (p q : ℕ). p % 2 ^ b * 2 ^ a + q) (shl-shr hi a) (mul-mod_left hi (2 ^ a))
    ∙ add-zero (hi % 2 ^ b * 2 ^ a) in
    let wide : hi * 2 ^ 8 + lo ≡ lo + hi * 2 ^ a * 2 ^ b =
    ap (λ (n : ℕ). hi * 2 ^ n + lo) (sym e ∙ add_comm b a) ∙ ap (λ (n : ℕ). hi * n + lo) (pow-add 2 a b)
    ∙ ap (λ (n : ℕ). n + lo) (sym (mul_assoc hi (2 ^ a) (2 ^ b))) ∙ add_comm (hi * 2 ^ a * 2 ^ b) lo in
    ap (λ (n : ℕ). bit_or n (lo / 2 ^ b)) left ∙ or_shifted (hi % 2 ^ b) a (lo / 2 ^ b) l
    ∙ sym (ap (λ (n : ℕ). n / 2 ^ b % 2 ^ 8) wide
    ∙ ap (λ (n : ℕ). n % 2 ^ 8) (add-mul-div_right lo (hi * 2 ^ a) (pow_pos b) ∙ add_comm (lo / 2 ^ b) (hi * 2 ^ a))
    ∙ ap (λ (n : ℕ). (hi * 2 ^ a + lo / 2 ^ b) % 2 ^ n) (sym e)
    ∙ mod-pow-add (hi * 2 ^ a + lo / 2 ^ b) b a
    ∙ ap₂ (λ (p q : ℕ). p % 2 ^ b * 2 ^ a + q) (high hi a l) (low hi a l))

-- two copies in a row: g bits, and then m octets of bits, which begin at a border
pub two : (src d₀ d₁ d₂ : List ℕ) (from at n g m j : ℕ) → from + n ≤ 8 * length src → at + n ≤ 8 * length d₀ → g + 8 * m ≤ n → 8 * j ≡ at + g
    → bits d₁ ≡ copied (bits d₀) at (drop from (bits src)) g
    → bits d₂ ≡ copied (bits d₁) (8 * j) (drop (from + g) (bits src)) (8 * m)
    → bits d₂ ≡ copied (bits d₀) at (drop from (bits src)) (g + 8 * m)
two src d₀ d₁ d₂ from at n g m j hs hd h ej e₁ e₂ =
    then src d₀ d₁ from at g (8 * m) (bits d₂) (omega arith) (omega arith) e₁
    (e₂ ∙ ap (λ (p : ℕ). copied (bits d₁) p (drop (from + g) (bits src)) (8 * m)) ej)

-- what `low_bits` computes
pub low_is : (s : List ℕ) (n k : ℕ) → k ≤ 8 → 0 < n → n ≤ length s
    → bit_and (get_or s (n - 1) 0) ((1 * 2 ^ k) % 2 ^ 32 - 1) ≡ num k (drop (8 * n - k) (bits s))
low_is s n k hk h0 hn =
    let place : 8 * (n - 1) + (8 - k) ≡ 8 * n - k = omega arith in
    ap (bit_and (get_or s (n - 1) 0)) (ones_shl k hk) ∙ and_mask (get_or s (n - 1) 0) k
    ∙ ap (λ (x : ℕ). x % 2 ^ k) (sym (div-one (get_or s (n - 1) 0)))
    ∙ sym (octet_field (n - 1) (8 - k) k 0 s (omega arith) (omega arith))
    ∙ ap (λ (i : ℕ). num k (drop i (bits s))) place

-- what `clear_to_border` stores
module _ (d : List ℕ) (end : ℕ) where
  pub cleared : (y : ℕ) → end ≤ 8 * length d → 0 < end % 8
      → digits 8 y ≡ take (end % 8) (digits 8 (get_or d (end / 8) 0)) ++ (digits (8 - end % 8) 0 ++ drop (end % 8 + (8 - end % 8)) (digits 8 (get_or d (end / 8) 0)))
      → bits (set d (end / 8) y) ≡ take end (bits d) ++ (replicate (8 * octets_for end - end) false ++ drop (8 * octets_for end) (bits d))
  cleared y h p e =
      let a : ℕ = end % 8 in
      let place : 8 * (end / 8) + end % 8 ≡ end = omega arith in
      let few : 8 - end % 8 ≡ 8 * octets_for end - end = omega arith in
      let past : 8 * (end / 8) + end % 8 + (8 - end % 8) ≡ 8 * octets_for end = omega arith in
      bits_put (end / 8) a (8 - a) d y (digits (8 - a) 0) (omega arith) (omega arith) e
      ∙ ap₂ (λ (p q : ℕ). take p (bits d) ++ (digits (8 - end % 8) 0 ++ drop q (bits d))) place past
      ∙ ap (λ (l : List Bool). take end (bits d) ++ (l ++ drop (8 * octets_for end) (bits d))) (digits-zero (8 - a) ∙ ap (λ (k : ℕ). replicate k false) few)
