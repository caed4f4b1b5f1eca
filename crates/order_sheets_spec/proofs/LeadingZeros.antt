-- No number in a sheet has a leading zero: behind an octet that is no digit another such octet stands, or the digits of a number, and these are read
-- as it, while a 0 in front of a digit is not read. Assumes nothing.
use mathlib.Core.Path.{◌≡◌, refl, sym, ap, ◌∙◌}
use mathlib.Core.Bool.{Bool, true, false, cond, true≢false}
use mathlib.Core.List.{List, [], ◌∷◌, ◌++◌}
use Prim.Native.Nat.{ℕ, zero, suc, ◌+◌, ◌/◌, ◌%◌}
use native.Mathlib.Omega.{arith}
use lib.Dec.{ltb}
use lib.ListN.{length, get_or, drop}
use lib.Seq.{append_snoc}
use borrow.Author.Tests.{ltb-true, ne_eqb}
use Rattle.definitions.specs.Outcome.{refused}
use Rattle.definitions.specs.Decimal.{digits_up_to, decimal}
use Rattle.definitions.proofs.Outcome.{no_refusal}
use Rattle.order_sheets_spec.specs.Sheets.{equals, line_feed, lines_text, sheet_text, is_digit, digits, number}
use Rattle.order_sheets_spec.specs.Claims.{IsSheet}
use Rattle.order_sheets_spec.proofs.Numbers.{NoDigit, equals_ends, line_feed_ends, digit-true, digit-from, number-complete}

-- in no place of the text a 0 stands between an octet that is no digit and a digit
abbrev Free : List ℕ → Type 0
Free text = (front : List ℕ) (b c : ℕ) (s : List ℕ) → is_digit b ≡ false → is_digit c ≡ true → text ≡ front ++ (b ∷ 0x30 ∷ c ∷ s) → ⊥

-- ---- one octet more

free-last : (x : ℕ) → Free (x ∷ [])
free-last x [] b c s p q h = let e = ap length h in omega arith
free-last x (z ∷ []) b c s p q h = let e = ap length h in omega arith
free-last x (z ∷ y ∷ front) b c s p q h = let e = ap length h in omega arith

free-other : (x y : ℕ) (t : List ℕ) → (y ≡ 0x30 → ⊥) → Free (y ∷ t) → Free (x ∷ y ∷ t)
free-other x y t d f [] b c s p q h = d (ap (λ l. get_or l 1 0) h)
free-other x y t d f (z ∷ front) b c s p q h = f front b c s p q (ap (drop 1) h)

free-digit : (x : ℕ) (t : List ℕ) → is_digit x ≡ true → Free t → Free (x ∷ t)
free-digit x t d f [] b c s p q h = true≢false (sym d ∙ ap (λ l. is_digit (get_or l 0 0)) h ∙ p)
free-digit x t d f (z ∷ front) b c s p q h = f front b c s p q (ap (drop 1) h)

-- ---- a number more

free-digits : (most n : ℕ) (t : List ℕ) → Free t → Free (digits_up_to most n ++ t)
free-digits zero n t f = f
free-digits (suc most) n t f =
    go (ltb n 10) refl (free-digits most (n / 10) ((48 + n % 10) ∷ t) (free-digit _ t (digit-from (n % 10) (omega arith)) f))
  where
    go : (b : Bool) → ltb n 10 ≡ b → Free (digits_up_to most (n / 10) ++ ((48 + n % 10) ∷ t))
        → Free (cond b ((48 + n) ∷ []) (digits_up_to most (n / 10) ++ ((48 + n % 10) ∷ [])) ++ t)
    go true e g = free-digit (48 + n) t (digit-from n (ltb-true n 10 e)) f
    go false e g = λ front b c s p q h. g front b c s p q (sym (append_snoc (digits_up_to most (n / 10)) (48 + n % 10) t) ∙ h)

zero_in_front : (end : ℕ) → NoDigit end → (c : ℕ) (s : List ℕ) → is_digit c ≡ true → number end (0x30 ∷ c ∷ s) ≡ refused 23
unfolding number digits
zero_in_front end nd c s q = let d = digit-true c q in rw (ne_eqb c end (nd c d.0 d.1), q)

free-number : (x n end : ℕ) (t : List ℕ) → NoDigit end → Free (end ∷ t) → Free (x ∷ (decimal n ++ (end ∷ t)))
unfolding decimal
free-number x n end t nd f [] b c s p q h =
    no_refusal (n, t) 23 (sym (number-complete end nd n t) ∙ ap (λ l. number end (drop 1 l)) h ∙ zero_in_front end nd c s q)
free-number x n end t nd f (z ∷ front) b c s p q h = free-digits (suc n) n (end ∷ t) f front b c s p q (ap (drop 1) h)

-- ---- a sheet

free-lines : (j : ℕ) (table : List ℕ) → Free (line_feed ∷ lines_text j table [])
free-lines j [] = free-last line_feed
free-lines j (n ∷ table) =
    free-other line_feed 0x64 _ (λ e. omega arith)
    (free-number 0x64 j equals _ equals_ends (free-number equals n line_feed _ line_feed_ends (free-lines (suc j) table)))

pub no_leading_zero : (text : List ℕ) (m : ℕ) (table : List ℕ) → IsSheet text m table → Free text
unfolding sheet_text
no_leading_zero text m table i front b c s p q h = sheet front b c s p q (sym i.printed ∙ h)
  where
    bits_line : Free (line_feed ∷ 0x62 ∷ 0x69 ∷ 0x74 ∷ 0x73 ∷ 0x3D ∷ (decimal (length table) ++ (line_feed ∷ lines_text 0 table [])))
    bits_line =
        free-other line_feed 0x62 _ (λ e. omega arith) (free-other 0x62 0x69 _ (λ e. omega arith) (free-other 0x69 0x74 _ (λ e. omega arith)
        (free-other 0x74 0x73 _ (λ e. omega arith) (free-other 0x73 0x3D _ (λ e. omega arith)
        (free-number 0x3D (length table) line_feed _ line_feed_ends (free-lines 0 table))))))

    sheet : Free (sheet_text m table)
    sheet =
        free-other 0x6D 0x6F _ (λ e. omega arith) (free-other 0x6F 0x64 _ (λ e. omega arith) (free-other 0x64 0x65 _ (λ e. omega arith)
        (free-other 0x65 0x3D _ (λ e. omega arith) (free-number 0x3D m line_feed _ line_feed_ends bits_line))))
