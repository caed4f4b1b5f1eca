-- The ordering calls: which refusal comes where, and what a call that is not refused has found. Assumes nothing.
use mathlib.Core.Path.{◌≡◌, refl, sym, ap, ◌∙◌}
use mathlib.Core.Bool.{Bool, true, false, ◌&&◌}
use mathlib.Core.List.{List}
use Prim.Native.Nat.{ℕ, min, ◌+◌, ◌-◌, ◌*◌, ◌/◌, ◌%◌, ◌≤◌}
use native.Mathlib.Omega.{arith}
use lib.Dec.{leb}
use lib.ListN.{length, drop, length-map}
use borrow.Author.Tests.{leb-true, le-leb, eq-eqb, ne_eqb}
use Rattle.bits.specs.Bits.{one_if, clear, bits, pack, octets_for}
use Rattle.bits.proofs.BitLaws.{length-pack}
use Rattle.bits.proofs.Tests.{and_left, and_right}
use Rattle.definitions.specs.Outcome.{Outcome, refused, ok, unless}
use Rattle.definitions.specs.Frames.{core_bits, core_octets}
use Rattle.definitions.specs.Reading.{buffer_core, core_fill_clear, counted, overwritten, output_after}
use Rattle.definitions.specs.Order.{zero_or_one, row_bits, row_octets, ordered, unordered, table_for, sheet_sized, sheet_lent, sheet_complete, to_core_call, to_row_call}
use Rattle.definitions.specs.Claims.{HasTable}
use Rattle.definitions.proofs.Frames.{never}
use Rattle.definitions.proofs.Order.{table-permutes, has_table, length-ordered, length-unordered, to_core-shown, to_row-shown}
use Rattle.std.specs.Prelude.{Ok}
use Rattle.frame_builder.specs.Output.{IntoOutput}
use Rattle.order_tables.specs.Ready.{RowReady, CoreReady, with_core, with_row}

-- ---- how much is written

core-size : (m : ℕ) (sheet row : List ℕ) → HasTable m sheet → length (pack (ordered (table_for m sheet) (row_bits row))) ≡ core_octets m
core-size m sheet row h =
    length-pack (ordered (table_for m sheet) (row_bits row))
    ∙ ap octets_for (length-ordered (table_for m sheet) (row_bits row) ∙ (table-permutes m sheet h).whole)

row-size : (m : ℕ) (sheet core : List ℕ) → HasTable m sheet → length (row_octets (unordered (table_for m sheet) (buffer_core core m))) ≡ core_bits m
row-size m sheet core h =
    length-map (unordered (table_for m sheet) (buffer_core core m)) one_if
    ∙ length-unordered (table_for m sheet) (buffer_core core m) ∙ (table-permutes m sheet h).whole

-- ---- the first tests of either call

abbrev unless_found : (m : ℕ) (sheet : List ℕ) → Outcome ℕ
unless_found m sheet = unless 11 (leb m 8 && sheet_sized m sheet) (ok (core_bits m))

pub record Found (m : ℕ) (sheet : List ℕ) (k : ℕ) : Type 0 where
  pub mode : m ≤ 8
  pub sized : sheet_sized m sheet ≡ true
  pub size : k ≡ core_bits m

pub bits_found : (m : ℕ) (sheet : List ℕ) (k : ℕ) → ok k ≡ unless_found m sheet → Found m sheet k
bits_found m sheet k e = go (leb m 8 && sheet_sized m sheet) refl e
  where
    go : (b : Bool) → (leb m 8 && sheet_sized m sheet) ≡ b → ok k ≡ unless 11 b (ok (core_bits m)) → Found m sheet k
    go true t e = record { mode = leb-true _ _ (and_left _ _ t); sized = and_right (leb m 8) _ t; size = cc }
    go false t e = never 11 k (sym e)

-- the octets of its core
pub octets_found : (m k n : ℕ) → k ≡ core_bits m → n ≡ k / 8 + min 1 (k % 8) → n ≡ core_octets m
octets_found m k n e h =
    let c : n ≡ octets_for k = omega arith in c ∙ ap octets_for e

-- their refusal is the call's, whatever is judged with them and behind them
first_refused : (m : ℕ) (sheet : List ℕ) (n : ℕ) → refused n ≡ unless_found m sheet → (b : Bool) (r : Outcome (List ℕ))
    → refused n ≡ counted (unless 11 (leb m 8 && (sheet_sized m sheet && b)) r)
first_refused m sheet n e b r = go (leb m 8) (sheet_sized m sheet) e
  where
    go : (a z : Bool) → refused n ≡ unless 11 (a && z) (ok (core_bits m)) → refused n ≡ counted (unless 11 (a && (z && b)) r)
    go true true e = never n (core_bits m) e
    go true false e = e
    go false z e = e

-- ---- the last tests of either call

abbrev pub unless_written : (m : ℕ) (sheet : List ℕ) (room n : ℕ) → Outcome ℕ
unless_written m sheet room n = unless 12 (sheet_lent m sheet) (unless 24 (sheet_complete m sheet) (unless 10 (leb n room) (ok n)))

unless_counts : (n : ℕ) (b : Bool) (o : Outcome ℕ) (p : Outcome (List ℕ)) → (b ≡ true → o ≡ counted p) → unless n b o ≡ counted (unless n b p)
unless_counts n true o p e = e refl
unless_counts n false o p e = refl

written_counts : (m : ℕ) (sheet : List ℕ) (k room n : ℕ) (w : List ℕ) → Found m sheet k → (HasTable m sheet → length w ≡ n)
    → unless_written m sheet room n ≡ counted (unless 12 (sheet_lent m sheet) (unless 24 (sheet_complete m sheet) (unless 10 (leb n room) (ok w))))
written_counts m sheet k room n w f e =
    unless_counts 12 _ _ _ (λ l. unless_counts 24 _ _ _ (λ c. unless_counts 10 _ _ _ (λ r. ap ok (sym (e (has_table m sheet f.mode f.sized l c))))))

-- ---- from row to core

module _ (m : ℕ) (sheet row : List ℕ) (room : ℕ) where
  pub mode_refused : (n : ℕ) → refused n ≡ unless_found m sheet → refused n ≡ counted (to_core_call m sheet row room)
  unfolding to_core_call
  mode_refused n e = first_refused m sheet n e _ _

  module _ (k : ℕ) (f : Found m sheet k) where
    pub row-length : (length row ≡ core_bits m → ⊥) → refused 11 ≡ counted (to_core_call m sheet row room)
    unfolding to_core_call
    row-length l = rw (le-leb m 8 f.mode, f.sized, ne_eqb _ _ l)

    pub row_value : length row ≡ core_bits m → zero_or_one row ≡ false → refused 11 ≡ counted (to_core_call m sheet row room)
    unfolding to_core_call
    row_value l v = rw (le-leb m 8 f.mode, f.sized, eq-eqb _ _ l, v)

    pub row_good : length row ≡ core_bits m → zero_or_one row ≡ true
        → unless_written m sheet room (core_octets m) ≡ counted (to_core_call m sheet row room)
    unfolding to_core_call
    row_good l v =
        rw (le-leb m 8 f.mode, f.sized, eq-eqb _ _ l, v)
        (written_counts m sheet k room (core_octets m) (pack (ordered (table_for m sheet) (row_bits row))) f (core-size m sheet row))

pub row_taken : (m : ℕ) (sheet row core w : List ℕ) → to_core_call m sheet row (length core) ≡ ok w
    → RowReady m sheet row core × (with_core m sheet row core ≡ overwritten w core)
row_taken m sheet row core w e =
    let s = to_core-shown m sheet row (length core) w e in
    (record { has_table = s.0; size = s.1; values = s.2; room = s.3 }, ap (λ v. overwritten v core) s.4)

-- ---- from core to row

module _ (m : ℕ) (sheet core : List ℕ) (room : ℕ) where
  pub core-mode_refused : (n : ℕ) → refused n ≡ unless_found m sheet → refused n ≡ counted (to_row_call m sheet core room)
  unfolding to_row_call
  core-mode_refused n e = first_refused m sheet n e _ _

  module _ (k : ℕ) (f : Found m sheet k) where
    pub core_length : (length core ≡ core_octets m → ⊥) → refused 11 ≡ counted (to_row_call m sheet core room)
    unfolding to_row_call
    core_length l = rw (le-leb m 8 f.mode, f.sized, ne_eqb _ _ l)

    pub core_filling : length core ≡ core_octets m → core_fill_clear m core ≡ false → refused 5 ≡ counted (to_row_call m sheet core room)
    unfolding to_row_call
    core_filling l v = rw (le-leb m 8 f.mode, f.sized, eq-eqb _ _ l, v)

    pub core_good : length core ≡ core_octets m → core_fill_clear m core ≡ true
        → unless_written m sheet room (core_bits m) ≡ counted (to_row_call m sheet core room)
    unfolding to_row_call
    core_good l v =
        rw (le-leb m 8 f.mode, f.sized, eq-eqb _ _ l, v)
        (written_counts m sheet k room (core_bits m) (row_octets (unordered (table_for m sheet) (buffer_core core m))) f (row-size m sheet core))

pub core_taken : (m : ℕ) (sheet core row w : List ℕ) → to_row_call m sheet core (length row) ≡ ok w
    → CoreReady m sheet core row × (with_row m sheet core row ≡ overwritten w row)
core_taken m sheet core row w e =
    let s = to_row-shown m sheet core (length row) w e in
    (record { has_table = s.0; size = s.1; room = s.3 }, ap (λ v. overwritten v row) s.4)

-- the test that the code makes is the definition's
pub filling_there : (m k : ℕ) (core : List ℕ) → k ≡ core_bits m → clear (8 * length core - k) (drop k (bits core)) ≡ core_fill_clear m core
filling_there m k core e = ap (λ k. clear (8 * length core - k) (drop k (bits core))) e

-- ---- either call: its answer and its buffer, from what was judged

-- a call that is not refused writes something
pub writes : (o : Outcome (List ℕ)) (n : ℕ) → ok n ≡ counted o → (w : List ℕ) × (o ≡ ok w)
writes (refused k) n h = never k n (sym h)
writes (ok w) n h = (w, refl)

pub written_out : (o : Outcome (List ℕ)) (n : ℕ) (w d₀ d : List ℕ) → ok n ≡ counted o → o ≡ ok w → d ≡ overwritten w d₀ → IntoOutput o d₀ d (Ok n)
written_out o n w d₀ d e h b = record { answer = e; buffer = b ∙ ap (λ o. output_after o d₀) (sym h) }
