-- What is asked where a row or a core of mode m is put in order, and what is then in the output buffer.
use Rattle.std.specs.Prelude.{◌≡◌, true, List, ℕ, ◌≤◌, length}
use Rattle.bits.specs.Bits.{pack}
use Rattle.definitions.specs.Frames.{core_bits, core_octets}
use Rattle.definitions.specs.Reading.{buffer_core, overwritten}
use Rattle.definitions.specs.Order.{zero_or_one, row_bits, row_octets, ordered, unordered, table_for}
use Rattle.definitions.specs.Claims.{HasTable}

pub record RowReady (m : ℕ) (sheet row core : List ℕ) : Type 0 where
  pub has_table : HasTable m sheet
  pub size : length row ≡ core_bits m
  pub values : zero_or_one row ≡ true
  pub room : core_octets m ≤ length core

abbrev pub with_core : (m : ℕ) → (sheet row core : List ℕ) → List ℕ
with_core m sheet row core = overwritten (pack (ordered (table_for m sheet) (row_bits row))) core

pub record CoreReady (m : ℕ) (sheet core row : List ℕ) : Type 0 where
  pub has_table : HasTable m sheet
  pub size : length core ≡ core_octets m
  pub room : core_bits m ≤ length row

abbrev pub with_row : (m : ℕ) → (sheet core row : List ℕ) → List ℕ
with_row m sheet core row = overwritten (row_octets (unordered (table_for m sheet) (buffer_core core m))) row
