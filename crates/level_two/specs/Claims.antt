-- Demand 1 at the C interface, of the viewer and of a sheet that is read. Of the viewer a refused call and one at the end write no lent octet and
-- leave the place and the number; another writes the packed core into the front of its buffer alone.
use Rattle.std.specs.Prelude.{◌≡◌, List, ℕ, length}
use Rattle.bits.specs.Bits.{pack}
use Rattle.definitions.specs.Outcome.{refused, ok}
use Rattle.definitions.specs.Frames.{Frame}
use Rattle.definitions.specs.Reception.{frame_class}
use Rattle.recordings.specs.Placed.{refused_at, done}
use Rattle.recordings.specs.Viewer.{shows, end}
use Rattle.order_sheets.specs.declared.SheetAnswer.{SheetAnswer}
use Rattle.order_sheets.specs.Flat.{FlatSheet}
use Rattle.answers.specs.Claims.{Written}
use Rattle.level_two.specs.declared.ViewAnswer.{ViewAnswer}
use Rattle.level_two.specs.Flat.{class_number, FlatView}

pub record ViewerLentOctets : Type 0 where
  pub view_refused : (n k at : ℕ) (place : ℕ × ℕ) (d₀ d : List ℕ) (r : ViewAnswer) → FlatView (refused_at n k at) place d₀ d r
      → (d ≡ d₀) × (r.refusal ≡ n) × (r.frame ≡ k) × (r.octet ≡ at) × (r.number ≡ place.0) × (r.offset ≡ place.1) × (r.class ≡ 0)
  pub view_ended : (place : ℕ × ℕ) (d₀ d : List ℕ) (r : ViewAnswer) → FlatView (done end) place d₀ d r
      → (d ≡ d₀) × (r.refusal ≡ 0) × (r.end ≡ 1) × (r.number ≡ place.0) × (r.offset ≡ place.1) × (r.class ≡ 0)
  pub view_shown : (x : Frame) (number offset : ℕ) (place : ℕ × ℕ) (d₀ d : List ℕ) (r : ViewAnswer) → FlatView (done (shows x number offset)) place d₀ d r
      → Written (pack x.core) d₀ d × (r.refusal ≡ 0) × (r.end ≡ 0) × (r.number ≡ number) × (r.offset ≡ offset) × (r.class ≡ class_number (frame_class x))

-- a refused call leaves the buffer of numbers; another writes the table to its front alone
pub record SheetLentNumbers : Type 0 where
  pub sheet_refused : (n : ℕ) (d₀ d : List ℕ) (r : SheetAnswer) → FlatSheet (refused n) d₀ d r → (d ≡ d₀) × (r.refusal ≡ n) × (r.mode ≡ 0) × (r.numbers ≡ 0)
  pub sheet_read : (m : ℕ) (table d₀ d : List ℕ) (r : SheetAnswer) → FlatSheet (ok (m, table)) d₀ d r
      → Written table d₀ d × (r.refusal ≡ 0) × (r.mode ≡ m) × (r.numbers ≡ length table)
