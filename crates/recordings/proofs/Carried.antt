-- A frame that is carried over keeps its type, its quality and its core, and so its size. Assumes nothing.
use mathlib.Core.Path.{◌≡◌, refl, sym, ap, ◌∙◌}
use mathlib.Core.Bool.{true}
use Prim.Native.Nat.{ℕ}
use lib.ListN.{length}
use Rattle.definitions.specs.Frames.{Format, if1, if2, storage, Frame, known, core_bits, octets, layout}
use Rattle.definitions.proofs.Frames.{size-layout}
use Rattle.recordings.specs.Conversion.{carried}

pub record Keeps (x y : Frame) : Type 0 where
  pub type : y.type ≡ x.type
  pub quality : y.quality ≡ x.quality
  pub core : y.core ≡ x.core

pub carried_keeps : (f g : Format) (r : ℕ) (x : Frame) → Keeps x (carried g f r x)
carried_keeps if1 if1 r x = record { type = refl; quality = refl; core = refl }
carried_keeps if2 if1 r x = record { type = refl; quality = refl; core = refl }
carried_keeps storage if1 r x = record { type = refl; quality = refl; core = refl }
carried_keeps f if2 r x = record { type = refl; quality = refl; core = refl }
carried_keeps f storage r x = record { type = refl; quality = refl; core = refl }

pub size-carried : (f g : Format) (r : ℕ) (x : Frame) → known x.type ≡ true → length x.core ≡ core_bits x.type
    → length (layout g (carried g f r x)) ≡ octets g x.type
size-carried f g r x k l =
    let c = carried_keeps f g r x in
    size-layout g (carried g f r x) (ap known c.type ∙ k) (ap length c.core ∙ l ∙ ap core_bits (sym c.type))
    ∙ ap (octets g) c.type
