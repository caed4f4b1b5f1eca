-- `bits::put_run` meets its contract: the run is copied up to a border, then by whole octets, and its last octet is written filled up; a run
-- that ends before the first border is copied, and then filled up. Assumes nothing.
use Rattle.std.proofs.Common.{ℕ, List, drop, ◌∙◌, ◌+◌, ◌-◌, ◌*◌, ◌/◌, ◌%◌, arith, rules}
use Rattle.bits.proofs.BitLaws.{put_is, put_last_is}
use Rattle.bits.proofs.Masks.{two, octets_put, passed}
use Rattle.bits.specs.Bits.{bits}
use borrow.Rule.Slice.PartMut.{put_mid}
use Rattle.bits.proofs.put_run.Goals as goal

pub returns-then-n-gap : goal.returns-then-n-gap
returns-then-n-gap c =
    let a = c.args in
    put_is a.src.now a.dst.now c.copy_part.new.dst c.clear_to_border.new.dst a.from a.n a.at
    (λ i. search rules) (λ i. search rules) c.requires.0 c.requires.1 c.copy_part.ensures c.clear_to_border.ensures

pub returns : goal.returns
returns c =
    let a = c.args in
    let g : ℕ = (8 - a.at % 8) % 8 in
    let m : ℕ = (a.n - g) / 8 in
    let d₁ = c.copy_part-2.new.dst in
    let d₂ : List ℕ = put_mid ((a.at + g) / 8) ((a.at + g) / 8 + m - (a.at + g) / 8) d₁ c.copy_octets.new.dst in
    put_last_is a.src.now a.dst.now d₂ c.put_last.new.dst a.from a.n a.at (g + 8 * m) ((a.n - g) % 8) ((a.at + g) / 8 + m) (a.from + g + 8 * m)
    (λ i. search rules) (λ i. search rules) c.requires.0 c.requires.1 (omega arith) (omega arith) (omega arith)
    (two a.src.now a.dst.now d₁ d₂ a.from a.at a.n g m ((a.at + g) / 8) c.requires.0 c.requires.1 (omega arith) (omega arith) c.copy_part-2.ensures
    (octets_put (drop (a.from + g) (bits a.src.now)) d₁ c.copy_octets.new.dst ((a.at + g) / 8) m (c.copy_octets.ensures ∙ passed a.src.now d₁ (a.from + g) ((a.at + g) / 8) m (omega (arith, c.copy_part-2.auto.dst)))))
    c.put_last.ensures
