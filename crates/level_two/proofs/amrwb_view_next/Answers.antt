-- `amrwb_view_next` meets its contract: the core of a frame that is shown fits the buffer, so that its STI is there. Assumes nothing.
use native.Mathlib.Omega.{arith}
use Rattle.std.proofs.Common.{rules, ◌≡◌, Ok, Some}
use Rattle.viewer.proofs.NextLaws.{core_fits}
use Rattle.level_two.proofs.amrwb_view_next.Goals as goal

pub frame_class-requires : goal.frame_class-requires
frame_class-requires c =
    let a = c.args in
    let v = c.view_next in
    let f = c.in-Ok-Some in
    let is : v.result ≡ Ok (Some (f.h, f.behind)) = search rules in
    omega (arith, core_fits a.format a.offset a.number a.rec.now a.core.now v.new.core v.result f.h f.behind v.ensures is, v.auto.core)
