-- `downlink::split_frame` meets its contract: a frame that was read is there whole. Assumes nothing.
use mathlib.Core.Path.{sym}
use mathlib.Core.Bool.{true}
use Rattle.definitions.specs.Frames.{if1}
use Rattle.definitions.proofs.Frames.{read_known}
use Rattle.downlink.proofs.split_frame.Goals as goal

pub split_read-requires : goal.split_read-requires
split_read-requires c = (read_known true if1 _ _ _ (sym c.in_ok-h.ensures)).1
