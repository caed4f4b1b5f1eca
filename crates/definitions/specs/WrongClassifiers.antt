-- Wrong classifiers: no definition cites them, and the claim of a frame's class is refuted of each.
use Rattle.std.specs.Prelude.{Bool, true, false, cond, get_or, eqb}
use Rattle.definitions.specs.Frames.{sid_type, sti_at}
use Rattle.definitions.specs.Reception.{SidClass, sid_first, sid_update, sid_bad, sid, class_of, Classifier, frame_class}

-- one that takes d(34), the last of the codec bits, for STI
abbrev pub sti_at_34 : Classifier
sti_at_34 x = class_of x.type (eqb x.quality 1) (get_or x.core 34 false)

-- one that tells SID frames by STI, and only the others by quality
abbrev pub class_by_sti : Bool → Bool → SidClass
class_by_sti true good = sid_update
class_by_sti false true = sid_first
class_by_sti false false = sid_bad

abbrev pub sti_before_quality : Classifier
sti_before_quality x = cond (eqb x.type sid_type) (sid (class_by_sti (get_or x.core sti_at false) (eqb x.quality 1))) (frame_class x)
