-- What is lent, after a viewer's call and after a sheet is read. Assumes nothing.
use Rattle.level_two.proofs.Claims.{lent_octets, lent_numbers}
use Rattle.level_two.proofs.lent_octets_claim.Goals as goal

pub returns : goal.returns
returns c = (lent_octets, lent_numbers)
