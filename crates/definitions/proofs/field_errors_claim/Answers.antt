-- Each program answers one case otherwise. Assumes nothing.
use Rattle.definitions.proofs.WrongAnswerers.{mode_low_bit_first_lem, crc_of_whole_octets_lem, if2_header_stored_lem, no_added_one_lem}
use Rattle.definitions.proofs.field_errors_claim.Goals as goal

pub returns : goal.returns
returns c = (mode_low_bit_first_lem, crc_of_whole_octets_lem, if2_header_stored_lem, no_added_one_lem)
