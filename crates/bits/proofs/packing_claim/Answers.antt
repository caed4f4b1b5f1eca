-- Eight digits write an octet, and an octet has eight digits. Assumes nothing.
use Rattle.bits.proofs.BitLaws.{pack_bits, bits_pack, pack_octets}
use Rattle.bits.proofs.packing_claim.Goals as goal

pub returns : goal.returns
returns c = record { pack_bits = pack_bits; bits_pack = bits_pack; pack_octets = pack_octets }
