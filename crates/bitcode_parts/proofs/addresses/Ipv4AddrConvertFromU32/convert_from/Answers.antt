use Rattle.std.proofs.Common.{sym, ap, ◌∙◌, pos}
use Rattle.bitcode_shapes.specs.Addresses.{ipv4_of_bits}
use Rattle.bitcode_shapes.specs.Datum.{number}
use Rattle.bitcode_parts.proofs.addresses.Ipv4AddrConvertFromU32.convert_from.Goals as goal

-- the address of a number has that number
pub returns-clause-made : goal.returns-clause-made
returns-clause-made c d made =
    made ∙ ap (λ n. number (pos n)) (sym (ipv4_of_bits c.from_bits.result c.args.value c.ranges.value.fits c.from_bits.ensures).1)
