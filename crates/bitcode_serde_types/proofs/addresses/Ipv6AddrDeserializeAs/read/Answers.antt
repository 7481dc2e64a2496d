-- The octets of the address are those that were read.
use Rattle.std.proofs.Common.{◌≡◌, ap, ◌∙◌}
use Rattle.std.specs.Net.Addr.{ipv6_octets, octets_of, segments_of}
use Rattle.bitcode_shapes.specs.Octets.{octets_again}
use Rattle.bitcode_coder.specs.Spelling.{natural}
use Rattle.bitcode_serde_types.specs.Arrays.{array_datum}
use Rattle.bitcode_serde_types.proofs.KeptLemmas.{kept_otherwise}
use Rattle.bitcode_serde_types.proofs.addresses.Ipv6AddrDeserializeAs.read.Goals as goal

pub returns-clause-read : goal.returns-clause-read
returns-clause-read c =
    let octets = c.in_ok-octets.octets in
    let told = c.told.ensures in
    let same : octets_of (segments_of octets) ≡ octets = octets_again octets 8 told.count told.each in
    kept_otherwise _ (array_datum natural) (λ a. array_datum natural (ipv6_octets a)) _ _ _ octets c.from_octets.result
    (ap (array_datum natural) (ap octets_of c.from_octets.ensures ∙ same)) c.in_ok-octets.ensures.read
