-- The header tells where the front ends, and a checksum keeps every difference within four bytes in a row.
use Rattle.std.proofs.Common.{◌<◌, arith}
use Rattle.std.proofs.lemmas.List.Elements.{All-from_get_or}
use Rattle.bitcode_sealed.proofs.FrontDamageLemmas.{front_damage_seen}
use Rattle.bitcode_sealed.proofs.laws.damage_in_front_is_seen.Goals as goal

pub returns : goal.returns
returns c =
    let bytes = c.args.bytes.now in
    let input = c.args.input.now in
    front_damage_seen bytes input (All-from_get_or (λ b. b < 256) bytes 0 (λ i _. omega (arith, c.type_inv.bytes i)))
    (All-from_get_or (λ b. b < 256) input 0 (λ i _. omega (arith, c.type_inv.input i))) (omega arith) (omega arith)
