-- A checksum keeps every difference within four bytes in a row.
use Rattle.std.proofs.Common.{◌<◌, arith}
use Rattle.std.proofs.lemmas.List.Elements.{All-from_get_or}
use Rattle.bitcode_sealed.proofs.DamageLemmas.{damage_seen}
use Rattle.bitcode_sealed.proofs.laws.damage_is_seen.Goals as goal

pub returns : goal.returns
returns c =
    let bytes = c.args.bytes.now in
    let damaged = c.args.damaged.now in
    damage_seen bytes damaged (All-from_get_or (λ b. b < 256) bytes 0 (λ i _. omega (arith, c.type_inv.bytes i))) (All-from_get_or (λ b. b < 256) damaged 0 (λ i _. omega (arith, c.type_inv.damaged i)))
