-- The parts behind the head.
use Rattle.std.proofs.Common.{◌<◌, arith}
use Rattle.std.proofs.lemmas.List.Elements.{All-from_get_or}
use Rattle.bitcode_sealed.proofs.ValueLemmas.{AreParts, value_found, value_not_found}
use Rattle.bitcode_sealed.proofs.bytes.split_value.Goals as goal

pub returns-then-stored-computed-clause-refused : goal.returns-then-stored-computed-clause-refused
returns-then-stored-computed-clause-refused c =
    let input = c.args.input.now in
    let parts : AreParts c.args.head input c.split_at.result.0.now c.split_at.result.1.now c.split_at-2.result.0.now c.split_at-2.result.1.now c.from_unaligned-stored.result = record {
      bytes = All-from_get_or (λ b. b < 256) input 0 (λ i _. omega (arith, c.type_inv.input i));
      begins = c.requires;
      first = c.split_at.ensures.by_index.0;
      second = c.split_at-2.ensures.by_index.0;
      size = c.split_at.ensures.front_len;
      sum_size = c.split_at-2.ensures.front_len;
      read = c.from_unaligned-stored.ensures;
    } in
    value_not_found c.args.head input _ _ _ _ c.from_unaligned-stored.result parts c.crc_32-computed.result c.crc_32-computed.ensures c.if-stored-computed.true

pub returns-clause-found : goal.returns-clause-found
returns-clause-found c =
    let input = c.args.input.now in
    let parts : AreParts c.args.head input c.split_at.result.0.now c.split_at.result.1.now c.split_at-2.result.0.now c.split_at-2.result.1.now c.from_unaligned-stored.result = record {
      bytes = All-from_get_or (λ b. b < 256) input 0 (λ i _. omega (arith, c.type_inv.input i));
      begins = c.requires;
      first = c.split_at.ensures.by_index.0;
      second = c.split_at-2.ensures.by_index.0;
      size = c.split_at.ensures.front_len;
      sum_size = c.split_at-2.ensures.front_len;
      read = c.from_unaligned-stored.ensures;
    } in
    value_found c.args.head input _ _ _ _ c.from_unaligned-stored.result parts c.crc_32-computed.result c.crc_32-computed.ensures c.if-stored-computed.false
