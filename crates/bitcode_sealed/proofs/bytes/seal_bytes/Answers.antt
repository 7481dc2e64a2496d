-- The head, the value and its checksum are appended.
use Rattle.std.proofs.Common.{◌≡◌, ◌++◌, ap, ◌∙◌}
use Rattle.bitcode_memory.specs.LittleEndian.{number_bytes}
use Rattle.bitcode_sealed.proofs.ValueLemmas.{sealed_behind}
use Rattle.bitcode_sealed.proofs.bytes.seal_bytes.Goals as goal

pub returns-clause-written : goal.returns-clause-written
returns-clause-written c =
    let value = c.args.value.now in
    let head = c.bytes.result in
    let sum = c.to_unaligned-sum.result in
    let first : c.extend_from_slice.new.self.items ≡ c.reserve.new.self.items ++ head = rw c.unwrap.ensures at c.extend_from_slice.ensures.items in
    let second : c.extend_from_slice-2.new.self.items ≡ c.extend_from_slice.new.self.items ++ value = rw c.unwrap-2.ensures at c.extend_from_slice-2.ensures.items in
    let third : c.extend_from_slice-3.new.self.items ≡ c.extend_from_slice-2.new.self.items ++ sum = rw c.unwrap-3.ensures at c.extend_from_slice-3.ensures.items in
    third ∙ ap (λ l. l ++ sum) (second ∙ ap (λ l. l ++ value) (first ∙ ap (λ l. l ++ head) c.in_ok-reserve.ensures.items))
    ∙ sealed_behind c.args.label c.args.out.now.items value head sum c.bytes.ensures (c.to_unaligned-sum.ensures ∙ ap (number_bytes 4) c.crc_32.ensures)
