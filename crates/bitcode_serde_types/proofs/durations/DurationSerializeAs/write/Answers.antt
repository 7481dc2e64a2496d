-- The nanoseconds are below one second.
use Rattle.std.proofs.Common.{arith}
use Rattle.bitcode_serde_types.proofs.NumberLemmas.{duration_written}
use Rattle.bitcode_serde_types.proofs.durations.DurationSerializeAs.write.Goals as goal

pub returns : goal.returns
returns c =
    let nanos = c.subsec_nanos.ensures in
    duration_written c.args.writer.now c.args.place c.as_secs.result c.subsec_nanos.result c.args.self.now c.write_tuple.result c.write_tuple.new.writer
    c.as_secs.ensures c.subsec_nanos.ensures (omega (arith, nanos)) c.write_tuple.ensures
