use Rattle.std.proofs.Common.{length}
use Rattle.sec1_bench.proofs.der.bench_headers_read_by_reader.Given as goal

abbrev pub decreases-loop-header : goal.decreases-loop-header
decreases-loop-header l = length l.reader.unread
